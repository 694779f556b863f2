-- A number in a field's range is told by its bits, and bits by the number that they stand for.
use Rattle.std.specs.Prelude.{◌≡◌, ℕ, ◌+◌, ◌-◌, ◌*◌, ◌%◌, ◌^◌, ◌<◌, ◌≤◌, true, cond, ◌&&◌, ℤ, pos, negsuc, int_le, int_lt, nat_le}
use Rattle.std.proofs.Common.{ap, ◌∙◌, arith, mod-eq_of_lt}
use Rattle.method.specs.Refusals.{between}
use Rattle.std.proofs.lemmas.Nat.{pow-add, pow_pos}
use Rattle.std.proofs.lemmas.Bool.{leb-true, and_parts, cond_both, le-leb}
use Rattle.std.proofs.lemmas.Bool.Decides.{nat_tests}
use Rattle.journal.specs.Fields.{in_range, coded, told}
use Rattle.journal.specs.Format.{stands}
use Rattle.journal.specs.declared.field.Field.{Field}

double : (w : ℕ) → 1 ≤ w → 2 ^ w ≡ 2 * 2 ^ (w - 1)
double w h = let e : w ≡ 1 + (w - 1) = omega arith in ap (λ k. 2 ^ k) e ∙ pow-add 2 1 (w - 1)

pub record Stands (f : Field) : Type 0 where
  pub some : 1 ≤ f.width
  pub narrow : f.width ≤ 30
  pub fits : cond (int_lt f.low (pos 0)) (int_le (negsuc (2 ^ (f.width - 1) - 1)) f.low && int_le f.high (pos (2 ^ (f.width - 1) - 1))) (int_le f.high (pos (2 ^ f.width - 1))) ≡ true

pub stands_so : (f : Field) → stands f ≡ true → Stands f
stands_so f h =
    let a = and_parts (nat_le 1 f.width) _ h in
    let b = and_parts (nat_le f.width 30) _ a.1 in
    record { some = leb-true 1 f.width a.0; narrow = leb-true f.width 30 b.0; fits = b.1 }

-- by the signs of the limits and of the number
by_sign : (w : ℕ) (low high z : ℤ) → 2 ^ w ≡ 2 * 2 ^ (w - 1) → 0 < 2 ^ (w - 1) → cond (int_lt low (pos 0)) (int_le (negsuc (2 ^ (w - 1) - 1)) low && int_le high (pos (2 ^ (w - 1) - 1))) (int_le high (pos (2 ^ w - 1))) ≡ true → between low high z ≡ true → cond (int_lt low (pos 0) && nat_le (2 ^ (w - 1)) (coded w z)) (negsuc (2 ^ w - 1 - coded w z)) (pos (coded w z)) ≡ z
by_sign w (pos l) (pos h) (pos n) p q s t =
    let lt : n < 2 ^ w = grind (arith, nat_tests) in
    let m = mod-eq_of_lt lt in
    grind (arith, nat_tests)
by_sign w (pos l) (pos h) (negsuc n) p q s t = let z : ◌≡◌ {A = ℕ} 0 1 = grind (arith, nat_tests) in absurd (omega arith)
by_sign w (pos l) (negsuc h) (pos n) p q s t = let z : ◌≡◌ {A = ℕ} 0 1 = grind (arith, nat_tests) in absurd (omega arith)
by_sign w (pos l) (negsuc h) (negsuc n) p q s t = let z : ◌≡◌ {A = ℕ} 0 1 = grind (arith, nat_tests) in absurd (omega arith)
by_sign w (negsuc l) (pos h) (pos n) p q s t =
    let lt : n < 2 ^ (w - 1) = grind (arith, nat_tests) in
    let lt' : n < 2 ^ w = omega arith in
    let m = mod-eq_of_lt lt' in
    grind (arith, nat_tests)
by_sign w (negsuc l) (negsuc h) (pos n) p q s t = let z : ◌≡◌ {A = ℕ} 0 1 = grind (arith, nat_tests) in absurd (omega arith)
by_sign w (negsuc l) (pos h) (negsuc n) p q s t = below w l n p q (grind (arith, nat_tests)) (grind (arith, nat_tests))
  where
    below : (w l n : ℕ) → 2 ^ w ≡ 2 * 2 ^ (w - 1) → 0 < 2 ^ (w - 1) → l < 2 ^ (w - 1) → n ≤ l → cond (nat_le (2 ^ (w - 1)) (2 ^ w - 1 - n % 2 ^ w)) (negsuc (2 ^ w - 1 - (2 ^ w - 1 - n % 2 ^ w))) (pos (2 ^ w - 1 - n % 2 ^ w)) ≡ negsuc n
    below w l n p q a b =
        let lt : n < 2 ^ w = omega arith in
        let m = mod-eq_of_lt lt in
        rw m (let i : 2 ^ (w - 1) ≤ 2 ^ w - 1 - n = omega arith in rw (le-leb (2 ^ (w - 1)) (2 ^ w - 1 - n) i) (ap negsuc (omega arith)))
by_sign w (negsuc l) (negsuc h) (negsuc n) p q s t = below w l n p q (grind (arith, nat_tests)) (grind (arith, nat_tests))
  where
    below : (w l n : ℕ) → 2 ^ w ≡ 2 * 2 ^ (w - 1) → 0 < 2 ^ (w - 1) → l < 2 ^ (w - 1) → n ≤ l → cond (nat_le (2 ^ (w - 1)) (2 ^ w - 1 - n % 2 ^ w)) (negsuc (2 ^ w - 1 - (2 ^ w - 1 - n % 2 ^ w))) (pos (2 ^ w - 1 - n % 2 ^ w)) ≡ negsuc n
    below w l n p q a b =
        let lt : n < 2 ^ w = omega arith in
        let m = mod-eq_of_lt lt in
        rw m (let i : 2 ^ (w - 1) ≤ 2 ^ w - 1 - n = omega arith in rw (le-leb (2 ^ (w - 1)) (2 ^ w - 1 - n) i) (ap negsuc (omega arith)))

pub told_coded : (f : Field) (z : ℤ) → Stands f → in_range f z ≡ true → told f (coded f.width z) ≡ z
told_coded f z s h =
    by_sign f.width f.low f.high z (double f.width s.some) (pow_pos (f.width - 1)) s.fits h

pub coded_told : (f : Field) (c : ℕ) → c < 2 ^ f.width → coded f.width (told f c) ≡ c
coded_told f c lt =
    cond_both (int_lt f.low (pos 0) && nat_le (2 ^ (f.width - 1)) c) (negsuc (2 ^ f.width - 1 - c)) (pos c) (λ z. coded f.width z ≡ c)
    (λ e. let low : 2 ^ f.width - 1 - c < 2 ^ f.width = omega arith in rw (mod-eq_of_lt low) (omega arith))
    (λ e. mod-eq_of_lt lt)
