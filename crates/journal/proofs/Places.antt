-- What a cursor takes off a number's bits stands in that number by its place.
use Rattle.std.proofs.Common.{◌≡◌, ℕ, zero, suc, ◌+◌, ◌-◌, ◌*◌, ◌/◌, ◌%◌, ◌^◌, ◌<◌, ◌≤◌, Bool, ◌&&◌, eqb, List, [], ◌∷◌, sym, refl, ap, ◌∙◌, add-zero, mul_assoc, mul-pos, zero-mul, arith}
use native.Mathlib.Nat.{mul-mod_left}
use Rattle.std.proofs.lemmas.Nat.{pow-add, pow_pos, mod-pow-add, mod_below, shl-shr, shr-shr, field_of, mod_low}
use Rattle.std.proofs.lemmas.Bool.{ne_eqb}
use Rattle.journal.specs.Bits.{width, numbers_in}
use Rattle.journal.specs.Cursor.{first, behind, take_all, behind_all}
use Rattle.journal.specs.Fields.{told, in_range}
use Rattle.journal.specs.declared.field.Field.{Field}

-- the k low bits of a number, at the head of h
pub lifted : (n k h : ℕ) → k ≤ h → (n * 2 ^ (h - k)) % 2 ^ h ≡ (n % 2 ^ k) * 2 ^ (h - k)
lifted n k h le =
    let j = h - k in
    let e : h ≡ k + j = omega arith in
    ap (λ i. (n * 2 ^ j) % 2 ^ i) e ∙ mod-pow-add (n * 2 ^ j) k j ∙ ap (λ x. (x % 2 ^ k) * 2 ^ j + (n * 2 ^ j) % 2 ^ j) (shl-shr n j) ∙ ap (λ x. (n % 2 ^ k) * 2 ^ j + x) (mul-mod_left n (2 ^ j)) ∙ add-zero ((n % 2 ^ k) * 2 ^ j)

-- fewer low bits of low bits
low_low : (n j k : ℕ) → j ≤ k → n % 2 ^ k % 2 ^ j ≡ n % 2 ^ j
low_low n j k le =
    let e : k ≡ k - j + j = omega arith in
    ap (λ i. n % 2 ^ i % 2 ^ j) e ∙ ap (λ x. x % 2 ^ j) (mod-pow-add n (k - j) j) ∙ mod_low (n / 2 ^ j % 2 ^ (k - j)) j (n % 2 ^ j) (mod_below n (2 ^ j) (pow_pos j))

first_place : (n w k r : ℕ) → w ≤ k → k ≤ 128 → r ≡ (n % 2 ^ k) * 2 ^ (128 - k) → r / 2 ^ (128 - w) ≡ n / 2 ^ (k - w) % 2 ^ w
first_place n w k r le high is =
    let e : 128 - w ≡ 128 - k + (k - w) = omega arith in
    let i : k ≡ w + (k - w) = omega arith in
    ap (λ x. x / 2 ^ (128 - w)) is ∙ ap (λ j. (n % 2 ^ k) * 2 ^ (128 - k) / 2 ^ j) e ∙ sym (shr-shr ((n % 2 ^ k) * 2 ^ (128 - k)) (128 - k) (k - w)) ∙ ap (λ x. x / 2 ^ (k - w)) (shl-shr (n % 2 ^ k) (128 - k)) ∙ ap (λ j. n % 2 ^ j / 2 ^ (k - w)) i ∙ field_of n w (k - w)

rest_place : (n w k r : ℕ) → w ≤ k → k ≤ 128 → r ≡ (n % 2 ^ k) * 2 ^ (128 - k) → (r * 2 ^ w) % 2 ^ 128 ≡ (n % 2 ^ (k - w)) * 2 ^ (128 - (k - w))
rest_place n w k r le high is =
    let j = k - w in
    let e : 128 - k + w ≡ 128 - j = omega arith in
    ap (λ x. (x * 2 ^ w) % 2 ^ 128) is ∙ ap (λ x. x % 2 ^ 128) (mul_assoc (n % 2 ^ k) (2 ^ (128 - k)) (2 ^ w) ∙ ap (λ x. (n % 2 ^ k) * x) (sym (pow-add 2 (128 - k) w)) ∙ ap (λ i. (n % 2 ^ k) * 2 ^ i) e) ∙ lifted (n % 2 ^ k) j 128 (omega arith) ∙ ap (λ x. x * 2 ^ (128 - j)) (low_low n j k (omega arith))

-- the fields and what is left behind them
pub by_places : (fs : List Field) (k n r : ℕ) (q : Bool) → width fs ≤ k → k ≤ 128 → r ≡ (n % 2 ^ k) * 2 ^ (128 - k) → (take_all fs (record { word = r; in_range = q }) ≡ numbers_in fs k n) × ((behind_all fs (record { word = r; in_range = q })).word ≡ (n % 2 ^ (k - width fs)) * 2 ^ (128 - (k - width fs)))
unfolding first behind
by_places [] k n r q room high is = (refl, is ∙ ap (λ j. (n % 2 ^ j) * 2 ^ (128 - j)) (let z : k ≡ k - 0 = omega arith in z))
by_places (f ∷ fs) k n r q room high is =
    let w = f.width in
    let here = first_place n w k r (omega arith) high is in
    let rest = by_places fs (k - w) n ((r * 2 ^ w) % 2 ^ 128) (q && in_range f (told f (r / 2 ^ (128 - w)))) (omega arith) (omega arith) (rest_place n w k r (omega arith) high is) in
    let left : k - w - width fs ≡ k - (w + width fs) = omega arith in
    (ap (λ x. x ∷ take_all fs (behind f (record { word = r; in_range = q }))) (ap (told f) here) ∙ ap (λ x. told f (n / 2 ^ (k - w) % 2 ^ w) ∷ x) rest.0, rest.1 ∙ ap (λ j. (n % 2 ^ j) * 2 ^ (128 - j)) left)

pub eqb_shifted : (x j : ℕ) → eqb (x * 2 ^ j) 0 ≡ eqb x 0
eqb_shifted zero j = ap (λ x. eqb x 0) (zero-mul (2 ^ j))
eqb_shifted (suc x) j =
    let some : 0 < suc x * 2 ^ j = mul-pos {m = suc x} {n = 2 ^ j} (omega arith) (pow_pos j) in
    ne_eqb (suc x * 2 ^ j) 0 (λ e. omega arith) ∙ sym (ne_eqb (suc x) 0 (λ e. omega arith))
