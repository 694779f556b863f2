-- 128 bits that are shifted, and the codes of numbers in them.
use Rattle.std.specs.Prelude.{◌≡◌, ℕ, ◌+◌, ◌-◌, ◌*◌, ◌/◌, ◌%◌, ◌^◌, ◌<◌, ◌≤◌, ℤ, pos, negsuc}
use Rattle.std.proofs.Common.{sym, ap, ◌∙◌, arith, lt_of_lt_of_le, add-zero, pow_mono}
use Rattle.std.proofs.Math.Nat.{mul-mod_left}
use Rattle.std.proofs.Math.Arith.{digits_lt}
use Rattle.std.proofs.lemmas.Nat.{pow-add, pow_pos, mod-pow-add, mod_below, shl-shr, shr_below}
use Rattle.journal.specs.Fields.{coded}

-- what the shift to the left leaves of a number
pub shifted : (n w : ℕ) → w ≤ 128 → (n * 2 ^ w) % 2 ^ 128 ≡ (n % 2 ^ (128 - w)) * 2 ^ w
shifted n w le =
    let e : 128 ≡ 128 - w + w = omega arith in
    ap (λ k. (n * 2 ^ w) % 2 ^ k) e ∙ mod-pow-add (n * 2 ^ w) (128 - w) w ∙ ap (λ x. (x % 2 ^ (128 - w)) * 2 ^ w + (n * 2 ^ w) % 2 ^ w) (shl-shr n w) ∙ ap (λ x. (n % 2 ^ (128 - w)) * 2 ^ w + x) (mul-mod_left n (2 ^ w)) ∙ add-zero ((n % 2 ^ (128 - w)) * 2 ^ w)

-- a code has no more bits than its width
pub coded_lt : (w : ℕ) (z : ℤ) → coded w z < 2 ^ w
coded_lt w (pos n) = mod_below n (2 ^ w) (pow_pos w)
coded_lt w (negsuc n) = omega (arith, pow_pos w)

pub code_lt : (w : ℕ) (z : ℤ) (code : ℕ) → code ≡ coded w z → code < 2 ^ w
code_lt w z code e = omega (arith, coded_lt w z)

-- there is room for it behind the shifted number
pub put_below : (n v w : ℕ) → w ≤ 128 → v < 2 ^ w → (n * 2 ^ w) % 2 ^ 128 + v < 2 ^ 128
put_below n v w le lt =
    let e : 128 - w + w ≡ 128 = omega arith in
    let below = digits_lt (mod_below n (2 ^ (128 - w)) (pow_pos (128 - w))) lt in
    let all : 2 ^ (128 - w) * 2 ^ w ≡ 2 ^ 128 = sym (pow-add 2 (128 - w) w) ∙ ap (λ k. 2 ^ k) e in
    rw (shifted n w le) (omega (arith, below, all))

-- the same of a code
pub code_below : (n w : ℕ) (z : ℤ) (code : ℕ) → w ≤ 30 → code ≡ coded w z → (n * 2 ^ w) % 2 ^ 128 + code < 2 ^ 128
code_below n w z code le is = put_below n code w (omega arith) (code_lt w z code is)

pub first_below : (n w : ℕ) → w ≤ 128 → n < 2 ^ 128 → n / 2 ^ (128 - w) < 2 ^ w
first_below n w le small =
    let e : 128 ≡ w + (128 - w) = omega arith in
    let s : n < 2 ^ (w + (128 - w)) = omega (arith, small, ap (λ k. 2 ^ k) e) in
    shr_below n w (128 - w) s

pub first_fits : (n w : ℕ) → w ≤ 30 → n < 2 ^ 128 → n / 2 ^ (128 - w) < 2 ^ 32
first_fits n w le small =
    let lt : n / 2 ^ (128 - w) < 2 ^ 30 = lt_of_lt_of_le (first_below n w (omega arith) small) (pow_mono {i = w} {j = 30} le) in
    omega arith
