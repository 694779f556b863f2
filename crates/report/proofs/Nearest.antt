-- The root of the whole part of 4 p / q rounds as 2 √(p / q) itself would.
use Rattle.std.proofs.Common.{◌≡◌, ℕ, ◌+◌, ◌-◌, ◌*◌, ◌/◌, ◌<◌, ◌≤◌, ap, ◌∙◌, mul_assoc, mul_comm, mul-add, arith}
use Rattle.std.proofs.Math.Nat.{mul-div-le, lt-mul-div-succ}
use Rattle.std.proofs.lemmas.Nat.{mul-le}
use Rattle.report.specs.Rounding.{Rounded, squared}

below : (q x d t : ℕ) → d ≤ t → t * t ≤ x / q → q * squared d ≤ x
below q x d t h k =
    let s : d * d ≤ x / q = omega (arith, mul-le d d t t h h) in
    omega (arith, mul-le q (d * d) q (x / q) (omega arith) s, mul-div-le x q)

above : (q x e t : ℕ) → 0 < q → t + 1 ≤ e → x / q < (t + 1) * (t + 1) → x < q * squared e
above q x e t p h k =
    let s : x / q + 1 ≤ e * e = omega (arith, mul-le (t + 1) (t + 1) e e h h) in
    omega (arith, mul-le q (x / q + 1) q (e * e) (omega arith) s, lt-mul-div-succ x {b = q} p)

pub nearest : (n a p q t : ℕ) → 0 < n → 0 < q → t * t ≤ 4 * p / q → 4 * p / q < (t + 1) * (t + 1) → Rounded n a p q ((2 * a + t + n) / (2 * n))
nearest n a p q t some posq low high =
    let h = (2 * a + t + n) / (2 * n) in
    let twice : 2 * n * h ≡ 2 * (h * n) = mul_assoc 2 n h ∙ ap (λ m. 2 * m) (mul_comm n h) in
    let f = mul-div-le (2 * a + t + n) (2 * n) in
    let g = lt-mul-div-succ (2 * a + t + n) {b = 2 * n} (omega arith) in
    let g2 = mul-add (2 * n) h 1 in (
      below q (4 * p) (2 * (h * n) - n - 2 * a) t (omega arith) low,
      above q (4 * p) (2 * (h * n) + n - 2 * a) t posq (omega arith) high,
    )
