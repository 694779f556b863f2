-- The nearest whole number to what has a root in it, said without the root.
use Rattle.std.specs.Prelude.{ℕ, ◌+◌, ◌-◌, ◌*◌, ◌<◌, ◌≤◌}

abbrev pub squared : ℕ → ℕ
squared x = x * x

-- h is the nearest whole number to x = (a + √(p / q)) / n, a half rounded up: h - 1/2 is not above x, and h + 1/2 is.
-- Both are taken times 2 n, less 2 a, and squared; `-` stops at 0, and what is below 0 is below a root.
abbrev pub Rounded : ℕ → ℕ → ℕ → ℕ → ℕ → Type 0
Rounded n a p q h =
    (q * squared (2 * (h * n) - n - 2 * a) ≤ 4 * p) × (4 * p < q * squared (2 * (h * n) + n - 2 * a))
