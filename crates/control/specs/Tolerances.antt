-- Permitted errors, and the tolerance that they leave an observation.
use Rattle.std.specs.Prelude.{ℕ, ◌+◌, ◌-◌, ◌*◌, ◌≤◌, Bool, ℤ, pos, None, Option, nat_le, unsigned_abs}
use Rattle.method.specs.Meaning.{Meaning}
use Rattle.method.specs.Refusals.{asks, between}
use Rattle.method.specs.declared.question.Question.{Question}
use Rattle.method.specs.declared.question.Question.TheVariants.{MeterErrorInRange, ReferenceErrorInRange}
use Rattle.control.specs.Errors.{counted}
use Rattle.control.specs.declared.distribution.Distribution.{Distribution}
use Rattle.control.specs.declared.distribution.Distribution.TheVariants.{Trapezoid, Uniform}

-- the meter's permitted error is 1 to 1,000 tenths, the reference's 0 to the meter's
abbrev pub permitted_refusal : ℤ → ℤ → Option Question
permitted_refusal p e =
    asks (between (pos 1) (pos 1000) p) MeterErrorInRange (asks (between (pos 0) p e) ReferenceErrorInRange None)

-- the same of two numbers that were accepted
abbrev pub Permits : ℕ → ℕ → Type 0
Permits p e = (1 ≤ p) × (p ≤ 1000) × (e ≤ p)

-- K, by the distribution of the reference's error
abbrev pub coefficient : Meaning → Distribution → ℕ
coefficient m Trapezoid = m.trapezoid
coefficient m Uniform = m.uniform

-- D = 10,000 P - K E
abbrev pub tolerance_with : ℕ → ℕ → ℕ → ℕ
tolerance_with k p e = 10000 * p - k * e

-- D under a plan
abbrev pub tolerance_under : Meaning → Distribution → ℕ → ℕ → ℕ
tolerance_under m k p e = tolerance_with (coefficient m k) p e

-- an error is in tolerance when 10,000 of its size and the margin do not exceed D
abbrev pub in_tolerance : ℕ → ℕ → ℤ → Bool
in_tolerance margin d e = nat_le (10000 * unsigned_abs (counted e) + margin) d
