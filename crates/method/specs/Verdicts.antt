-- A verdict, and the test that it answers.
use Rattle.std.specs.Prelude.{Bool, true, false, cond}
use Rattle.method.specs.declared.verdict.Verdict.{Verdict}
use Rattle.method.specs.declared.verdict.Verdict.TheVariants.{Fit, Unfit}

-- fit where the test holds
abbrev pub fit_if : Bool → Verdict
fit_if b = cond b Fit Unfit

abbrev pub is_fit : Verdict → Bool
is_fit Fit = true
is_fit Unfit = false
