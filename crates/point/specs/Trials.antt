-- Attempts at a point.
use Rattle.std.specs.Prelude.{ℕ, ◌+◌, Bool, cond, ℤ, pos, ◌+ℤ◌, ◌-ℤ◌, ◌*ℤ◌, Option}
use Rattle.method.specs.Meaning.{Meaning}
use Rattle.method.specs.declared.verdict.Verdict.{Verdict}
use Rattle.control.specs.Attempts.{none_yet, tally_after, verdict_of}
use Rattle.control.specs.Tolerances.{tolerance_under}
use Rattle.control.specs.declared.distribution.Distribution.{Distribution}
use Rattle.control.specs.declared.distribution.Distribution.TheVariants.{Trapezoid, Uniform}
use Rattle.control.specs.declared.tally.Tally.{Tally}
use Rattle.point.specs.declared.phase.Before.TheVariants.{Nothing}
use Rattle.point.specs.declared.phase.Carried.{Carried}
use Rattle.point.specs.declared.phase.Control.{Control}
use Rattle.point.specs.declared.phase.Control.TheVariants.{Full, Reduced}
use Rattle.point.specs.declared.phase.Course.{Course}
use Rattle.point.specs.declared.phase.Course.TheVariants as on
use Rattle.point.specs.declared.phase.PlanUsed.{PlanUsed}
use Rattle.point.specs.declared.phase.PlanUsed.TheVariants.{Main, Short}
use Rattle.point.specs.declared.phase.Trial.{Trial}
use Rattle.point.specs.declared.setting.Setting.{Setting}

-- the level of observation i
abbrev pub level_at : Meaning → ℤ → ℕ → ℤ
level_at p signal i = signal +ℤ p.offset i

-- the error of a code at observation i, in tenths
abbrev pub error_at : Meaning → ℤ → ℕ → ℤ → ℤ
error_at p signal i code = (pos 10 *ℤ code) -ℤ level_at p signal i

-- the uniform coefficient after a dominance, else the trapezoid one
abbrev pub distribution : Bool → Distribution
distribution dominance = cond dominance Uniform Trapezoid

-- an attempt with no observation yet; K is chosen as it begins
abbrev pub begun : Meaning → Bool → Setting → ℕ → Course → Trial
begun p dominance g settled course = record {
  setting = g;
  settled = settled;
  course = course;
  width = tolerance_under p (distribution dominance) g.meter g.reference;
  tally = none_yet;
}

abbrev pub with_tally : Trial → Tally → Trial
with_tally a t = record {
  setting = a.setting;
  settled = a.settled;
  course = a.course;
  width = a.width;
  tally = t;
}

-- the error of the attempt's coming observation
abbrev pub coming_error : Meaning → Trial → ℤ → ℤ
coming_error p a code = error_at p a.setting.signal (a.tally.observations + 1) code

-- the attempt with one observation more, and what that says
abbrev pub noted : Meaning → Trial → ℤ → Trial
noted p a code = with_tally a (tally_after p a.width a.tally (coming_error p a code))

abbrev pub noted_verdict : Meaning → Trial → ℤ → Option Verdict
noted_verdict p a code = verdict_of p a.width a.tally (coming_error p a code)

-- of a main and a short plan, the one used
abbrev pub plan_used : Meaning → Meaning → PlanUsed → Meaning
plan_used m s Main = m
plan_used m s Short = s

abbrev pub plan_of : Meaning → Meaning → Course → Meaning
plan_of m s (on.Main b) = m
plan_of m s on.Short = s

-- full control begins with the main plan, reduced control as the points before say
abbrev pub begins : Control → Carried → PlanUsed
begins Full h = Main
begins Reduced h = h.next

abbrev pub first_on : Meaning → Meaning → Carried → Setting → ℕ → PlanUsed → Trial
first_on m s h g settled Main = begun m h.dominance g settled (on.Main Nothing)
first_on m s h g settled Short = begun s h.dominance g settled on.Short

-- a point's first attempt
abbrev pub first_trial : Meaning → Meaning → Control → Carried → Setting → ℕ → Trial
first_trial m s k h g settled = first_on m s h g settled (begins k h)
