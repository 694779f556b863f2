-- The kinds of control, by their numbers.
use Rattle.std.specs.Prelude.{◌≡◌, cond, ℤ, pos, None, Result, IfOk}
use Rattle.method.specs.Refusals.{asks, between, refused_by}
use Rattle.method.specs.declared.question.Question.{Question}
use Rattle.method.specs.declared.question.Question.TheVariants.{ControlKindKnown}
use Rattle.point.specs.declared.phase.Control.{Control}
use Rattle.point.specs.declared.phase.Control.TheVariants.{Full, Reduced}

-- control 1 is full, 2 is reduced
abbrev pub control_named : ℤ → Control
control_named z = cond (between (pos 1) (pos 1) z) Full Reduced

-- the control of a number, 1 or 2
abbrev pub NamesControl : ℤ → Result Control Question → Type 0
NamesControl z r =
    (refused_by r ≡ asks (between (pos 1) (pos 2) z) ControlKindKnown None) × IfOk r (λ k. k ≡ control_named z)
