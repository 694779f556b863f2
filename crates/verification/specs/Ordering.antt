-- Orders, and when a verification has ended.
use Rattle.std.specs.Prelude.{◌≡◌, ℕ, Bool, false, cond, ◌||◌, ℤ, pos, None, Option, Result, IfOk, nat_le, nat_lt, unsigned_abs}
use Rattle.method.specs.Refusals.{asks, between, refused_by}
use Rattle.method.specs.declared.question.Question.{Question}
use Rattle.method.specs.declared.question.Question.TheVariants.{PointsInRange, ControlKindKnown, StopRuleKnown}
use Rattle.point.specs.Controls.{control_named}
use Rattle.verification.specs.declared.declared.Declared.{Declared}
use Rattle.verification.specs.declared.declared.StopRule.{StopRule}
use Rattle.verification.specs.declared.declared.StopRule.TheVariants.{FirstUnfit, AllPoints}
use Rattle.verification.specs.declared.progress.Progress.{Progress}

-- points 1 to 999, control 1 or 2, stop rule 1 or 2
abbrev pub orders_refusal : ℤ → ℤ → ℤ → Option Question
orders_refusal points control rule =
    asks (between (pos 1) (pos 999) points) PointsInRange
    (asks (between (pos 1) (pos 2) control) ControlKindKnown (asks (between (pos 1) (pos 2) rule) StopRuleKnown None))

-- rule 1 ends at the first unfit point, rule 2 goes through all
abbrev pub rule_named : ℤ → StopRule
rule_named z = cond (between (pos 1) (pos 1) z) FirstUnfit AllPoints

-- the rule of a number, 1 or 2
abbrev pub NamesRule : ℤ → Result StopRule Question → Type 0
NamesRule z r = (refused_by r ≡ asks (between (pos 1) (pos 2) z) StopRuleKnown None) × IfOk r (λ k. k ≡ rule_named z)

abbrev pub as_declared : ℤ → ℤ → ℤ → Declared
as_declared points control rule = record {
  points = unsigned_abs points;
  control = control_named control;
  rule = rule_named rule;
}

abbrev pub stopped : StopRule → ℕ → Bool
stopped FirstUnfit unfit = nat_lt 0 unfit
stopped AllPoints unfit = false

-- every declared point is closed, or an unfit one under the rule that stops there
abbrev pub ended : Declared → Progress → Bool
ended d p = nat_le d.points p.closed || stopped d.rule p.unfit
