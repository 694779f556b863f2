-- What orders declare.
use Rattle.std.specs.Prelude.{ℕ}
use Rattle.point.specs.declared.phase.Control.{Control}
use Rattle.verification.specs.declared.declared.StopRule.{StopRule}

pub record Terms : Type 0 where
  pub points : ℕ
  pub control : Control
  pub rule : StopRule
