use Rattle.std.proofs.Common.{◌≡◌}
use Rattle.control.proofs.RunSteps.{Going}
use Rattle.control.proofs.attempt.Attempt.over.Given as goal

abbrev pub invariant-loop-error : goal.invariant-loop-error
invariant-loop-error g l = record {
  going : Going (g.P.Plan.meaning l.plan) l.fn.tolerance.width l.attempt.tally l.errors l.error-index;
  held_to : l.attempt.tolerance ≡ l.fn.tolerance;
}
