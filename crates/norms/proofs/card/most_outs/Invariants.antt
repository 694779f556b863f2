use Rattle.std.proofs.Common.{◌≤◌}
use Rattle.norms.proofs.card.most_outs.Given as goal

abbrev pub invariant-loop-i : goal.invariant-loop-i
invariant-loop-i g l = l.most ≤ 49
