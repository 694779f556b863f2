use Rattle.std.proofs.Common.{length}
use Rattle.norms.proofs.before_errors.Given as goal

abbrev pub decreases-loop-word : goal.decreases-loop-word
decreases-loop-word l = length l.words.rest.now
