use Rattle.std.proofs.Common.{length}
use Rattle.norms.proofs.course.parse_errors.Given as goal

abbrev pub decreases-loop-word : goal.decreases-loop-word
decreases-loop-word l = length l.words.rest.now
