use Rattle.std.proofs.Common.{length}
use Rattle.console.proofs.plan_words.parse_table.Given as goal

abbrev pub decreases-loop-word : goal.decreases-loop-word
decreases-loop-word l = length l.words.rest.now
