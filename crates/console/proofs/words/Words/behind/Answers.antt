use Rattle.console.specs.Words.{blank, words_by}
use Rattle.console.proofs.Parted.{dropped_more}
use Rattle.console.proofs.words.Words.behind.Goals as goal

pub loop-taken-preserved : goal.loop-taken-preserved
loop-taken-preserved c =
    dropped_more (words_by blank c.args.line.now) _ _ c.loop-taken._taken c.next.result c.loop-taken.invariant
    c.next.ensures.words
