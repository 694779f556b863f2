use Rattle.std.proofs.Common.{◌≡◌, drop}
use Rattle.console.specs.Words.{blank, left, words_by}
use Rattle.console.proofs.words.Words.behind.Given as goal

abbrev pub invariant-loop-taken : goal.invariant-loop-taken
invariant-loop-taken l = left l.words ≡ drop l._taken (words_by blank l.line)
