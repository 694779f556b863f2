use Rattle.std.proofs.Common.{arith}
use Rattle.std.proofs.lemmas.Bool.{false≢true}
use Rattle.std.proofs.lemmas.Bool.Decides.{nat_tests}
use Rattle.console.specs.Words.{blank}
use Rattle.console.proofs.Parted.{none, some}
use Rattle.console.proofs.words.Words.next.Goals as goal

pub returns-then-length-eq0 : goal.returns-then-length-eq0
returns-then-length-eq0 c = record {
  word = grind (arith, nat_tests);
  rest = cc;
  words = none blank c.args.self.now.rest.now _ _ _ c.skip_blanks-line.ensures.is c.word_len-length.ensures.is c.if-length-eq0.true c.split_at.ensures.back;
  shorter = λ e. absurd (false≢true e);
}

pub returns-else-length-eq0 : goal.returns-else-length-eq0
returns-else-length-eq0 c = record {
  word = grind (arith, nat_tests);
  rest = cc;
  words = some blank c.args.self.now.rest.now _ _ _ _ c.skip_blanks-line.ensures.is c.word_len-length.ensures.is (λ e. omega arith) c.split_at.ensures.front c.split_at.ensures.back;
  shorter = λ e. omega arith;
}
