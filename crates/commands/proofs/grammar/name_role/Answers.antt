use Rattle.std.proofs.Common.{codes, sym, ap, arith, rules}
use Rattle.std.proofs.lemmas.Slice.Eq.{text_from_reads}
use Rattle.commands.specs.Lines.{role}
use Rattle.commands.proofs.grammar.name_role.Goals as goal

-- the search closes the shorter word, and that no other word is one
pub returns-in-short : goal.returns-in-short
returns-in-short c = ap role (sym (text_from_reads c.args.word.now (codes "short") (omega arith) (search rules)))
