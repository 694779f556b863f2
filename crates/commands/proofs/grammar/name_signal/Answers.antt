use Rattle.std.proofs.Common.{codes, sym, ap, arith, rules}
use Rattle.std.proofs.lemmas.Slice.Eq.{text_from_reads}
use Rattle.commands.specs.Lines.{signal_typed}
use Rattle.commands.proofs.grammar.name_signal.Goals as goal

-- the search closes that no other word is one
pub returns-in-inspection : goal.returns-in-inspection
returns-in-inspection c = ap signal_typed (sym (text_from_reads c.args.word.now (codes "inspection") (omega arith) (search rules)))

pub returns-in-trial : goal.returns-in-trial
returns-in-trial c = ap signal_typed (sym (text_from_reads c.args.word.now (codes "trial") (omega arith) (search rules)))

pub returns-in-insulation : goal.returns-in-insulation
returns-in-insulation c = ap signal_typed (sym (text_from_reads c.args.word.now (codes "insulation") (omega arith) (search rules)))
