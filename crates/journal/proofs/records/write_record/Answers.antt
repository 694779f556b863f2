use Rattle.std.proofs.Common.{sym, ap, ◌∙◌}
use Rattle.journal.specs.Journal.{legal_record, record_bytes}
use Rattle.journal.specs.Writing.{laid}
use Rattle.journal.proofs.records.write_record.Goals as goal

-- the search closes the other kinds, which have fewer fields
pub returns-in-Sequence-clause-bytes : goal.returns-in-Sequence-clause-bytes
returns-in-Sequence-clause-bytes c =
    c.write.ensures.bytes ∙ ap (λ r. laid (legal_record r) (record_bytes r) c.args.place c.args.journal.now) (sym c.in-Sequence.is)
