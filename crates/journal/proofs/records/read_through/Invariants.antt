use Rattle.std.proofs.Common.{◌≡◌, ◌-◌, length}
use Rattle.journal.proofs.Journals.{Read}
use Rattle.journal.proofs.records.read_through.Given as goal

abbrev pub invariant-loop : goal.invariant-loop
invariant-loop l = (l.reader.journal.now ≡ l.journal) × Read l.journal l.reader.position l.reader.records

abbrev pub decreases-loop : goal.decreases-loop
decreases-loop l = length l.journal - l.reader.position
