use Rattle.std.proofs.Common.{◌≡◌, ◌-◌, length}
use Rattle.bench.proofs.record_text.push_reading.Given as goal

abbrev pub invariant-loop-placed : goal.invariant-loop-placed
invariant-loop-placed l = l.reader.journal.now ≡ l.journal

-- each record has a byte at least, so there are no more of them than bytes
abbrev pub decreases-loop-placed : goal.decreases-loop-placed
decreases-loop-placed l = length l.journal - l.reader.records
