use Rattle.std.proofs.Common.{◌≡◌, ◌-◌, length}
use Rattle.protocol.proofs.print_protocol.Given as goal

abbrev pub invariant-loop-placed : goal.invariant-loop-placed
invariant-loop-placed g l = l.reader.journal.now ≡ l.journal

-- each record has a byte at least, so there are no more of them than bytes
abbrev pub decreases-loop-placed : goal.decreases-loop-placed
decreases-loop-placed g l = length l.journal - l.reader.records
