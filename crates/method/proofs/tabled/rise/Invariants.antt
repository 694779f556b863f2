use Rattle.std.proofs.Common.{◌≡◌, drop, pos}
use Rattle.method.specs.Tables.{rising}
use Rattle.method.proofs.tabled.rise.Given as goal

abbrev pub invariant-loop-row : goal.invariant-loop-row
invariant-loop-row l = rising l.cut (pos 0) l.rows ≡ rising l.cut l.last (drop l.row-index l.rows)
