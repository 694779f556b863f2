use Rattle.std.proofs.Common.{◌≡◌, take, vec_items}
use Rattle.report.specs.Hex.{read_all}
use Rattle.report.proofs.hex.bytes_of_hex.Given as goal

abbrev pub invariant-loop-b : goal.invariant-loop-b
invariant-loop-b l = read_all (take l.b-index l.text) ≡ record { scan = l.scan; bytes = vec_items l.bytes }
