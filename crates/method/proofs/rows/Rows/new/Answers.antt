use Rattle.std.proofs.Common.{◌≤◌, List, ◌++◌, length, drop, replicate, refl, ap}
use Rattle.std.proofs.lemmas.List.{drop-replicate}
use Rattle.std.proofs.Math.Seq.{take-append_seam}
use Rattle.method.specs.FixedRows.{Fixed}
use Rattle.method.specs.Tables.{no_row}
use Rattle.method.specs.declared.row.Row.{Row}
use Rattle.method.proofs.rows.Rows.new.Goals as goal

filled : (rows : List Row) → length rows ≤ 8 → Fixed (rows ++ drop (length rows) (replicate 8 no_row)) (length rows)
filled rows h =
    let front = take-append_seam rows (drop (length rows) (replicate 8 no_row)) in
    record { few = h; len = ap length front; all = rw (front, drop-replicate (length rows) 8 no_row) refl }

pub invariant_of-result : goal.invariant_of-result
invariant_of-result c = rw c.copy_from_slice.ensures.after (filled c.args.rows.now c.requires)
