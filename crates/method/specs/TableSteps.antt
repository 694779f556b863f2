-- Steps over a table's rows, and the ranges of the row in force.
use Rattle.std.specs.Prelude.{◌≡◌, ℕ, true, cond, List, [], ◌∷◌, pos, fold, int_le, refl}
use Rattle.std.proofs.lemmas.Bool.{and_parts, cond_both}
use Rattle.method.specs.declared.row.Row.{Row}
use Rattle.method.specs.Tables.{rows_ranged, row_ranged, in_force, no_row}

-- a later row takes the place of an earlier one
abbrev pub later : ℕ → Row → Row → Row
later i earlier r = cond (int_le r.from (pos i)) r earlier

later_ranged : (rows : List Row) (d : Row) (i : ℕ) → rows_ranged rows ≡ true → row_ranged d ≡ true → row_ranged (fold (later i) d rows) ≡ true
later_ranged [] d i h k = k
later_ranged (r ∷ rs) d i h k =
    let parts = and_parts (row_ranged r) (rows_ranged rs) h in
    later_ranged rs (later i d r) i parts.1
    (cond_both (int_le r.from (pos i)) r d (λ x. row_ranged x ≡ true) (λ _. parts.0) (λ _. k))

-- the row in force is in range where all rows are
pub in_force_ranged : (rows : List Row) (i : ℕ) → rows_ranged rows ≡ true → row_ranged (in_force rows i) ≡ true
in_force_ranged rows i h = later_ranged rows no_row i h refl
