-- A laboratory's own plan.
use Rattle.std.specs.Prelude.{ℕ, ◌≤◌, Bool, true, false, cond, ◌&&◌, List, [], ◌∷◌, length, ℤ, pos, negsuc, None, fold, Option, int_le, int_lt, nat_le, unsigned_abs}
use Rattle.std.specs.List.{list_all}
use Rattle.method.specs.Meaning.{Meaning, up_to, no_accept, no_reject, no_offset, peaked}
use Rattle.method.specs.Refusals.{asks, between}
use Rattle.method.specs.declared.question.Question.{Question}
use Rattle.method.specs.declared.question.Question.TheVariants.{RowsStand, TableInRange}
use Rattle.method.specs.declared.row.Row.{Row}
use Rattle.method.specs.declared.row.TableNumbers.{TableNumbers}

-- the rows' first observations rise strictly, none above the cut
abbrev pub rising : ℤ → ℤ → List Row → Bool
rising cut last [] = true
rising cut last (r ∷ rs) = int_lt last r.from && (int_le r.from cut && rising cut r.from rs)

abbrev pub starts_at_one : List Row → Bool
starts_at_one [] = false
starts_at_one (r ∷ rs) = between (pos 1) (pos 1) r.from

-- 1 to 8 rows, the first from 1, rising strictly, none above the cut
abbrev pub rows_stand : ℤ → List Row → Bool
rows_stand cut rows = nat_le 1 (length rows) && (nat_le (length rows) 8 && (starts_at_one rows && rising cut (pos 0) rows))

abbrev pub row_ranged : Row → Bool
row_ranged r = between (negsuc 0) (pos 48) r.accept && between (pos 0) (pos 49) r.reject

abbrev pub rows_ranged : List Row → Bool
rows_ranged rows = list_all row_ranged rows

abbrev pub numbers_ranged : TableNumbers ℤ → Bool
numbers_ranged t =
    between (pos 0) t.cut t.cut_number
    && (between (pos 0) (pos 100000) t.margin
    && (between (pos 0) (pos 9999) t.trapezoid
    && (between (pos 0) (pos 9999) t.uniform
    && between (pos 0) (pos 24) t.peak)))

-- the cut is asked before the rows, and all other numbers after them
abbrev pub table_refusal : List Row → TableNumbers ℤ → Option Question
table_refusal rows t =
    asks (between (pos 2) (pos 48) t.cut) TableInRange
    (asks (rows_stand t.cut rows) RowsStand (asks (numbers_ranged t && rows_ranged rows) TableInRange None))

-- the numbers that were passed, of a table that was made of them
abbrev pub passed : TableNumbers ℕ → TableNumbers ℤ
passed t = record {
  cut = pos t.cut;
  cut_number = pos t.cut_number;
  margin = pos t.margin;
  trapezoid = pos t.trapezoid;
  uniform = pos t.uniform;
  peak = pos t.peak;
}

-- the ranges of a table's limits
abbrev pub Limited : TableNumbers ℕ → Type 0
Limited t =
    (2 ≤ t.cut) × (t.cut ≤ 48) × (t.cut_number ≤ t.cut) × (t.margin ≤ 100000) × (t.trapezoid ≤ 9999) × (t.uniform ≤ 9999)
    × (t.peak ≤ 24)

-- before the first row nothing is accepted or rejected
abbrev pub no_row : Row
no_row = record { from = pos 0; accept = no_accept; reject = pos 49 }

-- the row in force at i: the last whose first observation is not later
abbrev pub in_force : List Row → ℕ → Row
in_force rows i = fold (λ earlier r. cond (int_le r.from (pos i)) r earlier) no_row rows

abbrev pub tabled : List Row → TableNumbers ℕ → Meaning
tabled rows t = record {
  cut = t.cut;
  cut_number = t.cut_number;
  accept = up_to t.cut no_accept (λ i. (in_force rows i).accept);
  reject = up_to t.cut no_reject (λ i. unsigned_abs (in_force rows i).reject);
  offset = up_to t.cut no_offset (peaked t.peak);
  margin = t.margin;
  trapezoid = t.trapezoid;
  uniform = t.uniform;
}
