-- Rows at the front of fixed memory, with no row behind them.
use Rattle.std.specs.Prelude.{◌≡◌, ℕ, ◌-◌, ◌≤◌, List, ◌++◌, length, take, replicate}
use Rattle.method.specs.Tables.{no_row}
use Rattle.method.specs.declared.row.Row.{Row}

abbrev pub fixed : List Row → List Row
fixed rows = rows ++ replicate (8 - length rows) no_row

-- the rows at the front say the whole memory, and how many they are
pub record Fixed (memory : List Row) (count : ℕ) : Type 0 where
  pub few : count ≤ 8
  pub len : length (take count memory) ≡ count
  pub all : fixed (take count memory) ≡ memory
