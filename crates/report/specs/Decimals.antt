-- Decimals with a fixed number of places.
use Rattle.std.specs.Prelude.{ℕ, ◌/◌, ◌%◌, Bool, ◌&&◌, nat_lt}
use Rattle.report.specs.declared.decimal.Decimal.{Decimal}
use Rattle.report.specs.declared.decimal.Places.{Places}
use Rattle.report.specs.declared.decimal.Places.TheVariants.{One, Two, Five}

-- how many units of the last place make one
abbrev pub unit : Places → ℕ
unit One = 10
unit Two = 100
unit Five = 100000

-- so many units of the last place, taken apart at the point; 0 has no sign
abbrev pub decimal : Bool → ℕ → Places → Decimal
decimal below n p = record { negative = below && nat_lt 0 n; whole = n / unit p; part = n % unit p; places = p }
