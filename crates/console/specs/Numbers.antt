-- Decimal numbers, with an optional minus sign.
use Rattle.std.specs.Prelude.{ℕ, ◌+◌, ◌-◌, ◌*◌, min, Bool, false, cond, List, [], ◌∷◌, drop, ℤ, pos, neg_ℤ, Some, None, fold, Option, ◌==◌}
use Rattle.std.specs.Char.{is_ascii_digit}
use Rattle.std.specs.List.{list_all}
use Rattle.std.specs.Option.{option_map}

abbrev pub digit : ℕ → Bool
digit b = is_ascii_digit b

abbrev pub digits : List ℕ → Bool
digits bs = list_all digit bs

-- the number that digits write
abbrev pub value : List ℕ → ℕ
value bs = fold (λ n b. 10 * n + (b - 48)) 0 bs

-- the largest number that a program holds: a larger one is taken as this, which is outside every range
abbrev pub largest : ℕ
largest = 2147483647

abbrev pub saturated_value : List ℕ → ℕ
saturated_value bs = min largest (value bs)

-- the number of a word of digits
abbrev pub unsigned : List ℕ → Option ℕ
unsigned [] = None
unsigned (b ∷ bs) = cond (digits (b ∷ bs)) (Some (saturated_value (b ∷ bs))) None

abbrev pub starts_minus : List ℕ → Bool
starts_minus [] = false
starts_minus (b ∷ bs) = b == 45

-- the number that a word writes, if it is one
abbrev pub numeral : List ℕ → Option ℤ
numeral bs = cond (starts_minus bs) (option_map (λ n. neg_ℤ (pos n)) (unsigned (drop 1 bs))) (option_map pos (unsigned bs))
