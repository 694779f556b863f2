-- Fields: what a number's bits are, and which numbers are in range.
use Rattle.std.specs.Prelude.{ℕ, ◌-◌, ◌%◌, ◌^◌, Bool, true, false, cond, ◌&&◌, List, [], ◌∷◌, ℤ, pos, negsuc, int_lt, nat_le}
use Rattle.method.specs.Refusals.{between}
use Rattle.journal.specs.declared.field.Field.{Field}

-- the number is in the field's range
abbrev pub in_range : Field → ℤ → Bool
in_range f z = between f.low f.high z

-- the bits of a number, at a width: two's complement
abbrev pub coded : ℕ → ℤ → ℕ
coded w (pos n) = n % 2 ^ w
coded w (negsuc n) = 2 ^ w - 1 - n % 2 ^ w

-- the number that bits stand for: their first bit is a sign where the field has negative numbers
abbrev pub told : Field → ℕ → ℤ
told f c = cond (int_lt f.low (pos 0) && nat_le (2 ^ (f.width - 1)) c) (negsuc (2 ^ f.width - 1 - c)) (pos c)

-- a number for each field, in its range
abbrev pub all_in_range : List Field → List ℤ → Bool
all_in_range [] [] = true
all_in_range [] (z ∷ zs) = false
all_in_range (f ∷ fs) [] = false
all_in_range (f ∷ fs) (z ∷ zs) = in_range f z && all_in_range fs zs

-- the number of a record's kind, in front of its fields
abbrev pub kind_number : Field
kind_number = record { width = 4; low = pos 1; high = pos 15 }

-- a point's number, or how many points were declared
abbrev pub point : Field
point = record { width = 10; low = pos 1; high = pos 999 }

-- what the first attempt was: none, sequence alone fit, quantity alone fit, short unfit
abbrev pub first_attempt : Field
first_attempt = record { width = 3; low = pos 0; high = pos 3 }

-- N, how many observations an attempt made
abbrev pub observations : Field
observations = record { width = 6; low = pos 1; high = pos 48 }

-- X, how many of them were out of tolerance
abbrev pub outs : Field
outs = record { width = 6; low = pos 0; high = pos 48 }

-- no or yes, unfit or fit
abbrev pub flag : Field
flag = record { width = 1; low = pos 0; high = pos 1 }

-- what quantity control found: nothing asked, fit, unfit
abbrev pub quantity : Field
quantity = record { width = 2; low = pos 0; high = pos 2 }

-- how many codes settled the point
abbrev pub settling_codes : Field
settling_codes = record { width = 8; low = pos 0; high = pos 200 }

-- D, the tolerance of an attempt
abbrev pub tolerance : Field
tolerance = record { width = 24; low = pos 1; high = pos 10000000 }

-- S, the sum of its errors
abbrev pub sum : Field
sum = record { width = 18; low = negsuc 95999; high = pos 96000 }

-- Q, the sum of their squares
abbrev pub squares : Field
squares = record { width = 28; low = pos 0; high = pos 192000000 }

-- how many of the declared points were closed
abbrev pub closed : Field
closed = record { width = 10; low = pos 1; high = pos 999 }

-- how many of those were unfit
abbrev pub unfit : Field
unfit = record { width = 10; low = pos 0; high = pos 999 }

-- how many codes a verification accepted
abbrev pub codes_accepted : Field
codes_accepted = record { width = 24; low = pos 0; high = pos 295704 }

-- which signal failed: inspection, trial, insulation
abbrev pub failed_signal : Field
failed_signal = record { width = 2; low = pos 1; high = pos 3 }
