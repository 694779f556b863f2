-- Errors, in tenths, and how they count.
use Rattle.std.specs.Prelude.{Bool, cond, ℤ, pos, negsuc, int_lt, nat_lt, unsigned_abs}

-- beyond 2,000 in size
abbrev pub is_wild : ℤ → Bool
is_wild e = nat_lt 2000 (unsigned_abs e)

-- a wild error counts as 2,000 with its sign
abbrev pub counted : ℤ → ℤ
counted e = cond (is_wild e) (cond (int_lt e (pos 0)) (negsuc 1999) (pos 2000)) e
