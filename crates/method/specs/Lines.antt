-- The lines of sequential control.
use Rattle.std.specs.Prelude.{ℕ, ◌+◌, ◌-◌, ◌*◌, ◌/◌, cond, ℤ, pos, nat_le}
use Rattle.method.specs.Meaning.{Meaning, up_to, no_accept, no_reject, no_offset, peaked}
use Rattle.method.specs.declared.line.Line.{Line}
use Rattle.method.specs.declared.line.Line.TheVariants.{Strengthened, Normal}
use Rattle.method.specs.declared.line.Coefficients.{Coefficients}

-- (s i - a) / 10,000 rounded down, or -1 where that is negative
abbrev pub accept_line : ℕ → ℕ → ℕ → ℤ
accept_line s a i = cond (nat_le a (s * i)) (pos ((s * i - a) / 10000)) no_accept

-- (s i + r) / 10,000 rounded up
abbrev pub reject_line : ℕ → ℕ → ℕ → ℕ
reject_line s r i = (s * i + r + 9999) / 10000

abbrev pub line : Coefficients → Meaning
line k = record {
  cut = 48;
  cut_number = 48;
  accept = up_to 48 no_accept (accept_line k.s k.a);
  reject = up_to 48 no_reject (reject_line k.s k.r);
  offset = up_to 48 no_offset (peaked k.peak);
  margin = 0;
  trapezoid = k.trapezoid;
  uniform = k.uniform;
}

-- the whole numbers of each line
abbrev pub numbers_of : Line → Coefficients
numbers_of Strengthened = record { a = 14925; r = 14925; s = 612; peak = 11; trapezoid = 8775; uniform = 9800 }
numbers_of Normal = record { a = 16223; r = 18981; s = 1103; peak = 10; trapezoid = 6127; uniform = 8000 }
