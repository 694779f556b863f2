-- Estimates from the numbers of an attempt: N errors in tenths of a step, their sum S and the sum Q of their squares.
use Rattle.std.specs.Prelude.{◌≡◌, ℕ, ◌+◌, ◌-◌, ◌*◌, ◌<◌, Bool, true, false, ◌&&◌, ℤ, pos, negsuc, Some, None, Option, int_lt, nat_le, nat_lt, unsigned_abs}
use Rattle.control.specs.Statistics.{student}
use Rattle.journal.specs.declared.sequence.SequenceFields.{SequenceFields}
use Rattle.method.specs.Refusals.{between}
use Rattle.report.specs.Rounding.{Rounded, squared}
use Rattle.report.specs.declared.ratio.Ratio.{Ratio}
use Rattle.report.specs.declared.ratio.Ratio.TheVariants.{Undefined, Infinite, Hundredths}

-- N Q and S S
abbrev pub squares_of : SequenceFields → ℕ
squares_of f = unsigned_abs f.observations * unsigned_abs f.squares

abbrev pub square_of : SequenceFields → ℕ
square_of f = unsigned_abs f.sum * unsigned_abs f.sum

-- V = N Q - S S
abbrev pub spread_of : SequenceFields → ℕ
spread_of f = squares_of f - square_of f

-- N - 1
abbrev pub freedom_of : SequenceFields → ℕ
freedom_of f = unsigned_abs f.observations - 1

-- the numbers lie in a record's ranges, with two observations at least
abbrev pub ranged : SequenceFields → Bool
ranged f =
    between (pos 2) (pos 48) f.observations
    && (between (negsuc 95999) (pos 96000) f.sum && between (pos 0) (pos 192000000) f.squares)

-- a deviation can be estimated: numbers written by hand may have V below 0
abbrev pub estimable : SequenceFields → Bool
estimable f = ranged f && nat_le (square_of f) (squares_of f)

-- hundredths of a step: 10 |S| / N
abbrev pub MeanOf : ℤ → ℤ → Option ℕ → Type 0
MeanOf s n None = int_lt n (pos 1) ≡ true
MeanOf s n (Some h) = (int_lt n (pos 1) ≡ false) × Rounded (unsigned_abs n) (10 * unsigned_abs s) 0 1 h

-- hundredths of a step: 10 (|S| / N + u / 25 √(V / (N N (N - 1)))) = (10 |S| + √(4 u u V / (25 (N - 1)))) / N
abbrev pub LimitOf : SequenceFields → Option ℕ → Type 0
LimitOf f None = estimable f ≡ false
LimitOf f (Some h) =
    (estimable f ≡ true)
    × Rounded (unsigned_abs f.observations) (10 * unsigned_abs f.sum) (4 * squared (student (unsigned_abs f.observations)) * spread_of f) (25 * freedom_of f) h

-- hundredths: 100 |S| / N : √(V / (N (N - 1))) = √(10,000 S S (N - 1) / (N V)); of V = 0 there is none, or it is infinite
abbrev pub RatioOf : SequenceFields → Ratio → Type 0
RatioOf f Undefined = (estimable f && nat_lt 0 (spread_of f + unsigned_abs f.sum)) ≡ false
RatioOf f Infinite = (estimable f ≡ true) × (spread_of f ≡ 0) × (0 < unsigned_abs f.sum)
RatioOf f (Hundredths h) =
    (estimable f ≡ true) × (0 < spread_of f)
    × Rounded 1 0 (10000 * square_of f * freedom_of f) (unsigned_abs f.observations * spread_of f) h
