-- Questions are put in order, and the first no is the refusal.
use Rattle.std.specs.Prelude.{ℕ, Bool, cond, ◌&&◌, ℤ, pos, Some, None, Ok, Err, Option, Result, int_le}
use Rattle.method.specs.declared.question.Question.{Question}
use Rattle.method.specs.declared.question.Question.TheVariants.{TruncationCutInRange, TruncationNumberInRange}

-- what a call refuses by, if it does
abbrev pub refused_by : {T E : Type 0} → Result T E → Option E
refused_by (Ok x) = None
refused_by (Err e) = Some e

-- one question, and those that are put after it
abbrev pub asks : Bool → Question → Option Question → Option Question
asks answer q rest = cond answer rest (Some q)

-- z is from low to high
abbrev pub between : ℤ → ℤ → ℤ → Bool
between low high z = int_le low z && int_le z high

-- a cut from 2 to the cut beneath, then a cut number from 0 to the new cut
abbrev pub truncation_refusal : ℕ → ℤ → ℤ → Option Question
truncation_refusal beneath cut number =
    asks (between (pos 2) (pos beneath) cut) TruncationCutInRange
    (asks (between (pos 0) cut number) TruncationNumberInRange None)
