-- The numbers that stand for named values, and the values that numbers in range stand for.
use Rattle.std.specs.Prelude.{◌≡◌, ℕ, Bool, true, false, cond, ℤ, pos, negsuc, Some, None, Ok, Err, Option, Result, ◌==◌, refl}
use Rattle.method.specs.declared.question.Question.{Question}
use Rattle.method.specs.declared.question.Question.TheVariants.{FieldsInRange}
use Rattle.method.specs.declared.verdict.Verdict.{Verdict}
use Rattle.method.specs.declared.verdict.Verdict.TheVariants.{Fit, Unfit}
use Rattle.journal.specs.Fields.{in_range}
use Rattle.journal.specs.declared.field.Field.{Field}
use Rattle.journal.specs.declared.codes.FirstAttempt.{FirstAttempt}
use Rattle.journal.specs.declared.codes.FirstAttempt.TheVariants.{Absent, SequenceAlone, QuantityAlone, ShortUnfit}
use Rattle.journal.specs.declared.codes.Quantity.{Quantity}
use Rattle.journal.specs.declared.codes.Quantity.TheVariants.{NotAsked, Fit as QuantityFit, Unfit as QuantityUnfit}
use Rattle.journal.specs.declared.codes.Signal.{Signal}
use Rattle.journal.specs.declared.codes.Signal.TheVariants.{Inspection, Trial, Insulation}

-- the number is n
abbrev pub is : ℕ → ℤ → Bool
is n (pos k) = k == n
is n (negsuc k) = false

-- what came before the attempt that decided
abbrev pub first_code : FirstAttempt → ℤ
first_code Absent = pos 0
first_code SequenceAlone = pos 1
first_code QuantityAlone = pos 2
first_code ShortUnfit = pos 3

-- and back
abbrev pub first_of : ℤ → FirstAttempt
first_of z = cond (is 1 z) SequenceAlone (cond (is 2 z) QuantityAlone (cond (is 3 z) ShortUnfit Absent))

-- what quantity control found
abbrev pub quantity_code : Quantity → ℤ
quantity_code NotAsked = pos 0
quantity_code QuantityFit = pos 1
quantity_code QuantityUnfit = pos 2

-- and back
abbrev pub quantity_of : ℤ → Quantity
quantity_of z = cond (is 1 z) QuantityFit (cond (is 2 z) QuantityUnfit NotAsked)

-- what quantity control found, of a verdict if it was asked
abbrev pub quantity_found : Option Verdict → Quantity
quantity_found None = NotAsked
quantity_found (Some Fit) = QuantityFit
quantity_found (Some Unfit) = QuantityUnfit

-- the signals of the manual stage
abbrev pub signal_code : Signal → ℤ
signal_code Inspection = pos 1
signal_code Trial = pos 2
signal_code Insulation = pos 3

-- and back
abbrev pub signal_of : ℤ → Signal
signal_of z = cond (is 2 z) Trial (cond (is 3 z) Insulation Inspection)

-- fit is 1 and unfit 0
abbrev pub verdict_code : Verdict → ℤ
verdict_code Fit = pos 1
verdict_code Unfit = pos 0

-- and back
abbrev pub verdict_of : ℤ → Verdict
verdict_of z = cond (is 1 z) Fit Unfit

-- yes is 1 and no 0
abbrev pub flag_code : Bool → ℤ
flag_code true = pos 1
flag_code false = pos 0

-- and back
abbrev pub flag_of : ℤ → Bool
flag_of z = is 1 z

-- the value that a number stands for, if the number is in its field's range
abbrev pub value_in : {A : Type 0} → Field → (ℤ → A) → ℤ → Result A Question
value_in f of z = cond (in_range f z) (Ok (of z)) (Err FieldsInRange)

-- Each value is the one that its number stands for.
pub flag_back : (b : Bool) → flag_of (flag_code b) ≡ b
flag_back true = refl
flag_back false = refl

pub verdict_back : (v : Verdict) → verdict_of (verdict_code v) ≡ v
verdict_back Fit = refl
verdict_back Unfit = refl

pub first_back : (a : FirstAttempt) → first_of (first_code a) ≡ a
first_back Absent = refl
first_back SequenceAlone = refl
first_back QuantityAlone = refl
first_back ShortUnfit = refl

pub quantity_back : (q : Quantity) → quantity_of (quantity_code q) ≡ q
quantity_back NotAsked = refl
quantity_back QuantityFit = refl
quantity_back QuantityUnfit = refl

pub signal_back : (s : Signal) → signal_of (signal_code s) ≡ s
signal_back Inspection = refl
signal_back Trial = refl
signal_back Insulation = refl
