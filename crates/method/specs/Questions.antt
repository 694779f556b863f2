-- The number of each question.
use Rattle.std.specs.Prelude.{ℕ}
use Rattle.method.specs.declared.question.Question.{Question}
use Rattle.method.specs.declared.question.Question.TheVariants.{PointsInRange, ControlKindKnown, StopRuleKnown, TruncationCutInRange, TruncationNumberInRange, RowsStand, TableInRange, NotEnded, NoPointOpen, SignalInRange, MeterErrorInRange, ReferenceErrorInRange, AgreementInRange, PointOpen, Undecided, CodeLegal, StillSettling, Decided, FitsBuffer, Ended, FieldsInRange, RecordKindKnown, AllBytesThere, FillZero}

abbrev pub number_of : Question → ℕ
number_of PointsInRange = 1
number_of ControlKindKnown = 2
number_of StopRuleKnown = 3
number_of TruncationCutInRange = 4
number_of TruncationNumberInRange = 5
number_of RowsStand = 6
number_of TableInRange = 7
number_of NotEnded = 8
number_of NoPointOpen = 9
number_of SignalInRange = 10
number_of MeterErrorInRange = 11
number_of ReferenceErrorInRange = 12
number_of AgreementInRange = 13
number_of PointOpen = 14
number_of Undecided = 15
number_of CodeLegal = 16
number_of StillSettling = 17
number_of Decided = 18
number_of FitsBuffer = 19
number_of Ended = 20
number_of FieldsInRange = 21
number_of RecordKindKnown = 22
number_of AllBytesThere = 23
number_of FillZero = 24
