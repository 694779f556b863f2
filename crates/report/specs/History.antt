-- What a record tells of how its point came to its verdict.
use Rattle.std.specs.Prelude.{ℕ, cond, ℤ, pos, int_lt}
use Rattle.journal.specs.declared.codes.FirstAttempt.{FirstAttempt}
use Rattle.journal.specs.declared.codes.FirstAttempt.TheVariants.{Absent, SequenceAlone, QuantityAlone, ShortUnfit}
use Rattle.report.specs.declared.history.SettlingEnd.{SettlingEnd}
use Rattle.report.specs.declared.history.SettlingEnd.TheVariants.{Late, AgreementOrLate, LimitAtLatest}

-- fewer than three codes cannot agree; the 200th ends any settling
abbrev pub settled_by : ℤ → SettlingEnd
settled_by n = cond (int_lt n (pos 3)) Late (cond (int_lt n (pos 200)) AgreementOrLate LimitAtLatest)

-- whatever came before the attempt that decided was an attempt
abbrev pub attempts : FirstAttempt → ℕ
attempts Absent = 1
attempts SequenceAlone = 2
attempts QuantityAlone = 2
attempts ShortUnfit = 2
