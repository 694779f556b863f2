-- What a point is tried with.
use Rattle.std.specs.Prelude.{ℤ, pos, negsuc, None, Option, unsigned_abs}
use Rattle.method.specs.Refusals.{asks, between}
use Rattle.method.specs.declared.question.Question.{Question}
use Rattle.method.specs.declared.question.Question.TheVariants.{SignalInRange, MeterErrorInRange, ReferenceErrorInRange, AgreementInRange}
use Rattle.point.specs.declared.setting.Setting.{Setting}

-- signal, permitted errors and agreement are asked in this order
abbrev pub setting_refusal : ℤ → ℤ → ℤ → ℤ → Option Question
setting_refusal signal meter reference agreement =
    asks (between (negsuc 19999999) (pos 20000000) signal) SignalInRange
    (asks (between (pos 1) (pos 1000) meter) MeterErrorInRange
    (asks (between (pos 0) meter reference) ReferenceErrorInRange
    (asks (between (pos 0) (pos 9) agreement) AgreementInRange None)))

-- the numbers that were given, of a setting that was accepted
abbrev pub as_given : ℤ → ℤ → ℤ → ℤ → Setting
as_given signal meter reference agreement = record {
  signal = signal;
  meter = unsigned_abs meter;
  reference = unsigned_abs reference;
  agreement = unsigned_abs agreement;
}
