-- Levels of the signal, and the errors of codes at them.
use Rattle.std.specs.Prelude.{◌+◌, Bool, ℤ, pos, negsuc, ◌+ℤ◌, Some, None}
use Rattle.method.specs.Meaning.{Meaning}
use Rattle.method.specs.Refusals.{between}
use Rattle.control.specs.Prospects.{soonest_fit}
use Rattle.point.specs.Trials.{begins, plan_used}
use Rattle.point.specs.declared.phase.Carried.{Carried}
use Rattle.point.specs.declared.phase.Control.{Control}
use Rattle.point.specs.declared.phase.Level.{Level}
use Rattle.point.specs.declared.phase.Trial.{Trial}
use Rattle.point.specs.declared.phase.Unsettled.{Unsettled}

abbrev pub legal_code : ℤ → Bool
legal_code c = between (negsuc 1999998) (pos 1999999) c

-- while settling: the main signal, no observation, and the soonest end of the plan that the point begins with
abbrev pub settling_level_at : Meaning → Meaning → Control → Carried → ℤ → Level
settling_level_at m s k h signal = record {
  tenths = signal;
  observation = None;
  soonest = soonest_fit (plan_used m s (begins k h)) 0 0;
}

abbrev pub settling_level_of : Meaning → Meaning → Control → Carried → Unsettled → Level
settling_level_of m s k h u = settling_level_at m s k h u.setting.signal

-- while observing: the level and number of the coming observation, and the attempt's soonest end
abbrev pub observing_level_of : Meaning → Trial → Level
observing_level_of p a = record {
  tenths = a.setting.signal +ℤ p.offset (a.tally.observations + 1);
  observation = Some (a.tally.observations + 1);
  soonest = soonest_fit p a.tally.observations a.tally.outs;
}
