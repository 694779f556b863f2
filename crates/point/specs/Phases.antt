-- A point, code by code.
use Rattle.std.specs.Prelude.{◌+◌, Bool, ℤ, Some, None, Option}
use Rattle.std.specs.declared.ops.ControlFlow.{ControlFlow}
use Rattle.std.specs.declared.ops.ControlFlow.TheVariants.{Continue, Break}
use Rattle.method.specs.Meaning.{Meaning}
use Rattle.method.specs.declared.verdict.Verdict.{Verdict}
use Rattle.control.specs.Settlings.{no_codes, settled_by, with_code}
use Rattle.control.specs.declared.codes.SettledBy.{SettledBy}
use Rattle.point.specs.Ends.{attempt_end}
use Rattle.point.specs.Trials.{first_trial, noted, noted_verdict, plan_of}
use Rattle.point.specs.declared.phase.Carried.{Carried}
use Rattle.point.specs.declared.phase.Control.{Control}
use Rattle.point.specs.declared.phase.Phase.{Phase}
use Rattle.point.specs.declared.phase.Phase.TheVariants.{Waiting, Settling, Observing, Decided}
use Rattle.point.specs.declared.phase.State.{State}
use Rattle.point.specs.declared.phase.State.TheVariants as state
use Rattle.point.specs.declared.phase.Trial.{Trial}
use Rattle.point.specs.declared.phase.Unsettled.{Unsettled}
use Rattle.point.specs.declared.setting.Setting.{Setting}

-- a point just opened
abbrev pub opened : Setting → Phase
opened g = Settling (record { setting = g; codes = no_codes })

-- settling goes on, or its end begins the first attempt; the code that ends it counts among the settling codes
abbrev pub settled_to : Meaning → Meaning → Control → Carried → Unsettled → ℤ → Option SettledBy → Phase
settled_to m s k h u c None = Settling (record { setting = u.setting; codes = with_code u.codes c })
settled_to m s k h u c (Some by) = Observing (first_trial m s k h u.setting (u.codes.count + 1))

abbrev pub settle_step : Meaning → Meaning → Control → Carried → Unsettled → ℤ → Phase
settle_step m s k h u c = settled_to m s k h u c (settled_by u.setting.agreement u.codes c)

-- the time for settling is over
abbrev pub belated : Meaning → Meaning → Control → Carried → Unsettled → Phase
belated m s k h u = Observing (first_trial m s k h u.setting u.codes.count)

-- an attempt with its latest observation goes on, or has come to its end
abbrev pub goes_on : Meaning → Control → Bool → Trial → Option Verdict → Phase
goes_on m k dominance a None = Observing a
goes_on m k dominance a (Some v) = attempt_end m k dominance a.course a v

abbrev pub observe_on : Meaning → Meaning → Control → Bool → Trial → ℤ → Phase
observe_on p m k dominance a c = goes_on m k dominance (noted p a c) (noted_verdict p a c)

-- what an observation led to: the attempt itself where it goes on, else the phase behind its end
abbrev pub led_to : ControlFlow Phase Trial → Phase
led_to (Continue a) = Observing a
led_to (Break f) = f

-- a legal code at a point; where none is open, or it is decided, nothing happens
abbrev pub coded : Meaning → Meaning → Control → Carried → Phase → ℤ → Phase
coded m s k h Waiting c = Waiting
coded m s k h (Settling u) c = settle_step m s k h u c
coded m s k h (Observing a) c = observe_on (plan_of m s a.course) m k h.dominance a c
coded m s k h (Decided o) c = Decided o

-- how the point was decided, if it was
abbrev pub reached : Phase → Option Verdict
reached Waiting = None
reached (Settling u) = None
reached (Observing a) = None
reached (Decided o) = Some o.verdict

-- how far a point is, without its numbers
abbrev pub state_of : Phase → State
state_of Waiting = state.Waiting
state_of (Settling u) = state.Settling
state_of (Observing a) = state.Observing
state_of (Decided o) = state.Decided o.verdict

-- how a point in this state was decided, if it was
abbrev pub found : State → Option Verdict
found state.Waiting = None
found state.Settling = None
found state.Observing = None
found (state.Decided v) = Some v
