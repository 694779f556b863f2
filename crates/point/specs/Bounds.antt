-- How large a point's numbers are between calls, and how many codes it has taken.
use Rattle.std.specs.Prelude.{◌≡◌, ℕ, ◌+◌, ◌≤◌, Bool, true, false, pos, unsigned_abs}
use Rattle.control.specs.Attempts.{Sound, none_yet}
use Rattle.control.specs.Tolerances.{Permits}
use Rattle.point.specs.declared.phase.Before.{Before}
use Rattle.point.specs.declared.phase.Before.TheVariants.{Nothing, SequenceAlone, QuantityAlone, ShortUnfit}
use Rattle.point.specs.declared.phase.Course.{Course}
use Rattle.point.specs.declared.phase.Course.TheVariants.{Main, Short}
use Rattle.point.specs.declared.phase.Phase.{Phase}
use Rattle.point.specs.declared.phase.Phase.TheVariants.{Waiting, Settling, Observing, Decided}
use Rattle.point.specs.declared.phase.Trial.{Trial}
use Rattle.point.specs.declared.setting.Setting.{Setting}

-- a setting that was accepted
abbrev pub Set : Setting → Type 0
Set g = (unsigned_abs g.signal ≤ 20000000) × Permits g.meter g.reference × (g.agreement ≤ 9)

-- the observations of the attempt before a main one
abbrev pub made_before : Before → ℕ
made_before Nothing = 0
made_before (SequenceAlone n) = n
made_before (QuantityAlone n) = n
made_before (ShortUnfit n) = n

abbrev pub earlier : Course → ℕ
earlier (Main b) = made_before b
earlier Short = 0

-- an attempt's numbers
abbrev pub Within : Trial → Type 0
Within a =
    Set a.setting × (a.settled ≤ 200) × (earlier a.course ≤ 48) × (1 ≤ a.width) × (a.width ≤ 10000000)
    × Sound a.tally

-- the codes that a point has taken: to settle, in the attempt before and in this one
abbrev pub taken_by : Trial → ℕ
taken_by a = a.settled + earlier a.course + a.tally.observations

abbrev pub taken : Phase → ℕ
taken Waiting = 0
taken (Settling u) = u.codes.count
taken (Observing a) = taken_by a
taken (Decided o) = taken_by o.trial

-- the attempt of a phase that has one, and one with no observation of the others
abbrev pub blank : Setting → Trial
blank g = record { setting = g; settled = 0; course = Main Nothing; width = 1; tally = none_yet }

abbrev pub trial_of : Phase → Trial
trial_of Waiting = blank (record { signal = pos 0; meter = 1; reference = 0; agreement = 0 })
trial_of (Settling u) = blank u.setting
trial_of (Observing a) = a
trial_of (Decided o) = o.trial

abbrev pub is_open : Phase → Bool
is_open Waiting = false
is_open (Settling u) = true
is_open (Observing a) = true
is_open (Decided o) = true

-- the point is open, and has taken n codes
abbrev pub Takes : ℕ → Phase → Type 0
Takes n f = (taken f ≡ n) × (is_open f ≡ true)
