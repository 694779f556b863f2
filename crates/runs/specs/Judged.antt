-- A point is judged by its codes alone: what the method says of the whole list of calls since its opening.
use Rattle.std.specs.Prelude.{ℕ, ◌+◌, Bool, false, cond, ◌||◌, List, [], ◌∷◌, length, take, drop, ℤ, pos, Some, None, Option, nat_le, slice_index_or}
use Rattle.method.specs.Meaning.{Meaning}
use Rattle.method.specs.declared.verdict.Verdict.{Verdict}
use Rattle.control.specs.Sequences.{sequence_end}
use Rattle.control.specs.Settlings.{agree}
use Rattle.control.specs.Tallies.{tally_of}
use Rattle.control.specs.declared.ending.Ending.{Ending}
use Rattle.point.specs.Ends.{attempt_end}
use Rattle.point.specs.Levels.{legal_code}
use Rattle.point.specs.Trials.{error_at, first_trial, plan_of, with_tally}
use Rattle.point.specs.declared.phase.Carried.{Carried}
use Rattle.point.specs.declared.phase.Control.{Control}
use Rattle.point.specs.declared.phase.Phase.{Phase}
use Rattle.point.specs.declared.phase.Phase.TheVariants.{Waiting, Settling, Observing, Decided}
use Rattle.point.specs.declared.phase.Trial.{Trial}
use Rattle.point.specs.declared.setting.Setting.{Setting}
use Rattle.runs.specs.declared.call.Call.{Call}
use Rattle.runs.specs.declared.call.Call.TheVariants.{Open, Level, Code, Late, Close}

-- the legal codes among the calls: nothing else has an effect once a point has settled
abbrev pub codes_in : List Call → List ℤ
codes_in [] = []
codes_in (Open a e r n ∷ cs) = codes_in cs
codes_in (Level ∷ cs) = codes_in cs
codes_in (Code c ∷ cs) = cond (legal_code c) (c ∷ codes_in cs) (codes_in cs)
codes_in (Late ∷ cs) = codes_in cs
codes_in (Close place ∷ cs) = codes_in cs

-- the latest three settling codes agree, each with each; the latest stands first
abbrev pub agreed : ℕ → List ℤ → Bool
agreed n [] = false
agreed n (a ∷ []) = false
agreed n (a ∷ b ∷ []) = false
agreed n (a ∷ b ∷ c ∷ cs) = agree n a b c

-- settling is over with these codes: there are two hundred, or the latest three agree
abbrev pub settles : ℕ → List ℤ → Bool
settles n cs = nat_le 200 (length cs) || agreed n cs

-- A point settles still, with these codes, the latest first; or it settled with so many, and these codes follow.
pub data Parts : Type 0 where
  still : List ℤ → Parts
  over : ℕ → List ℤ → Parts

-- the settling codes parted off: they end at the code that settles the point, or when its time is over
abbrev pub parted : ℕ → List ℤ → List Call → Parts
parted n before [] = still before
parted n before (Open a e r x ∷ cs) = parted n before cs
parted n before (Level ∷ cs) = parted n before cs
parted n before (Code c ∷ cs) =
    cond (legal_code c) (cond (settles n (c ∷ before)) (over (length (c ∷ before)) (codes_in cs)) (parted n (c ∷ before) cs)) (parted n before cs)
parted n before (Late ∷ cs) = over (length before) (codes_in cs)
parted n before (Close place ∷ cs) = parted n before cs

-- the errors of codes observed from observation i on, each at its own level
abbrev pub errors : Meaning → ℤ → ℕ → List ℤ → List ℤ
errors p signal i [] = []
errors p signal i (c ∷ cs) = error_at p signal i c ∷ errors p signal (i + 1) cs

-- An attempt goes on, with the numbers of its errors; or it ended with some of them, and these codes follow.
pub data Attempted : Type 0 where
  going : Trial → Attempted
  ended : Trial → Verdict → List ℤ → Attempted

abbrev pub ended_by : Meaning → Trial → List ℤ → Option Ending → Attempted
ended_by p a cs None = going (with_tally a (tally_of p a.width (errors p a.setting.signal 1 cs)))
ended_by p a cs (Some e) =
    ended (with_tally a (tally_of p a.width (take e.at (errors p a.setting.signal 1 cs)))) e.verdict (drop e.at cs)

-- an attempt over codes: it ends where the sequence of their errors ends
abbrev pub attempted : Meaning → Trial → List ℤ → Attempted
attempted p a cs = ended_by p a cs (sequence_end p a.width (errors p a.setting.signal 1 cs))

-- the end of a second attempt decides
abbrev pub last_attempt : Meaning → Control → Bool → Attempted → Phase
last_attempt m k dominance (going a) = Observing a
last_attempt m k dominance (ended a v rest) = attempt_end m k dominance a.course a v

-- the first attempt decided, or a second one, always on the main plan, takes the codes that follow
abbrev pub then_second : Meaning → Control → Bool → Phase → List ℤ → Phase
then_second m k dominance Waiting cs = Waiting
then_second m k dominance (Settling u) cs = Settling u
then_second m k dominance (Observing b) cs = last_attempt m k dominance (attempted m b cs)
then_second m k dominance (Decided o) cs = Decided o

abbrev pub first_attempt : Meaning → Control → Bool → Attempted → Phase
first_attempt m k dominance (going a) = Observing a
first_attempt m k dominance (ended a v rest) = then_second m k dominance (attempt_end m k dominance a.course a v) rest

-- a point that has settled, with its first attempt a to come
abbrev pub observed : Meaning → Meaning → Control → Bool → Trial → List ℤ → Phase
observed m s k dominance a cs = first_attempt m k dominance (attempted (plan_of m s a.course) a cs)

abbrev pub judged_parts : Meaning → Meaning → Control → Carried → Setting → Parts → Phase
judged_parts m s k h g (still cs) =
    Settling (record { setting = g; codes = record { count = length cs; last = slice_index_or cs 0 (pos 0); previous = slice_index_or cs 1 (pos 0) } })
judged_parts m s k h g (over count cs) = observed m s k h.dominance (first_trial m s k h g count) cs

-- What a point opened with the setting g has come to: by the control, what was carried to it, and the calls since.
abbrev pub judged : Meaning → Meaning → Control → Carried → Setting → List Call → Phase
judged m s k h g cs = judged_parts m s k h g (parted g.agreement [] cs)
