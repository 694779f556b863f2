-- The records that a run leaves in its journal.
use Rattle.std.specs.Prelude.{◌≡◌, ℕ, suc, ◌+◌, ◌≤◌, Bool, true, false, List, [], ◌∷◌, ◌++◌, length, take, drop, is_ok, Some, None, Option}
use Rattle.method.specs.Meaning.{Meaning}
use Rattle.journal.specs.Journal.{all_legal, answers, journal_bytes, placed_from, record_bytes, then_end}
use Rattle.journal.specs.declared.record.Record.{Record}
use Rattle.point.specs.declared.phase.Phase.{Phase}
use Rattle.point.specs.declared.phase.Phase.TheVariants.{Waiting, Settling, Observing, Decided}
use Rattle.runs.specs.Runs.{bytes_left, step}
use Rattle.runs.specs.declared.call.Call.{Call}
use Rattle.runs.specs.declared.call.Call.TheVariants.{Open, Level, Code, Late, Close}
use Rattle.verification.specs.Calls.{closing, closing_record, fresh}
use Rattle.verification.specs.declared.declared.Declared.{Declared}
use Rattle.verification.specs.declared.progress.Progress.{Progress}

-- the record of a decided point, where its closing is accepted
abbrev pub record_when : Bool → Progress → Phase → Option Record
record_when false p f = None
record_when true p Waiting = None
record_when true p (Settling u) = None
record_when true p (Observing a) = None
record_when true p (Decided o) = Some (closing_record p o)

-- the record that a call writes, if it closes a point
abbrev pub record_closed : Declared → ℕ → Progress → Call → Option Record
record_closed d len p (Open a e r n) = None
record_closed d len p Level = None
record_closed d len p (Code c) = None
record_closed d len p Late = None
record_closed d len p (Close place) = record_when (is_ok (closing d p place len).answer) p p.phase

abbrev pub and_then : Option Record → List Record → List Record
and_then None rs = rs
and_then (Some r) rs = r ∷ rs

-- the records of the points closed by a list, in their order
abbrev pub records_closed : Meaning → Meaning → Declared → ℕ → Progress → List Call → List Record
records_closed m s d len p [] = []
records_closed m s d len p (c ∷ cs) = and_then (record_closed d len p c) (records_closed m s d len (step m s d len p c) cs)

-- a record that is written is written at the place
abbrev pub WrittenAt : Option Record → Call → ℕ → Type 0
WrittenAt None c place = Unit {0}
WrittenAt (Some r) (Open a e x n) place = Unit {0}
WrittenAt (Some r) Level place = Unit {0}
WrittenAt (Some r) (Code c) place = Unit {0}
WrittenAt (Some r) Late place = Unit {0}
WrittenAt (Some r) (Close q) place = q ≡ place

-- the place behind it
abbrev pub place_behind : Option Record → ℕ → ℕ
place_behind None place = place
place_behind (Some r) place = place + length (record_bytes r)

-- the first point is closed at the place, and each other behind the one before
abbrev pub ClosedBehind : Meaning → Meaning → Declared → ℕ → Progress → ℕ → List Call → Type 0
ClosedBehind m s d len p place [] = Unit {0}
ClosedBehind m s d len p place (c ∷ cs) =
    WrittenAt (record_closed d len p c) c place
    × ClosedBehind m s d len (step m s d len p c) (place_behind (record_closed d len p c) place) cs

-- from a place on a buffer holds these records and nothing else of theirs, all other bytes are as they were, and the part that
-- they take is read as exactly these records, each at its place, and then the end
pub record Journaled (rs : List Record) (place : ℕ) (old new : List ℕ) : Type 0 where
  pub legal : all_legal rs ≡ true
  pub bytes : new ≡ take place old ++ (journal_bytes rs ++ drop (place + length (journal_bytes rs)) old)
  pub read : answers (suc (length rs)) (journal_bytes rs) 0 0 ≡ then_end (placed_from 0 0 rs)

-- The journal of a list that closed its points one behind another holds the records of these points.
abbrev pub RunJournalReadsBack : Meaning → Meaning → Type 0
RunJournalReadsBack m s =
    (d : Declared) (cs : List Call) (place : ℕ) (old : List ℕ) → d.points ≤ 999 → place ≤ length old
    → ClosedBehind m s d (length old) fresh place cs
    → Journaled (records_closed m s d (length old) fresh cs) place old (bytes_left m s d (length old) fresh cs old)
