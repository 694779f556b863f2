-- What holds of every run, whatever the list of calls. The plans are given by their meanings, main m and short s.
use Rattle.std.specs.Prelude.{◌≡◌, ℕ, ◌+◌, ◌≤◌, Bool, true, not, ◌&&◌, List, ◌∷◌, ◌++◌, ℤ, pos, is_some}
use Rattle.method.specs.Meaning.{Meaning}
use Rattle.control.specs.Steadiness.{Steady}
use Rattle.point.specs.Bounds.{is_open}
use Rattle.point.specs.Levels.{legal_code}
use Rattle.point.specs.Phases.{reached}
use Rattle.point.specs.Settings.{as_given}
use Rattle.point.specs.declared.phase.Control.{Control}
use Rattle.point.specs.declared.phase.Phase.{Phase}
use Rattle.runs.specs.Answers.{accepts_code, closes, codes_accepted, none_closed, opens, points_closed, points_unfit, verdict_told}
use Rattle.runs.specs.Journals.{RunJournalReadsBack}
use Rattle.runs.specs.Judged.{judged}
use Rattle.runs.specs.Runs.{answer_to, answers_to, came, step}
use Rattle.runs.specs.declared.call.Call.{Call}
use Rattle.runs.specs.declared.call.Call.TheVariants.{Close, Code, Open}
use Rattle.verification.specs.Calls.{closing, fresh}
use Rattle.verification.specs.Certificates.{certificate_fields}
use Rattle.verification.specs.Ordering.{ended}
use Rattle.verification.specs.declared.declared.Declared.{Declared}
use Rattle.verification.specs.declared.declared.StopRule.{StopRule}
use Rattle.verification.specs.declared.declared.StopRule.TheVariants.{FirstUnfit, AllPoints}
use Rattle.verification.specs.declared.progress.Progress.{Progress}

-- a point is open, and neither fit nor unfit yet
abbrev pub undecided : Phase → Bool
undecided f = is_open f && not (is_some (reached f))

-- The list is some calls, an accepted opening, and calls none of which closed that point.
pub record Since (m s : Meaning) (d : Declared) (len : ℕ) (p : Progress) (cs : List Call) : Type 0 where
  pub before : List Call
  pub opening : Call
  pub during : List Call
  pub list : cs ≡ before ++ (opening ∷ during)
  pub opened : opens (answer_to m s d len (came m s d len p before) opening) ≡ true
  pub unclosed : none_closed (answers_to m s d len (step m s d len (came m s d len p before) opening) during) ≡ true

-- The certificate's count is the number of codes accepted in the list.
abbrev pub Counts : Meaning → Meaning → Type 0
Counts m s =
    (d : Declared) (len : ℕ) (cs : List Call)
    → (certificate_fields d (came m s d len fresh cs)).codes_accepted ≡ pos (codes_accepted (answers_to m s d len fresh cs))

-- From its accepted opening, and as long as it is not closed, a point takes at most 296 codes, whatever the meter shows.
abbrev pub TakesFew : Meaning → Meaning → Type 0
TakesFew m s =
    (d : Declared) (len : ℕ) (before : List Call) (opening : Call) (during : List Call)
    → opens (answer_to m s d len (came m s d len fresh before) opening) ≡ true
    → none_closed (answers_to m s d len (step m s d len (came m s d len fresh before) opening) during) ≡ true
    → codes_accepted (answers_to m s d len (step m s d len (came m s d len fresh before) opening) during) ≤ 296

-- While an open point is undecided no legal code is refused.
abbrev pub TakesLegal : Meaning → Meaning → Type 0
TakesLegal m s =
    (d : Declared) (len : ℕ) (cs : List Call) (c : ℤ)
    → undecided (came m s d len fresh cs).phase ≡ true → legal_code c ≡ true
    → accepts_code (answer_to m s d len (came m s d len fresh cs) (Code c)) ≡ true

-- orders alike but for the stop rule
abbrev pub under : StopRule → ℕ → Control → Declared
under rule points control = record { points = points; control = control; rule = rule }

-- One list under both stop rules, with buffers equal in length: where it ends both, the certificates' verdicts are equal.
abbrev pub VerdictsAgree : Meaning → Meaning → Type 0
VerdictsAgree m s =
    (points : ℕ) (k : Control) (len : ℕ) (cs : List Call)
    → ended (under FirstUnfit points k) (came m s (under FirstUnfit points k) len fresh cs) ≡ true
    → ended (under AllPoints points k) (came m s (under AllPoints points k) len fresh cs) ≡ true
    → (certificate_fields (under FirstUnfit points k) (came m s (under FirstUnfit points k) len fresh cs)).verdict ≡ (certificate_fields (under AllPoints points k) (came m s (under AllPoints points k) len fresh cs)).verdict

-- In any case no more codes are accepted under the rule that ends at the first unfit point.
abbrev pub TakesNoMore : Meaning → Meaning → Type 0
TakesNoMore m s =
    (points : ℕ) (k : Control) (len : ℕ) (cs : List Call)
    → codes_accepted (answers_to m s (under FirstUnfit points k) len fresh cs) ≤ codes_accepted (answers_to m s (under AllPoints points k) len fresh cs)

-- Each closing of a list may be lent a buffer of another length: into len bytes at a place it does and answers what it
-- would into more bytes at a place as much further on. So what holds of lists with one length holds of those with many.
abbrev pub AnyBuffer : Type 0
AnyBuffer = (d : Declared) (p : Progress) (place len more : ℕ) → closing d p place len ≡ closing d p (place + more) (len + more)

-- A point that is open after a list was opened by a call of it, and no call since has closed it.
abbrev pub OpenedOnce : Meaning → Meaning → Type 0
OpenedOnce m s = (d : Declared) (len : ℕ) (cs : List Call) → is_open (came m s d len fresh cs).phase ≡ true → Since m s d len fresh cs

-- From its accepted opening, and as long as it is not closed, a point is what the method says of the calls since.
abbrev pub JudgedByCodes : Meaning → Meaning → Type 0
JudgedByCodes m s =
    (d : Declared) (len : ℕ) (before : List Call) (signal meter reference agreement : ℤ) (during : List Call)
    → opens (answer_to m s d len (came m s d len fresh before) (Open signal meter reference agreement)) ≡ true
    → none_closed (answers_to m s d len (step m s d len (came m s d len fresh before) (Open signal meter reference agreement)) during) ≡ true
    → (came m s d len (step m s d len (came m s d len fresh before) (Open signal meter reference agreement)) during).phase
    ≡ judged m s d.control (came m s d len fresh before).carried (as_given signal meter reference agreement) during

-- Closed, it has the verdict that the method gives it by those calls.
abbrev pub ClosedAsJudged : Meaning → Meaning → Type 0
ClosedAsJudged m s =
    (d : Declared) (len : ℕ) (before : List Call) (signal meter reference agreement : ℤ) (during : List Call) (place : ℕ)
    → opens (answer_to m s d len (came m s d len fresh before) (Open signal meter reference agreement)) ≡ true
    → none_closed (answers_to m s d len (step m s d len (came m s d len fresh before) (Open signal meter reference agreement)) during) ≡ true
    → closes (answer_to m s d len (came m s d len (step m s d len (came m s d len fresh before) (Open signal meter reference agreement)) during) (Close place)) ≡ true
    → verdict_told (answer_to m s d len (came m s d len (step m s d len (came m s d len fresh before) (Open signal meter reference agreement)) during) (Close place))
    ≡ reached (judged m s d.control (came m s d len fresh before).carried (as_given signal meter reference agreement) during)

-- The certificate's points are those closed in the list, and its unfit points those closed unfit.
abbrev pub PointsCounted : Meaning → Meaning → Type 0
PointsCounted m s =
    (d : Declared) (len : ℕ) (cs : List Call)
    → ((certificate_fields d (came m s d len fresh cs)).closed ≡ pos (points_closed (answers_to m s d len fresh cs)))
    × ((certificate_fields d (came m s d len fresh cs)).unfit ≡ pos (points_unfit (answers_to m s d len fresh cs)))

-- The count is true; smaller errors never do worse, on either plan; the stop rules agree; a point is judged by its codes
-- alone; all this whatever buffers are lent; and a journal of points closed one behind another reads back as their records.
pub record Laws (m s : Meaning) : Type 0 where
  pub counts : Counts m s
  pub takes_few : TakesFew m s
  pub takes_legal : TakesLegal m s
  pub steady_main : Steady m
  pub steady_short : Steady s
  pub verdicts_agree : VerdictsAgree m s
  pub takes_no_more : TakesNoMore m s
  pub any_buffer : AnyBuffer
  pub journal_reads_back : RunJournalReadsBack m s
  pub opened_once : OpenedOnce m s
  pub judged_by_codes : JudgedByCodes m s
  pub closed_as_judged : ClosedAsJudged m s
  pub points_counted : PointsCounted m s
