-- What each call answers, and how far the verification is then.
use Rattle.std.specs.Prelude.{ℕ, ◌+◌, true, false, cond, List, length, ℤ, Some, None, Ok, Err, Option, Result}
use Rattle.method.specs.Meaning.{Meaning}
use Rattle.method.specs.declared.question.Question.{Question}
use Rattle.method.specs.declared.question.Question.TheVariants.{NotEnded, NoPointOpen, PointOpen, Undecided, CodeLegal, StillSettling, Decided as AskDecided}
use Rattle.method.specs.declared.verdict.Verdict.{Verdict}
use Rattle.method.specs.declared.verdict.Verdict.TheVariants.{Fit, Unfit}
use Rattle.journal.specs.Journal.{record_bytes}
use Rattle.journal.specs.Writing.{answered, laid}
use Rattle.journal.specs.declared.record.Record.{Record}
use Rattle.point.specs.Ends.{leaves}
use Rattle.point.specs.Levels.{legal_code, observing_level_of, settling_level_of}
use Rattle.point.specs.Phases.{belated, coded, opened, reached}
use Rattle.point.specs.Settings.{as_given, setting_refusal}
use Rattle.point.specs.Trials.{plan_of}
use Rattle.point.specs.declared.phase.Level.{Level}
use Rattle.point.specs.declared.phase.Outcome.{Outcome}
use Rattle.point.specs.declared.phase.Phase.{Phase}
use Rattle.point.specs.declared.phase.Phase.TheVariants.{Waiting, Settling, Observing, Decided}
use Rattle.point.specs.declared.phase.PlanUsed.TheVariants as used
use Rattle.point.specs.declared.setting.Setting.{Setting}
use Rattle.verification.specs.Ordering.{ended}
use Rattle.verification.specs.Records.{point_record}
use Rattle.verification.specs.declared.written.Written.{Written}
use Rattle.verification.specs.declared.declared.Declared.{Declared}
use Rattle.verification.specs.declared.progress.Progress.{Progress}

-- a call's answer, and how far the verification is after it
pub record Reply (A : Type 0) : Type 0 where
  pub after : Progress
  pub answer : Result A Question

module _ {A : Type 0} where
  -- a refusal changes nothing
  abbrev pub refused : Progress → Question → Reply A
  refused p q = record { after = p; answer = Err q }

  abbrev pub done : Progress → A → Reply A
  done p a = record { after = p; answer = Ok a }

-- a verification just begun: no dominance, and reduced control begins with the main plan
abbrev pub fresh : Progress
fresh = record {
  closed = 0;
  unfit = 0;
  codes = 0;
  carried = record { dominance = false; next = used.Main };
  phase = Waiting;
}

abbrev pub at_phase : Progress → Phase → Progress
at_phase p f = record { closed = p.closed; unfit = p.unfit; codes = p.codes; carried = p.carried; phase = f }

-- one code more was accepted
abbrev pub one_more : Progress → Phase → Progress
one_more p f = record { closed = p.closed; unfit = p.unfit; codes = p.codes + 1; carried = p.carried; phase = f }

-- Opening: no point may be open, and the setting is asked.
abbrev pub opened_with : Progress → Setting → Option Question → Reply (Unit {0})
opened_with p g None = done (at_phase p (opened g)) tt
opened_with p g (Some q) = refused p q

abbrev pub opened_at : Progress → ℤ → ℤ → ℤ → ℤ → Phase → Reply (Unit {0})
opened_at p a m e n Waiting = opened_with p (as_given a m e n) (setting_refusal a m e n)
opened_at p a m e n (Settling _) = refused p NoPointOpen
opened_at p a m e n (Observing _) = refused p NoPointOpen
opened_at p a m e n (Decided _) = refused p NoPointOpen

-- A code: a point must be open and undecided, and the code legal.
abbrev pub coded_to : Progress → ℤ → Phase → Reply (Option Verdict)
coded_to p c f = cond (legal_code c) (done (one_more p f) (reached f)) (refused p CodeLegal)

abbrev pub coded_at : Meaning → Meaning → Declared → Progress → ℤ → Phase → Reply (Option Verdict)
coded_at m s d p c Waiting = refused p PointOpen
coded_at m s d p c (Settling u) = coded_to p c (coded m s d.control p.carried (Settling u) c)
coded_at m s d p c (Observing a) = coded_to p c (coded m s d.control p.carried (Observing a) c)
coded_at m s d p c (Decided _) = refused p Undecided

-- Late: the point must still settle. It is never decided by this.
abbrev pub late_at : Meaning → Meaning → Declared → Progress → Phase → Reply (Option Verdict)
late_at m s d p Waiting = refused p PointOpen
late_at m s d p (Settling u) = done (at_phase p (belated m s d.control p.carried u)) None
late_at m s d p (Observing _) = refused p StillSettling
late_at m s d p (Decided _) = refused p StillSettling

abbrev pub level_at : Meaning → Meaning → Declared → Progress → Phase → Result Level Question
level_at m s d p Waiting = Err PointOpen
level_at m s d p (Settling u) = Ok (settling_level_of m s d.control p.carried u)
level_at m s d p (Observing a) = Ok (observing_level_of (plan_of m s a.course) a)
level_at m s d p (Decided _) = Err Undecided

-- Closing: the point must be decided and its record fit. What the point found is carried on to the next.
abbrev pub unfit_one : Verdict → ℕ
unfit_one Fit = 0
unfit_one Unfit = 1

abbrev pub closed_with : Progress → Outcome → Progress
closed_with p o = record {
  closed = p.closed + 1;
  unfit = p.unfit + unfit_one o.verdict;
  codes = p.codes;
  carried = leaves o;
  phase = Waiting;
}

-- the record of the point that a closing would write
abbrev pub closing_record : Progress → Outcome → Record
closing_record p o = point_record (p.closed + 1) o

-- by what writing the record answered
abbrev pub closed_by : Progress → Outcome → Result ℕ Question → Reply Written
closed_by p o (Ok n) = done (closed_with p o) (record { verdict = o.verdict; length = n })
closed_by p o (Err q) = refused p q

abbrev pub closed_at : Progress → ℕ → ℕ → Phase → Reply Written
closed_at p place len Waiting = refused p PointOpen
closed_at p place len (Settling _) = refused p AskDecided
closed_at p place len (Observing _) = refused p AskDecided
closed_at p place len (Decided o) = closed_by p o (answered true (length (record_bytes (closing_record p o))) place len)

abbrev pub bytes_at : Progress → ℕ → List ℕ → Phase → List ℕ
bytes_at p place old Waiting = old
bytes_at p place old (Settling _) = old
bytes_at p place old (Observing _) = old
bytes_at p place old (Decided o) = laid true (record_bytes (closing_record p o)) place old

-- The calls. A verification that has ended refuses each.
abbrev pub opening : Declared → Progress → ℤ → ℤ → ℤ → ℤ → Reply (Unit {0})
opening d p a m e n = cond (ended d p) (refused p NotEnded) (opened_at p a m e n p.phase)

abbrev pub levelling : Meaning → Meaning → Declared → Progress → Result Level Question
levelling m s d p = cond (ended d p) (Err NotEnded) (level_at m s d p p.phase)

abbrev pub coding : Meaning → Meaning → Declared → Progress → ℤ → Reply (Option Verdict)
coding m s d p c = cond (ended d p) (refused p NotEnded) (coded_at m s d p c p.phase)

abbrev pub belating : Meaning → Meaning → Declared → Progress → Reply (Option Verdict)
belating m s d p = cond (ended d p) (refused p NotEnded) (late_at m s d p p.phase)

-- into a buffer of that length, at that place
abbrev pub closing : Declared → Progress → ℕ → ℕ → Reply Written
closing d p place len = cond (ended d p) (refused p NotEnded) (closed_at p place len p.phase)

-- what a closing leaves in the buffer
abbrev pub closing_bytes : Declared → Progress → ℕ → List ℕ → List ℕ
closing_bytes d p place old = cond (ended d p) old (bytes_at p place old p.phase)
