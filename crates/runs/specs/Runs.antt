-- A list of calls on a verification: where it leads, what is answered, and what is left in the journal.
use Rattle.std.specs.Prelude.{ℕ, List, [], ◌∷◌, length}
use Rattle.method.specs.Meaning.{Meaning}
use Rattle.runs.specs.Answers.{codes_accepted}
use Rattle.runs.specs.declared.answer.Answer.{Answer}
use Rattle.runs.specs.declared.answer.Answer.TheVariants.{Opened, Leveled, Coded, Belated, Closed}
use Rattle.runs.specs.declared.call.Call.{Call}
use Rattle.runs.specs.declared.call.Call.TheVariants.{Open, Level, Code, Late, Close}
use Rattle.runs.specs.declared.outcome.Outcome.{Outcome}
use Rattle.verification.specs.Calls.{belating, closing, closing_bytes, coding, fresh, levelling, opening}
use Rattle.verification.specs.Certificates.{certifying, certifying_bytes}
use Rattle.verification.specs.declared.declared.Declared.{Declared}
use Rattle.verification.specs.declared.progress.Progress.{Progress}

-- how far a verification is after a call, with a journal of len bytes
abbrev pub step : Meaning → Meaning → Declared → ℕ → Progress → Call → Progress
step m s d len p (Open signal meter reference agreement) = (opening d p signal meter reference agreement).after
step m s d len p Level = p
step m s d len p (Code c) = (coding m s d p c).after
step m s d len p Late = (belating m s d p).after
step m s d len p (Close place) = (closing d p place len).after

-- what it answers
abbrev pub answer_to : Meaning → Meaning → Declared → ℕ → Progress → Call → Answer
answer_to m s d len p (Open signal meter reference agreement) = Opened (opening d p signal meter reference agreement).answer
answer_to m s d len p Level = Leveled (levelling m s d p)
answer_to m s d len p (Code c) = Coded (coding m s d p c).answer
answer_to m s d len p Late = Belated (belating m s d p).answer
answer_to m s d len p (Close place) = Closed (closing d p place len).answer

-- what it leaves in the journal
abbrev pub bytes_after : Declared → Progress → Call → List ℕ → List ℕ
bytes_after d p (Open signal meter reference agreement) old = old
bytes_after d p Level old = old
bytes_after d p (Code c) old = old
bytes_after d p Late old = old
bytes_after d p (Close place) old = closing_bytes d p place old

-- the same of calls one after another
abbrev pub came : Meaning → Meaning → Declared → ℕ → Progress → List Call → Progress
came m s d len p [] = p
came m s d len p (c ∷ cs) = came m s d len (step m s d len p c) cs

abbrev pub answers_to : Meaning → Meaning → Declared → ℕ → Progress → List Call → List Answer
answers_to m s d len p [] = []
answers_to m s d len p (c ∷ cs) = answer_to m s d len p c ∷ answers_to m s d len (step m s d len p c) cs

abbrev pub bytes_left : Meaning → Meaning → Declared → ℕ → Progress → List Call → List ℕ → List ℕ
bytes_left m s d len p [] old = old
bytes_left m s d len p (c ∷ cs) old = bytes_left m s d len (step m s d len p c) cs (bytes_after d p c old)

-- a run: a new verification, the list, and then the certificate at a place
abbrev pub outcome_of : Meaning → Meaning → Declared → ℕ → ℕ → List Call → Outcome
outcome_of m s d len place cs = record {
  codes = codes_accepted (answers_to m s d len fresh cs);
  certificate = certifying d (came m s d len fresh cs) place len;
}

-- what a run leaves in the journal
abbrev pub journal_of : Meaning → Meaning → Declared → ℕ → List Call → List ℕ → List ℕ
journal_of m s d place cs old =
    certifying_bytes d (came m s d (length old) fresh cs) place (bytes_left m s d (length old) fresh cs old)
