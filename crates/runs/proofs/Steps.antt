-- One call of a list: what it does where the verification goes on, and that nothing happens where it has ended.
use Rattle.std.proofs.Common.{◌≡◌, ℕ, Bool, true, false, cond, is_ok, Err, Result, refl, ap}
use Rattle.method.specs.Meaning.{Meaning}
use Rattle.method.specs.declared.question.Question.{Question}
use Rattle.method.specs.declared.question.Question.TheVariants.{NotEnded}
use Rattle.runs.specs.Answers.{accepts_code}
use Rattle.runs.specs.Runs.{answer_to, step}
use Rattle.runs.specs.declared.answer.Answer.{Answer}
use Rattle.runs.specs.declared.answer.Answer.TheVariants.{Opened, Leveled, Coded, Belated, Closed}
use Rattle.runs.specs.declared.call.Call.{Call}
use Rattle.runs.specs.declared.call.Call.TheVariants.{Open, Level, Code, Late, Close}
use Rattle.verification.specs.Calls.{Reply, closed_at, coded_at, late_at, level_at, opened_at, refused}
use Rattle.verification.specs.Ordering.{ended}
use Rattle.verification.specs.declared.declared.Declared.{Declared}
use Rattle.verification.specs.declared.progress.Progress.{Progress}

-- what a call does where the verification has not ended: the stop rule has no part in it
abbrev pub going : Meaning → Meaning → Declared → ℕ → Progress → Call → Progress
going m s d len p (Open a e r n) = (opened_at p a e r n p.phase).after
going m s d len p Level = p
going m s d len p (Code c) = (coded_at m s d p c p.phase).after
going m s d len p Late = (late_at m s d p p.phase).after
going m s d len p (Close place) = (closed_at p place len p.phase).after

abbrev pub told : Meaning → Meaning → Declared → ℕ → Progress → Call → Answer
told m s d len p (Open a e r n) = Opened (opened_at p a e r n p.phase).answer
told m s d len p Level = Leveled (level_at m s d p p.phase)
told m s d len p (Code c) = Coded (coded_at m s d p c p.phase).answer
told m s d len p Late = Belated (late_at m s d p p.phase).answer
told m s d len p (Close place) = Closed (closed_at p place len p.phase).answer

module _ {A : Type 0} (p : Progress) (live : Reply A) where
  after_ended : (b : Bool) → b ≡ true → (cond b (refused p NotEnded) live).after ≡ p
  after_ended b e = ap (λ (x : Bool). (cond x (refused p NotEnded) live).after) e

  after_going : (b : Bool) → b ≡ false → (cond b (refused p NotEnded) live).after ≡ live.after
  after_going b e = ap (λ (x : Bool). (cond x (refused p NotEnded) live).after) e

  answer_going : (b : Bool) → b ≡ false → (cond b (refused p NotEnded) live).answer ≡ live.answer
  answer_going b e = ap (λ (x : Bool). (cond x (refused p NotEnded) live).answer) e

  ok_ended : (b : Bool) → b ≡ true → is_ok (cond b (refused p NotEnded) live).answer ≡ false
  ok_ended b e = ap (λ (x : Bool). is_ok (cond x (refused p NotEnded) live).answer) e

level_going : {A : Type 0} (b : Bool) (live : Result A Question) → b ≡ false → cond b (Err NotEnded) live ≡ live
level_going b live e = ap (λ (x : Bool). cond x (Err NotEnded) live) e

module _ (m s : Meaning) (d : Declared) (len : ℕ) (p : Progress) where
  pub step_ended : (c : Call) → ended d p ≡ true → step m s d len p c ≡ p
  step_ended (Open a x r n) e = after_ended p (opened_at p a x r n p.phase) (ended d p) e
  step_ended Level e = refl
  step_ended (Code c) e = after_ended p (coded_at m s d p c p.phase) (ended d p) e
  step_ended Late e = after_ended p (late_at m s d p p.phase) (ended d p) e
  step_ended (Close place) e = after_ended p (closed_at p place len p.phase) (ended d p) e

  pub step_going : (c : Call) → ended d p ≡ false → step m s d len p c ≡ going m s d len p c
  step_going (Open a x r n) e = after_going p (opened_at p a x r n p.phase) (ended d p) e
  step_going Level e = refl
  step_going (Code c) e = after_going p (coded_at m s d p c p.phase) (ended d p) e
  step_going Late e = after_going p (late_at m s d p p.phase) (ended d p) e
  step_going (Close place) e = after_going p (closed_at p place len p.phase) (ended d p) e

  pub answer_going_on : (c : Call) → ended d p ≡ false → answer_to m s d len p c ≡ told m s d len p c
  answer_going_on (Open a x r n) e = ap Opened (answer_going p (opened_at p a x r n p.phase) (ended d p) e)
  answer_going_on Level e = ap Leveled (level_going (ended d p) (level_at m s d p p.phase) e)
  answer_going_on (Code c) e = ap Coded (answer_going p (coded_at m s d p c p.phase) (ended d p) e)
  answer_going_on Late e = ap Belated (answer_going p (late_at m s d p p.phase) (ended d p) e)
  answer_going_on (Close place) e = ap Closed (answer_going p (closed_at p place len p.phase) (ended d p) e)

  pub no_code_ended : (c : Call) → ended d p ≡ true → accepts_code (answer_to m s d len p c) ≡ false
  no_code_ended (Open a x r n) e = refl
  no_code_ended Level e = refl
  no_code_ended (Code c) e = ok_ended p (coded_at m s d p c p.phase) (ended d p) e
  no_code_ended Late e = refl
  no_code_ended (Close place) e = refl
