-- The points that a list of calls has closed.
use Rattle.std.proofs.Common.{◌≡◌, ℕ, ◌+◌, true, cond, List, [], ◌∷◌, ℤ, pos, is_ok, Some, None, Ok, Err, Option, Result, sym, refl, ap, ◌∙◌, add-zero, add_assoc}
use Rattle.std.proofs.lemmas.Bool.{cond_both}
use Rattle.method.specs.Meaning.{Meaning, Ranged}
use Rattle.method.specs.declared.question.Question.{Question}
use Rattle.method.specs.declared.question.Question.TheVariants.{CodeLegal, NotEnded}
use Rattle.point.specs.Levels.{legal_code}
use Rattle.point.specs.Phases.{reached}
use Rattle.point.specs.Settings.{as_given, setting_refusal}
use Rattle.point.specs.declared.phase.Outcome.{Outcome}
use Rattle.point.specs.declared.phase.Phase.{Phase}
use Rattle.point.specs.declared.phase.Phase.TheVariants.{Waiting, Settling, Observing, Decided}
use Rattle.point.specs.declared.setting.Setting.{Setting}
use Rattle.runs.proofs.Hearing.{judged_by_codes}
use Rattle.runs.proofs.Counting.{never, zero_plus}
use Rattle.runs.specs.Answers.{closes, one_unfit, points_closed, points_unfit, verdict_closed, verdict_told}
use Rattle.runs.specs.Laws.{ClosedAsJudged, PointsCounted}
use Rattle.runs.specs.Runs.{answer_to, answers_to, came, step}
use Rattle.runs.specs.declared.call.Call.{Call}
use Rattle.runs.specs.declared.call.Call.TheVariants.{Open, Level, Code, Late, Close}
use Rattle.verification.specs.Calls.{Reply, closed_at, closed_by, coded_at, coded_to, done, fresh, late_at, one_more, opened_at, opened_with, refused}
use Rattle.verification.specs.Ordering.{ended}
use Rattle.verification.specs.declared.written.Written.{Written}
use Rattle.verification.specs.declared.declared.Declared.{Declared}
use Rattle.verification.specs.declared.progress.Progress.{Progress}

-- Only a closing changes the points closed and those unfit.
module _ (p : Progress) where
  abbrev Raises : ℕ → ℕ → Progress → Type 0
  Raises c u q = (q.closed ≡ p.closed + c) × (q.unfit ≡ p.unfit + u)

  abbrev Kept : {A : Type 0} → Reply A → Type 0
  Kept r = Raises 0 0 r.after

  same : Raises 0 0 p
  same = (sym (add-zero p.closed), sym (add-zero p.unfit))

  open_with_kept : (g : Setting) (q : Option Question) → Kept (opened_with p g q)
  open_with_kept g None = same
  open_with_kept g (Some q) = same

  open_kept : (a e r n : ℤ) (f : Phase) → Kept (opened_at p a e r n f)
  open_kept a e r n Waiting = open_with_kept (as_given a e r n) (setting_refusal a e r n)
  open_kept a e r n (Settling _) = same
  open_kept a e r n (Observing _) = same
  open_kept a e r n (Decided _) = same

  code_to_kept : (c : ℤ) (f : Phase) → Kept (coded_to p c f)
  code_to_kept c f = cond_both (legal_code c) (done (one_more p f) (reached f)) (refused p CodeLegal) (λ r. Kept r) (λ _. same) (λ _. same)

  abbrev Closes : Reply Written → Type 0
  Closes r = Raises (cond (is_ok r.answer) 1 0) (one_unfit (verdict_closed r.answer)) r.after

  closed_by_closes : (o : Outcome) (r : Result ℕ Question) → Closes (closed_by p o r)
  closed_by_closes o (Ok n) = (refl, refl)
  closed_by_closes o (Err q) = same

  close_closes : (place len : ℕ) (f : Phase) → Closes (closed_at p place len f)
  close_closes place len Waiting = same
  close_closes place len (Settling _) = same
  close_closes place len (Observing _) = same
  close_closes place len (Decided o) = closed_by_closes o _

  module _ (m s : Meaning) (d : Declared) (len : ℕ) where
    code_kept : (c : ℤ) (f : Phase) → Kept (coded_at m s d p c f)
    code_kept c Waiting = same
    code_kept c (Settling _) = code_to_kept c _
    code_kept c (Observing _) = code_to_kept c _
    code_kept c (Decided _) = same

    late_kept : (f : Phase) → Kept (late_at m s d p f)
    late_kept Waiting = same
    late_kept (Settling _) = same
    late_kept (Observing _) = same
    late_kept (Decided _) = same

    raised : (c : Call) → Raises (cond (closes (answer_to m s d len p c)) 1 0) (one_unfit (verdict_told (answer_to m s d len p c))) (step m s d len p c)
    raised (Open a e r n) = cond_both (ended d p) (refused p NotEnded) (opened_at p a e r n p.phase) (λ x. Kept x) (λ _. same) (λ _. open_kept a e r n p.phase)
    raised Level = same
    raised (Code c) = cond_both (ended d p) (refused p NotEnded) (coded_at m s d p c p.phase) (λ x. Kept x) (λ _. same) (λ _. code_kept c p.phase)
    raised Late = cond_both (ended d p) (refused p NotEnded) (late_at m s d p p.phase) (λ x. Kept x) (λ _. same) (λ _. late_kept p.phase)
    raised (Close place) = cond_both (ended d p) (refused p NotEnded) (closed_at p place len p.phase) Closes (λ _. same) (λ _. close_closes place len p.phase)

module _ (m s : Meaning) (d : Declared) (len : ℕ) where
  closed_so : (p : Progress) (cs : List Call) → (came m s d len p cs).closed ≡ p.closed + points_closed (answers_to m s d len p cs)
  closed_so p [] = sym (add-zero p.closed)
  closed_so p (c ∷ cs) =
      let q = step m s d len p c in
      closed_so q cs ∙ ap (λ (n : ℕ). n + points_closed (answers_to m s d len q cs)) (raised p m s d len c).0
      ∙ add_assoc p.closed (cond (closes (answer_to m s d len p c)) 1 0) (points_closed (answers_to m s d len q cs))

  unfit_so : (p : Progress) (cs : List Call) → (came m s d len p cs).unfit ≡ p.unfit + points_unfit (answers_to m s d len p cs)
  unfit_so p [] = sym (add-zero p.unfit)
  unfit_so p (c ∷ cs) =
      let q = step m s d len p c in
      unfit_so q cs ∙ ap (λ (n : ℕ). n + points_unfit (answers_to m s d len q cs)) (raised p m s d len c).1
      ∙ add_assoc p.unfit (one_unfit (verdict_told (answer_to m s d len p c))) (points_unfit (answers_to m s d len q cs))

pub points_counted : (m s : Meaning) → PointsCounted m s
points_counted m s d len cs = (ap pos (closed_so m s d len fresh cs ∙ zero_plus _), ap pos (unfit_so m s d len fresh cs ∙ zero_plus _))

-- An accepted closing answers what the point has reached.
abbrev Tells : Phase → Reply Written → Type 0
Tells f r = is_ok r.answer ≡ true → verdict_closed r.answer ≡ reached f

closed_by_tells : (p : Progress) (o : Outcome) (r : Result ℕ Question) → Tells (Decided o) (closed_by p o r)
closed_by_tells p o (Ok n) e = refl
closed_by_tells p o (Err q) e = never e

close_tells : (p : Progress) (place len : ℕ) (f : Phase) → Tells f (closed_at p place len f)
close_tells p place len Waiting e = never e
close_tells p place len (Settling _) e = never e
close_tells p place len (Observing _) e = never e
close_tells p place len (Decided o) e = closed_by_tells p o _ e

close_told : (m s : Meaning) (d : Declared) (len : ℕ) (p : Progress) (place : ℕ) → closes (answer_to m s d len p (Close place)) ≡ true → verdict_told (answer_to m s d len p (Close place)) ≡ reached p.phase
close_told m s d len p place = cond_both (ended d p) (refused p NotEnded) (closed_at p place len p.phase) (Tells p.phase) (λ _. never) (λ _. close_tells p place len p.phase)

pub closed_as_judged : (m s : Meaning) → Ranged m → Ranged s → ClosedAsJudged m s
closed_as_judged m s rm rs d len before a x r n during place e f g =
    close_told m s d len _ place g ∙ ap reached (judged_by_codes m s rm rs d len before a x r n during e f)
