-- One list of calls under the two stop rules.
use Rattle.std.proofs.Common.{◌≡◌, ℕ, ◌<◌, ◌≤◌, Bool, true, false, cond, ◌&&◌, ◌||◌, eqb, ltb, leb, ◌⊎◌, List, [], ◌∷◌, ℤ, is_ok, Some, None, Ok, Err, Option, Result, sym, refl, ap, ◌∙◌, inl, inr, arith}
use Rattle.std.proofs.lemmas.Bool.{cases_Bool, cond_both, ltb-true, ne_eqb}
use Rattle.method.specs.Meaning.{Meaning}
use Rattle.method.specs.declared.question.Question.{Question}
use Rattle.method.specs.declared.question.Question.TheVariants.{CodeLegal, NotEnded}
use Rattle.method.specs.declared.verdict.Verdict.TheVariants.{Unfit}
use Rattle.method.specs.Verdicts.{fit_if}
use Rattle.point.specs.Levels.{legal_code}
use Rattle.point.specs.Phases.{reached}
use Rattle.point.specs.Settings.{as_given, setting_refusal}
use Rattle.point.specs.declared.phase.Control.{Control}
use Rattle.point.specs.declared.phase.Outcome.{Outcome}
use Rattle.point.specs.declared.phase.Phase.{Phase}
use Rattle.point.specs.declared.phase.Phase.TheVariants.{Waiting, Settling, Observing, Decided}
use Rattle.point.specs.declared.setting.Setting.{Setting}
use Rattle.runs.proofs.Steps.{answer_going_on, going, no_code_ended, step_ended, step_going, told}
use Rattle.runs.specs.Answers.{accepts_code, codes_accepted}
use Rattle.runs.specs.Laws.{TakesNoMore, VerdictsAgree, under}
use Rattle.runs.specs.Runs.{answer_to, answers_to, came, step}
use Rattle.runs.specs.declared.answer.Answer.{Answer}
use Rattle.runs.specs.declared.call.Call.{Call}
use Rattle.runs.specs.declared.call.Call.TheVariants.{Open, Level, Code, Late, Close}
use Rattle.verification.specs.Calls.{Reply, closed_at, closed_by, coded_at, coded_to, done, fresh, late_at, one_more, opened_at, opened_with, refused}
use Rattle.verification.specs.Certificates.{instrument_verdict}
use Rattle.verification.specs.Ordering.{ended}
use Rattle.verification.specs.declared.declared.Declared.{Declared}
use Rattle.verification.specs.declared.declared.StopRule.TheVariants.{FirstUnfit, AllPoints}
use Rattle.verification.specs.declared.progress.Progress.{Progress}

-- how many codes an answer accepts
abbrev one : Answer → ℕ
one a = cond (accepts_code a) 1 0

-- No call lowers the count of unfit points.
module _ (p : Progress) where
  abbrev Keeps : {A : Type 0} → Reply A → Type 0
  Keeps r = p.unfit ≤ r.after.unfit

  itself : p.unfit ≤ p.unfit
  itself = omega arith

  open_with_keeps : (g : Setting) (q : Option Question) → Keeps (opened_with p g q)
  open_with_keeps g None = itself
  open_with_keeps g (Some q) = itself

  open_keeps : (a e r n : ℤ) (f : Phase) → Keeps (opened_at p a e r n f)
  open_keeps a e r n Waiting = open_with_keeps (as_given a e r n) (setting_refusal a e r n)
  open_keeps a e r n (Settling _) = itself
  open_keeps a e r n (Observing _) = itself
  open_keeps a e r n (Decided _) = itself

  code_to_keeps : (c : ℤ) (f : Phase) → Keeps (coded_to p c f)
  code_to_keeps c f = cond_both (legal_code c) (done (one_more p f) (reached f)) (refused p CodeLegal) (λ r. Keeps r) (λ _. itself) (λ _. itself)

  closed_by_keeps : (o : Outcome) (r : Result ℕ Question) → Keeps (closed_by p o r)
  closed_by_keeps o (Ok n) = omega arith
  closed_by_keeps o (Err q) = itself

  close_keeps : (place len : ℕ) (f : Phase) → Keeps (closed_at p place len f)
  close_keeps place len Waiting = itself
  close_keeps place len (Settling _) = itself
  close_keeps place len (Observing _) = itself
  close_keeps place len (Decided o) = closed_by_keeps o _

  module _ (m s : Meaning) (d : Declared) where
    code_keeps : (c : ℤ) (f : Phase) → Keeps (coded_at m s d p c f)
    code_keeps c Waiting = itself
    code_keeps c (Settling _) = code_to_keeps c _
    code_keeps c (Observing _) = code_to_keeps c _
    code_keeps c (Decided _) = itself

    late_keeps : (f : Phase) → Keeps (late_at m s d p f)
    late_keeps Waiting = itself
    late_keeps (Settling _) = itself
    late_keeps (Observing _) = itself
    late_keeps (Decided _) = itself

    step_keeps : (len : ℕ) (c : Call) → p.unfit ≤ (step m s d len p c).unfit
    step_keeps len (Open a e r n) = cond_both (ended d p) (refused p NotEnded) (opened_at p a e r n p.phase) (λ x. Keeps x) (λ _. itself) (λ _. open_keeps a e r n p.phase)
    step_keeps len Level = itself
    step_keeps len (Code c) = cond_both (ended d p) (refused p NotEnded) (coded_at m s d p c p.phase) (λ x. Keeps x) (λ _. itself) (λ _. code_keeps c p.phase)
    step_keeps len Late = cond_both (ended d p) (refused p NotEnded) (late_at m s d p p.phase) (λ x. Keeps x) (λ _. itself) (λ _. late_keeps p.phase)
    step_keeps len (Close place) = cond_both (ended d p) (refused p NotEnded) (closed_at p place len p.phase) (λ x. Keeps x) (λ _. itself) (λ _. close_keeps place len p.phase)

came_keeps : (m s : Meaning) (d : Declared) (len : ℕ) (p : Progress) (cs : List Call) → p.unfit ≤ (came m s d len p cs).unfit
came_keeps m s d len p [] = omega arith
came_keeps m s d len p (c ∷ cs) = omega (arith, step_keeps p m s d len c, came_keeps m s d len (step m s d len p c) cs)

-- A verification that has ended stays as it is, and accepts no code.
came_ended : (m s : Meaning) (d : Declared) (len : ℕ) (p : Progress) (cs : List Call) → ended d p ≡ true → came m s d len p cs ≡ p
came_ended m s d len p [] e = refl
came_ended m s d len p (c ∷ cs) e = ap (λ (q : Progress). came m s d len q cs) (step_ended m s d len p c e) ∙ came_ended m s d len p cs e

none_ended : (m s : Meaning) (d : Declared) (len : ℕ) (p : Progress) (cs : List Call) → ended d p ≡ true → codes_accepted (answers_to m s d len p cs) ≡ 0
none_ended m s d len p [] e = refl
none_ended m s d len p (c ∷ cs) e =
    let first : one (answer_to m s d len p c) ≡ 0 = ap (λ (b : Bool). cond b 1 0) (no_code_ended m s d len p c e) in
    let rest : codes_accepted (answers_to m s d len (step m s d len p c) cs) ≡ 0 = ap (λ (q : Progress). codes_accepted (answers_to m s d len q cs)) (step_ended m s d len p c e) ∙ none_ended m s d len p cs e in
    omega (arith, first, rest)

unfit_so : (d : Declared) (p : Progress) → 0 < p.unfit → instrument_verdict d p ≡ Unfit
unfit_so d p u = ap (λ (b : Bool). fit_if (b && eqb p.closed d.points)) (ne_eqb p.unfit 0 (omega arith))

module _ (m s : Meaning) (points : ℕ) (k : Control) (len : ℕ) where
  abbrev first : Declared
  first = under FirstUnfit points k

  abbrev all : Declared
  all = under AllPoints points k

  -- what a call does goes by the control alone
  going_alike : (p : Progress) (c : Call) → going m s first len p c ≡ going m s all len p c
  going_alike p (Open a e r n) = refl
  going_alike p Level = refl
  going_alike p (Code c) = coded_alike p.phase where
    coded_alike : (f : Phase) → (coded_at m s first p c f).after ≡ (coded_at m s all p c f).after
    coded_alike Waiting = refl
    coded_alike (Settling _) = refl
    coded_alike (Observing _) = refl
    coded_alike (Decided _) = refl
  going_alike p Late = late_alike p.phase where
    late_alike : (f : Phase) → (late_at m s first p f).after ≡ (late_at m s all p f).after
    late_alike Waiting = refl
    late_alike (Settling _) = refl
    late_alike (Observing _) = refl
    late_alike (Decided _) = refl
  going_alike p (Close place) = refl

  accepts_alike : (p : Progress) (c : Call) → accepts_code (told m s first len p c) ≡ accepts_code (told m s all len p c)
  accepts_alike p (Open a e r n) = refl
  accepts_alike p Level = refl
  accepts_alike p (Code c) = coded_alike p.phase where
    coded_alike : (f : Phase) → is_ok (coded_at m s first p c f).answer ≡ is_ok (coded_at m s all p c f).answer
    coded_alike Waiting = refl
    coded_alike (Settling _) = refl
    coded_alike (Observing _) = refl
    coded_alike (Decided _) = refl
  accepts_alike p Late = refl
  accepts_alike p (Close place) = refl

  -- the same list from the same progress: the verdicts would be equal, and the first rule takes no more codes
  record Agree (p : Progress) (cs : List Call) : Type 0 where
    verdicts : instrument_verdict first (came m s first len p cs) ≡ instrument_verdict all (came m s all len p cs)
    no_more : codes_accepted (answers_to m s first len p cs) ≤ codes_accepted (answers_to m s all len p cs)

  agree_ended : (p : Progress) (cs : List Call) → ended first p ≡ true → ended all p ≡ true → Agree p cs
  agree_ended p cs e f = record {
    verdicts = ap (instrument_verdict first) (came_ended m s first len p cs e) ∙ sym (ap (instrument_verdict all) (came_ended m s all len p cs f));
    no_more = omega (arith, none_ended m s first len p cs e);
  }

  agree_unfit : (p : Progress) (cs : List Call) → ended first p ≡ true → 0 < p.unfit → Agree p cs
  agree_unfit p cs e u =
      let l : 0 < (came m s all len p cs).unfit = omega (arith, came_keeps m s all len p cs) in
      record {
        verdicts = ap (instrument_verdict first) (came_ended m s first len p cs e) ∙ unfit_so first p u ∙ sym (unfit_so all (came m s all len p cs) l);
        no_more = omega (arith, none_ended m s first len p cs e);
      }

  agree_on : (p : Progress) (c : Call) (cs : List Call) → ended first p ≡ false → ended all p ≡ false → Agree (step m s all len p c) cs → Agree p (c ∷ cs)
  agree_on p c cs e f h =
      let steps : step m s first len p c ≡ step m s all len p c = step_going m s first len p c e ∙ going_alike p c ∙ sym (step_going m s all len p c f) in
      let same : one (answer_to m s first len p c) ≡ one (answer_to m s all len p c) =
      ap one (answer_going_on m s first len p c e)
      ∙ ap (λ (b : Bool). cond b 1 0) (accepts_alike p c)
      ∙ sym (ap one (answer_going_on m s all len p c f)) in
      let rest : codes_accepted (answers_to m s first len (step m s first len p c) cs) ≡ codes_accepted (answers_to m s first len (step m s all len p c) cs) =
      ap (λ (q : Progress). codes_accepted (answers_to m s first len q cs)) steps in
      record {
        verdicts = ap (λ (q : Progress). instrument_verdict first (came m s first len q cs)) steps ∙ h.verdicts;
        no_more = omega (arith, same, rest, h.no_more);
      }

  agree : (p : Progress) (cs : List Call) → Agree p cs
  agree p [] = record { verdicts = refl; no_more = omega arith }
  agree p (c ∷ cs) = by_cases (cases_Bool (leb points p.closed)) (cases_Bool (ltb 0 p.unfit)) (agree (step m s all len p c) cs) where
    by_cases : (leb points p.closed ≡ true) ⊎ (leb points p.closed ≡ false) → (ltb 0 p.unfit ≡ true) ⊎ (ltb 0 p.unfit ≡ false) → Agree (step m s all len p c) cs → Agree p (c ∷ cs)
    by_cases (inl t) _ h = agree_ended p (c ∷ cs) (ap (λ (b : Bool). b || ltb 0 p.unfit) t) (ap (λ (b : Bool). b || false) t)
    by_cases (inr f) (inl t) h = agree_unfit p (c ∷ cs) (ap (λ (b : Bool). b || ltb 0 p.unfit) f ∙ t) (ltb-true 0 p.unfit t)
    by_cases (inr f) (inr g) h = agree_on p c cs (ap (λ (b : Bool). b || ltb 0 p.unfit) f ∙ g) (ap (λ (b : Bool). b || false) f) h

pub verdicts_agree : (m s : Meaning) → VerdictsAgree m s
verdicts_agree m s points k len cs _ _ = (agree m s points k len fresh cs).verdicts

pub takes_no_more : (m s : Meaning) → TakesNoMore m s
takes_no_more m s points k len cs = (agree m s points k len fresh cs).no_more
