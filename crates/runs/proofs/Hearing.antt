-- What the calls of a list make of a verification they make of its open point.
use Rattle.std.proofs.Common.{◌≡◌, ℕ, Bool, true, false, cond, not, ◌⊎◌, List, [], ◌∷◌, ℤ, is_ok, Some, None, Ok, Err, Option, Result, sym, refl, ap, ◌∙◌, inl, inr}
use Rattle.std.proofs.lemmas.Bool.{and_from, and_parts, cases_Bool, cond_both, not-true}
use Rattle.method.specs.Meaning.{Meaning, Ranged}
use Rattle.method.specs.declared.question.Question.{Question}
use Rattle.method.specs.declared.question.Question.TheVariants.{CodeLegal, NotEnded}
use Rattle.point.specs.Bounds.{is_open}
use Rattle.point.specs.Levels.{legal_code}
use Rattle.point.specs.Phases.{coded, opened, reached}
use Rattle.point.specs.Settings.{as_given, setting_refusal}
use Rattle.point.specs.declared.phase.Carried.{Carried}
use Rattle.point.specs.declared.phase.Outcome.{Outcome}
use Rattle.point.specs.declared.phase.Phase.{Phase}
use Rattle.point.specs.declared.phase.Phase.TheVariants.{Waiting, Settling, Observing, Decided}
use Rattle.point.specs.declared.setting.Setting.{Setting}
use Rattle.runs.proofs.Counting.{Small, begins_point, never, stays}
use Rattle.runs.proofs.Judging.{heard, heard_all, judged_so, late_to}
use Rattle.runs.specs.Answers.{closes, none_closed, opens}
use Rattle.runs.specs.Laws.{JudgedByCodes, OpenedOnce, Since}
use Rattle.runs.specs.Runs.{answer_to, answers_to, came, step}
use Rattle.runs.specs.declared.call.Call.{Call}
use Rattle.runs.specs.declared.call.Call.TheVariants.{Open, Level, Code, Late, Close}
use Rattle.verification.specs.Calls.{Reply, closed_at, closed_by, coded_at, coded_to, done, fresh, late_at, one_more, opened_at, opened_with, refused}
use Rattle.verification.specs.Ordering.{ended}
use Rattle.verification.specs.declared.written.Written.{Written}
use Rattle.verification.specs.declared.declared.Declared.{Declared}
use Rattle.verification.specs.declared.progress.Progress.{Progress}

-- the point has come to f, what was carried to it stays, and the verification goes on
record Led (d : Declared) (h : Carried) (f : Phase) (q : Progress) : Type 0 where
  phase : q.phase ≡ f
  carried : q.carried ≡ h
  live : ended d q ≡ false

-- A call at an open point that does not close it.
module _ (m s : Meaning) (d : Declared) (len : ℕ) (p : Progress) (small : Small p.phase) (going : ended d p ≡ false) where
  abbrev Heard : Call → Progress → Type 0
  Heard c q = Led d p.carried (heard m s d.control p.carried p.phase c) q

  at : (f : Phase) → p.phase ≡ f → Led d p.carried f p
  at f e = record { phase = e; carried = refl; live = going }

  open_heard : (a e r n : ℤ) (f : Phase) → Small f → Heard (Open a e r n) (opened_at p a e r n f).after
  open_heard a e r n Waiting x = absurd x
  open_heard a e r n (Settling _) x = at p.phase refl
  open_heard a e r n (Observing _) x = at p.phase refl
  open_heard a e r n (Decided _) x = at p.phase refl

  abbrev next : ℤ → Bool → Phase
  next c b = cond b (coded m s d.control p.carried p.phase c) p.phase

  code_to_heard : (c : ℤ) (f : Phase) → coded m s d.control p.carried p.phase c ≡ f → Heard (Code c) (coded_to p c f).after
  code_to_heard c f e =
      cond_both (legal_code c) (done (one_more p f) (reached f)) (refused p CodeLegal) (λ r. Heard (Code c) r.after)
      (λ t. record { phase = sym e ∙ sym (ap (next c) t); carried = refl; live = going })
      (λ t. at (next c (legal_code c)) (sym (ap (next c) t)))

  unmoved : (c : ℤ) (b : Bool) → coded m s d.control p.carried p.phase c ≡ p.phase → p.phase ≡ next c b
  unmoved c true e = sym e
  unmoved c false e = refl

  code_heard : (c : ℤ) (f : Phase) → p.phase ≡ f → Small f → Heard (Code c) (coded_at m s d p c f).after
  code_heard c Waiting e x = absurd x
  code_heard c (Settling u) e x = code_to_heard c _ (ap (λ (y : Phase). coded m s d.control p.carried y c) e)
  code_heard c (Observing a) e x = code_to_heard c _ (ap (λ (y : Phase). coded m s d.control p.carried y c) e)
  code_heard c (Decided o) e x =
      at (next c (legal_code c)) (unmoved c (legal_code c) (ap (λ (y : Phase). coded m s d.control p.carried y c) e ∙ sym e))

  late_heard : (f : Phase) → p.phase ≡ f → Small f → Heard Late (late_at m s d p f).after
  late_heard Waiting e x = absurd x
  late_heard (Settling u) e x = record { phase = sym (ap (late_to m s d.control p.carried) e); carried = refl; live = going }
  late_heard (Observing a) e x = at (late_to m s d.control p.carried p.phase) (e ∙ sym (ap (late_to m s d.control p.carried) e))
  late_heard (Decided o) e x = at (late_to m s d.control p.carried p.phase) (e ∙ sym (ap (late_to m s d.control p.carried) e))

  abbrev UnlessClosed : ℕ → Reply Written → Type 0
  UnlessClosed place r = is_ok r.answer ≡ false → Heard (Close place) r.after

  closed_by_heard : (place : ℕ) (o : Outcome) (r : Result ℕ Question) → UnlessClosed place (closed_by p o r)
  closed_by_heard place o (Ok n) e = never (sym e)
  closed_by_heard place o (Err q) e = at p.phase refl

  close_heard : (place : ℕ) (f : Phase) → UnlessClosed place (closed_at p place len f)
  close_heard place Waiting e = at p.phase refl
  close_heard place (Settling _) e = at p.phase refl
  close_heard place (Observing _) e = at p.phase refl
  close_heard place (Decided o) e = closed_by_heard place o _ e

  step_heard : (c : Call) → closes (answer_to m s d len p c) ≡ false → Heard c (step m s d len p c)
  step_heard (Open a e r n) x = cond_both (ended d p) (refused p NotEnded) (opened_at p a e r n p.phase) (λ y. Heard (Open a e r n) y.after) (λ _. at p.phase refl) (λ _. open_heard a e r n p.phase small)
  step_heard Level x = at p.phase refl
  step_heard (Code c) x = cond_both (ended d p) (refused p NotEnded) (coded_at m s d p c p.phase) (λ y. Heard (Code c) y.after) (λ t. never (sym going ∙ t)) (λ _. code_heard c p.phase refl small)
  step_heard Late x = cond_both (ended d p) (refused p NotEnded) (late_at m s d p p.phase) (λ y. Heard Late y.after) (λ t. never (sym going ∙ t)) (λ _. late_heard p.phase refl small)
  step_heard (Close place) x = cond_both (ended d p) (refused p NotEnded) (closed_at p place len p.phase) (UnlessClosed place) (λ _ _. at p.phase refl) (λ _. close_heard place p.phase) x

came_heard : (m s : Meaning) → Ranged m → Ranged s → (d : Declared) (len : ℕ) (h : Carried) (f : Phase) (p : Progress) (cs : List Call) → Small p.phase → Led d h f p →
    none_closed (answers_to m s d len p cs) ≡ true → (came m s d len p cs).phase ≡ heard_all m s d.control h f cs
came_heard m s rm rs d len h f p [] small l e = l.phase
came_heard m s rm rs d len h f p (c ∷ cs) small l e =
    let parts = and_parts (not (closes (answer_to m s d len p c))) (none_closed (answers_to m s d len (step m s d len p c) cs)) e in
    let unclosed = not-true (closes (answer_to m s d len p c)) parts.0 in
    let y = stays m s rm rs d len p small c unclosed in
    let z = step_heard m s d len p small l.live c unclosed in
    let now_led : Led d h (heard m s d.control h f c) (step m s d len p c) = record {
      phase = z.phase ∙ ap (λ (x : Carried). heard m s d.control x p.phase c) l.carried ∙ ap (λ (x : Phase). heard m s d.control h x c) l.phase;
      carried = z.carried ∙ l.carried;
      live = z.live;
    } in
    came_heard m s rm rs d len h (heard m s d.control h f c) (step m s d len p c) cs y.0 now_led parts.1

-- an accepted opening
module _ (d : Declared) (p : Progress) where
  abbrev OpensTo : Setting → Reply (Unit {0}) → Type 0
  OpensTo g r = is_ok r.answer ≡ true → Led d p.carried (opened g) r.after

  opens_with : ended d p ≡ false → (g : Setting) (q : Option Question) → OpensTo g (opened_with p g q)
  opens_with e g None x = record { phase = refl; carried = refl; live = e }
  opens_with e g (Some q) x = never x

  opens_at : ended d p ≡ false → (a x r n : ℤ) (f : Phase) → OpensTo (as_given a x r n) (opened_at p a x r n f)
  opens_at e a x r n Waiting y = opens_with e (as_given a x r n) (setting_refusal a x r n) y
  opens_at e a x r n (Settling _) y = never y
  opens_at e a x r n (Observing _) y = never y
  opens_at e a x r n (Decided _) y = never y

  opens_led : (m s : Meaning) (len : ℕ) (a x r n : ℤ) → opens (answer_to m s d len p (Open a x r n)) ≡ true → Led d p.carried (opened (as_given a x r n)) (step m s d len p (Open a x r n))
  opens_led m s len a x r n = cond_both (ended d p) (refused p NotEnded) (opened_at p a x r n p.phase) (OpensTo (as_given a x r n)) (λ _. never) (λ e. opens_at e a x r n p.phase)

pub judged_by_codes : (m s : Meaning) → Ranged m → Ranged s → JudgedByCodes m s
judged_by_codes m s rm rs d len before a x r n during e f =
    let p = came m s d len fresh before in
    let q = step m s d len p (Open a x r n) in
    came_heard m s rm rs d len p.carried (opened (as_given a x r n)) q during (begins_point p m s d len (Open a x r n) e).0 (opens_led d p m s len a x r n e) f
    ∙ judged_so m s d.control p.carried (as_given a x r n) during

-- Only an opening opens a point: where one is open after another call, it was open before, and was not closed.
module _ (m s : Meaning) (d : Declared) (len : ℕ) (p : Progress) where
  abbrev WasOpen : Progress → Type 0
  WasOpen q = is_open q.phase ≡ true → is_open p.phase ≡ true

  code_was : (c : ℤ) (f : Phase) → p.phase ≡ f → WasOpen (coded_at m s d p c f).after
  code_was c Waiting e x = x
  code_was c (Settling u) e x = ap is_open e
  code_was c (Observing a) e x = ap is_open e
  code_was c (Decided o) e x = x

  late_was : (f : Phase) → p.phase ≡ f → WasOpen (late_at m s d p f).after
  late_was Waiting e x = x
  late_was (Settling u) e x = ap is_open e
  late_was (Observing a) e x = x
  late_was (Decided o) e x = x

  abbrev Unopened : Reply (Unit {0}) → Type 0
  Unopened r = is_ok r.answer ≡ false → WasOpen r.after

  open_with_was : (g : Setting) (q : Option Question) → Unopened (opened_with p g q)
  open_with_was g None e x = never (sym e)
  open_with_was g (Some q) e x = x

  open_was : (a e r n : ℤ) (f : Phase) → Unopened (opened_at p a e r n f)
  open_was a e r n Waiting y x = open_with_was (as_given a e r n) (setting_refusal a e r n) y x
  open_was a e r n (Settling _) y x = x
  open_was a e r n (Observing _) y x = x
  open_was a e r n (Decided _) y x = x

  abbrev Still : Reply Written → Type 0
  Still r = is_open r.after.phase ≡ true → (is_open p.phase ≡ true) × (is_ok r.answer ≡ false)

  closed_by_still : (o : Outcome) (r : Result ℕ Question) → Still (closed_by p o r)
  closed_by_still o (Ok n) x = never x
  closed_by_still o (Err q) x = (x, refl)

  close_still : (place : ℕ) (f : Phase) → Still (closed_at p place len f)
  close_still place Waiting x = (x, refl)
  close_still place (Settling _) x = (x, refl)
  close_still place (Observing _) x = (x, refl)
  close_still place (Decided o) x = closed_by_still o _ x

  was_open : (c : Call) → opens (answer_to m s d len p c) ≡ false → is_open (step m s d len p c).phase ≡ true → (is_open p.phase ≡ true) × (closes (answer_to m s d len p c) ≡ false)
  was_open (Open a e r n) y x = (cond_both (ended d p) (refused p NotEnded) (opened_at p a e r n p.phase) Unopened (λ _ _ z. z) (λ _. open_was a e r n p.phase) y x, refl)
  was_open Level y x = (x, refl)
  was_open (Code c) y x = (cond_both (ended d p) (refused p NotEnded) (coded_at m s d p c p.phase) (λ r. WasOpen r.after) (λ _ z. z) (λ _. code_was c p.phase refl) x, refl)
  was_open Late y x = (cond_both (ended d p) (refused p NotEnded) (late_at m s d p p.phase) (λ r. WasOpen r.after) (λ _ z. z) (λ _. late_was p.phase refl) x, refl)
  was_open (Close place) y x = cond_both (ended d p) (refused p NotEnded) (closed_at p place len p.phase) Still (λ _ z. (z, refl)) (λ _. close_still place p.phase) x

later : (m s : Meaning) (d : Declared) (len : ℕ) (p : Progress) (c : Call) (cs : List Call) → Since m s d len (step m s d len p c) cs → Since m s d len p (c ∷ cs)
later m s d len p c cs w = record {
  before = c ∷ w.before;
  opening = w.opening;
  during = w.during;
  list = ap (λ (xs : List Call). c ∷ xs) w.list;
  opened = w.opened;
  unclosed = w.unclosed;
}

-- the point was opened in the list, or before it and not closed since
abbrev Stood : Meaning → Meaning → Declared → ℕ → Progress → List Call → Type 0
Stood m s d len p cs = Since m s d len p cs ⊎ ((is_open p.phase ≡ true) × (none_closed (answers_to m s d len p cs) ≡ true))

stood_more : (m s : Meaning) (d : Declared) (len : ℕ) (p : Progress) (c : Call) (cs : List Call) → Stood m s d len (step m s d len p c) cs →
    (opens (answer_to m s d len p c) ≡ true) ⊎ (opens (answer_to m s d len p c) ≡ false) → Stood m s d len p (c ∷ cs)
stood_more m s d len p c cs (inl w) _ = inl (later m s d len p c cs w)
stood_more m s d len p c cs (inr y) (inl e) = inl (record { before = []; opening = c; during = cs; list = refl; opened = e; unclosed = y.1 })
stood_more m s d len p c cs (inr y) (inr e) =
    let z = was_open m s d len p c e y.0 in
    inr (z.0, and_from (not (closes (answer_to m s d len p c))) (none_closed (answers_to m s d len (step m s d len p c) cs)) (ap not z.1) y.1)

stood : (m s : Meaning) (d : Declared) (len : ℕ) (p : Progress) (cs : List Call) → is_open (came m s d len p cs).phase ≡ true → Stood m s d len p cs
stood m s d len p [] e = inr (e, refl)
stood m s d len p (c ∷ cs) e = stood_more m s d len p c cs (stood m s d len (step m s d len p c) cs e) (cases_Bool (opens (answer_to m s d len p c)))

within_list : {A B : Type 0} → A ⊎ ((false ≡ true) × B) → A
within_list (inl a) = a
within_list (inr y) = never y.0

pub opened_once : (m s : Meaning) → OpenedOnce m s
opened_once m s d len cs e = within_list (stood m s d len fresh cs e)
