-- The codes that a list of calls has had accepted.
use Rattle.std.proofs.Common.{◌≡◌, ℕ, ◌+◌, ◌<◌, ◌≤◌, Bool, true, false, cond, not, leb, List, [], ◌∷◌, ℤ, pos, is_some, is_ok, Some, None, Ok, Err, Option, Result, sym, refl, ap, ◌∙◌, add-zero, add_assoc, arith, lit<, lit≤}
use Rattle.std.proofs.lemmas.Bool.{and_parts, cond_both, false≢true, not-true}
use Rattle.std.proofs.lemmas.Bool.Decides.{nat_tests}
use Rattle.method.specs.Meaning.{Meaning, Ranged}
use Rattle.method.specs.declared.question.Question.{Question}
use Rattle.method.specs.declared.question.Question.TheVariants.{CodeLegal, NotEnded}
use Rattle.method.specs.declared.verdict.Verdict.{Verdict}
use Rattle.method.specs.declared.verdict.Verdict.TheVariants.{Fit, Unfit}
use Rattle.control.specs.Attempts.{verdict_at}
use Rattle.control.specs.Settlings.{settled_by}
use Rattle.control.specs.declared.codes.SettledBy.{SettledBy}
use Rattle.control.specs.declared.codes.SettledBy.TheVariants.{Agreement, LastCode}
use Rattle.point.specs.Bounds.{earlier, is_open, taken, taken_by}
use Rattle.point.specs.Ends.{attempt_end, main_full}
use Rattle.point.specs.Levels.{legal_code}
use Rattle.point.specs.Phases.{coded, goes_on, reached, settled_to}
use Rattle.point.specs.Settings.{as_given, setting_refusal}
use Rattle.point.specs.Trials.{begins, first_on, noted, noted_verdict, plan_of}
use Rattle.point.specs.declared.phase.Before.{Before}
use Rattle.point.specs.declared.phase.Before.TheVariants.{Nothing, SequenceAlone, QuantityAlone, ShortUnfit}
use Rattle.point.specs.declared.phase.Carried.{Carried}
use Rattle.point.specs.declared.phase.Control.{Control}
use Rattle.point.specs.declared.phase.Control.TheVariants.{Full, Reduced}
use Rattle.point.specs.declared.phase.Course.{Course}
use Rattle.point.specs.declared.phase.Course.TheVariants.{Main, Short}
use Rattle.point.specs.declared.phase.Outcome.{Outcome}
use Rattle.point.specs.declared.phase.Phase.{Phase}
use Rattle.point.specs.declared.phase.Phase.TheVariants.{Waiting, Settling, Observing, Decided}
use Rattle.point.specs.declared.phase.PlanUsed.{PlanUsed}
use Rattle.point.specs.declared.phase.PlanUsed.TheVariants as used
use Rattle.point.specs.declared.phase.Trial.{Trial}
use Rattle.point.specs.declared.phase.Unsettled.{Unsettled}
use Rattle.point.specs.declared.setting.Setting.{Setting}
use Rattle.runs.specs.Answers.{accepts_code, closes, codes_accepted, none_closed, opens}
use Rattle.runs.specs.Laws.{Counts, TakesFew, TakesLegal, undecided}
use Rattle.runs.specs.Runs.{answer_to, answers_to, came, step}
use Rattle.runs.specs.declared.call.Call.{Call}
use Rattle.runs.specs.declared.call.Call.TheVariants.{Open, Level, Code, Late, Close}
use Rattle.verification.specs.Calls.{Reply, closed_at, closed_by, coded_at, coded_to, done, fresh, late_at, one_more, opened_at, opened_with, opening, refused}
use Rattle.verification.specs.Ordering.{ended}
use Rattle.verification.specs.declared.written.Written.{Written}
use Rattle.verification.specs.declared.declared.Declared.{Declared}
use Rattle.verification.specs.declared.progress.Progress.{Progress}

pub never : {A : Type 0} → false ≡ true → A
never e = absurd (false≢true e)

abbrev one : {A : Type 0} → Result A Question → ℕ
one r = cond (is_ok r) 1 0

-- Each accepted code raises the count by one, and nothing else changes it.
module _ (p : Progress) where
  abbrev Kept : {A : Type 0} → Reply A → Type 0
  Kept r = r.after.codes ≡ p.codes + 0

  same : p.codes ≡ p.codes + 0
  same = sym (add-zero p.codes)

  open_with_kept : (g : Setting) (q : Option Question) → Kept (opened_with p g q)
  open_with_kept g None = same
  open_with_kept g (Some q) = same

  open_kept : (a e r n : ℤ) (f : Phase) → Kept (opened_at p a e r n f)
  open_kept a e r n Waiting = open_with_kept (as_given a e r n) (setting_refusal a e r n)
  open_kept a e r n (Settling _) = same
  open_kept a e r n (Observing _) = same
  open_kept a e r n (Decided _) = same

  late_kept : (m s : Meaning) (d : Declared) (f : Phase) → Kept (late_at m s d p f)
  late_kept m s d Waiting = same
  late_kept m s d (Settling _) = same
  late_kept m s d (Observing _) = same
  late_kept m s d (Decided _) = same

  closed_by_kept : (o : Outcome) (r : Result ℕ Question) → Kept (closed_by p o r)
  closed_by_kept o (Ok n) = same
  closed_by_kept o (Err q) = same

  close_kept : (place len : ℕ) (f : Phase) → Kept (closed_at p place len f)
  close_kept place len Waiting = same
  close_kept place len (Settling _) = same
  close_kept place len (Observing _) = same
  close_kept place len (Decided o) = closed_by_kept o _

  abbrev Raised : Reply (Option Verdict) → Type 0
  Raised r = r.after.codes ≡ p.codes + one r.answer

  code_to_raised : (c : ℤ) (f : Phase) → Raised (coded_to p c f)
  code_to_raised c f = cond_both (legal_code c) (done (one_more p f) (reached f)) (refused p CodeLegal) Raised (λ _. refl) (λ _. same)

  code_raised : (m s : Meaning) (d : Declared) (c : ℤ) (f : Phase) → Raised (coded_at m s d p c f)
  code_raised m s d c Waiting = same
  code_raised m s d c (Settling u) = code_to_raised c _
  code_raised m s d c (Observing a) = code_to_raised c _
  code_raised m s d c (Decided o) = same

  module _ (m s : Meaning) (d : Declared) (len : ℕ) where
    raised : (c : Call) → (step m s d len p c).codes ≡ p.codes + cond (accepts_code (answer_to m s d len p c)) 1 0
    raised (Open a e r n) = cond_both (ended d p) (refused p NotEnded) (opened_at p a e r n p.phase) (λ x. Kept x) (λ _. same) (λ _. open_kept a e r n p.phase)
    raised Level = same
    raised (Code c) = cond_both (ended d p) (refused p NotEnded) (coded_at m s d p c p.phase) Raised (λ _. same) (λ _. code_raised m s d c p.phase)
    raised Late = cond_both (ended d p) (refused p NotEnded) (late_at m s d p p.phase) (λ x. Kept x) (λ _. same) (λ _. late_kept m s d p.phase)
    raised (Close place) = cond_both (ended d p) (refused p NotEnded) (closed_at p place len p.phase) (λ x. Kept x) (λ _. same) (λ _. close_kept place len p.phase)

total : (m s : Meaning) (d : Declared) (len : ℕ) (p : Progress) (cs : List Call) → (came m s d len p cs).codes ≡ p.codes + codes_accepted (answers_to m s d len p cs)
total m s d len p [] = sym (add-zero p.codes)
total m s d len p (c ∷ cs) =
    let q = step m s d len p c in
    total m s d len q cs ∙ ap (λ (n : ℕ). n + codes_accepted (answers_to m s d len q cs)) (raised p m s d len c)
    ∙ add_assoc p.codes (cond (accepts_code (answer_to m s d len p c)) 1 0) (codes_accepted (answers_to m s d len q cs))

pub zero_plus : (n : ℕ) → 0 + n ≡ n
zero_plus n = omega arith

pub counts : (m s : Meaning) → Counts m s
counts m s d len cs = ap pos (total m s d len fresh cs ∙ zero_plus _)

-- A point is open, and how far it can be.
abbrev pub Small : Phase → Type 0
Small Waiting = ⊥
Small (Settling u) = u.codes.count < 200
Small (Observing a) = (a.settled ≤ 200) × (earlier a.course ≤ 48) × (a.tally.observations < 48)
Small (Decided o) = taken_by o.trial ≤ 296

small_few : (f : Phase) → Small f → taken f ≤ 296
small_few Waiting h = absurd h
small_few (Settling u) h = omega arith
small_few (Observing a) h = omega arith
small_few (Decided o) h = h

-- a phase in which the point has taken n codes
abbrev pub With : ℕ → Phase → Type 0
With n f = Small f × (taken f ≡ n)

first_small : (m s : Meaning) (h : Carried) (g : Setting) (settled : ℕ) (u : PlanUsed) → settled ≤ 200 → With settled (Observing (first_on m s h g settled u))
first_small m s h g settled used.Main l = ((l, lit≤ tt, lit< tt), omega arith)
first_small m s h g settled used.Short l = ((l, lit≤ tt, lit< tt), omega arith)

pub unsettled : (b : Bool) (i : ℕ) → cond b (Some Agreement) (cond (leb 200 i) (Some LastCode) None) ≡ None → i < 200
unsettled b i e = grind (arith, nat_tests)

settle_small : (m s : Meaning) (k : Control) (h : Carried) (u : Unsettled) (c : ℤ) (r : Option SettledBy) → (r ≡ None → u.codes.count + 1 < 200) → u.codes.count < 200 →
    With (u.codes.count + 1) (settled_to m s k h u c r)
settle_small m s k h u c None e l = (e refl, refl)
settle_small m s k h u c (Some by) e l = first_small m s h u.setting (u.codes.count + 1) (begins k h) (omega arith)

-- An attempt that goes on has not come to the cut.
pub early : (p : Meaning) → Ranged p → (i x : ℕ) (ok : Bool) → verdict_at p i x ok ≡ None → i < 48
early p r i x ok e = grind (arith, nat_tests, r.cut_high)

-- the end of an attempt
module _ (m : Meaning) (b : Trial) (l : b.settled ≤ 200) (j : earlier b.course ≤ 48) (n : b.tally.observations ≤ 48) where
  abbrev EndsSmall : Phase → Type 0
  EndsSmall f = With (taken_by b) f

  decided_small : taken_by b ≤ 296
  decided_small = omega arith

  full_small : (x : Before) (dominance : Bool) (v q : Verdict) → b.course ≡ Main x → EndsSmall (main_full m x b dominance v q)
  full_small Nothing dominance Fit Fit e = (decided_small, refl)
  full_small Nothing dominance Fit Unfit e = ((l, n, lit< tt), omega (arith, ap earlier e))
  full_small Nothing dominance Unfit Fit e = ((l, n, lit< tt), omega (arith, ap earlier e))
  full_small Nothing dominance Unfit Unfit e = (decided_small, refl)
  full_small (SequenceAlone _) dominance v q e = (decided_small, refl)
  full_small (QuantityAlone _) dominance v q e = (decided_small, refl)
  full_small (ShortUnfit _) dominance v q e = (decided_small, refl)

  end_small : (k : Control) (dominance : Bool) (c : Course) (v : Verdict) → b.course ≡ c → EndsSmall (attempt_end m k dominance c b v)
  end_small Full dominance (Main x) v e = full_small x _ v _ e
  end_small Reduced dominance (Main x) v e = (decided_small, refl)
  end_small k dominance Short Fit e = (decided_small, refl)
  end_small k dominance Short Unfit e = ((l, n, lit< tt), omega (arith, ap earlier e))

  goes_small : (k : Control) (dominance : Bool) (v : Option Verdict) → (v ≡ None → b.tally.observations < 48) → EndsSmall (goes_on m k dominance b v)
  goes_small k dominance None e = ((l, j, e refl), refl)
  goes_small k dominance (Some v) e = end_small k dominance b.course v refl

pub ranged_of : (m s : Meaning) → Ranged m → Ranged s → (c : Course) → Ranged (plan_of m s c)
ranged_of m s rm rs (Main b) = rm
ranged_of m s rm rs Short = rs

module _ (m s : Meaning) (rm : Ranged m) (rs : Ranged s) (k : Control) (h : Carried) where
  settling_small : (u : Unsettled) (c : ℤ) → u.codes.count < 200 → With (u.codes.count + 1) (coded m s k h (Settling u) c)
  settling_small u c l = settle_small m s k h u c (settled_by u.setting.agreement u.codes c) (unsettled _ (u.codes.count + 1)) l

  observing_small : (a : Trial) (c : ℤ) → Small (Observing a) → With (taken_by a + 1) (coded m s k h (Observing a) c)
  observing_small a c x =
      let plan : Meaning = plan_of m s a.course in
      let b : Trial = noted plan a c in
      let y = goes_small m b x.0 x.1 (omega arith) k h.dominance (noted_verdict plan a c) (early plan (ranged_of m s rm rs a.course) _ _ _) in
      (y.0, y.1 ∙ sym (add_assoc (a.settled + earlier a.course) a.tally.observations 1))

-- A call at an open point that does not close it: the point stays open, and has taken one code more exactly if one was accepted.
module _ (m s : Meaning) (rm : Ranged m) (rs : Ranged s) (d : Declared) (len : ℕ) (p : Progress) (small : Small p.phase) where
  abbrev pub Stays : ℕ → Progress → Type 0
  Stays n q = With (taken p.phase + n) q.phase

  itself : Stays 0 p
  itself = (small, sym (add-zero (taken p.phase)))

  open_stays : (a e r n : ℤ) (f : Phase) → Small f → Stays 0 (opened_at p a e r n f).after
  open_stays a e r n Waiting x = absurd x
  open_stays a e r n (Settling _) x = itself
  open_stays a e r n (Observing _) x = itself
  open_stays a e r n (Decided _) x = itself

  abbrev CodedStays : Reply (Option Verdict) → Type 0
  CodedStays r = Stays (one r.answer) r.after

  code_to_stays : (c : ℤ) (f : Phase) → With (taken p.phase + 1) f → CodedStays (coded_to p c f)
  code_to_stays c f x = cond_both (legal_code c) (done (one_more p f) (reached f)) (refused p CodeLegal) CodedStays (λ _. x) (λ _. itself)

  more : (f : Phase) → p.phase ≡ f → (n : ℕ) → taken f ≡ n → (g : Phase) → With (n + 1) g → With (taken p.phase + 1) g
  more f e n t g x = (x.0, x.1 ∙ ap (λ (y : ℕ). y + 1) (sym (ap taken e ∙ t)))

  code_stays : (c : ℤ) (f : Phase) → p.phase ≡ f → Small f → CodedStays (coded_at m s d p c f)
  code_stays c Waiting e x = absurd x
  code_stays c (Settling u) e x = code_to_stays c _ (more (Settling u) e _ refl _ (settling_small m s rm rs d.control p.carried u c x))
  code_stays c (Observing a) e x = code_to_stays c _ (more (Observing a) e _ refl _ (observing_small m s rm rs d.control p.carried a c x))
  code_stays c (Decided _) e x = itself

  late_stays : (f : Phase) → p.phase ≡ f → Small f → Stays 0 (late_at m s d p f).after
  late_stays Waiting e x = absurd x
  late_stays (Settling u) e x =
      let y = first_small m s p.carried u.setting u.codes.count (begins d.control p.carried) (omega arith) in
      (y.0, y.1 ∙ sym (ap taken e) ∙ sym (add-zero (taken p.phase)))
  late_stays (Observing _) e x = itself
  late_stays (Decided _) e x = itself

  abbrev UnlessClosed : Reply Written → Type 0
  UnlessClosed r = is_ok r.answer ≡ false → Stays 0 r.after

  closed_by_stays : (o : Outcome) (r : Result ℕ Question) → UnlessClosed (closed_by p o r)
  closed_by_stays o (Ok n) e = never (sym e)
  closed_by_stays o (Err q) e = itself

  close_stays : (place : ℕ) (f : Phase) → UnlessClosed (closed_at p place len f)
  close_stays place Waiting e = itself
  close_stays place (Settling _) e = itself
  close_stays place (Observing _) e = itself
  close_stays place (Decided o) e = closed_by_stays o _ e

  pub stays : (c : Call) → closes (answer_to m s d len p c) ≡ false → Stays (cond (accepts_code (answer_to m s d len p c)) 1 0) (step m s d len p c)
  stays (Open a e r n) x = cond_both (ended d p) (refused p NotEnded) (opened_at p a e r n p.phase) (λ y. Stays 0 y.after) (λ _. itself) (λ _. open_stays a e r n p.phase small)
  stays Level x = itself
  stays (Code c) x = cond_both (ended d p) (refused p NotEnded) (coded_at m s d p c p.phase) CodedStays (λ _. itself) (λ _. code_stays c p.phase refl small)
  stays Late x = cond_both (ended d p) (refused p NotEnded) (late_at m s d p p.phase) (λ y. Stays 0 y.after) (λ _. itself) (λ _. late_stays p.phase refl small)
  stays (Close place) x = cond_both (ended d p) (refused p NotEnded) (closed_at p place len p.phase) UnlessClosed (λ _ _. itself) (λ _. close_stays place p.phase) x

during_few : (m s : Meaning) → Ranged m → Ranged s → (d : Declared) (len : ℕ) (p : Progress) (cs : List Call) → Small p.phase →
    none_closed (answers_to m s d len p cs) ≡ true → taken p.phase + codes_accepted (answers_to m s d len p cs) ≤ 296
during_few m s rm rs d len p [] x e = omega (arith, small_few p.phase x)
during_few m s rm rs d len p (c ∷ cs) x e =
    let parts = and_parts (not (closes (answer_to m s d len p c))) (none_closed (answers_to m s d len (step m s d len p c) cs)) e in
    let y = stays m s rm rs d len p x c (not-true (closes (answer_to m s d len p c)) parts.0) in
    let z = during_few m s rm rs d len (step m s d len p c) cs y.0 parts.1 in
    omega (arith, y.1, z)

-- an accepted opening opens a point that has taken no code
abbrev Begins : Reply (Unit {0}) → Type 0
Begins r = is_ok r.answer ≡ true → With 0 r.after.phase

module _ (p : Progress) where
  begins_with : (g : Setting) (q : Option Question) → Begins (opened_with p g q)
  begins_with g None e = (lit< tt, refl)
  begins_with g (Some q) e = never e

  begins_at : (a e r n : ℤ) (f : Phase) → Begins (opened_at p a e r n f)
  begins_at a e r n Waiting x = begins_with (as_given a e r n) (setting_refusal a e r n) x
  begins_at a e r n (Settling _) x = never x
  begins_at a e r n (Observing _) x = never x
  begins_at a e r n (Decided _) x = never x

  pub begins_point : (m s : Meaning) (d : Declared) (len : ℕ) (c : Call) → opens (answer_to m s d len p c) ≡ true → With 0 (step m s d len p c).phase
  begins_point m s d len (Open a e r n) x = cond_both (ended d p) (refused p NotEnded) (opened_at p a e r n p.phase) Begins (λ _. never) (λ _. begins_at a e r n p.phase) x
  begins_point m s d len Level x = never x
  begins_point m s d len (Code c) x = never x
  begins_point m s d len Late x = never x
  begins_point m s d len (Close place) x = never x

pub takes_few : (m s : Meaning) → Ranged m → Ranged s → TakesFew m s
takes_few m s rm rs d len before opening during x y =
    let p = came m s d len fresh before in
    let w = begins_point p m s d len opening x in
    omega (arith, w.1, during_few m s rm rs d len (step m s d len p opening) during w.0 y)

-- A point is open only in a verification that has not ended.
abbrev Live : Declared → Progress → Type 0
Live d p = is_open p.phase ≡ true → ended d p ≡ false

module _ (d : Declared) (p : Progress) (live : Live d p) where
  open_with_live : ended d p ≡ false → (g : Setting) (q : Option Question) → Live d (opened_with p g q).after
  open_with_live e g None = λ _. e
  open_with_live e g (Some q) = live

  open_live : ended d p ≡ false → (a x r n : ℤ) (f : Phase) → Live d (opened_at p a x r n f).after
  open_live e a x r n Waiting = open_with_live e (as_given a x r n) (setting_refusal a x r n)
  open_live e a x r n (Settling _) = live
  open_live e a x r n (Observing _) = live
  open_live e a x r n (Decided _) = live

  code_to_live : ended d p ≡ false → (c : ℤ) (f : Phase) → Live d (coded_to p c f).after
  code_to_live e c f = cond_both (legal_code c) (done (one_more p f) (reached f)) (refused p CodeLegal) (λ r. Live d r.after) (λ _ _. e) (λ _. live)

  code_live : ended d p ≡ false → (m s : Meaning) (c : ℤ) (f : Phase) → Live d (coded_at m s d p c f).after
  code_live e m s c Waiting = live
  code_live e m s c (Settling _) = code_to_live e c _
  code_live e m s c (Observing _) = code_to_live e c _
  code_live e m s c (Decided _) = live

  late_live : ended d p ≡ false → (m s : Meaning) (f : Phase) → Live d (late_at m s d p f).after
  late_live e m s Waiting = live
  late_live e m s (Settling _) = λ _. e
  late_live e m s (Observing _) = live
  late_live e m s (Decided _) = live

  closed_by_live : (o : Outcome) (r : Result ℕ Question) → Live d (closed_by p o r).after
  closed_by_live o (Ok n) = never
  closed_by_live o (Err q) = live

  close_live : (place len : ℕ) (f : Phase) → Live d (closed_at p place len f).after
  close_live place len Waiting = live
  close_live place len (Settling _) = live
  close_live place len (Observing _) = live
  close_live place len (Decided o) = closed_by_live o _

  module _ (m s : Meaning) (len : ℕ) where
    step_live : (c : Call) → Live d (step m s d len p c)
    step_live (Open a x r n) = cond_both (ended d p) (refused p NotEnded) (opened_at p a x r n p.phase) (λ y. Live d y.after) (λ _. live) (λ e. open_live e a x r n p.phase)
    step_live Level = live
    step_live (Code c) = cond_both (ended d p) (refused p NotEnded) (coded_at m s d p c p.phase) (λ y. Live d y.after) (λ _. live) (λ e. code_live e m s c p.phase)
    step_live Late = cond_both (ended d p) (refused p NotEnded) (late_at m s d p p.phase) (λ y. Live d y.after) (λ _. live) (λ e. late_live e m s p.phase)
    step_live (Close place) = cond_both (ended d p) (refused p NotEnded) (closed_at p place len p.phase) (λ y. Live d y.after) (λ _. live) (λ _. close_live place len p.phase)

came_live : (m s : Meaning) (d : Declared) (len : ℕ) (p : Progress) (cs : List Call) → Live d p → Live d (came m s d len p cs)
came_live m s d len p [] h = h
came_live m s d len p (c ∷ cs) h = came_live m s d len (step m s d len p c) cs (step_live d p h m s len c)

accepts_at : (m s : Meaning) (d : Declared) (p : Progress) (c : ℤ) (f : Phase) → undecided f ≡ true → legal_code c ≡ true → is_ok (coded_at m s d p c f).answer ≡ true
accepts_at m s d p c Waiting u l = never u
accepts_at m s d p c (Settling x) u l = ap (λ (b : Bool). is_ok (cond b (done (one_more p (coded m s d.control p.carried (Settling x) c)) (reached (coded m s d.control p.carried (Settling x) c))) (refused p CodeLegal)).answer) l
accepts_at m s d p c (Observing x) u l = ap (λ (b : Bool). is_ok (cond b (done (one_more p (coded m s d.control p.carried (Observing x) c)) (reached (coded m s d.control p.carried (Observing x) c))) (refused p CodeLegal)).answer) l
accepts_at m s d p c (Decided _) u l = never u

pub takes_legal : (m s : Meaning) → TakesLegal m s
takes_legal m s d len cs c u l =
    let p = came m s d len fresh cs in
    let going : ended d p ≡ false = came_live m s d len fresh cs never (and_parts (is_open p.phase) (not (is_some (reached p.phase))) u).0 in
    ap (λ (b : Bool). is_ok (cond b (refused p NotEnded) (coded_at m s d p c p.phase)).answer) going ∙ accepts_at m s d p c p.phase u l
