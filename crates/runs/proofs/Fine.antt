-- An open point's numbers are such that its record can be written, whatever calls led there.
use Rattle.std.proofs.Common.{◌≡◌, ℕ, ◌+◌, ◌-◌, ◌*◌, ◌<◌, ◌≤◌, Bool, true, false, cond, ℤ, ◌+ℤ◌, nat_abs, Some, None, Ok, Err, Option, Result, refl, arith, lit<, lit≤}
use Rattle.std.proofs.lemmas.Nat.{mul-le}
use Rattle.std.proofs.lemmas.Int.{ints}
use Rattle.std.proofs.lemmas.Bool.{cond_both}
use Rattle.std.proofs.lemmas.Bool.Decides.{nat_tests}
use Rattle.method.specs.Meaning.{Meaning, Ranged}
use Rattle.method.specs.declared.question.Question.{Question}
use Rattle.method.specs.declared.question.Question.TheVariants.{CodeLegal, NotEnded}
use Rattle.method.specs.declared.verdict.Verdict.{Verdict}
use Rattle.method.specs.declared.verdict.Verdict.TheVariants.{Fit, Unfit}
use Rattle.control.specs.Attempts.{Sound, added}
use Rattle.control.specs.Errors.{counted}
use Rattle.control.specs.Settlings.{settled_by}
use Rattle.control.specs.Tolerances.{Permits, coefficient, in_tolerance}
use Rattle.control.specs.declared.codes.SettledBy.{SettledBy}
use Rattle.control.specs.declared.distribution.Distribution.{Distribution}
use Rattle.control.specs.declared.distribution.Distribution.TheVariants.{Trapezoid, Uniform}
use Rattle.control.specs.declared.tally.Tally.{Tally}
use Rattle.point.specs.Bounds.{Set, Within, earlier}
use Rattle.point.specs.Ends.{attempt_end, main_full}
use Rattle.point.specs.Levels.{legal_code}
use Rattle.point.specs.Phases.{coded, goes_on, reached, settled_to}
use Rattle.point.specs.Settings.{as_given, setting_refusal}
use Rattle.point.specs.Trials.{begins, begun, coming_error, distribution, first_on, noted, noted_verdict, plan_of}
use Rattle.point.specs.declared.phase.Before.{Before}
use Rattle.point.specs.declared.phase.Before.TheVariants.{Nothing, SequenceAlone, QuantityAlone, ShortUnfit}
use Rattle.point.specs.declared.phase.Carried.{Carried}
use Rattle.point.specs.declared.phase.Control.{Control}
use Rattle.point.specs.declared.phase.Control.TheVariants.{Full, Reduced}
use Rattle.point.specs.declared.phase.Course.{Course}
use Rattle.point.specs.declared.phase.Course.TheVariants.{Main, Short}
use Rattle.point.specs.declared.phase.Outcome.{Outcome}
use Rattle.point.specs.declared.phase.Phase.{Phase}
use Rattle.point.specs.declared.phase.Phase.TheVariants.{Waiting, Settling, Observing, Decided}
use Rattle.point.specs.declared.phase.PlanUsed.{PlanUsed}
use Rattle.point.specs.declared.phase.PlanUsed.TheVariants as used
use Rattle.point.specs.declared.phase.Trial.{Trial}
use Rattle.point.specs.declared.phase.Unsettled.{Unsettled}
use Rattle.point.specs.declared.setting.Setting.{Setting}
use Rattle.runs.proofs.Counting.{early, ranged_of, unsettled}
use Rattle.runs.specs.Runs.{step}
use Rattle.runs.specs.declared.call.Call.{Call}
use Rattle.runs.specs.declared.call.Call.TheVariants.{Open, Level, Code, Late, Close}
use Rattle.verification.specs.Calls.{closed_at, closed_by, coded_at, coded_to, done, late_at, one_more, opened_at, opened_with, refused}
use Rattle.verification.specs.Ordering.{ended}
use Rattle.verification.specs.declared.declared.Declared.{Declared}
use Rattle.verification.specs.declared.progress.Progress.{Progress}

-- the numbers of a phase are in their ranges
abbrev pub Fine : Phase → Type 0
Fine Waiting = Unit {0}
Fine (Settling u) = Set u.setting × (u.codes.count < 200)
Fine (Observing a) = Within a × (a.tally.observations < 48)
Fine (Decided o) = Within o.trial × (1 ≤ o.trial.tally.observations)

asked_fine : (a m e n : ℤ) → setting_refusal a m e n ≡ None → Set (as_given a m e n)
asked_fine a m e n h = (grind (arith, ints, nat_tests), (grind (arith, ints, nat_tests), grind (arith, ints, nat_tests), grind (arith, ints, nat_tests)), grind (arith, ints, nat_tests))

-- one error more
counted_small : (e : ℤ) → nat_abs (counted e) ≤ 2000
counted_small e = grind (arith, ints, nat_tests)

sum_small : (s c : ℤ) (n : ℕ) → nat_abs s ≤ 2000 * n → nat_abs c ≤ 2000 → nat_abs (s +ℤ c) ≤ 2000 * (n + 1)
sum_small s c n h k = grind (arith, ints)

outs_few : (x n : ℕ) (ok : Bool) → x ≤ n → x + cond ok 0 1 ≤ n + 1
outs_few x n true h = omega arith
outs_few x n false h = omega arith

sound_more : (t : Tally) (ok : Bool) (e : ℤ) → Sound t → t.observations < 48 → Sound (added t (t.outs + cond ok 0 1) e)
sound_more t ok e s l =
    let c = counted_small e in
    let q = mul-le (nat_abs (counted e)) (nat_abs (counted e)) 2000 2000 c c in
    (omega arith, outs_few t.outs t.observations ok s.1, sum_small t.sum (counted e) t.observations s.2 c, omega (arith, q, s.3))

-- a tolerance
k_small : (p : Meaning) → Ranged p → (k : Distribution) → coefficient p k ≤ 9999
k_small p r Trapezoid = r.trapezoid_high
k_small p r Uniform = r.uniform_high

width_fine : (k m e : ℕ) → k ≤ 9999 → Permits m e → (1 ≤ 10000 * m - k * e) × (10000 * m - k * e ≤ 10000000)
width_fine k m e h p = let q = mul-le k e 9999 m h p.2 in (omega (arith, q, p.0), omega (arith, p.1))

begun_fine : (p : Meaning) → Ranged p → (dominance : Bool) (g : Setting) (settled : ℕ) (c : Course) → Set g → settled ≤ 200 → earlier c ≤ 48 → Fine (Observing (begun p dominance g settled c))
begun_fine p r dominance g settled c x l j =
    let w = width_fine (coefficient p (distribution dominance)) g.meter g.reference (k_small p r (distribution dominance)) x.1 in
    ((x, l, j, w.0, w.1, (lit≤ tt, lit≤ tt, lit≤ tt, lit≤ tt)), lit< tt)

first_fine : (m s : Meaning) → Ranged m → Ranged s → (h : Carried) (g : Setting) (settled : ℕ) (u : PlanUsed) → Set g → settled ≤ 200 → Fine (Observing (first_on m s h g settled u))
first_fine m s rm rs h g settled used.Main x l = begun_fine m rm h.dominance g settled (Main Nothing) x l (lit≤ tt)
first_fine m s rm rs h g settled used.Short x l = begun_fine s rs h.dominance g settled Short x l (lit≤ tt)

settle_fine : (m s : Meaning) → Ranged m → Ranged s → (k : Control) (h : Carried) (u : Unsettled) (c : ℤ) (r : Option SettledBy) → (r ≡ None → u.codes.count + 1 < 200) → Fine (Settling u) → Fine (settled_to m s k h u c r)
settle_fine m s rm rs k h u c None e x = (x.0, e refl)
settle_fine m s rm rs k h u c (Some by) e x = first_fine m s rm rs h u.setting (u.codes.count + 1) (begins k h) x.0 (omega (arith, x.1))

-- the end of an attempt
module _ (m : Meaning) (rm : Ranged m) (b : Trial) (w : Within b) (some : 1 ≤ b.tally.observations) where
  again : (dominance : Bool) (x : Before) → earlier (Main x) ≤ 48 → Fine (Observing (begun m dominance b.setting b.settled (Main x)))
  again dominance x j = begun_fine m rm dominance b.setting b.settled (Main x) w.0 w.1 j

  full_fine : (x : Before) (dominance : Bool) (v q : Verdict) → Fine (main_full m x b dominance v q)
  full_fine Nothing dominance Fit Fit = (w, some)
  full_fine Nothing dominance Fit Unfit = again dominance (SequenceAlone b.tally.observations) w.5.0
  full_fine Nothing dominance Unfit Fit = again dominance (QuantityAlone b.tally.observations) w.5.0
  full_fine Nothing dominance Unfit Unfit = (w, some)
  full_fine (SequenceAlone _) dominance v q = (w, some)
  full_fine (QuantityAlone _) dominance v q = (w, some)
  full_fine (ShortUnfit _) dominance v q = (w, some)

  end_fine : (k : Control) (dominance : Bool) (c : Course) (v : Verdict) → Fine (attempt_end m k dominance c b v)
  end_fine Full dominance (Main x) v = full_fine x _ v _
  end_fine Reduced dominance (Main x) v = (w, some)
  end_fine k dominance Short Fit = (w, some)
  end_fine k dominance Short Unfit = again dominance (ShortUnfit b.tally.observations) w.5.0

  goes_fine : (k : Control) (dominance : Bool) (v : Option Verdict) → (v ≡ None → b.tally.observations < 48) → Fine (goes_on m k dominance b v)
  goes_fine k dominance None e = (w, e refl)
  goes_fine k dominance (Some v) e = end_fine k dominance b.course v

module _ (m s : Meaning) (rm : Ranged m) (rs : Ranged s) (k : Control) (h : Carried) where
  settling_fine : (u : Unsettled) (c : ℤ) → Fine (Settling u) → Fine (coded m s k h (Settling u) c)
  settling_fine u c x = settle_fine m s rm rs k h u c (settled_by u.setting.agreement u.codes c) (unsettled _ (u.codes.count + 1)) x

  observing_fine : (a : Trial) (c : ℤ) → Fine (Observing a) → Fine (coded m s k h (Observing a) c)
  observing_fine a c x =
      let plan : Meaning = plan_of m s a.course in
      let e : ℤ = coming_error plan a c in
      let b : Trial = noted plan a c in
      let w : Within a = x.0 in
      let t : Sound b.tally = sound_more a.tally (in_tolerance plan.margin a.width e) e w.5 x.1 in
      goes_fine m rm b (w.0, w.1, w.2, w.3, w.4, t) (omega arith) k h.dominance (noted_verdict plan a c) (early plan (ranged_of m s rm rs a.course) _ _ _)

-- a call keeps it
module _ (m s : Meaning) (rm : Ranged m) (rs : Ranged s) (d : Declared) (len : ℕ) (p : Progress) (fine : Fine p.phase) where
  open_with_fine : (a e r n : ℤ) (q : Option Question) → (q ≡ None → Set (as_given a e r n)) → Fine (opened_with p (as_given a e r n) q).after.phase
  open_with_fine a e r n None h = (h refl, lit< tt)
  open_with_fine a e r n (Some q) h = fine

  open_fine : (a e r n : ℤ) (f : Phase) → Fine (opened_at p a e r n f).after.phase
  open_fine a e r n Waiting = open_with_fine a e r n (setting_refusal a e r n) (asked_fine a e r n)
  open_fine a e r n (Settling _) = fine
  open_fine a e r n (Observing _) = fine
  open_fine a e r n (Decided _) = fine

  code_to_fine : (c : ℤ) (f : Phase) → Fine f → Fine (coded_to p c f).after.phase
  code_to_fine c f x = cond_both (legal_code c) (done (one_more p f) (reached f)) (refused p CodeLegal) (λ y. Fine y.after.phase) (λ _. x) (λ _. fine)

  code_fine : (c : ℤ) (f : Phase) → Fine f → Fine (coded_at m s d p c f).after.phase
  code_fine c Waiting x = fine
  code_fine c (Settling u) x = code_to_fine c _ (settling_fine m s rm rs d.control p.carried u c x)
  code_fine c (Observing a) x = code_to_fine c _ (observing_fine m s rm rs d.control p.carried a c x)
  code_fine c (Decided _) x = fine

  late_fine : (f : Phase) → Fine f → Fine (late_at m s d p f).after.phase
  late_fine Waiting x = fine
  late_fine (Settling u) x = first_fine m s rm rs p.carried u.setting u.codes.count (begins d.control p.carried) x.0 (omega (arith, x.1))
  late_fine (Observing _) x = fine
  late_fine (Decided _) x = fine

  closed_by_fine : (o : Outcome) (r : Result ℕ Question) → Fine (closed_by p o r).after.phase
  closed_by_fine o (Ok n) = tt
  closed_by_fine o (Err q) = fine

  close_fine : (place : ℕ) (f : Phase) → Fine (closed_at p place len f).after.phase
  close_fine place Waiting = fine
  close_fine place (Settling _) = fine
  close_fine place (Observing _) = fine
  close_fine place (Decided o) = closed_by_fine o _

  pub step_fine : (c : Call) → Fine (step m s d len p c).phase
  step_fine (Open a e r n) = cond_both (ended d p) (refused p NotEnded) (opened_at p a e r n p.phase) (λ y. Fine y.after.phase) (λ _. fine) (λ _. open_fine a e r n p.phase)
  step_fine Level = fine
  step_fine (Code c) = cond_both (ended d p) (refused p NotEnded) (coded_at m s d p c p.phase) (λ y. Fine y.after.phase) (λ _. fine) (λ _. code_fine c p.phase fine)
  step_fine Late = cond_both (ended d p) (refused p NotEnded) (late_at m s d p p.phase) (λ y. Fine y.after.phase) (λ _. fine) (λ _. late_fine p.phase fine)
  step_fine (Close place) = cond_both (ended d p) (refused p NotEnded) (closed_at p place len p.phase) (λ y. Fine y.after.phase) (λ _. fine) (λ _. close_fine place p.phase)
