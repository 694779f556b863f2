-- A point is judged by its codes alone: call by call it comes to what the method says of the whole list.
use Rattle.std.proofs.Common.{◌≡◌, ℕ, suc, ◌+◌, Bool, true, false, cond, ◌&&◌, ◌||◌, leb, List, [], ◌∷◌, length, get_or, ℤ, pos, is_some, Some, None, Option, refl, ap, ◌∙◌, add-one, arith}
use Rattle.std.proofs.lemmas.Bool.{le-leb}
use Rattle.method.specs.Meaning.{Meaning}
use Rattle.method.specs.declared.verdict.Verdict.{Verdict}
use Rattle.method.specs.declared.verdict.Verdict.TheVariants.{Fit, Unfit}
use Rattle.control.specs.Settlings.{agree, settled_by, with_code}
use Rattle.control.specs.Statistics.{dominant, quantity_verdict}
use Rattle.control.specs.declared.codes.SettledBy.{SettledBy}
use Rattle.control.specs.declared.codes.SettledBy.TheVariants.{Agreement, LastCode}
use Rattle.point.specs.Ends.{attempt_end, first_full}
use Rattle.point.specs.Levels.{legal_code}
use Rattle.point.specs.Phases.{belated, coded, goes_on, opened, settle_step, settled_to}
use Rattle.point.specs.Trials.{begins, begun, first_on, first_trial, noted, noted_verdict, plan_of}
use Rattle.point.specs.declared.phase.Before.TheVariants.{Nothing, SequenceAlone, QuantityAlone, ShortUnfit}
use Rattle.point.specs.declared.phase.Carried.{Carried}
use Rattle.point.specs.declared.phase.Control.{Control}
use Rattle.point.specs.declared.phase.Control.TheVariants.{Full, Reduced}
use Rattle.point.specs.declared.phase.Course.{Course}
use Rattle.point.specs.declared.phase.Course.TheVariants.{Main, Short}
use Rattle.point.specs.declared.phase.Phase.{Phase}
use Rattle.point.specs.declared.phase.Phase.TheVariants.{Waiting, Settling, Observing, Decided}
use Rattle.point.specs.declared.phase.PlanUsed.{PlanUsed}
use Rattle.point.specs.declared.phase.PlanUsed.TheVariants as used
use Rattle.point.specs.declared.phase.Trial.{Trial}
use Rattle.point.specs.declared.phase.Unsettled.{Unsettled}
use Rattle.point.specs.declared.setting.Setting.{Setting}
use Rattle.runs.proofs.Attempting.{observes, on_codes}
use Rattle.runs.specs.Judged.{Parts, over, codes_in, judged, judged_parts, observed, parted, settles}
use Rattle.runs.specs.declared.call.Call.{Call}
use Rattle.runs.specs.declared.call.Call.TheVariants.{Open, Level, Code, Late, Close}

-- what a call makes of an open point that it does not close
abbrev pub late_to : Meaning → Meaning → Control → Carried → Phase → Phase
late_to m s k h Waiting = Waiting
late_to m s k h (Settling u) = belated m s k h u
late_to m s k h (Observing a) = Observing a
late_to m s k h (Decided o) = Decided o

abbrev pub heard : Meaning → Meaning → Control → Carried → Phase → Call → Phase
heard m s k h f (Open a e r n) = f
heard m s k h f Level = f
heard m s k h f (Code c) = cond (legal_code c) (coded m s k h f c) f
heard m s k h f Late = late_to m s k h f
heard m s k h f (Close place) = f

abbrev pub heard_all : Meaning → Meaning → Control → Carried → Phase → List Call → Phase
heard_all m s k h f [] = f
heard_all m s k h f (c ∷ cs) = heard_all m s k h (heard m s k h f c) cs

-- a point that has settled
abbrev Past : Phase → Type 0
Past Waiting = ⊥
Past (Settling u) = ⊥
Past (Observing a) = Unit {0}
Past (Decided o) = Unit {0}

past_full : (m : Meaning) (a : Trial) (d : Bool) (v q : Verdict) → Past (first_full m a d v q)
past_full m a d Fit Fit = tt
past_full m a d Fit Unfit = tt
past_full m a d Unfit Fit = tt
past_full m a d Unfit Unfit = tt

past_end : (m : Meaning) (k : Control) (d : Bool) (course : Course) (a : Trial) (v : Verdict) → Past (attempt_end m k d course a v)
past_end m k d Short a Fit = tt
past_end m k d Short a Unfit = tt
past_end m Reduced d (Main b) a v = tt
past_end m Full d (Main Nothing) a v = past_full m a (dominant a.tally) v (quantity_verdict a.width a.tally)
past_end m Full d (Main (SequenceAlone n)) a v = tt
past_end m Full d (Main (QuantityAlone n)) a v = tt
past_end m Full d (Main (ShortUnfit n)) a v = tt

past_on : (m : Meaning) (k : Control) (d : Bool) (a : Trial) (v : Option Verdict) → Past (goes_on m k d a v)
past_on m k d a None = tt
past_on m k d a (Some v) = past_end m k d a.course a v

module _ (m s : Meaning) (k : Control) (h : Carried) where
  past_coded : (f : Phase) → Past f → (c : ℤ) → Past (coded m s k h f c)
  past_coded Waiting q c = q
  past_coded (Settling u) q c = absurd q
  past_coded (Observing a) q c =
      past_on m k h.dominance (noted (plan_of m s a.course) a c) (noted_verdict (plan_of m s a.course) a c)
  past_coded (Decided o) q c = tt

  past_late : (f : Phase) → Past f → late_to m s k h f ≡ f
  past_late Waiting q = refl
  past_late (Settling u) q = absurd q
  past_late (Observing a) q = refl
  past_late (Decided o) q = refl

  -- after settling only legal codes have an effect
  only_codes : (f : Phase) → Past f → (cs : List Call) → heard_all m s k h f cs ≡ on_codes m s k h f (codes_in cs)
  only_codes f q [] = refl
  only_codes f q (Open a e r n ∷ cs) = only_codes f q cs
  only_codes f q (Level ∷ cs) = only_codes f q cs
  only_codes f q (Close place ∷ cs) = only_codes f q cs
  only_codes f q (Late ∷ cs) = ap (λ (y : Phase). heard_all m s k h y cs) (past_late f q) ∙ only_codes f q cs
  only_codes f q (Code c ∷ cs) =
      let taken = only_codes (coded m s k h f c) (past_coded f q c) cs in
      let passed = only_codes f q cs in
      elim (legal_code c) as (λ b. heard_all m s k h (cond b (coded m s k h f c) f) cs ≡ on_codes m s k h f (cond b (c ∷ codes_in cs) (codes_in cs)))
      [ true ↦ taken | false ↦ passed ]

  -- a point that has just settled
  first_so : (g : Setting) (n : ℕ) (cs : List ℤ) (u : PlanUsed) →
      on_codes m s k h (Observing (first_on m s h g n u)) cs ≡ observed m s k h.dominance (first_on m s h g n u) cs
  first_so g n cs used.Main = observes m s k h (begun m h.dominance g n (Main Nothing)) cs
  first_so g n cs used.Short = observes m s k h (begun s h.dominance g n Short) cs

  settled_so : (g : Setting) (n : ℕ) (cs : List Call) →
      heard_all m s k h (Observing (first_trial m s k h g n)) cs ≡ observed m s k h.dominance (first_trial m s k h g n) (codes_in cs)
  settled_so g n cs = only_codes (Observing (first_trial m s k h g n)) tt cs ∙ first_so g n (codes_in cs) (begins k h)

  -- a point that settles, with the codes before, the latest first
  abbrev so_far : Setting → List ℤ → Unsettled
  so_far g before = record { setting = g; codes = record { count = length before; last = get_or before 0 (pos 0); previous = get_or before 1 (pos 0) } }

  either : (a b : Bool) → is_some (cond a (Some Agreement) (cond b (Some LastCode) None)) ≡ (b || a)
  either true true = refl
  either true false = refl
  either false true = refl
  either false false = refl

  third : (l : ℕ) (w : Bool) → (leb 200 (suc (suc l) + 1) || (leb 3 (suc (suc l) + 1) && w)) ≡ (leb 200 (suc (suc (suc l))) || w)
  third l w = rw (add-one (suc (suc l))) (ap (λ (b : Bool). leb 200 (suc (suc (suc l))) || (b && w)) (le-leb 3 (suc (suc (suc l))) (omega arith)))

  ends_so : (n : ℕ) (before : List ℤ) (c : ℤ) → is_some (settled_by n (so_far (record { signal = pos 0; meter = 0; reference = 0; agreement = n }) before).codes c) ≡ settles n (c ∷ before)
  ends_so n [] c = refl
  ends_so n (b ∷ []) c = refl
  ends_so n (b ∷ a ∷ cs) c = either (leb 3 (suc (suc (length cs)) + 1) && agree n c b a) (leb 200 (suc (suc (length cs)) + 1)) ∙ third (length cs) (agree n c b a)

  settled_if : (u : Unsettled) (c : ℤ) (r : Option SettledBy) →
      settled_to m s k h u c r ≡ cond (is_some r) (Observing (first_trial m s k h u.setting (u.codes.count + 1))) (Settling (record { setting = u.setting; codes = with_code u.codes c }))
  settled_if u c None = refl
  settled_if u c (Some by) = refl

  -- one settling code more
  settle_so : (g : Setting) (before : List ℤ) (c : ℤ) →
      settle_step m s k h (so_far g before) c
      ≡ cond (settles g.agreement (c ∷ before)) (Observing (first_trial m s k h g (length (c ∷ before)))) (Settling (so_far g (c ∷ before)))
  settle_so g before c =
      let next : Bool → ℕ → Phase = λ b l. cond b (Observing (first_trial m s k h g l)) (Settling (record { setting = g; codes = record { count = l; last = c; previous = get_or before 0 (pos 0) } })) in
      settled_if (so_far g before) c (settled_by g.agreement (so_far g before).codes c)
      ∙ ap (λ (b : Bool). next b (length before + 1)) (ends_so g.agreement before c) ∙ ap (next (settles g.agreement (c ∷ before))) (add-one (length before))

  settles_so : (g : Setting) (before : List ℤ) (cs : List Call) →
      heard_all m s k h (Settling (so_far g before)) cs ≡ judged_parts m s k h g (parted g.agreement before cs)
  settles_so g before [] = refl
  settles_so g before (Open a e r n ∷ cs) = settles_so g before cs
  settles_so g before (Level ∷ cs) = settles_so g before cs
  settles_so g before (Close place ∷ cs) = settles_so g before cs
  settles_so g before (Late ∷ cs) = settled_so g (length before) cs
  settles_so g before (Code c ∷ cs) =
      let more = settles_so g (c ∷ before) cs in
      let same = settles_so g before cs in
      let begun_so = settled_so g (length (c ∷ before)) cs in
      let next : Bool → Phase = λ b. cond b (Observing (first_trial m s k h g (length (c ∷ before)))) (Settling (so_far g (c ∷ before))) in
      let parts : Bool → Parts = λ b. cond b (over (length (c ∷ before)) (codes_in cs)) (parted g.agreement (c ∷ before) cs) in
      let taken : heard_all m s k h (next (settles g.agreement (c ∷ before))) cs ≡ judged_parts m s k h g (parts (settles g.agreement (c ∷ before))) =
      elim (settles g.agreement (c ∷ before)) as (λ b. heard_all m s k h (next b) cs ≡ judged_parts m s k h g (parts b)) [ true ↦ begun_so | false ↦ more ] in
      elim (legal_code c) as (λ b. heard_all m s k h (cond b (settle_step m s k h (so_far g before) c) (Settling (so_far g before))) cs
      ≡ judged_parts m s k h g (cond b (parts (settles g.agreement (c ∷ before))) (parted g.agreement before cs)))
      [ true ↦ ap (λ (f : Phase). heard_all m s k h f cs) (settle_so g before c) ∙ taken | false ↦ same ]

pub judged_so : (m s : Meaning) (k : Control) (h : Carried) (g : Setting) (cs : List Call) → heard_all m s k h (opened g) cs ≡ judged m s k h g cs
judged_so m s k h g cs = settles_so m s k h g [] cs
