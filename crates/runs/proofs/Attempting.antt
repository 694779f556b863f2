-- An attempt, code by code, comes to what its codes say.
use Rattle.std.proofs.Common.{◌≡◌, ℕ, suc, ◌+◌, Bool, cond, List, [], ◌∷◌, ◌++◌, take, drop, ℤ, Some, None, Option, sym, refl, ap, ◌∙◌, append_assoc, append-nil, zero-add, arith}
use Rattle.method.specs.Meaning.{Meaning}
use Rattle.method.specs.declared.verdict.Verdict.{Verdict}
use Rattle.method.specs.declared.verdict.Verdict.TheVariants.{Fit, Unfit}
use Rattle.control.proofs.TallySteps.{tally_push}
use Rattle.control.specs.Attempts.{none_yet, tally_after, verdict_at}
use Rattle.control.specs.Sequences.{or_later, run}
use Rattle.control.specs.Statistics.{dominant, quantity_verdict}
use Rattle.control.specs.Tallies.{tally_of}
use Rattle.control.specs.Tolerances.{in_tolerance}
use Rattle.control.specs.declared.ending.Ending.{Ending}
use Rattle.control.specs.declared.tally.Tally.{Tally}
use Rattle.point.specs.Ends.{attempt_end, first_full}
use Rattle.point.specs.Phases.{coded, goes_on}
use Rattle.point.specs.Trials.{begun, coming_error, noted, noted_verdict, plan_of, with_tally}
use Rattle.point.specs.declared.phase.Before.{Before}
use Rattle.point.specs.declared.phase.Before.TheVariants.{Nothing, SequenceAlone, QuantityAlone, ShortUnfit}
use Rattle.point.specs.declared.phase.Carried.{Carried}
use Rattle.point.specs.declared.phase.Control.{Control}
use Rattle.point.specs.declared.phase.Control.TheVariants.{Full, Reduced}
use Rattle.point.specs.declared.phase.Course.{Course}
use Rattle.point.specs.declared.phase.Course.TheVariants.{Main, Short}
use Rattle.point.specs.declared.phase.Outcome.{Outcome}
use Rattle.point.specs.declared.phase.Phase.{Phase}
use Rattle.point.specs.declared.phase.Phase.TheVariants.{Observing, Decided}
use Rattle.point.specs.declared.phase.Trial.{Trial}
use Rattle.point.specs.declared.setting.Setting.{Setting}
use Rattle.runs.specs.Judged.{Attempted, going, ended, attempted, ended_by, errors, first_attempt, last_attempt, observed, then_second}

-- numbers t, and then the errors
abbrev plus : Meaning → ℕ → Tally → List ℤ → Tally
plus p d t [] = t
plus p d t (e ∷ es) = plus p d (tally_after p d t e) es

plus_so : (p : Meaning) (d : ℕ) (fs es : List ℤ) → plus p d (tally_of p d fs) es ≡ tally_of p d (fs ++ es)
plus_so p d fs [] = ap (tally_of p d) (sym (append-nil fs))
plus_so p d fs (e ∷ es) =
    ap (λ (t : Tally). plus p d t es) (sym (tally_push p d fs e)) ∙ plus_so p d (fs ++ (e ∷ [])) es ∙ ap (tally_of p d) (append_assoc fs (e ∷ []) es)

plus_first : (p : Meaning) (d : ℕ) (es : List ℤ) → plus p d none_yet es ≡ tally_of p d es
plus_first p d es = plus_so p d [] es

-- where a sequence ends, counted from where it stands: after one more observation and j others
data Ahead : Type 0 where
  open_end : Ahead
  ends_after : Verdict → ℕ → Ahead

abbrev or_on : Option Verdict → Ahead → Ahead
or_on (Some v) r = ends_after v 0
or_on None open_end = open_end
or_on None (ends_after v j) = ends_after v (suc j)

abbrev ahead : Meaning → ℕ → ℕ → ℕ → List ℤ → Ahead
ahead p d n x [] = open_end
ahead p d n x (e ∷ es) =
    or_on (verdict_at p (n + 1) (x + cond (in_tolerance p.margin d e) 0 1) (in_tolerance p.margin d e))
    (ahead p d (n + 1) (x + cond (in_tolerance p.margin d e) 0 1) es)

abbrev from : ℕ → Ahead → Option Ending
from n open_end = None
from n (ends_after v j) = Some (record { verdict = v; at = n + suc j })

from_on : (v : Option Verdict) (n : ℕ) (r : Ahead) → or_later v (n + 1) (from (n + 1) r) ≡ from n (or_on v r)
from_on (Some v) n r = refl
from_on None n open_end = refl
from_on None n (ends_after v j) = ap (λ (y : ℕ). Some (record { verdict = v; at = y })) (omega arith)

run_ahead : (p : Meaning) (d n x : ℕ) (es : List ℤ) → run p d n x es ≡ from n (ahead p d n x es)
run_ahead p d n x [] = refl
run_ahead p d n x (e ∷ es) =
    let ok : Bool = in_tolerance p.margin d e in
    let y : ℕ = x + cond ok 0 1 in
    ap (or_later (verdict_at p (n + 1) y ok) (n + 1)) (run_ahead p d (n + 1) y es)
    ∙ from_on (verdict_at p (n + 1) y ok) n (ahead p d (n + 1) y es)

-- codes one after another
abbrev pub on_codes : Meaning → Meaning → Control → Carried → Phase → List ℤ → Phase
on_codes m s k h f [] = f
on_codes m s k h f (c ∷ cs) = on_codes m s k h (coded m s k h f c) cs

module _ (m s : Meaning) (k : Control) (h : Carried) where
  pub stays : (o : Outcome) (cs : List ℤ) → on_codes m s k h (Decided o) cs ≡ Decided o
  stays o [] = refl
  stays o (c ∷ cs) = stays o cs

  abbrev ending : Trial → Tally → Verdict → Phase
  ending a t v = attempt_end m k h.dominance a.course (with_tally a t) v

  -- where an attempt comes to that has the errors es of the codes cs ahead
  abbrev land : Meaning → Trial → List ℤ → List ℤ → Ahead → Phase
  land p a es cs open_end = Observing (with_tally a (plus p a.width a.tally es))
  land p a es cs (ends_after v j) = on_codes m s k h (ending a (plus p a.width a.tally (take (suc j) es)) v) (drop (suc j) cs)

  -- one observation more that does not end it
  land_on : (p : Meaning) (a : Trial) (c : ℤ) (es cs : List ℤ) (r : Ahead) →
      land p (noted p a c) es cs r ≡ land p a (coming_error p a c ∷ es) (c ∷ cs) (or_on None r)
  land_on p a c es cs open_end = refl
  land_on p a c es cs (ends_after v j) = refl

  abbrev course_plan : Trial → Meaning
  course_plan a = plan_of m s a.course

  abbrev ahead_of : Trial → List ℤ → Ahead
  ahead_of a cs = ahead (course_plan a) a.width a.tally.observations a.tally.outs (errors (course_plan a) a.setting.signal (a.tally.observations + 1) cs)

  abbrev Lands : Trial → List ℤ → Type 0
  Lands a cs = on_codes m s k h (Observing a) cs ≡ land (course_plan a) a (errors (course_plan a) a.setting.signal (a.tally.observations + 1) cs) cs (ahead_of a cs)

  turn : (a : Trial) (c : ℤ) (cs : List ℤ) → Lands (noted (course_plan a) a c) cs → (v : Option Verdict) →
      on_codes m s k h (goes_on m k h.dominance (noted (course_plan a) a c) v) cs
      ≡ land (course_plan a) a (errors (course_plan a) a.setting.signal (a.tally.observations + 1) (c ∷ cs)) (c ∷ cs) (or_on v (ahead_of (noted (course_plan a) a c) cs))
  turn a c cs later (Some v) = refl
  turn a c cs later None =
      let p : Meaning = course_plan a in
      later ∙ land_on p a c (errors p a.setting.signal (a.tally.observations + 1 + 1) cs) cs (ahead_of (noted p a c) cs)

  lands : (a : Trial) (cs : List ℤ) → Lands a cs
  lands a [] = refl
  lands a (c ∷ cs) = turn a c cs (lands (noted (course_plan a) a c) cs) (noted_verdict (course_plan a) a c)

  -- what follows an attempt over codes
  abbrev carry : Attempted → Phase
  carry (going a) = Observing a
  carry (ended a v rest) = on_codes m s k h (attempt_end m k h.dominance a.course a v) rest

  carried : (p : Meaning) (a : Trial) (cs : List ℤ) (r : Ahead) →
      land p (with_tally a none_yet) (errors p a.setting.signal 1 cs) cs r ≡ carry (ended_by p (with_tally a none_yet) cs (from 0 r))
  carried p a cs open_end = ap (λ (t : Tally). Observing (with_tally a t)) (plus_first p a.width (errors p a.setting.signal 1 cs))
  carried p a cs (ends_after v j) =
      let es : List ℤ = errors p a.setting.signal 1 cs in
      ap (λ (t : Tally). on_codes m s k h (ending a t v) (drop (suc j) cs)) (plus_first p a.width (take (suc j) es))
      ∙ ap (λ (i : ℕ). on_codes m s k h (ending a (tally_of p a.width (take i es)) v) (drop i cs)) (sym (zero-add (suc j)))

  -- an attempt with no observation yet
  pub attempts : (a : Trial) (cs : List ℤ) → on_codes m s k h (Observing (with_tally a none_yet)) cs ≡ carry (attempted (course_plan a) (with_tally a none_yet) cs)
  attempts a cs =
      lands (with_tally a none_yet) cs
      ∙ carried (course_plan a) a cs (ahead_of (with_tally a none_yet) cs)
      ∙ ap (λ (r : Option Ending). carry (ended_by (course_plan a) (with_tally a none_yet) cs r))
      (sym (run_ahead (course_plan a) a.width 0 0 (errors (course_plan a) a.setting.signal 1 cs)))

-- a main attempt that decides: any under reduced control, a second one under full control
abbrev Deciding : Control → Before → Type 0
Deciding Full Nothing = ⊥
Deciding Full (SequenceAlone n) = Unit {0}
Deciding Full (QuantityAlone n) = Unit {0}
Deciding Full (ShortUnfit n) = Unit {0}
Deciding Reduced b = Unit {0}

-- its end decides
decides : (m s : Meaning) (k : Control) (h : Carried) (b : Before) → Deciding k b → (a : Trial) (v : Verdict) (cs : List ℤ) →
    on_codes m s k h (attempt_end m k h.dominance (Main b) a v) cs ≡ attempt_end m k h.dominance (Main b) a v
decides m s Full h Nothing never a v cs = absurd never
decides m s Full h (SequenceAlone n) _ a v cs = stays m s Full h _ cs
decides m s Full h (QuantityAlone n) _ a v cs = stays m s Full h _ cs
decides m s Full h (ShortUnfit n) _ a v cs = stays m s Full h _ cs
decides m s Reduced h b _ a v cs = stays m s Reduced h _ cs

module _ (m s : Meaning) (k : Control) (h : Carried) where
  last_carry : (b : Before) → Deciding k b → (d : Bool) (g : Setting) (n : ℕ) (cs : List ℤ) (r : Option Ending) →
      carry m s k h (ended_by m (begun m d g n (Main b)) cs r) ≡ last_attempt m k h.dominance (ended_by m (begun m d g n (Main b)) cs r)
  last_carry b q d g n cs None = refl
  last_carry b q d g n cs (Some e) = decides m s k h b q _ e.verdict (drop e.at cs)

  -- a last attempt
  lasts : (b : Before) → Deciding k b → (d : Bool) (g : Setting) (n : ℕ) (cs : List ℤ) →
      on_codes m s k h (Observing (begun m d g n (Main b))) cs ≡ last_attempt m k h.dominance (attempted m (begun m d g n (Main b)) cs)
  lasts b q d g n cs = attempts m s k h (begun m d g n (Main b)) cs ∙ last_carry b q d g n cs _

-- what follows an attempt's end
follows_full : (m s : Meaning) (h : Carried) (a : Trial) (d : Bool) (v q : Verdict) (cs : List ℤ) →
    on_codes m s Full h (first_full m a d v q) cs ≡ then_second m Full h.dominance (first_full m a d v q) cs
follows_full m s h a d Fit Fit cs = stays m s Full h _ cs
follows_full m s h a d Fit Unfit cs = lasts m s Full h (SequenceAlone a.tally.observations) tt d a.setting a.settled cs
follows_full m s h a d Unfit Fit cs = lasts m s Full h (QuantityAlone a.tally.observations) tt d a.setting a.settled cs
follows_full m s h a d Unfit Unfit cs = stays m s Full h _ cs

any_short : (k : Control) (n : ℕ) → Deciding k (ShortUnfit n)
any_short Full n = tt
any_short Reduced n = tt

follows : (m s : Meaning) (k : Control) (h : Carried) (course : Course) (a : Trial) (v : Verdict) (cs : List ℤ) →
    on_codes m s k h (attempt_end m k h.dominance course a v) cs ≡ then_second m k h.dominance (attempt_end m k h.dominance course a v) cs
follows m s k h Short a Fit cs = stays m s k h _ cs
follows m s k h Short a Unfit cs = lasts m s k h (ShortUnfit a.tally.observations) (any_short k a.tally.observations) h.dominance a.setting a.settled cs
follows m s Reduced h (Main b) a v cs = stays m s Reduced h _ cs
follows m s Full h (Main Nothing) a v cs = follows_full m s h a (dominant a.tally) v (quantity_verdict a.width a.tally) cs
follows m s Full h (Main (SequenceAlone n)) a v cs = stays m s Full h _ cs
follows m s Full h (Main (QuantityAlone n)) a v cs = stays m s Full h _ cs
follows m s Full h (Main (ShortUnfit n)) a v cs = stays m s Full h _ cs

first_carry : (m s : Meaning) (k : Control) (h : Carried) (r : Attempted) → carry m s k h r ≡ first_attempt m k h.dominance r
first_carry m s k h (going a) = refl
first_carry m s k h (ended a v rest) = follows m s k h a.course a v rest

-- A point that has settled, with no observation yet, comes to what its codes say.
pub observes : (m s : Meaning) (k : Control) (h : Carried) (a : Trial) (cs : List ℤ) →
    on_codes m s k h (Observing (with_tally a none_yet)) cs ≡ observed m s k h.dominance (with_tally a none_yet) cs
observes m s k h a cs = attempts m s k h a cs ∙ first_carry m s k h (attempted (plan_of m s a.course) (with_tally a none_yet) cs)
