-- How many codes a point has taken after each step: what was taken carries over into a second attempt.
use Rattle.std.proofs.Common.{◌≡◌, ◌+◌, Bool, ℤ, Some, None, Option, sym, refl, subst, arith}
use Rattle.method.specs.Meaning.{Meaning}
use Rattle.method.specs.declared.verdict.Verdict.{Verdict}
use Rattle.method.specs.declared.verdict.Verdict.TheVariants.{Fit, Unfit}
use Rattle.point.specs.Bounds.{Takes, earlier, made_before, taken_by}
use Rattle.point.specs.Ends.{another, attempt_end, first_full, main_end, main_full, short_end}
use Rattle.point.specs.Phases.{goes_on, observe_on}
use Rattle.point.specs.Trials.{noted, noted_verdict}
use Rattle.point.specs.declared.phase.Before.{Before}
use Rattle.point.specs.declared.phase.Before.TheVariants.{Nothing, SequenceAlone, QuantityAlone, ShortUnfit}
use Rattle.point.specs.declared.phase.Control.{Control}
use Rattle.point.specs.declared.phase.Control.TheVariants.{Full, Reduced}
use Rattle.point.specs.declared.phase.Course.{Course}
use Rattle.point.specs.declared.phase.Course.TheVariants.{Main, Short}
use Rattle.point.specs.declared.phase.Phase.{Phase}
use Rattle.point.specs.declared.phase.Trial.{Trial}

another_takes : (m : Meaning) (dominance : Bool) (a : Trial) (b : Before) → earlier a.course ≡ 0 → made_before b ≡ a.tally.observations → Takes (taken_by a) (another m dominance a b)
another_takes m dominance a b first made = (omega (arith, first, made), refl)

first_full_takes : (m : Meaning) (a : Trial) (dominance : Bool) (v q : Verdict) → earlier a.course ≡ 0 → Takes (taken_by a) (first_full m a dominance v q)
first_full_takes m a dominance Fit Fit first = (refl, refl)
first_full_takes m a dominance Fit Unfit first = another_takes m dominance a (SequenceAlone a.tally.observations) first refl
first_full_takes m a dominance Unfit Fit first = another_takes m dominance a (QuantityAlone a.tally.observations) first refl
first_full_takes m a dominance Unfit Unfit first = (refl, refl)

main_full_takes : (m : Meaning) (b : Before) (a : Trial) (dominance : Bool) (v q : Verdict) → earlier a.course ≡ made_before b → Takes (taken_by a) (main_full m b a dominance v q)
main_full_takes m Nothing a dominance v q e = first_full_takes m a dominance v q e
main_full_takes m (SequenceAlone _) a dominance v q e = (refl, refl)
main_full_takes m (QuantityAlone _) a dominance v q e = (refl, refl)
main_full_takes m (ShortUnfit _) a dominance v q e = (refl, refl)

main_takes : (m : Meaning) (k : Control) (b : Before) (a : Trial) (v : Verdict) → earlier a.course ≡ made_before b → Takes (taken_by a) (main_end m k b a v)
main_takes m Full b a v e = main_full_takes m b a _ v _ e
main_takes m Reduced b a v e = (refl, refl)

short_takes : (m : Meaning) (dominance : Bool) (a : Trial) (v : Verdict) → earlier a.course ≡ 0 → Takes (taken_by a) (short_end m dominance a v)
short_takes m dominance a Fit e = (refl, refl)
short_takes m dominance a Unfit e = another_takes m dominance a (ShortUnfit a.tally.observations) e refl

ended_takes : (m : Meaning) (k : Control) (dominance : Bool) (c : Course) (a : Trial) (v : Verdict) → earlier a.course ≡ earlier c → Takes (taken_by a) (attempt_end m k dominance c a v)
ended_takes m k dominance (Main b) a v e = main_takes m k b a v e
ended_takes m k dominance Short a v e = short_takes m dominance a v e

goes_on_takes : (m : Meaning) (k : Control) (dominance : Bool) (a : Trial) (r : Option Verdict) → Takes (taken_by a) (goes_on m k dominance a r)
goes_on_takes m k dominance a None = (refl, refl)
goes_on_takes m k dominance a (Some v) = ended_takes m k dominance a.course a v refl

pub observed_takes : (p m : Meaning) (k : Control) (dominance : Bool) (a : Trial) (code : ℤ) {f : Phase} → f ≡ observe_on p m k dominance a code → Takes (taken_by a + 1) f
observed_takes p m k dominance a code e =
    let t = goes_on_takes m k dominance (noted p a code) (noted_verdict p a code) in
    subst (λ x. Takes (taken_by a + 1) x) (sym e) (omega (arith, t.0), t.1)
