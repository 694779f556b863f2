-- What the end of an attempt means for its point.
use Rattle.std.specs.Prelude.{Bool, cond, Some, None, Option}
use Rattle.method.specs.Meaning.{Meaning}
use Rattle.method.specs.declared.verdict.Verdict.{Verdict}
use Rattle.method.specs.declared.verdict.Verdict.TheVariants.{Fit, Unfit}
use Rattle.control.specs.Statistics.{quantity_verdict, dominant}
use Rattle.point.specs.Trials.{begun}
use Rattle.point.specs.declared.phase.Before.{Before}
use Rattle.point.specs.declared.phase.Before.TheVariants.{Nothing, SequenceAlone, QuantityAlone, ShortUnfit}
use Rattle.point.specs.declared.phase.Carried.{Carried}
use Rattle.point.specs.declared.phase.Control.{Control}
use Rattle.point.specs.declared.phase.Control.TheVariants.{Full, Reduced}
use Rattle.point.specs.declared.phase.Course.{Course}
use Rattle.point.specs.declared.phase.Course.TheVariants.{Main, Short}
use Rattle.point.specs.declared.phase.Outcome.{Outcome}
use Rattle.point.specs.declared.phase.Phase.{Phase}
use Rattle.point.specs.declared.phase.Phase.TheVariants.{Observing, Decided}
use Rattle.point.specs.declared.phase.PlanUsed.{PlanUsed}
use Rattle.point.specs.declared.phase.PlanUsed.TheVariants as used
use Rattle.point.specs.declared.phase.Trial.{Trial}

-- a main attempt after an earlier one, under the dominance given; the point does not settle again
abbrev pub another : Meaning → Bool → Trial → Before → Phase
another m dominance a b = Observing (begun m dominance a.setting a.settled (Main b))

abbrev pub decided : Trial → Verdict → Option Verdict → Bool → Verdict → Phase
decided a v q dominance w = Decided (record { trial = a; sequence = v; quantity = q; dominance = dominance; verdict = w })

-- Full control, first attempt: where sequence v and quantity q agree they decide, and where they differ a second follows.
abbrev pub first_full : Meaning → Trial → Bool → Verdict → Verdict → Phase
first_full m a dominance Fit Fit = decided a Fit (Some Fit) dominance Fit
first_full m a dominance Fit Unfit = another m dominance a (SequenceAlone a.tally.observations)
first_full m a dominance Unfit Fit = another m dominance a (QuantityAlone a.tally.observations)
first_full m a dominance Unfit Unfit = decided a Unfit (Some Unfit) dominance Unfit

abbrev pub fit_if_both : Verdict → Verdict → Verdict
fit_if_both Fit q = q
fit_if_both Unfit q = Unfit

-- Full control, second attempt: fit only if both are.
abbrev pub second_full : Trial → Bool → Verdict → Verdict → Phase
second_full a dominance v q = decided a v (Some q) dominance (fit_if_both v q)

abbrev pub main_full : Meaning → Before → Trial → Bool → Verdict → Verdict → Phase
main_full m Nothing a dominance v q = first_full m a dominance v q
main_full m (SequenceAlone _) a dominance v q = second_full a dominance v q
main_full m (QuantityAlone _) a dominance v q = second_full a dominance v q
main_full m (ShortUnfit _) a dominance v q = second_full a dominance v q

-- A main attempt finds the dominance; under reduced control its sequence decides.
abbrev pub main_end : Meaning → Control → Before → Trial → Verdict → Phase
main_end m Full b a v = main_full m b a (dominant a.tally) v (quantity_verdict a.width a.tally)
main_end m Reduced b a v = decided a v None (dominant a.tally) v

-- A short attempt leaves the dominance: fit it decides, unfit it gives way to a main attempt.
abbrev pub short_end : Meaning → Bool → Trial → Verdict → Phase
short_end m dominance a Fit = decided a Fit None dominance Fit
short_end m dominance a Unfit = another m dominance a (ShortUnfit a.tally.observations)

-- the dominance is the last one found before the attempt
abbrev pub attempt_end : Meaning → Control → Bool → Course → Trial → Verdict → Phase
attempt_end m k dominance (Main b) a v = main_end m k b a v
attempt_end m k dominance Short a v = short_end m dominance a v

-- Under reduced control the next point begins short after a short one that decided, main after a short one that was unfit,
-- and otherwise by the dominance found.
abbrev pub next_after : Course → Bool → PlanUsed
next_after Short dominance = used.Short
next_after (Main (ShortUnfit n)) dominance = used.Main
next_after (Main Nothing) dominance = cond dominance used.Short used.Main
next_after (Main (SequenceAlone n)) dominance = cond dominance used.Short used.Main
next_after (Main (QuantityAlone n)) dominance = cond dominance used.Short used.Main

-- what a point leaves to the next whose last attempt ran so, with the dominance then
abbrev pub left_by : Course → Bool → Carried
left_by c dominance = record { dominance = dominance; next = next_after c dominance }

-- what a decided point leaves to the next
abbrev pub leaves : Outcome → Carried
leaves o = left_by o.trial.course o.dominance
