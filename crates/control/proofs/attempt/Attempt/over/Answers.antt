use Rattle.std.proofs.Common.{get_or, pos, ◌∙◌, w32, SFits, rules}
use Rattle.std.proofs.lemmas.Int.{to_z-of_z}
use Rattle.control.proofs.RunSteps.{ended, goes_on}
use Rattle.control.proofs.attempt.Attempt.over.Goals as goal

pub loop-error-preserved : goal.loop-error-preserved
loop-error-preserved g c =
    let f : SFits w32 (get_or c.args.errors.now c.loop-error.error-index (pos 0)) = search rules in
    let kept = c.loop-error.invariant in
    let e = rw kept.held_to at c.in_ok-attempt.ensures.0 in
    record {
      going = goes_on _ _ _ _ _ c.loop-error-test.true kept.going _ (to_z-of_z w32 _ f) _ e.0 e.1;
      held_to = c.in_ok-attempt.ensures.1 ∙ kept.held_to;
    }

pub returns-in_err-attempt : goal.returns-in_err-attempt
returns-in_err-attempt g c =
    let f : SFits w32 (get_or c.args.errors.now c.loop-error.error-index (pos 0)) = search rules in
    let kept = c.loop-error.invariant in
    let e = rw kept.held_to at c.in_err-attempt.ensures.0 in
    rw c.from_residual.ensures
    (ended _ _ _ _ _ c.loop-error-test.true kept.going _ (to_z-of_z w32 _ f) _ e.0 _ e.1, c.in_err-attempt.ensures.1 ∙ kept.held_to)
