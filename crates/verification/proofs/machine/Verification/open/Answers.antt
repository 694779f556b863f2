use Rattle.std.proofs.Common.{◌≡◌, false, cond, Some, Err, ap, sym, ◌∙◌, rules}
use Rattle.point.specs.Settings.{setting_refusal}
use Rattle.point.specs.Settings.{as_given}
use Rattle.point.specs.declared.phase.Phase.TheVariants.{Waiting}
use Rattle.method.specs.declared.question.Question.TheVariants.{NotEnded}
use Rattle.verification.specs.Calls.{opened_at, opened_with, refused}
use Rattle.verification.specs.Ordering.{ended}
use Rattle.verification.proofs.machine.Verification.open.Goals as goal

pub returns-in_err-setting-clause-answer : goal.returns-in_err-setting-clause-answer
returns-in_err-setting-clause-answer g c =
    let v = c.args.self.now in
    let p = v.progress in
    let a = c.args in
    let q = c.in_err-setting.field-0.0 in
    let going : ended v.declared p ≡ false = search rules in
    let at : p.phase ≡ Waiting = search rules in
    let asked : Some q ≡ setting_refusal a.signal a.meter a.reference a.agreement = search rules in
    let back : c.from_residual.result ≡ Err q = search rules in
    back ∙ ap (λ o. (opened_with p (as_given a.signal a.meter a.reference a.agreement) o).answer) asked
    ∙ ap (λ x. x.answer) (sym (ap (λ b. cond b (refused p NotEnded) (opened_at p a.signal a.meter a.reference a.agreement p.phase)) going ∙ ap (opened_at p a.signal a.meter a.reference a.agreement) at))
