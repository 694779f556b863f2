use Rattle.std.proofs.Common.{◌≡◌, true, false, ap, subst, w32, SFits, to_z, of_z, rules}
use Rattle.std.proofs.lemmas.Int.{to_z-of_z}
use Rattle.point.specs.Levels.{legal_code}
use Rattle.point.specs.Phases.{coded, settle_step}
use Rattle.point.specs.declared.phase.Phase.TheVariants.{Settling, Observing}
use Rattle.verification.specs.Calls.{coded_at}
use Rattle.verification.specs.Ordering.{ended}
use Rattle.verification.proofs.Codings.{coding_answer, settled_same}
use Rattle.verification.proofs.machine.Verification.code.Goals as goal

pub returns-in_ok-new-in-Settling-clause-answer : goal.returns-in_ok-new-in-Settling-clause-answer
returns-in_ok-new-in-Settling-clause-answer g c =
    let v = c.args.self.now in
    let m = g.M.Plan.meaning v.main in
    let s = g.S.Plan.meaning v.short in
    let going : ended v.declared v.progress ≡ false = search rules in
    let legal : legal_code c.args.code ≡ true = search rules in
    let at : v.progress.phase ≡ Settling c.in-Settling.u = search rules in
    let f : SFits w32 c.args.code = search rules in
    let next = c.settle_with_steps-next.result in
    let within = subst (λ i. next ≡ settle_step (g.M.Plan.meaning i.plans.main) (g.S.Plan.meaning i.plans.short) i.declared.control i.progress.carried c.in-Settling.u (to_z w32 (of_z w32 c.args.code))) c.self-inside.view_is c.settle_with_steps-next.ensures.is in
    let told = subst (λ w. next ≡ settle_step (g.M.Plan.meaning w.main) (g.S.Plan.meaning w.short) w.declared.control w.progress.carried c.in-Settling.u (to_z w32 (of_z w32 c.args.code))) c.self.view_is within in
    let same : c.settle_with_steps-next.result ≡ coded m s v.declared.control v.progress.carried (Settling c.in-Settling.u) c.args.code = settled_same m s v.declared.control v.progress.carried c.in-Settling.u _ c.args.code _ (to_z-of_z w32 _ f) told in
    coding_answer m s v.declared v.progress c.args.code _ _ _ going legal (ap (coded_at m s v.declared v.progress c.args.code) at) same c.counted.ensures.answer

pub returns-in-Continue-clause-answer : goal.returns-in-Continue-clause-answer
returns-in-Continue-clause-answer g c =
    let v = c.args.self.now in
    let m = g.M.Plan.meaning v.main in
    let s = g.S.Plan.meaning v.short in
    let going : ended v.declared v.progress ≡ false = search rules in
    let legal : legal_code c.args.code ≡ true = search rules in
    let at : v.progress.phase ≡ Observing c.in-Observing.a = search rules in
    let same : Observing c.in-Continue.after ≡ coded m s v.declared.control v.progress.carried (Observing c.in-Observing.a) c.args.code = search rules in
    coding_answer m s v.declared v.progress c.args.code _ _ _ going legal (ap (coded_at m s v.declared v.progress c.args.code) at) same c.counted-in-Continue.ensures.answer

pub returns-in-Break-clause-answer : goal.returns-in-Break-clause-answer
returns-in-Break-clause-answer g c =
    let v = c.args.self.now in
    let m = g.M.Plan.meaning v.main in
    let s = g.S.Plan.meaning v.short in
    let going : ended v.declared v.progress ≡ false = search rules in
    let legal : legal_code c.args.code ≡ true = search rules in
    let at : v.progress.phase ≡ Observing c.in-Observing.a = search rules in
    let same : c.in-Break.next ≡ coded m s v.declared.control v.progress.carried (Observing c.in-Observing.a) c.args.code = search rules in
    coding_answer m s v.declared v.progress c.args.code _ _ _ going legal (ap (coded_at m s v.declared v.progress c.args.code) at) same c.counted-in-Break.ensures.answer
