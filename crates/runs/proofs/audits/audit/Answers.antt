use Rattle.std.proofs.Common.{length, ℤ, pos, sym, refl, ap, ◌∙◌, subst, w32, to_z, of_z}
use Rattle.std.proofs.lemmas.Int.{to_z-of_z}
use Rattle.runs.proofs.Lawful.{laws}
use Rattle.runs.proofs.Sparings.{both, journal_alike, outcome_alike, sparing}
use Rattle.runs.specs.Audits.{Sparing}
use Rattle.runs.specs.declared.outcome.Audit.{Audit}
use Rattle.verification.specs.Ordering.{as_declared, orders_refusal}
use Rattle.runs.proofs.audits.audit.Goals as goal

pub returns-in_err-stopping-clause-laws : goal.returns-in_err-stopping-clause-laws
returns-in_err-stopping-clause-laws g c = laws (g.M.Plan.meaning c.args.main) (g.S.Plan.meaning c.args.short) (g.met.M.Plan.ranged c.args.main) (g.met.S.Plan.ranged c.args.short)

pub returns : goal.returns
returns g c =
    let m = g.M.Plan.meaning c.args.main in
    let s = g.S.Plan.meaning c.args.short in
    let cs = c.args.calls.now in
    let len = length c.args.scratch.now in
    let place = c.args.place in
    let one = c.run-first_unfit.ensures in
    let two = c.run-all_points.ensures in
    let points = to_z-of_z w32 c.args.points c.ranges.points in
    let control = to_z-of_z w32 c.args.control c.ranges.control in
    let first = c.in_ok-stopping.ensures.makes.0 ∙ ap (λ (z : ℤ). as_declared z (to_z w32 (of_z w32 c.args.control)) (pos 1)) points ∙ ap (λ (z : ℤ). as_declared c.args.points z (pos 1)) control in
    let second = c.in_ok-stopping.ensures.makes.1 ∙ ap (λ (z : ℤ). as_declared z (to_z w32 (of_z w32 c.args.control)) (pos 2)) points ∙ ap (λ (z : ℤ). as_declared c.args.points z (pos 2)) control in
    let asked = c.in_ok-stopping.ensures.refuses ∙ ap (λ (z : ℤ). orders_refusal z (to_z w32 (of_z w32 c.args.control)) (pos 1)) points ∙ ap (λ (z : ℤ). orders_refusal c.args.points z (pos 1)) control in
    let is = both (one.outcome ∙ outcome_alike m s place cs first refl) (two.outcome ∙ outcome_alike m s place cs second c.run-first_unfit.auto.journal) in
    record {
      refuses = asked;
      makes = is;
      bytes = two.bytes ∙ journal_alike m s place cs second (one.bytes ∙ journal_alike m s place cs first refl);
      sparing = subst (λ (a : Audit). Sparing a) (sym is) (sparing m s one.laws c.args.points c.args.control len place cs);
      laws = one.laws;
    }
