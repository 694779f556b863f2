use Rattle.std.proofs.Common.{◌≡◌, ◌+◌, ◌-◌, refl, sym, ◌∙◌, subst, arith, rules, tests}
use Rattle.std.proofs.lemmas.Iterator.{YieldsList-from_range}
use Rattle.std.proofs.lemmas.Iterator.Adapters.{option_map_id}
use Rattle.std.proofs.lemmas.Iterator.Search.{find_from_yields_List}
use Rattle.control.specs.Prospects.{Foretells, could_end, first_end, soonest_fit}
use Rattle.control.proofs.Foresight.{soonest_foretells, soonest_from}
use Rattle.control.proofs.soonest.soonest_fit.Goals as goal

pub returns : goal.returns
returns g c =
    let m = g.P.Plan.meaning c.args.plan.now in
    let r = g.met.P.Plan.ranged c.args.plan.now in
    let a = c.saturating_add.result in
    let found : c.find.result ≡ first_end m c.args.x a (m.cut + 1 - a) =
    sym (option_map_id c.find.result) ∙ find_from_yields_List (could_end m c.args.x) _ _ c.find.result c.find.ensures.ran (YieldsList-from_range a (m.cut + 1) _ (search rules) refl) (λ x b q k. search (rules, tests)) in
    let e : c.find.result ≡ soonest_fit m c.args.n c.args.x = found ∙ soonest_from m c.args.n c.args.x a (λ lt. omega (arith, r.cut_high)) (λ ge. omega (arith, r.cut_high)) in
    record { is = e; foretells = subst (Foretells m c.args.n c.args.x) (sym e) (soonest_foretells m r c.args.n c.args.x) }
