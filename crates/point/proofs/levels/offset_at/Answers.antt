use Rattle.std.proofs.Common.{◌≤◌, ℤ, pos, negsuc, nat_abs, ◌≤ℤ◌, sym, ◌∙◌, subst, arith, w32, SFits, rules}
use Rattle.std.proofs.lemmas.Int.{ints, to_z-of_z}
use Rattle.point.proofs.levels.offset_at.Goals as goal

small : (z : ℤ) → negsuc 47 ≤ℤ z → z ≤ℤ pos 48 → nat_abs z ≤ 48
small z l h = grind (arith, ints)

pub returns : goal.returns
returns g c =
    let m = g.P.Plan.meaning c.args.plan.now in
    let r = g.met.P.Plan.ranged c.args.plan.now in
    let f : SFits w32 c.offset.result = search rules in
    let e = c.offset.ensures in
    record {
      is = to_z-of_z w32 c.offset.result f ∙ e;
      small = subst (λ (z : ℤ). nat_abs z ≤ 48) (sym (to_z-of_z w32 c.offset.result f ∙ e)) (small (m.offset c.args.i) (r.offset_low c.args.i) (r.offset_high c.args.i));
    }
