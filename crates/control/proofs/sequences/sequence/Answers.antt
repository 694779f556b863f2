use Rattle.std.proofs.Common.{◌≡◌, rules}
use Rattle.control.specs.Sequences.{sequence_under}
use Rattle.control.specs.Tolerances.{tolerance_under}
use Rattle.control.proofs.EndsFirst.{first_of, by_cut}
use Rattle.control.proofs.sequences.sequence.Goals as goal

pub returns : goal.returns
returns g c =
    let m = g.P.Plan.meaning c.args.plan.now in
    let es = c.args.errors.now in
    let d = tolerance_under m c.args.distribution c.args.permitted.meter c.args.permitted.reference in
    let e : c.map.result ≡ sequence_under m c.args.distribution c.args.permitted.meter c.args.permitted.reference es = search rules in
    let first = first_of m d es c.map.result e in
    record { is = e; first = first; by_cut = by_cut m d es (g.met.P.Plan.ranged c.args.plan.now) c.map.result first }
