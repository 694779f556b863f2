use Rattle.point.proofs.Taking.{observed_takes}
use Rattle.point.proofs.plans.Plans.observe.Goals as goal

pub returns-in-Main-clause-takes : goal.returns-in-Main-clause-takes
returns-in-Main-clause-takes g c =
    let main = g.M.Plan.meaning c.args.self.now.main in
    observed_takes main main c.args.control c.args.dominance c.args.ongoing c.args.code c.observe_on.ensures

pub returns-in-Short-clause-takes : goal.returns-in-Short-clause-takes
returns-in-Short-clause-takes g c =
    observed_takes (g.S.Plan.meaning c.args.self.now.short) (g.M.Plan.meaning c.args.self.now.main) c.args.control c.args.dominance c.args.ongoing c.args.code c.observe_on-in-Short.ensures
