use Rattle.control.proofs.SmallerErrors.{steady, steady_of}
use Rattle.control.proofs.pair.sequence_pair.Goals as goal

pub returns-clause-no_worse : goal.returns-clause-no_worse
returns-clause-no_worse g c = steady_of (g.P.Plan.meaning c.args.plan.now) c.args.distribution _ _ _ _ _ _ _ _ c.sequence.ensures.is c.sequence-2.ensures.is

pub returns-clause-steady : goal.returns-clause-steady
returns-clause-steady g c = steady (g.P.Plan.meaning c.args.plan.now)
