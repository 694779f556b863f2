use Rattle.std.proofs.Common.{rules}
use Rattle.control.proofs.SettlesFirst.{first_of}
use Rattle.control.proofs.settling.settle.Goals as goal

pub returns-clause-first : goal.returns-clause-first
returns-clause-first c = first_of _ _ _ (search rules)
