use Rattle.std.proofs.Common.{rules}
use Rattle.control.proofs.settling.all_agree.Goals as goal

pub returns-else-are_near-2 : goal.returns-else-are_near-2
returns-else-are_near-2 c = search rules
