use Rattle.std.proofs.Common.{rules}
use Rattle.report.proofs.estimates.are_ranged.Goals as goal

pub returns-then-contains-2 : goal.returns-then-contains-2
returns-then-contains-2 c = search rules
