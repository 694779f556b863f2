use Rattle.std.proofs.Common.{arith}
use Rattle.report.proofs.Nearest.{nearest}
use Rattle.report.proofs.rounding.rounded.Goals as goal

pub returns : goal.returns
returns c =
    nearest c.args.n c.args.a c.args.p c.args.q c.isqrt-root.result (omega arith) (omega arith) c.isqrt-root.ensures.square_le c.isqrt-root.ensures.next_square_gt
