use Rattle.std.proofs.Common.{◌≡◌, pos, arith, rules}
use Rattle.std.proofs.lemmas.Int.{ints}
use Rattle.std.proofs.lemmas.Bool.Decides.{nat_tests}
use Rattle.control.specs.Statistics.{room_left}
use Rattle.control.proofs.statistics.Judged.leaves_room.Goals as goal

pub returns-then-room-gt0 : goal.returns-then-room-gt0
returns-then-room-gt0 c =
    let w : room_left c.args.self.width c.args.self.tally ≡ pos c.room-room.result = omega (arith, ints) in
    rw w (search (rules, nat_tests))
