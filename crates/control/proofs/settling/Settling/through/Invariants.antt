use Rattle.std.proofs.Common.{◌≡◌, drop}
use Rattle.control.specs.Settlings.{settling_end}
use Rattle.control.proofs.settling.Settling.through.Given as goal

abbrev pub invariant-loop-code : goal.invariant-loop-code
invariant-loop-code l =
    settling_end l.fn.self.agreement l.fn.self.codes l.codes ≡ settling_end l.settling.agreement l.settling.codes (drop l.code-index l.codes)
