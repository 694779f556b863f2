use Rattle.std.proofs.Common.{◌≡◌, ◌≤◌, length, take}
use Rattle.runs.proofs.CallByCall.{Through}
use Rattle.runs.proofs.lists.make_all.Given as goal

-- the verification has come through the calls made, and only its progress has changed
abbrev pub invariant-loop-i : goal.invariant-loop-i
invariant-loop-i g l =
    Through (g.M.Plan.meaning l.initial.v.main) (g.S.Plan.meaning l.initial.v.short) l.initial.v.declared (length l.initial.journal) l.initial.v.progress l.initial.answers l.initial.journal (take l.i l.calls) l.v.progress l.answers l.codes l.journal
    × (l.codes ≤ l.i) × (l.v ≡ record l.initial.v { progress = l.v.progress })
