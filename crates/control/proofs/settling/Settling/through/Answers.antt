use Rattle.std.proofs.Common.{get_or, drop, pos, ◌+◌, sym, ap, ◌∙◌, w32, SFits, rules}
use Rattle.std.proofs.lemmas.Int.{to_z-of_z}
use Rattle.control.specs.Settlings.{settling_end}
use Rattle.control.proofs.SettlesFirst.{goes_on, settles}
use Rattle.control.proofs.settling.Settling.through.Goals as goal

pub returns-in_err-settling : goal.returns-in_err-settling
returns-in_err-settling c =
    let f : SFits w32 (get_or c.args.codes.now c.loop-code.code-index (pos 0)) = search rules in
    let e = c.in_err-settling.ensures in
    rw c.from_residual.ensures (settles _ _ _ _ c.loop-code-test.true _ (to_z-of_z w32 _ f) _ e.0 e.1 ∙ sym c.loop-code.invariant)

pub loop-code-preserved : goal.loop-code-preserved
loop-code-preserved c =
    let f : SFits w32 (get_or c.args.codes.now c.loop-code.code-index (pos 0)) = search rules in
    let e = c.in_ok-settling.ensures in
    c.loop-code.invariant ∙ goes_on _ _ _ _ c.loop-code-test.true _ (to_z-of_z w32 _ f) _ e.0 e.1
    ∙ ap (λ n. settling_end n c.in_ok-settling.settling.codes (drop (c.loop-code.code-index + 1) c.args.codes.now)) (sym e.2)
