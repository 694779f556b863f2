use Rattle.std.proofs.Common.{◌≡◌, ◌*◌, ◌%◌, ◌^◌, ◌++◌, true, length, drop, replicate, ap, ◌∙◌}
use Rattle.std.specs.Int.{w128, from_be_bytes}
use Rattle.journal.specs.declared.bits.Unpacking.{Unpacking}
use Rattle.journal.proofs.Bytes.{headed_bytes}
use Rattle.journal.proofs.bits.Unpacking.behind_kind.Goals as goal

pub returns : goal.returns
returns c =
    let bs = c.args.bytes.now in
    let is : c.from_be_bytes.result ≡ from_be_bytes w128 (bs ++ drop (length bs) (replicate 16 0)) = c.from_be_bytes.ensures ∙ ap (λ x. from_be_bytes w128 (x ++ drop (length bs) (replicate 16 0))) c.copy_from_slice.ensures.after in
    ap {B = Unpacking} (λ x. record { word = x % 2 ^ 128; in_range = true }) (ap (λ x. x * 16) is ∙ headed_bytes bs c.requires)
