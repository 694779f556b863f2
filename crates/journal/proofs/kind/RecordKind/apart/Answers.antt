use Rattle.std.proofs.Common.{◌≡◌, ◌-◌, ◌≤◌, ◌++◌, List, ℕ, length, take, drop, replicate, sym, ap, ◌∙◌, subst, arith}
use Rattle.std.specs.Int.{w128, from_be_bytes}
use Rattle.std.proofs.lemmas.List.{take_rest}
use Rattle.journal.specs.Bits.{word_of}
use Rattle.journal.proofs.Bytes.{tailed_bytes, word_of_take}
use Rattle.journal.proofs.kind.RecordKind.apart.Goals as goal

pub returns : goal.returns
returns g c =
    let kind = g.met.Self.RecordKind in
    let bs = c.args.bytes.now in
    let front = c.in_ok-record.record.now in
    let n = c.LENGTH.result in
    let size : n ≡ g.Self.RecordKind.format.size = c.LENGTH.ensures ∙ kind.consts.1 in
    let split = c.in_ok-record.ensures.cases in
    let k = 16 - length front in
    let none : List ℕ = drop (16 - k) (drop k (replicate 16 0)) in
    let sixteen : c.from_be_bytes.result ≡ from_be_bytes w128 (take k (replicate 16 0) ++ (front ++ none)) = c.from_be_bytes.ensures ∙ ap (λ x. from_be_bytes w128 (take k (replicate 16 0) ++ (x ++ none))) c.copy_from_slice.ensures.after in
    let word = sixteen ∙ tailed_bytes front none (omega (arith, size, split.3, kind.sound.short)) ∙ ap (λ i. word_of i front) split.3 ∙ ap (word_of n) split.1 ∙ word_of_take n bs split.0 in
    subst (λ i. (i ≤ length bs) × (c.from_be_bytes.result ≡ word_of i bs) × (c.in_ok-record.rest.now ≡ take (length bs - i) (drop i bs))) size (split.0, word, split.2 ∙ sym (take_rest bs n))
