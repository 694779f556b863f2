use Rattle.std.proofs.Common.{◌≡◌, ◌+◌, ◌≤◌, length, take, drop, ap, ◌∙◌, arith}
use Rattle.std.proofs.lemmas.Option.{MatchOption-at_some}
use Rattle.std.proofs.lemmas.Bool.{le-leb}
use Rattle.journal.proofs.Formats.{headed_is}
use Rattle.journal.proofs.layers.whole.Goals as goal

pub returns : goal.returns
returns g c =
    let m = g.K.RecordKind.format in
    let bs = c.args.bytes.now in
    let front = c.in_ok-record.record.now in
    let size : c.LENGTH.result ≡ m.size = c.LENGTH.ensures ∙ g.met.K.RecordKind.consts.1 in
    let split = MatchOption-at_some _ _ _ c.in_ok-record.ensures.ok_part c.split_at_checked.ensures.cases in
    let le : m.size ≤ length bs = omega (arith, size, split.0) in
    let sum : length c.in_ok-record.rest.now + m.size ≡ length bs = omega (arith, size, split.4) in
    (le-leb m.size (length bs) le, c.behind_kind.ensures ∙ headed_is m bs front le (split.1 ∙ ap (λ k. take k bs) size), split.2 ∙ ap (λ k. drop k bs) size, sum)
