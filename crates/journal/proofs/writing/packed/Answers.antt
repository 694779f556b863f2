use Rattle.std.proofs.Common.{pos, ap, ◌∙◌, w32, SFits, rules}
use Rattle.std.proofs.lemmas.Int.{to_z-of_z}
use Rattle.journal.proofs.Formats.{packing}
use Rattle.journal.proofs.writing.packed.Goals as goal

pub returns : goal.returns
returns g c =
    let k = g.met.K.RecordKind in
    let fits : SFits w32 c.from.result = search rules in
    let number = to_z-of_z w32 c.from.result fits ∙ c.from.ensures ∙ ap pos (c.NUMBER.ensures ∙ k.consts.0) in
    packing g.K.RecordKind.format k.sound c.args.fields.now _ c.LENGTH.result c.put.new.self c.pack.new.bits number (c.LENGTH.ensures ∙ k.consts.1) c.put.ensures c.pack.ensures
