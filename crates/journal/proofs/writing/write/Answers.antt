use Rattle.std.proofs.Common.{length, sym, ◌∙◌}
use Rattle.std.proofs.lemmas.Result.{err_from_is_err_and}
use Rattle.journal.proofs.Formats.{asked, unwritten, written, word_is, reads_back, reads_only}
use Rattle.journal.proofs.writing.write.Goals as goal

pub returns-in_err-count : goal.returns-in_err-count
returns-in_err-count g c =
    let m = g.K.RecordKind.format in
    let s = g.met.K.RecordKind.sound in
    let f = c.args.fields.now in
    let old = c.args.journal.now in
    let p = err_from_is_err_and c.from_residual.result c.from_residual.ensures.1 in
    let h = sym c.in_err-count.was ∙ asked m s f c.packed-bits.result c.args.place (length old) c.asked.result c.packed-bits.ensures c.asked.ensures in
    record { answer = rw (p.1, p.2) h; bytes = unwritten m s f c.args.place old _ h; law = record { back = reads_back m s; only = reads_only m s } }

pub returns : goal.returns
returns g c =
    let m = g.K.RecordKind.format in
    let s = g.met.K.RecordKind.sound in
    let f = c.args.fields.now in
    let old = c.args.journal.now in
    let h = sym c.in_ok-count.was ∙ asked m s f c.packed-bits.result c.args.place (length old) c.asked.result c.packed-bits.ensures c.asked.ensures in
    record { answer = h; bytes = written m s f c.args.place old c.lay.new.out c.in_ok-count.count _ h (word_is m s f c.packed-bits.result c.packed-bits.ensures) c.lay.ensures; law = record { back = reads_back m s; only = reads_only m s } }
