use Rattle.std.proofs.Common.{◌≡◌, ◌+◌, ◌≤◌, Bool, cond, pos, sym, ap, ◌∙◌, add-zero, arith}
use Rattle.runs.specs.Answers.{accepts_code}
use Rattle.runs.specs.declared.call.Call.TheVariants.{Open}
use Rattle.runs.proofs.CallByCall.{all_through, at_progress, one_through, only_progress}
use Rattle.runs.proofs.lists.make_all.Goals as goal
use Rattle.runs.proofs.lists.make_all.Goals.{then-accepts_code, else-accepts_code}

pub loop-i-preserved : goal.loop-i-preserved
loop-i-preserved g c =
    let v = c.args.v.now in
    let l = c.loop-i in
    let made = c.make-answer.ensures in
    let accepted : c.accepts_code.result ≡ accepts_code c.make-answer.result = c.accepts_code.ensures in
    let sum : c.if-accepts_code.codes ≡ l.codes + cond c.accepts_code.result 1 0 =
    elim c.if-accepts_code.branch [
      | then-accepts_code w ↦ w.codes-is ∙ ap (λ (y : Bool). l.codes + cond y 1 0) (sym w.if-accepts_code.true)
      | else-accepts_code w ↦ w.codes-is ∙ sym (add-zero _) ∙ ap (λ (y : Bool). l.codes + cond y 1 0) (sym w.if-accepts_code.false)
    ] in
    let bound : c.if-accepts_code.codes ≤ l.i + 1 =
    elim c.if-accepts_code.branch [ then-accepts_code w ↦ omega (arith, w.codes-is, l.invariant.1) | else-accepts_code w ↦ omega (arith, w.codes-is, l.invariant.1) ] in
    let same = l.invariant.2 in
    let next = one_through (ap (λ w. g.M.Plan.meaning w.main) same) (ap (λ w. g.S.Plan.meaning w.short) same) (ap (λ w. w.declared) same) l.auto.journal
    v.progress c.args.answers.now c.args.journal.now c.args.calls.now l.i (Open (pos 0) (pos 0) (pos 0) (pos 0)) c.loop-i-test.true
    l.v.progress c.make-answer.new.v.progress l.answers c.note.new.answers c.make-answer.result l.codes c.if-accepts_code.codes l.journal c.make-answer.new.journal
    l.invariant.0 (ap (λ w. w.progress) made.after) made.answer c.note.ensures (sum ∙ ap (λ (y : Bool). l.codes + cond y 1 0) accepted) made.bytes in
    (next, bound, only_progress v same made.after)

pub returns : goal.returns
returns g c =
    let inv = c.loop-i.invariant in
    let all = all_through c.args.calls.now c.loop-i.i c.loop-i-test.false inv.0 in
    record {
      codes = all.counted;
      answers = all.answered;
      after = inv.2 ∙ ap (at_progress c.args.v.now) all.at;
      bytes = all.written;
    }
