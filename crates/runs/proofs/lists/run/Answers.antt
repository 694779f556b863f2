use Rattle.std.proofs.Common.{◌≡◌, ℕ, length, Result, ap, ◌∙◌}
use Rattle.method.specs.declared.question.Question.{Question}
use Rattle.runs.specs.Answers.{codes_accepted, overlaid}
use Rattle.runs.specs.Runs.{answers_to, bytes_left, came}
use Rattle.runs.specs.declared.outcome.Outcome.{Outcome}
use Rattle.runs.proofs.CallByCall.{at_progress}
use Rattle.runs.proofs.Lawful.{laws}
use Rattle.verification.specs.Calls.{fresh}
use Rattle.verification.specs.Certificates.{certifying, certifying_bytes}
use Rattle.verification.specs.declared.written.Written.{Written}
use Rattle.runs.proofs.lists.run.Goals as goal

both : {n n' : ℕ} {k k' : Result Written Question} → n ≡ n' → k ≡ k' → ◌≡◌ {A = Outcome} (record { codes = n; certificate = k }) (record { codes = n'; certificate = k' })
both {n} {n'} {k} {k'} e f = ap (λ (x : ℕ). record { codes = x; certificate = k }) e ∙ ap (λ (x : Result Written Question). record { codes = n'; certificate = x }) f

pub returns : goal.returns
returns g c =
    let cs = c.args.calls.now in
    let old = c.args.journal.now in
    let len = length old in
    let place = c.args.place in
    let m = g.M.Plan.meaning in
    let s = g.S.Plan.meaning in
    let new = c.start-verification.ensures in
    let made = c.make_all-codes.ensures in
    let d = c.args.orders.declared in
    let p = came (m c.args.main) (s c.args.short) d len fresh cs in
    let came_to = made.after ∙ ap (λ w. at_progress w (came (m w.main) (s w.short) w.declared len w.progress cs)) new in
    let left = made.bytes ∙ ap (λ w. bytes_left (m w.main) (s w.short) w.declared len w.progress cs old) new in
    record {
      outcome = both
          (made.codes ∙ ap (λ w. codes_accepted (answers_to (m w.main) (s w.short) w.declared len w.progress cs)) new)
          (c.finish-certificate.ensures.answer ∙ ap (λ w. certifying w.declared w.progress place (length c.make_all-codes.new.journal)) came_to ∙ ap (certifying d p place) c.make_all-codes.auto.journal);
      answers = made.answers ∙ ap (λ w. overlaid (answers_to (m w.main) (s w.short) w.declared len w.progress cs) c.args.answers.now) new;
      bytes = c.finish-certificate.ensures.bytes ∙ ap (λ w. certifying_bytes w.declared w.progress place c.make_all-codes.new.journal) came_to ∙ ap (certifying_bytes d p place) left;
      laws = laws (m c.args.main) (s c.args.short) (g.met.M.Plan.ranged c.args.main) (g.met.S.Plan.ranged c.args.short);
    }
