use Rattle.std.proofs.Common.{ap, ◌∙◌, subst}
use Rattle.journal.specs.Format.{legal}
use Rattle.journal.specs.Kinds.{sequence}
use Rattle.point.specs.Bounds.{Within}
use Rattle.point.specs.declared.phase.Trial.{Trial}
use Rattle.verification.proofs.Legality.{sequence_legal}
use Rattle.verification.proofs.records.record_of.Goals as goal

pub returns-in-Main-clause-legal : goal.returns-in-Main-clause-legal
returns-in-Main-clause-legal c =
    let within = subst (λ (a : Trial). Within a) (c.attempt-2.view_is ∙ c.attempt.ensures.is) c.attempt-2.invariant in
    ap (legal sequence) c.sequence_record.ensures ∙ sequence_legal c.args.point c.in-Main.before c.args.outcome.now c.requires.0 c.requires.1 within c.attempt.ensures.made
