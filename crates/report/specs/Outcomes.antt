-- The result of a verification, by its last record, and the points that have none yet.
use Rattle.std.specs.Prelude.{ℕ, ◌+◌, min}
use Rattle.journal.specs.declared.certificate.CertificateFields.{CertificateFields}
use Rattle.journal.specs.declared.record.Record.{Record}
use Rattle.journal.specs.declared.record.Record.TheVariants.{Sequence, ThreeStep, Certificate, Notice}
use Rattle.method.specs.declared.verdict.Verdict.{Verdict}
use Rattle.method.specs.declared.verdict.Verdict.TheVariants.{Fit as VerdictFit, Unfit as VerdictUnfit}
use Rattle.report.specs.declared.outcome.Outcome.{Outcome}
use Rattle.report.specs.declared.outcome.Outcome.TheVariants.{NoCertificate, Fit, Unfit, NotBegun}

-- the points since the last certificate or notice
abbrev pub waiting : Outcome → ℕ
waiting (NoCertificate n) = n
waiting (Fit f) = 0
waiting (Unfit f) = 0
waiting (NotBegun s) = 0

-- a count stops at the largest number of its type
abbrev pub one_more : ℕ → ℕ
one_more n = min (n + 1) 4294967295

abbrev pub certified : Verdict → CertificateFields → Outcome
certified VerdictFit f = Fit f
certified VerdictUnfit f = Unfit f

-- a point has no result until its certificate; a certificate and a notice are a result, whatever came before
abbrev pub outcome_after : Outcome → Record → Outcome
outcome_after o (Sequence f) = NoCertificate (one_more (waiting o))
outcome_after o (ThreeStep f) = NoCertificate (one_more (waiting o))
outcome_after o (Certificate f) = certified f.verdict f
outcome_after o (Notice f) = NotBegun f.failed
