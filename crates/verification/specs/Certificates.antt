-- The certificate of a verification that has ended.
use Rattle.std.specs.Prelude.{ℕ, true, cond, ◌&&◌, List, length, pos, Ok, Err, Result, ◌==◌}
use Rattle.method.specs.declared.question.Question.{Question}
use Rattle.method.specs.declared.question.Question.TheVariants.{Ended}
use Rattle.method.specs.declared.verdict.Verdict.{Verdict}
use Rattle.method.specs.Verdicts.{fit_if}
use Rattle.journal.specs.Journal.{record_bytes}
use Rattle.journal.specs.Writing.{answered, laid}
use Rattle.journal.specs.declared.certificate.CertificateFields.{CertificateFields}
use Rattle.journal.specs.declared.record.Record.{Record}
use Rattle.journal.specs.declared.record.Record.TheVariants.{Certificate}
use Rattle.verification.specs.Ordering.{ended}
use Rattle.verification.specs.declared.written.Written.{Written}
use Rattle.verification.specs.declared.declared.Declared.{Declared}
use Rattle.verification.specs.declared.progress.Progress.{Progress}

-- the instrument is fit exactly if no point was closed unfit and every declared point was closed
abbrev pub instrument_verdict : Declared → Progress → Verdict
instrument_verdict d p = fit_if (p.unfit == 0 && p.closed == d.points)

-- the points declared, closed and unfit, the verdict, and the codes accepted
abbrev pub certificate_fields : Declared → Progress → CertificateFields
certificate_fields d p = record {
  declared = pos d.points;
  closed = pos p.closed;
  unfit = pos p.unfit;
  verdict = instrument_verdict d p;
  codes_accepted = pos p.codes;
}

abbrev pub certificate_record : Declared → Progress → Record
certificate_record d p = Certificate (certificate_fields d p)

-- by what writing the record answered
abbrev pub certified_by : Verdict → Result ℕ Question → Result Written Question
certified_by v (Ok n) = Ok (record { verdict = v; length = n })
certified_by v (Err q) = Err q

-- has it ended, and does the record fit a buffer of that length at that place?
abbrev pub certifying : Declared → Progress → ℕ → ℕ → Result Written Question
certifying d p place len =
    cond (ended d p) (certified_by (instrument_verdict d p) (answered true (length (record_bytes (certificate_record d p))) place len)) (Err Ended)

-- what a certificate leaves in the buffer
abbrev pub certifying_bytes : Declared → Progress → ℕ → List ℕ → List ℕ
certifying_bytes d p place old = cond (ended d p) (laid true (record_bytes (certificate_record d p)) place old) old
