-- The kinds of record.
use Rattle.std.specs.Prelude.{ℕ, Bool, true, false, cond, ◌&&◌, List, [], ◌∷◌, ℤ, pos, int_le, slice_index_or}
use Rattle.method.specs.declared.verdict.Verdict.{Verdict}
use Rattle.method.specs.declared.verdict.Verdict.TheVariants.{Fit, Unfit}
use Rattle.journal.specs.Codes.{is, first_code, first_of, quantity_code, quantity_of, signal_code, signal_of, verdict_code, verdict_of, flag_code, flag_of}
use Rattle.journal.specs.Fields.{point, first_attempt, observations, outs, flag, quantity, settling_codes, tolerance, sum, squares, closed, unfit, codes_accepted, failed_signal}
use Rattle.journal.specs.Format.{Format}
use Rattle.journal.specs.declared.sequence.SequenceFields.{SequenceFields}
use Rattle.journal.specs.declared.three_step.ThreeStepFields.{ThreeStepFields}
use Rattle.journal.specs.declared.certificate.CertificateFields.{CertificateFields}
use Rattle.journal.specs.declared.notice.NoticeFields.{NoticeFields}

-- the number in a place, from 0
abbrev pub at : List ℤ → ℕ → ℤ
at zs i = slice_index_or zs i (pos 0)

-- a point that a main attempt decided, with that attempt's numbers; no more are out than were observed
abbrev pub sequence : Format SequenceFields
sequence = record {
  number = 1;
  size = 15;
  fields = point ∷ first_attempt ∷ observations ∷ outs ∷ flag ∷ quantity ∷ flag ∷ flag ∷ flag ∷ settling_codes ∷ tolerance ∷ sum ∷ squares ∷ [];
  numbers = λ f. f.point ∷ first_code f.first_attempt ∷ f.observations ∷ f.outs ∷ verdict_code f.sequence ∷ quantity_code f.quantity ∷ flag_code f.wild ∷ flag_code f.dominance ∷ verdict_code f.verdict ∷ f.settling_codes ∷ f.tolerance ∷ f.sum ∷ f.squares ∷ [];
  made = λ zs. record {
    point = at zs 0;
    first_attempt = first_of (at zs 1);
    observations = at zs 2;
    outs = at zs 3;
    sequence = verdict_of (at zs 4);
    quantity = quantity_of (at zs 5);
    wild = flag_of (at zs 6);
    dominance = flag_of (at zs 7);
    verdict = verdict_of (at zs 8);
    settling_codes = at zs 9;
    tolerance = at zs 10;
    sum = at zs 11;
    squares = at zs 12;
  };
  related = λ f. int_le f.outs f.observations;
}

-- a point that a short attempt decided
abbrev pub three_step : Format ThreeStepFields
three_step = record {
  number = 2;
  size = 8;
  fields = point ∷ settling_codes ∷ tolerance ∷ sum ∷ [];
  numbers = λ f. f.point ∷ f.settling_codes ∷ f.tolerance ∷ f.sum ∷ [];
  made = λ zs. record { point = at zs 0; settling_codes = at zs 1; tolerance = at zs 2; sum = at zs 3 };
  related = λ f. true;
}

-- fit exactly if no closed point is unfit and every declared one is closed
abbrev pub earned : CertificateFields → Verdict
earned f = cond (is 0 f.unfit && (int_le f.closed f.declared && int_le f.declared f.closed)) Fit Unfit

-- two verdicts are the same
abbrev pub same : Verdict → Verdict → Bool
same Fit Fit = true
same Fit Unfit = false
same Unfit Fit = false
same Unfit Unfit = true

-- how a verification ended: no more points are closed than declared, no more unfit than closed, and the verdict follows
abbrev pub certificate : Format CertificateFields
certificate = record {
  number = 3;
  size = 8;
  fields = point ∷ closed ∷ unfit ∷ flag ∷ codes_accepted ∷ [];
  numbers = λ f. f.declared ∷ f.closed ∷ f.unfit ∷ verdict_code f.verdict ∷ f.codes_accepted ∷ [];
  made = λ zs. record { declared = at zs 0; closed = at zs 1; unfit = at zs 2; verdict = verdict_of (at zs 3); codes_accepted = at zs 4 };
  related = λ f. int_le f.closed f.declared && (int_le f.unfit f.closed && same f.verdict (earned f));
}

-- which signal of the manual stage failed
abbrev pub notice : Format NoticeFields
notice = record {
  number = 4;
  size = 1;
  fields = failed_signal ∷ [];
  numbers = λ f. signal_code f.failed ∷ [];
  made = λ zs. record { failed = signal_of (at zs 0) };
  related = λ f. true;
}
