-- One list of calls under the two stop rules, on verifications that are alike but for them.
use Rattle.std.specs.Prelude.{◌≡◌, ℕ, ◌≤◌, List, ℤ, pos, Ok}
use Rattle.method.specs.Meaning.{Meaning}
use Rattle.runs.specs.Runs.{journal_of, outcome_of}
use Rattle.runs.specs.declared.call.Call.{Call}
use Rattle.runs.specs.declared.outcome.Audit.{Audit}
use Rattle.verification.specs.Ordering.{as_declared}
use Rattle.verification.specs.declared.written.Written.{Written}

-- what the list comes to under each rule, with a buffer of that length
abbrev pub audited : Meaning → Meaning → ℤ → ℤ → ℕ → ℕ → List Call → Audit
audited m s points control len place cs = record {
  first_unfit = outcome_of m s (as_declared points control (pos 1)) len place cs;
  all_points = outcome_of m s (as_declared points control (pos 2)) len place cs;
}

-- what is left in the buffer that was lent to one and then to the other
abbrev pub audited_bytes : Meaning → Meaning → ℤ → ℤ → ℕ → List Call → List ℕ → List ℕ
audited_bytes m s points control place cs old =
    journal_of m s (as_declared points control (pos 2)) place cs (journal_of m s (as_declared points control (pos 1)) place cs old)

-- ending at the first unfit point took no more codes, and where both were certified the verdicts are equal
pub record Sparing (a : Audit) : Type 0 where
  pub codes : a.first_unfit.codes ≤ a.all_points.codes
  pub verdicts : (x y : Written) → a.first_unfit.certificate ≡ Ok x → a.all_points.certificate ≡ Ok y → x.verdict ≡ y.verdict
