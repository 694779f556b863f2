-- The two runs of an audit agree.
use Rattle.std.proofs.Common.{◌≡◌, ℕ, Bool, true, false, cond, List, ℤ, pos, nat_abs, Ok, Err, Result, sym, refl, ap, ◌∙◌, arith}
use Rattle.method.specs.Meaning.{Meaning}
use Rattle.method.specs.declared.question.Question.{Question}
use Rattle.method.specs.declared.question.Question.TheVariants.{Ended}
use Rattle.method.specs.declared.verdict.Verdict.{Verdict}
use Rattle.runs.specs.Audits.{Sparing, audited}
use Rattle.runs.specs.Laws.{Laws}
use Rattle.runs.specs.Runs.{came, journal_of, outcome_of}
use Rattle.runs.specs.declared.call.Call.{Call}
use Rattle.runs.specs.declared.outcome.Audit.{Audit}
use Rattle.runs.specs.declared.outcome.Outcome.{Outcome}
use Rattle.verification.specs.Calls.{fresh}
use Rattle.verification.specs.Certificates.{certified_by, instrument_verdict}
use Rattle.point.specs.Controls.{control_named}
use Rattle.verification.specs.Ordering.{as_declared, ended}
use Rattle.verification.specs.declared.written.Written.{Written}
use Rattle.verification.specs.declared.declared.Declared.{Declared}

-- a certificate is of a verification that has ended, and has its verdict
certified : (b : Bool) (v : Verdict) (r : Result ℕ Question) (k : Written) → cond b (certified_by v r) (Err Ended) ≡ Ok k → (b ≡ true) × (k.verdict ≡ v)
certified true v (Ok n) k e = (refl, told) where
  told : k.verdict ≡ v
  told = let same : k ≡ record { verdict = v; length = n } = cc in ap (λ (x : Written). x.verdict) same
certified true v (Err q) k e = let z : ◌≡◌ {A = ℕ} 0 1 = cc in let n : ⊥ = omega arith in absurd n
certified false v r k e = let z : ◌≡◌ {A = ℕ} 0 1 = cc in let n : ⊥ = omega arith in absurd n

pub sparing : (m s : Meaning) → Laws m s → (points control : ℤ) (len place : ℕ) (cs : List Call) → Sparing (audited m s points control len place cs)
sparing m s laws points control len place cs =
    let n : ℕ = nat_abs points in
    let one : Declared = as_declared points control (pos 1) in
    let two : Declared = as_declared points control (pos 2) in
    let p = came m s one len fresh cs in
    let q = came m s two len fresh cs in
    record {
      codes = laws.takes_no_more n (control_named control) len cs;
      verdicts = λ x y e f.
          let a = certified (ended one p) (instrument_verdict one p) _ x e in
          let b = certified (ended two q) (instrument_verdict two q) _ y f in
          a.1 ∙ laws.verdicts_agree n (control_named control) len cs a.0 b.0 ∙ sym b.1;
    }

-- two outcomes by their parts
pub both : {a a' b b' : Outcome} → a ≡ a' → b ≡ b' → ◌≡◌ {A = Audit} (record { first_unfit = a; all_points = b }) (record { first_unfit = a'; all_points = b' })
both {a} {a'} {b} {b'} e f = ap (λ (x : Outcome). record { first_unfit = x; all_points = b }) e ∙ ap (λ (x : Outcome). record { first_unfit = a'; all_points = x }) f

-- a run under equal orders and buffers of equal length
pub outcome_alike : (m s : Meaning) {d d' : Declared} {len len' : ℕ} (place : ℕ) (cs : List Call) → d' ≡ d → len' ≡ len → outcome_of m s d' len' place cs ≡ outcome_of m s d len place cs
outcome_alike m s {d} {d'} {len} {len'} place cs ed el = ap (λ (y : Declared). outcome_of m s y len' place cs) ed ∙ ap (λ (y : ℕ). outcome_of m s d y place cs) el

pub journal_alike : (m s : Meaning) {d d' : Declared} {old old' : List ℕ} (place : ℕ) (cs : List Call) → d' ≡ d → old' ≡ old → journal_of m s d' place cs old' ≡ journal_of m s d place cs old
journal_alike m s {d} {d'} {old} {old'} place cs ed eo = ap (λ (y : Declared). journal_of m s y place cs old') ed ∙ ap (λ (y : List ℕ). journal_of m s d place cs y) eo
