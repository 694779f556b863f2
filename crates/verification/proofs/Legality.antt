-- The fields of a decided point's record are in their ranges.
use Rattle.std.proofs.Common.{◌≡◌, ℕ, ◌*◌, ◌≤◌, Bool, true, false, ℤ, pos, negsuc, nat_abs, Some, None, Option, refl, arith}
use lib.Signed.{le_z}
use Rattle.std.proofs.lemmas.Int.{ints}
use Rattle.std.proofs.lemmas.Bool.{and_from}
use Rattle.std.proofs.lemmas.Bool.Decides.{nat_tests}
use Rattle.method.specs.Refusals.{between}
use Rattle.method.specs.declared.verdict.Verdict.{Verdict}
use Rattle.method.specs.declared.verdict.Verdict.TheVariants.{Fit, Unfit}
use Rattle.journal.specs.Codes.{first_code, flag_code, quantity_code, quantity_found, verdict_code}
use Rattle.journal.specs.Format.{legal}
use Rattle.journal.specs.Kinds.{sequence, three_step}
use Rattle.point.specs.Bounds.{Within}
use Rattle.point.specs.declared.phase.Before.{Before}
use Rattle.point.specs.declared.phase.Before.TheVariants.{Nothing, SequenceAlone, QuantityAlone, ShortUnfit}
use Rattle.point.specs.declared.phase.Outcome.{Outcome}
use Rattle.verification.specs.Records.{first_of, sequence_fields, three_step_fields}

of_ℕ : (low high n : ℕ) → low ≤ n → n ≤ high → between (pos low) (pos high) (pos n) ≡ true
of_ℕ low high n l h = grind (arith, ints, nat_tests)

of_size : (k : ℕ) (z : ℤ) → nat_abs z ≤ k → k ≤ 96000 → between (negsuc 95999) (pos 96000) z ≡ true
of_size k z h l = grind (arith, ints, nat_tests)

no_more : (m n : ℕ) → m ≤ n → le_z (pos m) (pos n) ≡ true
no_more m n h = grind (arith, ints, nat_tests)

of_first : (b : Before) → between (pos 0) (pos 3) (first_code (first_of b)) ≡ true
of_first Nothing = refl
of_first (SequenceAlone n) = refl
of_first (QuantityAlone n) = refl
of_first (ShortUnfit n) = refl

of_verdict : (v : Verdict) → between (pos 0) (pos 1) (verdict_code v) ≡ true
of_verdict Fit = refl
of_verdict Unfit = refl

of_quantity : (q : Option Verdict) → between (pos 0) (pos 2) (quantity_code (quantity_found q)) ≡ true
of_quantity None = refl
of_quantity (Some Fit) = refl
of_quantity (Some Unfit) = refl

of_flag : (b : Bool) → between (pos 0) (pos 1) (flag_code b) ≡ true
of_flag true = refl
of_flag false = refl

pub sequence_legal : (n : ℕ) (b : Before) (o : Outcome) → 1 ≤ n → n ≤ 999 → Within o.trial → 1 ≤ o.trial.tally.observations → legal sequence (sequence_fields n b o) ≡ true
sequence_legal n b o some few w made =
    let t = o.trial.tally in
    let sound = w.5 in
    and_from _ _
    (and_from _ _ (of_ℕ 1 999 n some few)
    (and_from _ _ (of_first b)
    (and_from _ _ (of_ℕ 1 48 t.observations made sound.0)
    (and_from _ _ (of_ℕ 0 48 t.outs (omega arith) (omega (arith, sound.0, sound.1)))
    (and_from _ _ (of_verdict o.sequence)
    (and_from _ _ (of_quantity o.quantity)
    (and_from _ _ (of_flag t.wild)
    (and_from _ _ (of_flag o.dominance)
    (and_from _ _ (of_verdict o.verdict)
    (and_from _ _ (of_ℕ 0 200 o.trial.settled (omega arith) w.1)
    (and_from _ _ (of_ℕ 1 10000000 o.trial.width w.3 w.4)
    (and_from _ _ (of_size (2000 * t.observations) t.sum sound.2 (omega (arith, sound.0)))
    (and_from _ _ (of_ℕ 0 192000000 t.squares (omega arith) (omega (arith, sound.0, sound.3))) refl)))))))))))))
    (no_more t.outs t.observations sound.1)

pub three_step_legal : (n : ℕ) (o : Outcome) → 1 ≤ n → n ≤ 999 → Within o.trial → legal three_step (three_step_fields n o) ≡ true
three_step_legal n o some few w =
    let t = o.trial.tally in
    let sound = w.5 in
    and_from _ _
    (and_from _ _ (of_ℕ 1 999 n some few)
    (and_from _ _ (of_ℕ 0 200 o.trial.settled (omega arith) w.1)
    (and_from _ _ (of_ℕ 1 10000000 o.trial.width w.3 w.4)
    (and_from _ _ (of_size (2000 * t.observations) t.sum sound.2 (omega (arith, sound.0))) refl))))
    refl
