-- A run over one list behind another goes on where the first left it.
use Rattle.std.proofs.Common.{◌≡◌, ℕ, ◌+◌, cond, List, [], ◌∷◌, ◌++◌, length, ℤ, Some, None, Option, sym, ap, ◌∙◌, add-zero, arith}
use Rattle.std.proofs.lemmas.List.Sums.{sum_by-cons}
use Rattle.method.specs.Meaning.{Meaning}
use Rattle.method.specs.declared.verdict.Verdict.{Verdict}
use Rattle.control.specs.Attempts.{verdict_at}
use Rattle.control.specs.Sequences.{run, or_later, sequence_end}
use Rattle.control.specs.Tallies.{count_out}
use Rattle.control.specs.Tolerances.{in_tolerance}
use Rattle.control.specs.declared.ending.Ending.{Ending}

passes_on : (o : Option Verdict) (i : ℕ) (a b c : Option Ending) → or_later o i a ≡ None → (a ≡ None → b ≡ c) → or_later o i b ≡ c
passes_on None i a b c e f = f e
passes_on (Some v) i a b c e f = cc

pub run_on : (m : Meaning) (d n x : ℕ) (es fs : List ℤ) → run m d n x es ≡ None → run m d n x (es ++ fs) ≡ run m d (n + length es) (x + count_out m d es) fs
run_on m d n x [] fs e = ap (λ k. run m d k x fs) (sym (add-zero n)) ∙ ap (λ k. run m d (n + 0) k fs) (sym (add-zero x))
run_on m d n x (z ∷ es) fs e =
    let ok : ℕ = cond (in_tolerance m.margin d z) 0 1 in
    let made : n + 1 + length es ≡ n + length (z ∷ es) = omega arith in
    let out : x + ok + count_out m d es ≡ x + count_out m d (z ∷ es) =
    omega (arith, sum_by-cons (λ y. cond (in_tolerance m.margin d y) 0 1) z es) in
    passes_on (verdict_at m (n + 1) (x + ok) (in_tolerance m.margin d z)) (n + 1) (run m d (n + 1) (x + ok) es) (run m d (n + 1) (x + ok) (es ++ fs)) _ e
    (λ f. run_on m d (n + 1) (x + ok) es fs f ∙ ap (λ k. run m d k (x + ok + count_out m d es) fs) made ∙ ap (λ k. run m d (n + length (z ∷ es)) k fs) out)

-- the same of an attempt from its beginning
pub sequence_on : (m : Meaning) (d : ℕ) (es fs : List ℤ) → sequence_end m d es ≡ None → sequence_end m d (es ++ fs) ≡ run m d (length es) (count_out m d es) fs
sequence_on m d es fs e =
    let made : 0 + length es ≡ length es = omega arith in
    let out : 0 + count_out m d es ≡ count_out m d es = omega arith in
    run_on m d 0 0 es fs e ∙ ap (λ k. run m d k (0 + count_out m d es) fs) made ∙ ap (λ k. run m d (length es) k fs) out
