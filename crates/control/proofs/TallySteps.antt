-- One error more of a list makes the numbers of the longer list.
use Rattle.std.proofs.Common.{◌≡◌, ℕ, ◌+◌, ◌*◌, ◌<◌, Bool, cond, ◌||◌, ltb, List, [], ◌∷◌, ◌++◌, length, get_or, take, ℤ, pos, ◌+ℤ◌, nat_abs, count_by, sym, ap, ◌∙◌, arith}
use Rattle.std.proofs.lemmas.List.{length_push, length-take-le}
use Rattle.std.proofs.lemmas.List.Sums.{fold_more, fold_push, sum_by_more, sum_by_push}
use Rattle.std.proofs.lemmas.Bool.Decides.{nat_tests}
use Rattle.method.specs.Meaning.{Meaning}
use Rattle.control.specs.Attempts.{tally_after}
use Rattle.control.specs.Errors.{is_wild, counted}
use Rattle.control.specs.Tallies.{count_out, tally_of}
use Rattle.control.specs.Tolerances.{in_tolerance}
use Rattle.control.specs.declared.tally.Tally.{Tally}

same_record : (f : ℕ → ℕ → ℤ → ℕ → Bool → Tally) (n n' x x' : ℕ) (s s' : ℤ) (q q' : ℕ) (w w' : Bool) → n ≡ n' → x ≡ x' → s ≡ s' → q ≡ q' → w ≡ w' → f n x s q w ≡ f n' x' s' q' w'
same_record f n n' x x' s s' q q' w w' a b c d e = cc

one_wild : (k : ℕ) (b : Bool) → (ltb 0 k || b) ≡ ltb 0 (k + cond b 1 0)
one_wild k b = grind (arith, nat_tests)

module _ (m : Meaning) (d : ℕ) (es : List ℤ) (i : ℕ) (h : i < length es) where
  pub outs_more : count_out m d (take (i + 1) es) ≡ count_out m d (take i es) + cond (in_tolerance m.margin d (get_or es i (pos 0))) 0 1
  outs_more = sum_by_more (λ e. cond (in_tolerance m.margin d e) 0 1) es i (pos 0) h

  length_more : length (take i es) + 1 ≡ length (take (i + 1) es)
  length_more = omega (arith, length-take-le i es (omega arith), length-take-le (i + 1) es (omega arith))

  pub tally_more : tally_after m d (tally_of m d (take i es)) (get_or es i (pos 0)) ≡ tally_of m d (take (i + 1) es)
  tally_more =
      same_record (λ n x s q w. record { observations = n; outs = x; sum = s; squares = q; wild = w }) _ _ _ _ _ _ _ _ _ _
      length_more
      (sym outs_more)
      (sym (fold_more (λ s e. s +ℤ counted e) (pos 0) es i (pos 0) h))
      (sym (sum_by_more (λ e. nat_abs (counted e) * nat_abs (counted e)) es i (pos 0) h))
      (one_wild (count_by is_wild (take i es)) (is_wild (get_or es i (pos 0))) ∙ ap (ltb 0) (sym (sum_by_more (λ e. cond (is_wild e) 1 0) es i (pos 0) h)))

-- the same of an error behind a list
pub tally_push : (m : Meaning) (d : ℕ) (es : List ℤ) (e : ℤ) → tally_of m d (es ++ e ∷ []) ≡ tally_after m d (tally_of m d es) e
tally_push m d es e =
    same_record (λ n x s q w. record { observations = n; outs = x; sum = s; squares = q; wild = w }) _ _ _ _ _ _ _ _ _ _
    (length_push es e)
    (sum_by_push (λ z. cond (in_tolerance m.margin d z) 0 1) es e)
    (fold_push (λ s z. s +ℤ counted z) (pos 0) es e)
    (sum_by_push (λ z. nat_abs (counted z) * nat_abs (counted z)) es e)
    (ap (ltb 0) (sum_by_push (λ z. cond (is_wild z) 1 0) es e) ∙ sym (one_wild (count_by is_wild es) (is_wild e)))
