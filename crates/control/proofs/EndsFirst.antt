-- A run ends at the first observation at which the plan ends it.
use Rattle.std.proofs.Common.{◌≡◌, ℕ, zero, suc, ◌+◌, ◌-◌, ◌<◌, ◌≤◌, Bool, cond, List, length, get_or, take, drop, ℤ, pos, Some, None, Option, sym, refl, ap, ◌∙◌, subst, ⊎_elim, add-zero, arith}
use Rattle.std.proofs.lemmas.List.{at_drop_more, at_drop_all}
use Rattle.std.proofs.lemmas.Bool.{cases_eq, cases_lt}
use Rattle.std.proofs.lemmas.Bool.Decides.{nat_tests}
use Rattle.method.specs.Meaning.{Meaning, Ranged}
use Rattle.method.specs.declared.verdict.Verdict.{Verdict}
use Rattle.control.specs.Attempts.{verdict_at}
use Rattle.control.specs.Firsts.{Quiet}
use Rattle.control.specs.Sequences.{run, or_later, sequence_end, verdict_after, EndsFirst, EndsByCut}
use Rattle.control.specs.Tallies.{count_out}
use Rattle.control.specs.Tolerances.{in_tolerance}
use Rattle.control.specs.declared.ending.Ending.{Ending}
use Rattle.control.proofs.TallySteps.{outs_more}

pub quiet_more : {A : Type 0} (f : ℕ → Option A) (i : ℕ) → Quiet f i → f (i + 1) ≡ None → Quiet f (i + 1)
quiet_more f i q e k low high = ⊎_elim (λ s. ap f s ∙ e) (λ n. q k low (omega arith)) (cases_eq k (i + 1))

module _ (m : Meaning) (d : ℕ) (es : List ℤ) where
  -- what the plan says at i + 1, from the errors before
  pub verdict_more : (i : ℕ) → i < length es → verdict_after m d es (i + 1) ≡ verdict_at m (i + 1) (count_out m d (take i es) + cond (in_tolerance m.margin d (get_or es i (pos 0))) 0 1) (in_tolerance m.margin d (get_or es i (pos 0)))
  verdict_more i h =
      let back : i + 1 - 1 ≡ i = omega arith in
      ap (λ k. verdict_at m (i + 1) (count_out m d (take (i + 1) es)) (in_tolerance m.margin d (get_or es k (pos 0)))) back
      ∙ ap (λ x. verdict_at m (i + 1) x (in_tolerance m.margin d (get_or es i (pos 0)))) (outs_more m d es i h)

  head : (i : ℕ) → i < length es → run m d i (count_out m d (take i es)) (drop i es) ≡ or_later (verdict_after m d es (i + 1)) (i + 1) (run m d (i + 1) (count_out m d (take (i + 1) es)) (drop (i + 1) es))
  head i h =
      at_drop_more (run m d i (count_out m d (take i es))) es i (pos 0) h
      ∙ ap (λ o. or_later o (i + 1) (run m d (i + 1) (count_out m d (take i es) + cond (in_tolerance m.margin d (get_or es i (pos 0))) 0 1) (drop (i + 1) es))) (sym (verdict_more i h))
      ∙ ap (λ x. or_later (verdict_after m d es (i + 1)) (i + 1) (run m d (i + 1) x (drop (i + 1) es))) (sym (outs_more m d es i h))

  step : (o : Option Verdict) (i : ℕ) (rest : Option Ending) → i + 1 ≤ length es → verdict_after m d es (i + 1) ≡ o → Quiet (verdict_after m d es) i → (Quiet (verdict_after m d es) (i + 1) → EndsFirst m d es rest) → EndsFirst m d es (or_later o (i + 1) rest)
  step (Some v) i rest h e q next = (omega arith, h, e, λ k low high. q k low (omega arith))
  step None i rest h e q next = next (quiet_more (verdict_after m d es) i q e)

  from : (count i : ℕ) → i + count ≡ length es → Quiet (verdict_after m d es) i → EndsFirst m d es (run m d i (count_out m d (take i es)) (drop i es))
  from zero i h q =
      subst (EndsFirst m d es) (sym (at_drop_all (run m d i (count_out m d (take i es))) es i (omega (arith, add-zero i))))
      (λ k low high. q k low (omega (arith, add-zero i)))
  from (suc count) i h q =
      let lt : i < length es = omega arith in
      subst (EndsFirst m d es) (sym (head i lt))
      (step (verdict_after m d es (i + 1)) i _ (omega arith) refl q (λ w. from count (i + 1) (omega arith) w))

  pub ends_first : EndsFirst m d es (sequence_end m d es)
  ends_first = from (length es) 0 (omega arith) (λ k low high. absurd (omega arith))

-- the law of what a call returned
pub first_of : (m : Meaning) (d : ℕ) (es : List ℤ) (r : Option Ending) → r ≡ sequence_end m d es → EndsFirst m d es r
first_of m d es r e = subst (EndsFirst m d es) (sym e) (ends_first m d es)

-- an end found with a tolerance w that is d
pub same_end : (m : Meaning) (es : List ℤ) (w d : ℕ) (o : Option Ending) → w ≡ d → o ≡ sequence_end m w es → (r : Option Ending) → r ≡ o → r ≡ sequence_end m d es
same_end m es w d o e q r k = k ∙ q ∙ ap (λ x. sequence_end m x es) e

at_cut : (m : Meaning) (x : ℕ) (ok : Bool) → verdict_at m m.cut x ok ≡ None → ⊥
at_cut m x ok e = grind (arith, nat_tests)

pub by_cut : (m : Meaning) (d : ℕ) (es : List ℤ) → Ranged m → (r : Option Ending) → EndsFirst m d es r → EndsByCut m es r
by_cut m d es g None q long = absurd (at_cut m _ _ (q m.cut (omega (arith, g.cut_low)) long))
by_cut m d es g (Some e) f long = (
  e,
  refl,
  ⊎_elim (λ low. absurd (at_cut m _ _ (f.3 m.cut (omega (arith, g.cut_low)) low))) (λ high. high) (cases_lt m.cut e.at),
)
