-- Settling ends at the first code that ends it.
use Rattle.std.proofs.Common.{◌≡◌, ℕ, zero, suc, ◌+◌, ◌-◌, ◌<◌, ◌≤◌, cond, ◌&&◌, leb, List, length, get_or, drop, ℤ, pos, Some, None, Option, sym, refl, ap, ◌∙◌, subst, ⊎_elim, add-zero, arith}
use Rattle.std.proofs.lemmas.List.{at_drop_more, at_drop_all}
use Rattle.std.proofs.lemmas.Bool.{cases_lt, lt-leb}
use Rattle.control.specs.Firsts.{Quiet}
use Rattle.control.specs.Settlings.{agree, no_codes, or_settles, settled_at, settled_after, settled_by, SettlesFirst, settling_end, with_code}
use Rattle.control.specs.declared.codes.Codes.{Codes}
use Rattle.control.specs.declared.codes.Settled.{Settled}
use Rattle.control.specs.declared.codes.SettledBy.{SettledBy}
use Rattle.control.specs.declared.codes.SettledBy.TheVariants.{Agreement, LastCode}
use Rattle.control.proofs.EndsFirst.{quiet_more}

-- the codes kept are the latest of the first i of a list
pub record Latest (cs : List ℤ) (i : ℕ) (k : Codes) : Type 0 where
  pub counts : k.count ≡ i
  pub last : 1 ≤ i → k.last ≡ get_or cs (i - 1) (pos 0)
  pub previous : 2 ≤ i → k.previous ≡ get_or cs (i - 2) (pos 0)

latest_none : (cs : List ℤ) → Latest cs 0 no_codes
latest_none cs = record { counts = refl; last = λ h. absurd (omega arith); previous = λ h. absurd (omega arith) }

latest_more : (cs : List ℤ) (i : ℕ) (k : Codes) → Latest cs i k → Latest cs (i + 1) (with_code k (get_or cs i (pos 0)))
latest_more cs i k l = record {
  counts = ap (λ n. n + 1) l.counts;
  last = λ h. let e : i ≡ i + 1 - 1 = omega arith in ap (λ j. get_or cs j (pos 0)) e;
  previous = λ h. let e : i - 1 ≡ i + 1 - 2 = omega arith in l.last (omega arith) ∙ ap (λ j. get_or cs j (pos 0)) e;
}

-- before the third code the ones before it do not matter
too_few : (n i : ℕ) (a b c a' b' c' : ℤ) → i < 3 → settled_at n i a b c ≡ settled_at n i a' b' c'
too_few n i a b c a' b' c' h =
    let f = lt-leb 3 i h in
    ap (λ t. cond (t && agree n a b c) (Some Agreement) (cond (leb 200 i) (Some LastCode) None)) f
    ∙ sym (ap (λ t. cond (t && agree n a' b' c') (Some Agreement) (cond (leb 200 i) (Some LastCode) None)) f)

same_codes : (n i j : ℕ) (a b c a' b' c' : ℤ) → i ≡ j → a ≡ a' → b ≡ b' → c ≡ c' → settled_at n i a b c ≡ settled_at n j a' b' c'
same_codes n i j a b c a' b' c' e p q r =
    ap (λ x. settled_at n x a b c) e ∙ ap (λ x. settled_at n j x b c) p ∙ ap (λ x. settled_at n j a' x c) q ∙ ap (λ x. settled_at n j a' b' x) r

module _ (n : ℕ) (cs : List ℤ) where
  settled_more : (i : ℕ) (k : Codes) → Latest cs i k → settled_by n k (get_or cs i (pos 0)) ≡ settled_after n cs (i + 1)
  settled_more i k l =
      let e : i ≡ i + 1 - 1 = omega arith in
      let p : i - 1 ≡ i + 1 - 2 = omega arith in
      let q : i - 2 ≡ i + 1 - 3 = omega arith in
      ap (λ x. settled_at n (x + 1) (get_or cs i (pos 0)) k.last k.previous) l.counts
      ∙ ⊎_elim
      (λ few. too_few n (i + 1) (get_or cs i (pos 0)) k.last k.previous (get_or cs (i + 1 - 1) (pos 0)) (get_or cs (i + 1 - 2) (pos 0)) (get_or cs (i + 1 - 3) (pos 0)) (omega arith))
      (λ many.
      same_codes n (i + 1) (i + 1) _ _ _ _ _ _ refl (ap (λ j. get_or cs j (pos 0)) e)
      (l.last (omega arith) ∙ ap (λ j. get_or cs j (pos 0)) p)
      (l.previous many ∙ ap (λ j. get_or cs j (pos 0)) q))
      (cases_lt i 2)

  head : (i : ℕ) (k : Codes) → i < length cs → Latest cs i k → settling_end n k (drop i cs) ≡ or_settles (settled_after n cs (i + 1)) (i + 1) (settling_end n (with_code k (get_or cs i (pos 0))) (drop (i + 1) cs))
  head i k h l =
      at_drop_more (settling_end n k) cs i (pos 0) h
      ∙ ap (λ o. or_settles o (k.count + 1) (settling_end n (with_code k (get_or cs i (pos 0))) (drop (i + 1) cs))) (settled_more i k l)
      ∙ ap (λ x. or_settles (settled_after n cs (i + 1)) (x + 1) (settling_end n (with_code k (get_or cs i (pos 0))) (drop (i + 1) cs))) l.counts

  step : (o : Option SettledBy) (i : ℕ) (rest : Option Settled) → i + 1 ≤ length cs → settled_after n cs (i + 1) ≡ o → Quiet (settled_after n cs) i → (Quiet (settled_after n cs) (i + 1) → SettlesFirst n cs rest) → SettlesFirst n cs (or_settles o (i + 1) rest)
  step (Some b) i rest h e q next = (omega arith, h, e, λ k low high. q k low (omega arith))
  step None i rest h e q next = next (quiet_more (settled_after n cs) i q e)

  from : (count i : ℕ) (k : Codes) → i + count ≡ length cs → Latest cs i k → Quiet (settled_after n cs) i → SettlesFirst n cs (settling_end n k (drop i cs))
  from zero i k h l q =
      subst (SettlesFirst n cs) (sym (at_drop_all (settling_end n k) cs i (omega (arith, add-zero i))))
      (λ j low high. q j low (omega (arith, add-zero i)))
  from (suc count) i k h l q =
      let lt : i < length cs = omega arith in
      subst (SettlesFirst n cs) (sym (head i k lt l))
      (step (settled_after n cs (i + 1)) i _ (omega arith) refl q
      (λ w. from count (i + 1) (with_code k (get_or cs i (pos 0))) (omega arith) (latest_more cs i k l) w))

  pub settles_first : SettlesFirst n cs (settling_end n no_codes cs)
  settles_first = from (length cs) 0 no_codes (omega arith) (latest_none cs) (λ k low high. absurd (omega arith))

-- one turn of the loop over the codes
module _ (n : ℕ) (k : Codes) (cs : List ℤ) (i : ℕ) (h : i < length cs) (z : ℤ) (q : z ≡ get_or cs i (pos 0)) where
  turn : settling_end n k (drop i cs) ≡ or_settles (settled_by n k z) (k.count + 1) (settling_end n (with_code k z) (drop (i + 1) cs))
  turn =
      at_drop_more (settling_end n k) cs i (pos 0) h
      ∙ ap (λ y. or_settles (settled_by n k y) (k.count + 1) (settling_end n (with_code k y) (drop (i + 1) cs))) (sym q)

  pub settles : (s : Settled) → s.codes ≡ k.count + 1 → Some s.by ≡ settled_by n k z → Some s ≡ settling_end n k (drop i cs)
  settles s c e =
      ap (λ count. Some (record { by = s.by; codes = count })) c
      ∙ ap (λ o. or_settles o (k.count + 1) (settling_end n (with_code k z) (drop (i + 1) cs))) e ∙ sym turn

  pub goes_on : (u : Codes) → u ≡ with_code k z → None ≡ settled_by n k z → settling_end n k (drop i cs) ≡ settling_end n u (drop (i + 1) cs)
  goes_on u a e =
      turn ∙ ap (λ o. or_settles o (k.count + 1) (settling_end n (with_code k z) (drop (i + 1) cs))) (sym e)
      ∙ ap (λ y. settling_end n y (drop (i + 1) cs)) (sym a)

-- the law of what a call returned
pub first_of : (n : ℕ) (cs : List ℤ) (r : Option Settled) → r ≡ settling_end n no_codes cs → SettlesFirst n cs r
first_of n cs r e = subst (SettlesFirst n cs) (sym e) (settles_first n cs)
