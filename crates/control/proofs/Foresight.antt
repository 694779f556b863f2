-- The soonest observation is where an attempt ends that stays in tolerance.
use Rattle.std.proofs.Common.{◌≡◌, ℕ, zero, suc, ◌+◌, ◌-◌, ◌<◌, ◌≤◌, true, false, cond, List, [], ◌∷◌, ◌++◌, length, ℤ, Some, None, Option, sym, refl, ap, ◌∙◌, subst, ⊎_elim, add-zero, arith}
use Rattle.std.proofs.lemmas.Bool.{cases_Bool, cases_eq, cases_lt, true≢false}
use Rattle.std.proofs.lemmas.Bool.Decides.{nat_tests}
use Rattle.method.specs.Meaning.{Meaning, Ranged}
use Rattle.control.specs.Attempts.{verdict_at}
use Rattle.control.specs.Tolerances.{in_tolerance}
use Rattle.control.specs.Sequences.{Ends, run, or_later, sequence_end}
use Rattle.control.specs.Tallies.{count_out}
use Rattle.control.specs.Prospects.{AllIn, Foretells, GoingOn, could_end, first_end, soonest_fit}
use Rattle.control.specs.declared.ending.Ending.{Ending}
use Rattle.method.specs.declared.verdict.Verdict.TheVariants.{Fit, Unfit}
use Rattle.control.proofs.EndsFirst.{ends_first, by_cut}
use Rattle.control.proofs.RunsOn.{sequence_on}

-- r is the least observation after n, up to the cut, at which the attempt could end fit
abbrev pub Least : Meaning → ℕ → ℕ → Option ℕ → Type 0
Least m n x None = (k : ℕ) → n < k → k ≤ m.cut → could_end m x k ≡ false
Least m n x (Some r) = (n < r) × (r ≤ m.cut) × (could_end m x r ≡ true) × ((k : ℕ) → n < k → k < r → could_end m x k ≡ false)

ends_here : (m : Meaning) (n x : ℕ) → n ≤ m.cut → could_end m x n ≡ true → verdict_at m n x true ≡ Some Fit
ends_here m n x h e = grind (arith, nat_tests)

not_none : {e : Ending} → None ≡ Some e → ⊥
not_none q = cc

goes_on : (m : Meaning) (n x : ℕ) → n < m.cut → could_end m x n ≡ false → verdict_at m n x true ≡ None
goes_on m n x h e = grind (arith, nat_tests)

-- the head of a run in tolerance
head : (m : Meaning) (d n x : ℕ) (e : ℤ) (es : List ℤ) → in_tolerance m.margin d e ≡ true → run m d n x (e ∷ es) ≡ or_later (verdict_at m (n + 1) x true) (n + 1) (run m d (n + 1) x es)
head m d n x e es t =
    ap (λ b. or_later (verdict_at m (n + 1) (x + cond b 0 1) b) (n + 1) (run m d (n + 1) (x + cond b 0 1) es)) t
    ∙ ap (λ y. or_later (verdict_at m (n + 1) y true) (n + 1) (run m d (n + 1) y es)) (add-zero x)

comes : (m : Meaning) (n x r : ℕ) → Least m n x (Some r) → (d : ℕ) (es : List ℤ) → AllIn m d es → r ≤ n + length es → Ends (run m d n x es) Fit r
comes m n x r s d [] a reach = absurd (omega (arith, add-zero n))
comes m n x r s d (e ∷ es) a reach =
    head m d n x e es a.0
    ∙ ⊎_elim
    (λ here. ap (λ o. or_later o (n + 1) (run m d (n + 1) x es)) (ends_here m (n + 1) x (omega arith) (ap (could_end m x) (sym here) ∙ s.2))
    ∙ ap (λ y. Some (record { verdict = Fit; at = y })) (sym here))
    (λ later.
    let lt : n + 1 < r = omega arith in
    ap (λ o. or_later o (n + 1) (run m d (n + 1) x es)) (goes_on m (n + 1) x (omega arith) (s.3 (n + 1) (omega arith) lt))
    ∙ comes m (n + 1) x r (lt, s.1, s.2, λ k p q. s.3 k (omega arith) q) d es a.1 (omega arith))
    (cases_eq r (n + 1))

at_cut : (m : Meaning) (n x : ℕ) → n ≡ m.cut → could_end m x n ≡ false → verdict_at m n x true ≡ Some Unfit
at_cut m n x h e = grind (arith, nat_tests)

abbrev fitness : Option Ending → ℕ
fitness None = 0
fitness (Some e) = elim e.verdict [ Fit ↦ 1 | Unfit ↦ 2 ]

never : (m : Meaning) (n x d : ℕ) (es : List ℤ) → n < m.cut → AllIn m d es → ((i : ℕ) → n < i → i ≤ m.cut → could_end m x i ≡ false) → (i : ℕ) → Ends (run m d n x es) Fit i → ⊥
never m n x d [] lt a none i q = let z : ◌≡◌ {A = ℕ} 0 1 = ap fitness q in omega arith
never m n x d (e ∷ es) lt a none i q =
    let first = none (n + 1) (omega arith) (omega arith) in
    ⊎_elim
    (λ before.
    never m (n + 1) x d es before a.1 (λ k low high. none k (omega arith) high) i
    (sym (ap (λ o. or_later o (n + 1) (run m d (n + 1) x es)) (goes_on m (n + 1) x before first)) ∙ (sym (head m d n x e es a.0) ∙ q)))
    (λ there.
    let same : n + 1 ≡ m.cut = omega arith in
    let z : ◌≡◌ {A = ℕ} 2 1 =
    ap fitness (sym (ap (λ o. or_later o (n + 1) (run m d (n + 1) x es)) (at_cut m (n + 1) x same first)) ∙ (sym (head m d n x e es a.0) ∙ q)) in
    omega arith)
    (cases_lt (n + 1) m.cut)

-- an attempt that goes on has not come to its cut
early : (m : Meaning) (d n x : ℕ) (es : List ℤ) → Ranged m → GoingOn m d n x es → n < m.cut
early m d n x es g o =
    ⊎_elim (λ lt. lt)
    (λ ge. let e = by_cut m d es g (sequence_end m d es) (ends_first m d es) (omega (arith, o.made)) in
    let none : None ≡ Some e.0 = sym o.unended ∙ e.1 in absurd (not_none none))
    (cases_lt n m.cut)

-- whatever is the least such observation, or that there is none, says what will happen
pub foretells : (m : Meaning) → Ranged m → (n x : ℕ) (r : Option ℕ) → Least m n x r → Foretells m n x r
foretells m g n x r s d es to_come o a =
    let from : sequence_end m d (es ++ to_come) ≡ run m d n x to_come =
    sequence_on m d es to_come o.unended ∙ ap (λ k. run m d k (count_out m d es) to_come) o.made
    ∙ ap (λ k. run m d n k to_come) o.out in record {
      fit = λ i e reach. from ∙ comes m n x i (subst (Least m n x) e s) d to_come a (omega (arith, o.made));
      never = λ e i q. never m n x d to_come (early m d n x es g o) a (subst (Least m n x) e s) i (sym from ∙ q);
    }

-- an observation at which it could not end
skip : (m : Meaning) (n x : ℕ) (r : Option ℕ) → could_end m x (n + 1) ≡ false → Least m (n + 1) x r → Least m n x r
skip m n x None not s = λ k p q. ⊎_elim (λ e. ap (could_end m x) e ∙ not) (λ e. s k (omega arith) q) (cases_eq k (n + 1))
skip m n x (Some r) not s = (
  omega arith,
  s.1,
  s.2,
  λ k p q. ⊎_elim (λ e. ap (could_end m x) e ∙ not) (λ e. s.3 k (omega arith) q) (cases_eq k (n + 1)),
)

-- of count observations after n, the last of them the cut, the first at which it could end
first_is : (m : Meaning) (x n count : ℕ) → n + count ≡ m.cut → Least m n x (first_end m x (n + 1) count)
first_is m x n zero e = λ k p q. absurd (omega (arith, add-zero n))
first_is m x n (suc count) e =
    ⊎_elim (λ yes. rw yes (omega arith, omega arith, yes, λ k p q. absurd (omega arith)))
    (λ no. rw no (skip m n x (first_end m x (n + 1 + 1) count) no (first_is m x (n + 1) count (omega arith))))
    (cases_Bool (could_end m x (n + 1)))

least : (m : Meaning) (n x : ℕ) → Least m n x (soonest_fit m n x)
least m n x =
    ⊎_elim (λ lt. first_is m x n (m.cut - n) (omega arith))
    (λ ge. let none : 0 ≡ m.cut - n = omega arith in subst (λ k. Least m n x (first_end m x (n + 1) k)) none (λ k p q. absurd (omega arith)))
    (cases_lt n m.cut)

unique : (m : Meaning) (n x : ℕ) (r s : Option ℕ) → Least m n x r → Least m n x s → r ≡ s
unique m n x None None a b = refl
unique m n x None (Some s) a b = absurd (true≢false (sym b.2 ∙ a s b.0 b.1))
unique m n x (Some r) None a b = absurd (true≢false (sym a.2 ∙ b r a.0 a.1))
unique m n x (Some r) (Some s) a b =
    ⊎_elim (λ below. absurd (true≢false (sym a.2 ∙ b.3 r a.0 below)))
    (λ up. ⊎_elim (λ above. absurd (true≢false (sym b.2 ∙ a.3 s b.0 above))) (λ down. let same : r ≡ s = omega arith in ap (λ i. Some i) same) (cases_lt s r))
    (cases_lt r s)

-- nothing else is the least such observation
pub soonest_is : (m : Meaning) (n x : ℕ) (r : Option ℕ) → Least m n x r → r ≡ soonest_fit m n x
soonest_is m n x r s = unique m n x r (soonest_fit m n x) s (least m n x)

-- the same from any observation a that is n + 1, or behind the cut if that is
pub soonest_from : (m : Meaning) (n x a : ℕ) → (n < m.cut → a ≡ n + 1) → (m.cut ≤ n → m.cut < a) → first_end m x a (m.cut + 1 - a) ≡ soonest_fit m n x
soonest_from m n x a next behind =
    ⊎_elim
    (λ lt. let count : m.cut + 1 - (n + 1) ≡ m.cut - n = omega arith in
    ap (λ b. first_end m x b (m.cut + 1 - b)) (next lt) ∙ ap (first_end m x (n + 1)) count)
    (λ ge. let none : m.cut + 1 - a ≡ 0 = omega (arith, behind ge) in
    let zero : 0 ≡ m.cut - n = omega arith in
    ap (first_end m x a) none ∙ ap (first_end m x (n + 1)) zero)
    (cases_lt n m.cut)

-- the soonest observation is the least such, so it says so
pub soonest_foretells : (m : Meaning) → Ranged m → (n x : ℕ) → Foretells m n x (soonest_fit m n x)
soonest_foretells m g n x = foretells m g n x (soonest_fit m n x) (least m n x)
