-- Smaller errors under no narrower a tolerance do no worse.
use Rattle.std.proofs.Common.{◌≡◌, ℕ, suc, ◌+◌, ◌<◌, ◌≤◌, Bool, true, cond, List, [], ◌∷◌, length, ℤ, nat_abs, Some, None, Option, sym, refl, ap, ◌∙◌, le_refl, arith}
use Rattle.std.proofs.lemmas.Nat.{mul-le}
use Rattle.std.proofs.lemmas.Int.{ints}
use Rattle.std.proofs.lemmas.Bool.Decides.{nat_tests}
use Rattle.method.specs.Meaning.{Meaning}
use Rattle.control.specs.Attempts.{verdict_at}
use Rattle.control.specs.Errors.{counted}
use Rattle.control.specs.Tolerances.{in_tolerance, tolerance_with, tolerance_under, coefficient}
use Rattle.control.specs.Sequences.{Ends, run, or_later, sequence_under}
use Rattle.control.specs.Steadiness.{NoWorse, Nearer, Eased, Steady}
use Rattle.control.specs.declared.distribution.Distribution.{Distribution}
use Rattle.control.specs.declared.ending.Ending.{Ending}
use Rattle.method.specs.declared.verdict.Verdict.{Verdict}
use Rattle.method.specs.declared.verdict.Verdict.TheVariants.{Fit, Unfit}

counted_le : (x y : ℤ) → nat_abs y ≤ nat_abs x → nat_abs (counted y) ≤ nat_abs (counted x)
counted_le x y h = grind (arith, ints, nat_tests)

tolerated : (margin d b : ℕ) (x y : ℤ) → d ≤ b → nat_abs y ≤ nat_abs x → in_tolerance margin d x ≡ true → in_tolerance margin b y ≡ true
tolerated margin d b x y h k t = let c = counted_le x y k in grind (arith, nat_tests)

-- what one observation says to two attempts, the second with no more out
abbrev Told : Option Verdict → Option Verdict → Type 0
Told v w = (v ≡ Some Fit → w ≡ Some Fit) × (w ≡ Some Unfit → v ≡ Some Unfit)

told : (m : Meaning) (n x y : ℕ) (a b : Bool) → (a ≡ true → b ≡ true) → y ≤ x → Told (verdict_at m n x a) (verdict_at m n y b)
told m n x y a b h k = (grind (arith, ints, nat_tests), grind (arith, ints, nat_tests))

-- an end's parts, for what a record hides from `cc`
abbrev place : Option Ending → ℕ
place None = 0
place (Some e) = e.at

abbrev code : Verdict → ℕ
code Fit = 0
code Unfit = 1

abbrev kind : Option Ending → ℕ
kind None = 2
kind (Some e) = code e.verdict

-- an end comes after the observations made
abbrev Later : ℕ → Option Ending → Type 0
Later n r = (v : Verdict) (i : ℕ) → Ends r v i → n < i

later_step : (o : Option Verdict) (n : ℕ) (r : Option Ending) → Later (n + 1) r → Later n (or_later o (n + 1) r)
later_step (Some w) n r h v i e = omega (arith, ap place e)
later_step None n r h v i e = omega (arith, h v i e)

later : (m : Meaning) (d n x : ℕ) (es : List ℤ) → Later n (run m d n x es)
later m d n x [] = λ v i e. absurd cc
later m d n x (e ∷ es) =
    let ok = in_tolerance m.margin d e in
    let x' = x + cond ok 0 1 in
    later_step (verdict_at m (n + 1) x' ok) n (run m d (n + 1) x' es) (later m d (n + 1) x' es)

-- one observation more before two runs
step : (v w : Option Verdict) (n : ℕ) (a b : Option Ending) → Told v w → Later n a → Later n b → NoWorse a b → NoWorse (or_later v n a) (or_later w n b)
step None None n a b t p q l = l
step None (Some Fit) n a b t p q l = (λ i e. (n, omega (arith, p Fit i e), refl), λ j e. absurd (omega (arith, ap kind e)))
step None (Some Unfit) n a b t p q l = absurd (cc (t.1 refl))
step (Some Fit) None n a b t p q l = absurd (cc (t.0 refl))
step (Some Fit) (Some Unfit) n a b t p q l = absurd (cc (t.0 refl))
step (Some Fit) (Some Fit) n a b t p q l = (λ i e. (n, omega (arith, ap place e), refl), λ j e. absurd (omega (arith, ap kind e)))
step (Some Unfit) None n a b t p q l = (λ i e. absurd (omega (arith, ap kind e)), λ j e. (n, omega (arith, q Unfit j e), refl))
step (Some Unfit) (Some Fit) n a b t p q l = (λ i e. absurd (omega (arith, ap kind e)), λ j e. absurd (omega (arith, ap kind e)))
step (Some Unfit) (Some Unfit) n a b t p q l = (λ i e. absurd (omega (arith, ap kind e)), λ j e. (n, omega (arith, ap place e), refl))

more_out : (x y : ℕ) (a b : Bool) → (a ≡ true → b ≡ true) → y ≤ x → y + cond b 0 1 ≤ x + cond a 0 1
more_out x y a b h k = grind arith

led : (m : Meaning) (d b : ℕ) → d ≤ b → (es fs : List ℤ) (n x y : ℕ) → y ≤ x → length es ≡ length fs → Nearer (length es) es fs → NoWorse (run m d n x es) (run m b n y fs)
led m d b w [] [] n x y k l near = (λ i e. (i, le_refl i, e), λ j e. (j, le_refl j, e))
led m d b w [] (f ∷ fs) n x y k l near = absurd (omega arith)
led m d b w (e ∷ es) [] n x y k l near = absurd (omega arith)
led m d b w (e ∷ es) (f ∷ fs) n x y k l near =
    let p = in_tolerance m.margin d e in
    let q = in_tolerance m.margin b f in
    let h = tolerated m.margin d b e f w (near 0 (omega arith)) in
    let k' = more_out x y p q h k in
    step (verdict_at m (n + 1) (x + cond p 0 1) p) (verdict_at m (n + 1) (y + cond q 0 1) q) (n + 1) _ _
    (told m (n + 1) (x + cond p 0 1) (y + cond q 0 1) p q h k')
    (later m d (n + 1) (x + cond p 0 1) es)
    (later m b (n + 1) (y + cond q 0 1) fs)
    (led m d b w es fs (n + 1) (x + cond p 0 1) (y + cond q 0 1) k' (omega arith) (λ i u. near (suc i) (omega arith)))

wider : (k p e q f : ℕ) → p ≤ q → f ≤ e → tolerance_with k p e ≤ tolerance_with k q f
wider k p e q f h g = let t = mul-le k f k e (le_refl k) g in omega arith

pub steady : (m : Meaning) → Steady m
steady m k p e q f es fs h =
    led m (tolerance_under m k p e) (tolerance_under m k q f) (wider (coefficient m k) p e q f h.meter h.reference) es fs 0 0 0 (le_refl 0)
    (h.long ∙ sym h.as_long) (λ i u. h.nearer i (omega (arith, h.long)))

-- the same of what two calls returned
pub steady_of : (m : Meaning) (k : Distribution) (p e q f : ℕ) (es fs : List ℤ) (r s : Option Ending) → r ≡ sequence_under m k p e es → s ≡ sequence_under m k q f fs → Eased m p e es q f fs → NoWorse r s
steady_of m k p e q f es fs r s a b h =
    let l = steady m k p e q f es fs h in (
      λ i x. let y = l.0 i (sym a ∙ x) in (y.0, y.1, b ∙ y.2),
      λ j x. let y = l.1 j (sym b ∙ x) in (y.0, y.1, a ∙ y.2),
    )
