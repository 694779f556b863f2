-- The soonest observation at which an attempt could end fit.
use Rattle.std.specs.Prelude.{◌≡◌, ℕ, ◌+◌, ◌-◌, ◌≤◌, Bool, true, ◌&&◌, ◌||◌, List, [], ◌∷◌, ◌++◌, length, ℤ, pos, Some, None, Option, find, ◌==◌, int_le, nat_le}
use Rattle.std.specs.List.{range_with_len}
use Rattle.method.specs.Meaning.{Meaning}
use Rattle.method.specs.declared.verdict.Verdict.TheVariants.{Fit}
use Rattle.control.specs.Sequences.{Ends, sequence_end}
use Rattle.control.specs.Tallies.{count_out}
use Rattle.control.specs.Tolerances.{in_tolerance}

-- with x out, an observation i in tolerance would end the attempt fit: by the accept number, or at the cut by the cut number
abbrev pub could_end : Meaning → ℕ → ℕ → Bool
could_end m x i = int_le (pos x) (m.accept i) || (i == m.cut && nat_le x m.cut_number)

-- the first of count observations from i on at which it could
abbrev pub first_end : Meaning → ℕ → ℕ → ℕ → Option ℕ
first_end m x i count = find (could_end m x) (range_with_len i count)

-- the first after observation n and up to the cut
abbrev pub soonest_fit : Meaning → ℕ → ℕ → Option ℕ
soonest_fit m n x = first_end m x (n + 1) (m.cut - n)

-- every error is in tolerance
abbrev pub AllIn : Meaning → ℕ → List ℤ → Type 0
AllIn m d [] = Unit {0}
AllIn m d (e ∷ es) = (in_tolerance m.margin d e ≡ true) × AllIn m d es

-- an attempt that has observed these errors goes on: there are n of them, x out of tolerance
pub record GoingOn (m : Meaning) (d n x : ℕ) (es : List ℤ) : Type 0 where
  pub made : length es ≡ n
  pub out : count_out m d es ≡ x
  pub unended : sequence_end m d es ≡ None

-- With errors to come that are all in tolerance, the attempt ends fit at the observation r, where there is one, once they reach it;
-- where there is none it never ends fit.
pub record Foretold (m : Meaning) (d : ℕ) (r : Option ℕ) (es to_come : List ℤ) : Type 0 where
  pub fit : (i : ℕ) → r ≡ Some i → i ≤ length es + length to_come → Ends (sequence_end m d (es ++ to_come)) Fit i
  pub never : r ≡ None → (i : ℕ) → Ends (sequence_end m d (es ++ to_come)) Fit i → ⊥

-- The soonest observation says what will happen to every attempt with n observations and x out.
abbrev pub Foretells : Meaning → ℕ → ℕ → Option ℕ → Type 0
Foretells m n x r = (d : ℕ) (es to_come : List ℤ) → GoingOn m d n x es → AllIn m d to_come → Foretold m d r es to_come
