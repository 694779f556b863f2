-- Smaller errors never do worse.
use Rattle.std.specs.Prelude.{◌≡◌, ℕ, ◌<◌, ◌≤◌, List, length, ℤ, pos, Option, slice_index_or, unsigned_abs}
use Rattle.method.specs.Meaning.{Meaning}
use Rattle.method.specs.declared.verdict.Verdict.{Verdict}
use Rattle.method.specs.declared.verdict.Verdict.TheVariants.{Fit, Unfit}
use Rattle.control.specs.Sequences.{Ends, sequence_under}
use Rattle.control.specs.declared.distribution.Distribution.{Distribution}
use Rattle.control.specs.declared.ending.Ending.{Ending}

-- where the first ends with v, so does the second, and no later
abbrev pub Leads : Verdict → Option Ending → Option Ending → Type 0
Leads v a b = (i : ℕ) → Ends a v i → (j : ℕ) × (j ≤ i) × Ends b v j

-- the second does no worse: a fit of the first is one of the second, an unfit of the second one of the first, and neither comes later
abbrev pub NoWorse : Option Ending → Option Ending → Type 0
NoWorse a b = Leads Fit a b × Leads Unfit b a

-- as far as count, the second list's errors are nowhere larger in size
abbrev pub Nearer : ℕ → List ℤ → List ℤ → Type 0
Nearer count es fs = (i : ℕ) → i < count → unsigned_abs (slice_index_or fs i (pos 0)) ≤ unsigned_abs (slice_index_or es i (pos 0))

-- The second list is no worse to begin with: both are as long as the cut, the second's errors nowhere larger,
-- and its tolerance no narrower, the meter's permitted error p being no smaller and the reference's e no larger.
pub record Eased (m : Meaning) (p e : ℕ) (es : List ℤ) (q f : ℕ) (fs : List ℤ) : Type 0 where
  pub long : length es ≡ m.cut
  pub as_long : length fs ≡ m.cut
  pub meter : p ≤ q
  pub reference : f ≤ e
  pub nearer : Nearer m.cut es fs

-- Under one plan and one of its coefficients, smaller errors under no narrower a tolerance do no worse.
abbrev pub Steady : Meaning → Type 0
Steady m =
    (k : Distribution) (p e q f : ℕ) (es fs : List ℤ) → Eased m p e es q f fs
    → NoWorse (sequence_under m k p e es) (sequence_under m k q f fs)
