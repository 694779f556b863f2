-- Worked examples of the definitions.
use Rattle.std.specs.Prelude.{◌≡◌, ℕ, zero, suc, Bool, false, cond, ◌||◌, List, [], ◌∷◌, ◌++◌, replicate, ℤ, pos, negsuc, Some, None, Option, ◌==◌, nat_le, unsigned_abs}
use Rattle.method.specs.Meaning.{Meaning}
use Rattle.method.specs.Plans.{strengthened_control, normal_control, three_step}
use Rattle.method.specs.declared.verdict.Verdict.TheVariants.{Fit, Unfit}
use Rattle.control.specs.Sequences.{sequence_end}
use Rattle.control.specs.Settlings.{no_codes, settling_end}
use Rattle.control.specs.Statistics.{quantity_verdict}
use Rattle.control.specs.Tallies.{tally_of}
use Rattle.control.specs.Tolerances.{in_tolerance, tolerance_under}
use Rattle.control.specs.declared.codes.SettledBy.TheVariants.{Agreement}
use Rattle.control.specs.declared.distribution.Distribution.{Distribution}
use Rattle.control.specs.declared.distribution.Distribution.TheVariants.{Trapezoid, Uniform}
use Rattle.control.specs.declared.ending.Ending.{Ending}

-- i is one of the list
abbrev pub listed : ℕ → List ℕ → Bool
listed i [] = false
listed i (k ∷ ks) = i == k || listed i ks

-- count errors from observation i on: 2,000 tenths at those listed, 0 at the others
abbrev pub out_at : ℕ → ℕ → List ℕ → List ℤ
out_at zero i out = []
out_at (suc count) i out = cond (listed i out) (pos 2000) (pos 0) ∷ out_at count (suc i) out

-- D where the meter's permitted error is 100 tenths and the reference's 20
abbrev pub usual : Meaning → Distribution → ℕ
usual m k = tolerance_under m k 100 20

-- the end of count observations, out of tolerance at those listed
abbrev pub ends : Meaning → ℕ → List ℕ → Option Ending
ends m count out = sequence_end m (usual m Trapezoid) (out_at count 1 out)

-- it ends fit at observation i
abbrev pub fit_at : ℕ → Option Ending
fit_at i = Some (record { verdict = Fit; at = i })

-- it ends unfit at observation i
abbrev pub unfit_at : ℕ → Option Ending
unfit_at i = Some (record { verdict = Unfit; at = i })

-- an error is in tolerance exactly if its size is at most e
abbrev pub Largest : Meaning → Distribution → ℕ → Type 0
Largest m k e = (z : ℤ) → in_tolerance m.margin (usual m k) z ≡ nat_le (unsigned_abs z) e

-- eight errors of 80 tenths and seven of -80
abbrev pub skewed : List ℤ
skewed = replicate 8 (pos 80) ++ replicate 7 (negsuc 79)

-- seven errors of 87 tenths, seven of -87 and a 0
abbrev pub balanced : List ℤ
balanced = replicate 7 (pos 87) ++ (replicate 7 (negsuc 86) ++ (pos 0 ∷ []))

-- the worked examples together
pub record Examples : Type 0 where
  -- the ends of sequences
  pub strengthened_all_in : ends strengthened_control 44 [] ≡ fit_at 25
  pub normal_all_in : ends normal_control 40 [] ≡ fit_at 15
  pub strengthened_two_out : ends strengthened_control 44 (1 ∷ 2 ∷ []) ≡ unfit_at 2
  pub normal_two_out : ends normal_control 2 (1 ∷ 2 ∷ []) ≡ None
  pub normal_three_out : ends normal_control 40 (1 ∷ 2 ∷ 3 ∷ []) ≡ unfit_at 3
  pub strengthened_out_1_8 : ends strengthened_control 44 (1 ∷ 8 ∷ []) ≡ unfit_at 8
  pub strengthened_out_1_9 : ends strengthened_control 44 (1 ∷ 9 ∷ []) ≡ fit_at 44
  pub strengthened_out_1_9_25 : ends strengthened_control 44 (1 ∷ 9 ∷ 25 ∷ []) ≡ unfit_at 44
  pub normal_out_1_2_10_20 : ends normal_control 40 (1 ∷ 2 ∷ 10 ∷ 20 ∷ []) ≡ fit_at 40
  pub normal_out_1_2_10_20_29 : ends normal_control 40 (1 ∷ 2 ∷ 10 ∷ 20 ∷ 29 ∷ []) ≡ unfit_at 40
  -- the largest errors in tolerance
  pub strengthened_trapezoid : Largest strengthened_control Trapezoid 82
  pub strengthened_uniform : Largest strengthened_control Uniform 80
  pub normal_trapezoid : Largest normal_control Trapezoid 87
  pub normal_uniform : Largest normal_control Uniform 84
  pub three_step_trapezoid : Largest three_step Trapezoid 78
  pub three_step_uniform : Largest three_step Uniform 78
  -- quantity control
  pub skewed_sequence : sequence_end normal_control (usual normal_control Trapezoid) skewed ≡ fit_at 15
  pub skewed_quantity : quantity_verdict (usual normal_control Trapezoid) (tally_of normal_control (usual normal_control Trapezoid) skewed) ≡ Unfit
  pub balanced_sequence : sequence_end normal_control (usual normal_control Trapezoid) balanced ≡ fit_at 15
  pub balanced_sum : (tally_of normal_control (usual normal_control Trapezoid) balanced).sum ≡ pos 0
  pub balanced_quantity : quantity_verdict (usual normal_control Trapezoid) (tally_of normal_control (usual normal_control Trapezoid) balanced) ≡ Fit
  -- settling within 1 step
  pub settled_at_four : settling_end 1 no_codes (pos 10 ∷ pos 11 ∷ pos 12 ∷ pos 12 ∷ []) ≡ Some (record { by = Agreement; codes = 4 })
  -- the offsets at the first observation, the middle and the cut
  pub strengthened_first : strengthened_control.offset 1 ≡ negsuc 9
  pub strengthened_middle : strengthened_control.offset 22 ≡ pos 11
  pub strengthened_last : strengthened_control.offset 44 ≡ negsuc 10
  pub normal_first : normal_control.offset 1 ≡ negsuc 8
  pub normal_middle : normal_control.offset 20 ≡ pos 10
  pub normal_last : normal_control.offset 40 ≡ negsuc 9
