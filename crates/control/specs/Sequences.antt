-- An attempt's sequence over a list of errors.
use Rattle.std.specs.Prelude.{◌≡◌, ℕ, ◌+◌, ◌-◌, ◌≤◌, cond, List, [], ◌∷◌, length, take, ℤ, pos, Some, None, Option, slice_index_or}
use Rattle.method.specs.Meaning.{Meaning}
use Rattle.method.specs.declared.verdict.Verdict.{Verdict}
use Rattle.control.specs.Attempts.{verdict_at}
use Rattle.control.specs.Firsts.{Quiet, FirstAt}
use Rattle.control.specs.Tallies.{count_out, tally_of}
use Rattle.control.specs.Tolerances.{in_tolerance, tolerance_under}
use Rattle.control.specs.declared.distribution.Distribution.{Distribution}
use Rattle.control.specs.declared.ending.Ending.{Ending}
use Rattle.control.specs.declared.tally.Tally.{Tally}

-- the end that comes at observation i, or else what comes later
abbrev pub or_later : Option Verdict → ℕ → Option Ending → Option Ending
or_later (Some v) i rest = Some (record { verdict = v; at = i })
or_later None i rest = rest

-- The end over the errors to come, n observations having been made and x of them out.
abbrev pub run : Meaning → ℕ → ℕ → ℕ → List ℤ → Option Ending
run m d n x [] = None
run m d n x (e ∷ es) =
    or_later (verdict_at m (n + 1) (x + cond (in_tolerance m.margin d e) 0 1) (in_tolerance m.margin d e)) (n + 1)
    (run m d (n + 1) (x + cond (in_tolerance m.margin d e) 0 1) es)

-- the end of a whole list
abbrev pub sequence_end : Meaning → ℕ → List ℤ → Option Ending
sequence_end m d es = run m d 0 0 es

-- the same under one of the plan's coefficients, with the permitted errors p of the meter and e of the reference
abbrev pub sequence_under : Meaning → Distribution → ℕ → ℕ → List ℤ → Option Ending
sequence_under m k p e es = sequence_end m (tolerance_under m k p e) es

-- what the plan says at observation i of a list, whatever it said before
abbrev pub verdict_after : Meaning → ℕ → List ℤ → ℕ → Option Verdict
verdict_after m d es i =
    verdict_at m i (count_out m d (take i es)) (in_tolerance m.margin d (slice_index_or es (i - 1) (pos 0)))

-- It ends at the first observation at which the plan ends it, and nowhere else.
abbrev pub EndsFirst : Meaning → ℕ → List ℤ → Option Ending → Type 0
EndsFirst m d es None = Quiet (verdict_after m d es) (length es)
EndsFirst m d es (Some e) = FirstAt (verdict_after m d es) (length es) e.verdict e.at

-- A list as long as the cut ends, and no later than the cut.
abbrev pub EndsByCut : Meaning → List ℤ → Option Ending → Type 0
EndsByCut m es r = m.cut ≤ length es → (e : Ending) × (r ≡ Some e) × (e.at ≤ m.cut)

-- it ends with the verdict v at observation i
abbrev pub Ends : Option Ending → Verdict → ℕ → Type 0
Ends r v i = r ≡ Some (record { verdict = v; at = i })

-- These errors bring a new attempt to the numbers t: all of them, where it has not ended, or else those up to its end.
abbrev pub Brought : Meaning → ℕ → List ℤ → Tally → Option Verdict → Type 0
Brought m d es t None = (t ≡ tally_of m d es) × (sequence_end m d es ≡ None)
Brought m d es t (Some v) =
    (t ≡ tally_of m d (take t.observations es)) × Ends (sequence_end m d es) v t.observations
