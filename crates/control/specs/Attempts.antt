-- An attempt: its numbers, and how it ends.
use Rattle.std.specs.Prelude.{◌≡◌, ℕ, ◌+◌, ◌*◌, ◌≤◌, Bool, false, cond, ◌||◌, ℤ, pos, ◌+ℤ◌, Some, None, Option, int_le, nat_le, unsigned_abs}
use Rattle.method.specs.Meaning.{Meaning}
use Rattle.method.specs.Verdicts.{fit_if}
use Rattle.method.specs.declared.verdict.Verdict.{Verdict}
use Rattle.method.specs.declared.verdict.Verdict.TheVariants.{Fit, Unfit}
use Rattle.control.specs.Errors.{is_wild, counted}
use Rattle.control.specs.Tolerances.{in_tolerance}
use Rattle.control.specs.declared.tally.Tally.{Tally}

-- no observation yet
abbrev pub none_yet : Tally
none_yet = record { observations = 0; outs = 0; sum = pos 0; squares = 0; wild = false }

-- one observation more, of the error e, with x out by then
abbrev pub added : Tally → ℕ → ℤ → Tally
added t x e = record {
  observations = t.observations + 1;
  outs = x;
  sum = t.sum +ℤ counted e;
  squares = t.squares + unsigned_abs (counted e) * unsigned_abs (counted e);
  wild = t.wild || is_wild e;
}

-- the same under a plan, with the tolerance d: out of tolerance, one more is out
abbrev pub tally_after : Meaning → ℕ → Tally → ℤ → Tally
tally_after m d t e = added t (t.outs + cond (in_tolerance m.margin d e) 0 1) e

-- how large an attempt's numbers can be
abbrev pub Sound : Tally → Type 0
Sound t =
    (t.observations ≤ 48) × (t.outs ≤ t.observations) × (unsigned_abs t.sum ≤ 2000 * t.observations)
    × (t.squares ≤ 4000000 * t.observations)

-- at the cut the cut number decides, and before it the attempt goes on
abbrev pub cut_verdict : Meaning → ℕ → ℕ → Option Verdict
cut_verdict m n x = cond (nat_le m.cut n) (Some (fit_if (nat_le x m.cut_number))) None

-- observation n in tolerance, with x out: the accept number may make the attempt fit, and else the cut may end it
abbrev pub verdict_in : Meaning → ℕ → ℕ → Option Verdict
verdict_in m n x = cond (int_le (pos x) (m.accept n)) (Some Fit) (cut_verdict m n x)

-- observation n out of tolerance, with x out: the reject number may make the attempt unfit, and else the cut may end it
abbrev pub verdict_out : Meaning → ℕ → ℕ → Option Verdict
verdict_out m n x = cond (nat_le (m.reject n) x) (Some Unfit) (cut_verdict m n x)

-- observation n, in tolerance or not, with x out
abbrev pub verdict_at : Meaning → ℕ → ℕ → Bool → Option Verdict
verdict_at m n x ok = cond ok (verdict_in m n x) (verdict_out m n x)

-- what the attempt's next observation, of the error e, says
abbrev pub verdict_of : Meaning → ℕ → Tally → ℤ → Option Verdict
verdict_of m d t e =
    verdict_at m (t.observations + 1) (tally_after m d t e).outs (in_tolerance m.margin d e)

-- after the error e the numbers are u, and the attempt's end is v
abbrev pub Observed : Meaning → ℕ → Tally → ℤ → Tally → Option Verdict → Type 0
Observed m d t e u v = (u ≡ tally_after m d t e) × (v ≡ verdict_of m d t e)
