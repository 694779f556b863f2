-- One turn of the loop over an attempt's errors.
use Rattle.std.proofs.Common.{◌≡◌, ℕ, ◌+◌, ◌<◌, List, length, get_or, take, drop, ℤ, pos, Some, None, sym, ap, ◌∙◌, arith}
use Rattle.std.proofs.lemmas.List.{at_drop_more, length-take-le}
use Rattle.method.specs.Meaning.{Meaning}
use Rattle.method.specs.declared.verdict.Verdict.{Verdict}
use Rattle.control.specs.Attempts.{tally_after, verdict_of}
use Rattle.control.specs.Sequences.{Brought, run, or_later, sequence_end}
use Rattle.control.specs.Tallies.{tally_of}
use Rattle.control.specs.declared.tally.Tally.{Tally}
use Rattle.control.proofs.TallySteps.{tally_more}

-- what the loop keeps: the attempt's numbers are those of the errors observed, and its end is still to come
pub record Going (m : Meaning) (d : ℕ) (t : Tally) (es : List ℤ) (i : ℕ) : Type 0 where
  pub listed : t ≡ tally_of m d (take i es)
  pub comes : sequence_end m d es ≡ run m d t.observations t.outs (drop i es)

module _ (m : Meaning) (d : ℕ) (t : Tally) (es : List ℤ) (i : ℕ) (h : i < length es) (g : Going m d t es i) (z : ℤ) (q : z ≡ get_or es i (pos 0)) (u : Tally) (a : u ≡ tally_after m d t z) where
  turn : sequence_end m d es ≡ or_later (verdict_of m d t z) (t.observations + 1) (run m d (t.observations + 1) (tally_after m d t z).outs (drop (i + 1) es))
  turn =
      g.comes ∙ at_drop_more (run m d t.observations t.outs) es i (pos 0) h
      ∙ ap (λ y. or_later (verdict_of m d t y) (t.observations + 1) (run m d (t.observations + 1) (tally_after m d t y).outs (drop (i + 1) es))) (sym q)

  listed_more : u ≡ tally_of m d (take (i + 1) es)
  listed_more = a ∙ ap (λ y. tally_after m d t y) q ∙ ap (λ y. tally_after m d y (get_or es i (pos 0))) g.listed ∙ tally_more m d es i h

  counted_more : u.observations ≡ i + 1
  counted_more = ap (λ y. y.observations) listed_more ∙ length-take-le (i + 1) es (omega arith)

  pub ended : (v : Verdict) → Some v ≡ verdict_of m d t z → Brought m d es u (Some v)
  ended v e = (
    listed_more ∙ ap (λ n. tally_of m d (take n es)) (sym counted_more),
    turn
        ∙ ap (λ o. or_later o (t.observations + 1) (run m d (t.observations + 1) (tally_after m d t z).outs (drop (i + 1) es))) (sym e)
        ∙ ap (λ y. Some (record { verdict = v; at = y.observations })) (sym a),
  )

  pub goes_on : None ≡ verdict_of m d t z → Going m d u es (i + 1)
  goes_on e = record {
    listed = listed_more;
    comes = turn
        ∙ ap (λ o. or_later o (t.observations + 1) (run m d (t.observations + 1) (tally_after m d t z).outs (drop (i + 1) es))) (sym e)
        ∙ ap (λ y. run m d y.observations y.outs (drop (i + 1) es)) (sym a);
  }
