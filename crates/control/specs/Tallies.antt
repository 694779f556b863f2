-- The numbers of a list of errors.
use Rattle.std.specs.Prelude.{ℕ, ◌*◌, cond, List, length, ℤ, pos, ◌+ℤ◌, fold, sum_by, count_by, nat_lt, unsigned_abs}
use Rattle.method.specs.Meaning.{Meaning}
use Rattle.control.specs.Errors.{is_wild, counted}
use Rattle.control.specs.Tolerances.{in_tolerance}
use Rattle.control.specs.declared.tally.Tally.{Tally}

-- how many are out of tolerance
abbrev pub count_out : Meaning → ℕ → List ℤ → ℕ
count_out m d es = sum_by (λ e. cond (in_tolerance m.margin d e) 0 1) es

-- how many there are, how many are out, the sums of the errors as they count and of their squares, and whether one is wild
abbrev pub tally_of : Meaning → ℕ → List ℤ → Tally
tally_of m d es = record {
  observations = length es;
  outs = count_out m d es;
  sum = fold (λ s e. s +ℤ counted e) (pos 0) es;
  squares = sum_by (λ e. unsigned_abs (counted e) * unsigned_abs (counted e)) es;
  wild = nat_lt 0 (count_by is_wild es);
}
