-- The answers of a laboratory's table lie in the ranges of every plan.
use Rattle.std.proofs.Common.{arith}
use Rattle.std.specs.Prelude.{◌≡◌, ℕ, true, List}
use Rattle.std.proofs.lemmas.Int.{ints}
use Rattle.std.proofs.lemmas.Bool.Decides.{nat_tests}
use Rattle.method.specs.Meaning.{Ranged}
use Rattle.method.specs.Tables.{Limited, rows_ranged, tabled}
use Rattle.method.specs.TableSteps.{in_force_ranged}
use Rattle.method.specs.declared.row.Row.{Row}
use Rattle.method.specs.declared.row.TableNumbers.{TableNumbers}

pub table_ranged : (rows : List Row) (t : TableNumbers ℕ) → rows_ranged rows ≡ true → Limited t → Ranged (tabled rows t)
table_ranged rows t h l = record {
  cut_low = l.0;
  cut_high = l.1;
  cut_number_high = l.2;
  accept_low = λ i. let e = in_force_ranged rows i h in grind (arith, ints, nat_tests);
  accept_high = λ i. let e = in_force_ranged rows i h in grind (arith, ints, nat_tests);
  reject_high = λ i. let e = in_force_ranged rows i h in grind (arith, ints, nat_tests);
  offset_low = λ i. grind (arith, ints, nat_tests);
  offset_high = λ i. grind (arith, ints, nat_tests);
  margin_high = l.3;
  trapezoid_high = l.4;
  uniform_high = l.5;
  outside_accept = λ i o. grind (arith, nat_tests);
  outside_reject = λ i o. grind (arith, nat_tests);
  outside_offset = λ i o. grind (arith, nat_tests);
}
