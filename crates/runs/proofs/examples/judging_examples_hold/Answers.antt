use Rattle.std.proofs.Common.{refl}
use Rattle.runs.proofs.examples.judging_examples_hold.Goals as goal

pub returns : goal.returns
returns c = record {
  settled_by_fourth = refl;
  settled_late = refl;
  fit_at_25 = refl;
  not_at_24 = refl;
  numbers_at_25 = refl;
  tolerance_at_25 = refl;
  second_due = refl;
  second_same_tolerance = refl;
  second_fit = refl;
  first_tolerance = refl;
  second_due_own = refl;
  second_tolerance = refl;
  second_unfit = refl;
  short_fit = refl;
  short_decides = refl;
  main_follows = refl;
  main_tolerance = refl;
  main_decides = refl;
}
