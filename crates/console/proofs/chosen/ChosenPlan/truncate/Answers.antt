use Rattle.std.proofs.Common.{ap, w32, rules}
use Rattle.std.proofs.lemmas.Int.{to_z-of_z}
use Rattle.console.specs.Chosen.{chosen_meaning}
use Rattle.console.proofs.ChosenCuts.{cut_of}
use Rattle.console.proofs.chosen.ChosenPlan.truncate.Goals as goal

pub returns-in_ok-truncate-in-CutLine : goal.returns-in_ok-truncate-in-CutLine
returns-in_ok-truncate-in-CutLine c = record {
  refuses = search rules;
  makes = cut_of _ _ _ _ _ _ _ (ap chosen_meaning c.in-CutLine.is) (to_z-of_z w32 c.args.cut c.ranges.cut) (to_z-of_z w32 c.args.cut_number c.ranges.cut_number) c.in_ok-truncate-in-CutLine.ensures.alike;
}

pub returns-in_ok-truncate-in-CutTable : goal.returns-in_ok-truncate-in-CutTable
returns-in_ok-truncate-in-CutTable c = record {
  refuses = search rules;
  makes = cut_of _ _ _ _ _ _ _ (ap chosen_meaning c.in-CutTable.is) (to_z-of_z w32 c.args.cut c.ranges.cut) (to_z-of_z w32 c.args.cut_number c.ranges.cut_number) c.in_ok-truncate-in-CutTable.ensures.alike;
}
