-- A plan chosen at run time has its answers in the ranges of every plan.
use Rattle.method.specs.Meaning.{Ranged}
use Rattle.method.specs.Ranges.{line_ranged, three_step_ranged, tabled_ranged, truncated_ranged}
use Rattle.console.specs.Chosen.{chosen_meaning}
use Rattle.console.specs.declared.chosen.ChosenPlan.{ChosenPlan}
use Rattle.console.specs.declared.chosen.ChosenPlan.TheVariants.{Line, CutLine, Short, CutShort, Table, CutTable}

pub chosen_ranged : (p : ChosenPlan) → Ranged (chosen_meaning p)
chosen_ranged (Line l) = line_ranged l
chosen_ranged (CutLine t) = truncated_ranged _ t.cut t.cut_number (line_ranged t.plan) t.low t.high t.few
chosen_ranged (Short p) = three_step_ranged
chosen_ranged (CutShort t) = truncated_ranged _ t.cut t.cut_number three_step_ranged t.low t.high t.few
chosen_ranged (Table t) = tabled_ranged t
chosen_ranged (CutTable t) = truncated_ranged _ t.cut t.cut_number (tabled_ranged t.plan) t.low t.high t.few
