-- What a plan that was chosen at run time means.
use Rattle.method.specs.Lines.{line, numbers_of}
use Rattle.method.specs.Meaning.{Meaning}
use Rattle.method.specs.Plans.{truncated, three_step}
use Rattle.method.specs.Tables.{tabled}
use Rattle.console.specs.declared.chosen.ChosenPlan.{ChosenPlan}
use Rattle.console.specs.declared.chosen.ChosenPlan.TheVariants.{Line, CutLine, Short, CutShort, Table, CutTable}

abbrev pub chosen_meaning : ChosenPlan → Meaning
chosen_meaning (Line l) = line (numbers_of l)
chosen_meaning (CutLine t) = truncated (line (numbers_of t.plan)) t.cut t.cut_number
chosen_meaning (Short p) = three_step
chosen_meaning (CutShort t) = truncated three_step t.cut t.cut_number
chosen_meaning (Table t) = tabled t.rows t.limits
chosen_meaning (CutTable t) =
    truncated (tabled t.plan.rows t.plan.limits) t.cut t.cut_number
