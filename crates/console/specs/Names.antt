-- The words that begin a plan.
use Rattle.std.specs.Prelude.{ℕ, cond, List, Some, None, codes, Option}
use Rattle.std.specs.Str.{bytes_eq}
use Rattle.console.specs.declared.plan_name.PlanName.{PlanName}
use Rattle.console.specs.declared.plan_name.PlanName.TheVariants.{Strengthened, Normal, ThreeStep, LineStrengthened, LineNormal, Tabled, Truncated}

abbrev pub plan_named : List ℕ → Option PlanName
plan_named word =
    cond (bytes_eq word (codes "strengthened")) (Some Strengthened)
    (cond (bytes_eq word (codes "normal")) (Some Normal)
    (cond (bytes_eq word (codes "three-step")) (Some ThreeStep)
    (cond (bytes_eq word (codes "line-strengthened")) (Some LineStrengthened)
    (cond (bytes_eq word (codes "line-normal")) (Some LineNormal)
    (cond (bytes_eq word (codes "tabled")) (Some Tabled)
    (cond (bytes_eq word (codes "truncated")) (Some Truncated) None))))))
