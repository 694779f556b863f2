-- What a point's states are seen as.
use Rattle.std.specs.Prelude.{ℕ, ℤ}
use Rattle.control.specs.declared.codes.Codes.{Codes}
use Rattle.control.specs.declared.tally.Tally.{Tally}
use Rattle.point.specs.declared.phase.Course.{Course}

-- a setting: the main signal and the permitted errors of meter and reference in tenths, and the agreement in steps
pub record Given : Type 0 where
  pub signal : ℤ
  pub meter : ℕ
  pub reference : ℕ
  pub agreement : ℕ

-- a point that still settles
pub record Awaiting : Type 0 where
  pub setting : Given
  pub codes : Codes

-- an attempt: how many codes the point settled with, the plan, the tolerance D and the numbers so far
pub record Attempt : Type 0 where
  pub setting : Given
  pub settled : ℕ
  pub course : Course
  pub width : ℕ
  pub tally : Tally
