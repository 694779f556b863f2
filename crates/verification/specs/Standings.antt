-- What a verification under way is seen as, and what holds of it between calls.
use Rattle.std.specs.Prelude.{◌≡◌, ◌+◌, ◌*◌, ◌≤◌, false, ◌&&◌}
use Rattle.point.specs.Bounds.{is_open, taken}
use Rattle.verification.specs.Ordering.{ended}
use Rattle.verification.specs.declared.declared.Declared.{Declared}
use Rattle.verification.specs.declared.progress.Progress.{Progress}

-- its two plans, what was declared, and how far it is
pub record Standing (M S : Type 0) : Type 0 where
  pub main : M
  pub short : S
  pub declared : Declared
  pub progress : Progress

-- how its numbers lie to one another; no point is open once it has ended
pub record Consistent (d : Declared) (p : Progress) : Type 0 where
  pub closed : p.closed ≤ d.points
  pub unfit : p.unfit ≤ p.closed
  -- at most 296 codes a point
  pub codes : p.codes ≤ 296 * p.closed + taken p.phase
  pub live : (is_open p.phase && ended d p) ≡ false
