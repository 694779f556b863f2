-- How large the numbers of a record in range are.
use Rattle.std.proofs.Common.{◌≡◌, ◌≤◌, true, ℤ, nat_abs, ap, arith, w32, SFits, to_z, of_z}
use Rattle.journal.specs.declared.sequence.SequenceFields.{SequenceFields}
use Rattle.std.proofs.lemmas.Int.{to_z-of_z, ints}
use Rattle.std.proofs.lemmas.Bool.Decides.{nat_tests}
use Rattle.report.specs.Estimates.{ranged}

pub sizes : (f : SequenceFields) → ranged f ≡ true → (2 ≤ nat_abs f.observations) × (nat_abs f.observations ≤ 48) × (nat_abs f.sum ≤ 96000) × (nat_abs f.squares ≤ 192000000)
sizes f h = (grind (arith, ints, nat_tests), grind (arith, ints, nat_tests), grind (arith, ints, nat_tests), grind (arith, ints, nat_tests))

-- a number that is passed on has the same size
pub passed : (z : ℤ) → SFits w32 z → nat_abs (to_z w32 (of_z w32 z)) ≡ nat_abs z
passed z f = ap nat_abs (to_z-of_z w32 z f)
