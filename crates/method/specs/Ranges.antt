-- The answers of each plan lie in the ranges of every plan, for proofs above this crate too.
use Rattle.std.proofs.Common.{rules}
use Rattle.std.specs.Prelude.{ℕ, ◌≤◌}
use Rattle.method.specs.Lines.{line, numbers_of}
use Rattle.method.specs.Meaning.{Meaning, Ranged}
use Rattle.method.specs.Plans.{three_step, truncated}
use Rattle.method.specs.Tables.{tabled}
use Rattle.method.specs.declared.line.Line.{Line}
use Rattle.method.specs.declared.tabled.Tabled.{Tabled}
use Rattle.method.specs.TableRanges.{table_ranged}

pub line_ranged : (l : Line) → Ranged (line (numbers_of l))
line_ranged l = search rules

pub three_step_ranged : Ranged three_step
three_step_ranged = search rules

pub tabled_ranged : (t : Tabled) → Ranged (tabled t.rows t.limits)
tabled_ranged t =
    table_ranged t.rows t.limits t.ranged
    (t.cut_low, t.cut_high, t.cut_number_high, t.margin_high, t.trapezoid_high, t.uniform_high, t.peak_high)

pub truncated_ranged : (m : Meaning) (c n : ℕ) → Ranged m → 2 ≤ c → c ≤ 48 → n ≤ c → Ranged (truncated m c n)
truncated_ranged m c n r low high few = search rules
