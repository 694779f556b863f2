-- The zones between a plan's two stepped lines.
use Rattle.std.specs.Prelude.{ℕ, cond, pos, int_le, nat_le, nat_lt}
use Rattle.method.specs.Meaning.{Meaning}
use Rattle.norms.specs.declared.zone.Zone.{Zone}
use Rattle.norms.specs.declared.zone.Zone.TheVariants.{Fit, GoOn, Unfit, Either}

-- neither line is reached: the cut number decides at the cut
abbrev pub between_lines : Meaning → ℕ → ℕ → Zone
between_lines m i x = cond (nat_lt i m.cut) GoOn (cond (nat_le x m.cut_number) Fit Unfit)

-- observation i, with x out by then
abbrev pub zone_at : Meaning → ℕ → ℕ → Zone
zone_at m i x =
    cond (int_le (pos x) (m.accept i)) (cond (nat_le (m.reject i) x) Either Fit)
    (cond (nat_le (m.reject i) x) Unfit (between_lines m i x))
