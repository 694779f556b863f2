-- What a chosen plan's truncation means, read off the truncation of the plan that was chosen.
use Rattle.std.proofs.Common.{◌≡◌, ℤ, nat_abs, sym, subst}
use Rattle.method.specs.Meaning.{Meaning}
use Rattle.method.specs.Plans.{Alike, truncated}

pub cut_of : (w m t : Meaning) (a b c d : ℤ) → w ≡ m → c ≡ a → d ≡ b → Alike t (truncated m (nat_abs c) (nat_abs d)) → Alike t (truncated w (nat_abs a) (nat_abs b))
cut_of w m t a b c d e f g h =
    let at_cut : ℤ → Type 0 = λ z. Alike t (truncated m (nat_abs z) (nat_abs d)) in
    let at_number : ℤ → Type 0 = λ z. Alike t (truncated m (nat_abs a) (nat_abs z)) in
    let at_plan : Meaning → Type 0 = λ n. Alike t (truncated n (nat_abs a) (nat_abs b)) in
    subst at_plan (sym e) (subst at_number g (subst at_cut f h))
