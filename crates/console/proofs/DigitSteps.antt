-- A saturated number takes one digit more.
use Rattle.std.proofs.Common.{◌≡◌, ℕ, ◌+◌, ◌-◌, ◌*◌, min, List, [], ◌∷◌, fold, refl, ap, ◌∙◌, arith}
use Rattle.console.specs.Numbers.{largest}

saturates : (n d : ℕ) → min largest (10 * n + d) ≡ min largest (10 * min largest n + d)
saturates n d = omega arith

-- one digit more
abbrev step : ℕ → ℕ → ℕ
step n b = 10 * n + (b - 48)

abbrev pub saturated_step : ℕ → ℕ → ℕ
saturated_step n b = min largest (10 * n + (b - 48))

-- no more than the largest is kept at each digit, or once at the end
pub saturated_fold : (bs : List ℕ) (n : ℕ) → min largest (fold step n bs) ≡ fold saturated_step (min largest n) bs
saturated_fold [] n = refl
saturated_fold (b ∷ bs) n =
    saturated_fold bs (step n b) ∙ ap (λ m. fold saturated_step m bs) (saturates n (b - 48))
