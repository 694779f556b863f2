-- A search for the first byte that passes a test, and how many bytes stand before it.
use Rattle.std.proofs.Common.{◌≡◌, ℕ, ◌+◌, Bool, true, false, not, cond, List, [], ◌∷◌, length, unwrap_or, refl, ap, ◌∙◌, arith}
use Rattle.std.proofs.lemmas.Bool.Decides.{nat_tests}
use Rattle.std.proofs.lemmas.List.Sums.{prefix_len-le-length}
use Rattle.std.specs.List.{prefix_len, position_or_len, position}

-- where no byte passes, all of them stand before
pub first_or_all : (p : ℕ → Bool) (xs : List ℕ) → unwrap_or (position p xs) (length xs) ≡ position_or_len p xs
first_or_all p xs = let le = prefix_len-le-length (λ b. not (p b)) xs in grind (arith, nat_tests)

not_not : (t : Bool) → not (not t) ≡ t
not_not true = refl
not_not false = refl

-- the first byte that does not pass stands behind those that do
pub first_other : (p : ℕ → Bool) (xs : List ℕ) → position_or_len (λ b. not (p b)) xs ≡ prefix_len p xs
first_other p [] = refl
first_other p (x ∷ xs) = ap (λ t. cond t (1 + position_or_len (λ b. not (p b)) xs) 0) (not_not (p x)) ∙ ap (λ n. cond (p x) (1 + n) 0) (first_other p xs)
