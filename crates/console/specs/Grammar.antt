-- What a line's words come to, one word after another.
use Rattle.std.specs.Prelude.{◌≡◌, ℕ, List, [], ◌∷◌, Some, None, Option}

abbrev pub Word : Type 0
Word = List ℕ

-- where there is a value, what comes of it
abbrev pub then : {A R : Type 0} → Option A → (A → Option R) → Option R
then None k = None
then (Some a) k = k a

-- the first word has to be read as a value, and the others are for what follows
abbrev pub takes : {A R : Type 0} → (Word → Option A) → (A → List Word → Option R) → List Word → Option R
takes read k [] = None
takes read k (w ∷ ws) = then (read w) (λ a. k a ws)

-- no word follows
abbrev pub alone : {R : Type 0} → R → List Word → Option R
alone x [] = Some x
alone x (w ∷ ws) = None

-- what was taken of the words before, and which words are left: whatever is to follow gets these
abbrev pub Took : {A : Type 0} → (Word → Option A) → Option A → List Word → List Word → Type 0
Took read None before after = takes read (λ a ws. Some a) before ≡ None
Took read (Some a) before after = (w : Word) × (before ≡ w ∷ after) × (read w ≡ Some a)
