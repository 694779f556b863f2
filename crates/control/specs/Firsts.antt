-- Where something comes first.
use Rattle.std.specs.Prelude.{◌≡◌, ℕ, ◌<◌, ◌≤◌, Some, None, Option}

-- f gives nothing from 1 to n
abbrev pub Quiet : {A : Type 0} → (ℕ → Option A) → ℕ → Type 0
Quiet f n = (i : ℕ) → 1 ≤ i → i ≤ n → f i ≡ None

-- of 1 to n, f first gives something at i, and that is a
abbrev pub FirstAt : {A : Type 0} → (ℕ → Option A) → ℕ → A → ℕ → Type 0
FirstAt f n a i = (1 ≤ i) × (i ≤ n) × (f i ≡ Some a) × ((k : ℕ) → 1 ≤ k → k < i → f k ≡ None)
