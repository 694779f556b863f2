-- Texts that grow in a buffer.
use Rattle.std.specs.Prelude.{◌≡◌, ℕ, List, ◌++◌}

-- a text, what was put behind it, and the text then
pub record Grown (before added after : List ℕ) : Type 0 where
  pub is : after ≡ before ++ added
