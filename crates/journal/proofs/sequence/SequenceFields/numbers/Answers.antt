use Rattle.std.proofs.Common.{◌≡◌, List, ◌∷◌, ℤ, refl, w32, SFits, to_z, of_z, rules}
use Rattle.std.proofs.lemmas.Int.{to_z-of_z}
use Rattle.journal.proofs.sequence.SequenceFields.numbers.Goals as goal

-- one number of the list, as it lies in 32 bits
kept : {zs ys : List ℤ} (z y : ℤ) → SFits w32 z → z ≡ y → zs ≡ ys → to_z w32 (of_z w32 z) ∷ zs ≡ y ∷ ys
kept z y fits e rest = rw (to_z-of_z w32 z fits, e, rest) refl

pub returns : goal.returns
returns c = search (rules, kept)
