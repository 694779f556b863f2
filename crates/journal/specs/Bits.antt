-- Fields in a row of bits, the most significant first, and the bytes that hold them.
use Rattle.std.specs.Prelude.{ℕ, zero, suc, ◌+◌, ◌-◌, ◌*◌, ◌/◌, ◌%◌, ◌^◌, List, [], ◌∷◌, ℤ, slice_index}
use Rattle.journal.specs.Fields.{coded, told}
use Rattle.journal.specs.declared.field.Field.{Field}

-- the number whose bits are those of n and then each field's
abbrev pub packed_after : ℕ → List Field → List ℤ → ℕ
packed_after n [] zs = n
packed_after n (f ∷ fs) [] = n
packed_after n (f ∷ fs) (z ∷ zs) = packed_after (n * 2 ^ f.width + coded f.width z) fs zs

-- how many bits the fields have
abbrev pub width : List Field → ℕ
width [] = 0
width (f ∷ fs) = f.width + width fs

-- the k low bytes of n, the most significant first
abbrev pub bytes_of : ℕ → ℕ → List ℕ
bytes_of zero n = []
bytes_of (suc k) n = (n / 2 ^ (8 * k)) % 256 ∷ bytes_of k n

-- the number whose bytes are the first k of bs, the most significant first
abbrev pub word_of : ℕ → List ℕ → ℕ
word_of zero bs = 0
word_of (suc k) bs = word_of k bs * 256 + slice_index bs k

-- the numbers of fields that begin with the k low bits of n, the first field first
abbrev pub numbers_in : List Field → ℕ → ℕ → List ℤ
numbers_in [] k n = []
numbers_in (f ∷ fs) k n = told f (n / 2 ^ (k - f.width) % 2 ^ f.width) ∷ numbers_in fs (k - f.width) n
