-- The cursors that pack and unpack a record, field by field.
use Rattle.std.specs.Prelude.{ℕ, ◌+◌, ◌-◌, ◌*◌, ◌/◌, ◌%◌, ◌^◌, true, ◌&&◌, List, [], ◌∷◌, ℤ}
use Rattle.journal.specs.Bits.{packed_after, word_of}
use Rattle.journal.specs.Fields.{in_range, all_in_range, coded, told}
use Rattle.journal.specs.Format.{Format, row, all_numbers, fill}
use Rattle.journal.specs.declared.field.Field.{Field}
use Rattle.journal.specs.declared.bits.Packing.{Packing}
use Rattle.journal.specs.declared.bits.Unpacking.{Unpacking}

-- a field behind the others
unfoldable pub put : Field → ℤ → Packing → Packing
put f z b = record {
  word = (b.word * 2 ^ f.width) % 2 ^ 128 + coded f.width z;
  left = b.left - f.width;
  in_range = b.in_range && in_range f z;
}

-- each of these fields behind the one before
abbrev pub put_all : List Field → List ℤ → Packing → Packing
put_all [] zs b = b
put_all (f ∷ fs) [] b = b
put_all (f ∷ fs) (z ∷ zs) b = put_all fs zs (put f z b)

-- the number of the first field of 128 bits
unfoldable pub first : Field → Unpacking → ℤ
first f b = told f (b.word / 2 ^ (128 - f.width))

-- the bits behind the first field, and whether its number, too, is in its range
unfoldable pub behind : Field → Unpacking → Unpacking
behind f b = record {
  word = (b.word * 2 ^ f.width) % 2 ^ 128;
  in_range = b.in_range && in_range f (told f (b.word / 2 ^ (128 - f.width)));
}

-- the numbers of the first fields
abbrev pub take_all : List Field → Unpacking → List ℤ
take_all [] b = []
take_all (f ∷ fs) b = first f b ∷ take_all fs (behind f b)

-- what is left behind them
abbrev pub behind_all : List Field → Unpacking → Unpacking
behind_all [] b = b
behind_all (f ∷ fs) b = behind_all fs (behind f b)

-- a record packed: its kind and fields as one number, the bits left in the last byte, whether each field is in its range
abbrev pub packed : {F : Type 0} → Format F → F → Packing
packed m f = record {
  word = packed_after 0 (row m) (all_numbers m f);
  left = fill m;
  in_range = all_in_range m.fields (m.numbers f);
}

-- the bits of a record behind its kind, at the head of 128
abbrev pub headed : {F : Type 0} → Format F → List ℕ → Unpacking
headed m bs = record { word = (word_of m.size bs * 2 ^ (132 - 8 * m.size)) % 2 ^ 128; in_range = true }
