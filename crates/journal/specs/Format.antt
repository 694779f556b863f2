-- What a kind of record is, and the bytes that a record of it is written as.
use Rattle.std.specs.Prelude.{◌≡◌, ℕ, ◌+◌, ◌-◌, ◌*◌, ◌^◌, ◌<◌, ◌≤◌, Bool, true, cond, ◌&&◌, List, [], ◌∷◌, length, ℤ, pos, negsuc, int_le, int_lt, nat_le}
use Rattle.journal.specs.Bits.{packed_after, width, bytes_of}
use Rattle.journal.specs.Fields.{in_range, all_in_range, kind_number}
use Rattle.journal.specs.declared.field.Field.{Field}

-- a kind's number, its bytes, its fields in their order, the numbers that are written for a record's fields,
-- what record is made of numbers, and how fields have to agree with one another
pub record Format (F : Type 0) : Type 0 where
  pub number : ℕ
  pub size : ℕ
  pub fields : List Field
  pub numbers : F → List ℤ
  pub made : List ℤ → F
  pub related : F → Bool

-- each field is in its range, and they agree with one another
abbrev pub legal : {F : Type 0} → Format F → F → Bool
legal m f = all_in_range m.fields (m.numbers f) && m.related f

-- the kind's number stands in front of the fields
abbrev pub row : {F : Type 0} → Format F → List Field
row m = kind_number ∷ m.fields

-- and its number in front of the fields' numbers
abbrev pub all_numbers : {F : Type 0} → Format F → F → List ℤ
all_numbers m f = pos m.number ∷ m.numbers f

-- the zero bits that fill the last byte
abbrev pub fill : {F : Type 0} → Format F → ℕ
fill m = 8 * m.size - width (row m)

-- the record as one number: the kind and the fields, and zeros for the fill
abbrev pub word : {F : Type 0} → Format F → F → ℕ
word m f = packed_after 0 (row m) (all_numbers m f) * 2 ^ fill m

-- the bytes of a record
abbrev pub encoded : {F : Type 0} → Format F → F → List ℕ
encoded m f = bytes_of m.size (word m f)

-- the field's range can be told apart in its bits
abbrev pub stands : Field → Bool
stands f =
    nat_le 1 f.width
    && (nat_le f.width 30
    && cond (int_lt f.low (pos 0)) (int_le (negsuc (2 ^ (f.width - 1) - 1)) f.low && int_le f.high (pos (2 ^ (f.width - 1) - 1))) (int_le f.high (pos (2 ^ f.width - 1))))

-- so can each field's of a list
abbrev pub all_stand : List Field → Bool
all_stand [] = true
all_stand (f ∷ fs) = stands f && all_stand fs

-- a kind whose records are told apart by their bytes: it has 1 to 15 bytes and a number that its four bits can hold, its fields leave less
-- than a byte of fill, its fields' ranges can be told apart, each field has a number, and fields and numbers in range tell each other
pub record Sound {F : Type 0} (m : Format F) : Type 0 where
  pub some : 0 < m.size
  pub short : m.size ≤ 15
  pub known : in_range kind_number (pos m.number) ≡ true
  pub room : width (row m) ≤ 8 * m.size
  pub spare : 8 * m.size < width (row m) + 8
  pub stand : all_stand m.fields ≡ true
  pub full : (f : F) → length (m.numbers f) ≡ length m.fields
  pub back : (f : F) → m.made (m.numbers f) ≡ f
  pub only : (zs : List ℤ) → all_in_range m.fields zs ≡ true → m.numbers (m.made zs) ≡ zs
