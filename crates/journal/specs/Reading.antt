-- What reading a record answers.
use Rattle.std.specs.Prelude.{◌≡◌, ℕ, ◌-◌, ◌*◌, ◌/◌, ◌%◌, ◌^◌, ◌<◌, Bool, true, cond, ◌&&◌, List, ◌++◌, length, drop, ℤ, Ok, Err, Result, ◌==◌, nat_le, slice_index}
use Rattle.method.specs.declared.question.Question.{Question}
use Rattle.method.specs.declared.question.Question.TheVariants.{AllBytesThere, FieldsInRange, FillZero}
use Rattle.journal.specs.Bits.{word_of, numbers_in}
use Rattle.journal.specs.Fields.{all_in_range}
use Rattle.journal.specs.Format.{Format, legal, fill, encoded}
use Rattle.journal.specs.declared.fault.Fault.{Fault}
use Rattle.journal.specs.declared.fault.Place.{Place}
use Rattle.journal.specs.declared.fault.Layer.{Layer}
use Rattle.journal.specs.declared.fault.Layer.TheVariants.{Kind, Bits, Field}

-- the fault of a question in its layer, at a record's place
abbrev pub fault : Question → Layer → Place → Fault
fault q l p = record { question = q; layer = l; place = p }

-- the number of the kind: the first four bits
abbrev pub kind_of : List ℕ → ℕ
kind_of bs = slice_index bs 0 / 16

-- the field layer: the fields where they are in range
abbrev pub ranged : {F : Type 0} → Bool → F → Place → Result F Fault
ranged in_range f p = cond in_range (Ok f) (Err (fault FieldsInRange Field p))

-- the fields that numbers stand for
abbrev pub meant : {F : Type 0} → Format F → Place → List ℤ → Result F Fault
meant m p zs = ranged (all_in_range m.fields zs && m.related (m.made zs)) (m.made zs) p

-- the bit layer: the bits behind the fields are zero
abbrev pub opened : {F : Type 0} → Format F → Place → ℕ → Result F Fault
opened m p n =
    cond (n % 2 ^ fill m == 0) (meant m p (numbers_in m.fields (8 * m.size - 4) n)) (Err (fault FillZero Bits p))

-- the record of a known kind at the front of bytes: are they all there, is the fill zero, are the fields in range
unfoldable pub decoded : {F : Type 0} → Format F → Place → List ℕ → Result F Fault
decoded m p bs = cond (nat_le m.size (length bs)) (opened m p (word_of m.size bs)) (Err (fault AllBytesThere Kind p))

-- every element is a byte
abbrev pub Bytes : List ℕ → Type 0
Bytes bs = (i : ℕ) → slice_index bs i < 256

-- what was written is read, whatever stands behind it
abbrev pub ReadsBack : {F : Type 0} → Format F → Type 0
ReadsBack {F = F} m =
    (p : Place) (f : F) (rest : List ℕ) → legal m f ≡ true → (kind_of (encoded m f ++ rest) ≡ m.number) × (decoded m p (encoded m f ++ rest) ≡ Ok f)

-- what is read is legal, and its bytes are those that it is written as
abbrev pub ReadsOnly : {F : Type 0} → Format F → Type 0
ReadsOnly {F = F} m =
    (p : Place) (bs : List ℕ) (f : F) → Bytes bs → kind_of bs ≡ m.number → decoded m p bs ≡ Ok f → (legal m f ≡ true) × (bs ≡ encoded m f ++ drop m.size bs)

-- writing and reading are one to one
pub record OneToOne {F : Type 0} (m : Format F) : Type 0 where
  pub back : ReadsBack m
  pub only : ReadsOnly m
