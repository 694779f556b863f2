-- Each kind is sound: its fields are told by its numbers, and its numbers by its fields.
use Rattle.std.specs.Prelude.{◌≡◌, ℕ, zero, suc, ◌<◌, true, List, [], ◌∷◌, length, ℤ, pos, negsuc, slice_index_or, refl}
use Rattle.std.proofs.Common.{ap, ◌∙◌, arith, rules}
use Rattle.std.proofs.lemmas.Bool.{and_parts}
use Rattle.std.proofs.lemmas.Bool.Decides.{nat_tests}
use Rattle.journal.specs.Codes.{first_back, flag_back, quantity_back, verdict_back, first_code, first_of, quantity_code, quantity_of, verdict_code, verdict_of, flag_code, flag_of}
use Rattle.journal.specs.Fields.{in_range, all_in_range, first_attempt, quantity, flag}
use Rattle.journal.specs.Format.{Sound}
use Rattle.journal.specs.Kinds.{sequence, three_step, certificate, notice, at}
use Rattle.journal.specs.declared.field.Field.{Field}
use Rattle.journal.specs.declared.sequence.SequenceFields.{SequenceFields}
use Rattle.journal.specs.Rows.{in_range_length}

first_only : (z : ℤ) → in_range first_attempt z ≡ true → first_code (first_of z) ≡ z
first_only (pos n) h = grind (arith, nat_tests)
first_only (negsuc n) h = grind (arith, nat_tests)

quantity_only : (z : ℤ) → in_range quantity z ≡ true → quantity_code (quantity_of z) ≡ z
quantity_only (pos n) h = grind (arith, nat_tests)
quantity_only (negsuc n) h = grind (arith, nat_tests)

verdict_only : (z : ℤ) → in_range flag z ≡ true → verdict_code (verdict_of z) ≡ z
verdict_only (pos n) h = grind (arith, nat_tests)
verdict_only (negsuc n) h = grind (arith, nat_tests)

flag_only : (z : ℤ) → in_range flag z ≡ true → flag_code (flag_of z) ≡ z
flag_only (pos n) h = grind (arith, nat_tests)
flag_only (negsuc n) h = grind (arith, nat_tests)

-- a list by its places
abbrev places : ℕ → ℕ → List ℤ → List ℤ
places i zero zs = []
places i (suc n) zs = at zs i ∷ places (suc i) n zs

places_behind : (n i : ℕ) (z : ℤ) (zs : List ℤ) → places (suc i) n (z ∷ zs) ≡ places i n zs
places_behind zero i z zs = refl
places_behind (suc n) i z zs = ap (λ t. at zs i ∷ t) (places_behind n (suc i) z zs)

all_places : (n : ℕ) (zs : List ℤ) → length zs ≡ n → places 0 n zs ≡ zs
all_places zero [] e = refl
all_places zero (z ∷ zs) e = absurd (omega arith)
all_places (suc n) [] e = absurd (omega arith)
all_places (suc n) (z ∷ zs) e = ap (λ t. z ∷ t) (places_behind n 0 z zs ∙ all_places n zs (omega arith))

-- each number is in its field's range
each : (d : Field) (fs : List Field) (zs : List ℤ) → all_in_range fs zs ≡ true → (i : ℕ) → i < length fs → in_range (slice_index_or fs i d) (at zs i) ≡ true
each d [] zs h i lt = absurd (omega arith)
each d (f ∷ fs) [] h i lt = let e : ◌≡◌ {A = ℕ} 0 1 = cc in absurd (omega arith)
each d (f ∷ fs) (z ∷ zs) h zero lt = (and_parts (in_range f z) (all_in_range fs zs) h).0
each d (f ∷ fs) (z ∷ zs) h (suc i) lt = each d fs zs (and_parts (in_range f z) (all_in_range fs zs) h).1 i (omega arith)

sequence_back : (f : SequenceFields) → sequence.made (sequence.numbers f) ≡ f
sequence_back f =
    rw (first_back f.first_attempt, verdict_back f.sequence, quantity_back f.quantity, flag_back f.wild, flag_back f.dominance, verdict_back f.verdict) refl

sequence_only : (zs : List ℤ) → all_in_range sequence.fields zs ≡ true → sequence.numbers (sequence.made zs) ≡ zs
sequence_only zs h =
    let r = each flag sequence.fields zs h in
    rw (first_only (at zs 1) (r 1 (omega arith)), verdict_only (at zs 4) (r 4 (omega arith)), quantity_only (at zs 5) (r 5 (omega arith)), flag_only (at zs 6) (r 6 (omega arith)), flag_only (at zs 7) (r 7 (omega arith)), verdict_only (at zs 8) (r 8 (omega arith))) (all_places 13 zs (in_range_length sequence.fields zs h))

pub sequence_sound : Sound sequence
sequence_sound = record {
  some = search rules;
  short = search rules;
  known = refl;
  room = search rules;
  spare = search rules;
  stand = refl;
  full = λ f. refl;
  back = sequence_back;
  only = sequence_only;
}

pub three_step_sound : Sound three_step
three_step_sound = search rules

pub certificate_sound : Sound certificate
certificate_sound = search rules

pub notice_sound : Sound notice
notice_sound = search rules
