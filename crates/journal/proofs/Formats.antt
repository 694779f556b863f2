-- What holds of every kind of record: its bytes, and that writing and reading undo each other.
use Rattle.std.proofs.Common.{◌≡◌, ℕ, suc, ◌+◌, ◌-◌, ◌*◌, ◌/◌, ◌%◌, ◌^◌, ◌<◌, ◌≤◌, Bool, true, false, cond, ◌&&◌, eqb, leb, List, ◌∷◌, ◌++◌, length, get_or, take, drop, ℤ, pos, Ok, Err, Result, sym, refl, ap, ◌∙◌, append-nil, mod-eq_of_lt, mul_assoc, arith, length-append}
use borrow.Rule.Slice.PartMut.{put_mid}
use Rattle.std.proofs.lemmas.Nat.{pow-add, shl_below, shl_whole, shl-shr, shr-shr, mod_below}
use Rattle.std.proofs.lemmas.Bool.{le-leb, leb-true, eq-eqb, eqb-true, and_parts, and_from}
use Rattle.std.proofs.lemmas.Bool.Decides.{nat_tests}
use Rattle.std.proofs.lemmas.List.{drop_all, drop-drop, length-drop, take_rest, take-append-drop, length-take-le, get_or_append_left}
use Rattle.method.specs.declared.question.Question.{Question}
use Rattle.method.specs.declared.question.Question.TheVariants.{AllBytesThere, FieldsInRange, FillZero, FitsBuffer}
use Rattle.journal.specs.declared.bits.Packing.{Packing}
use Rattle.journal.specs.declared.bits.Unpacking.{Unpacking}
use Rattle.journal.specs.declared.fault.Fault.{Fault}
use Rattle.journal.specs.declared.fault.Place.{Place}
use Rattle.journal.specs.declared.fault.Layer.TheVariants.{Kind, Bits}
use Rattle.journal.specs.Bits.{packed_after, width, bytes_of, word_of}
use Rattle.journal.specs.Cursor.{put, put_all, take_all, behind_all, packed, headed}
use Rattle.journal.specs.Fields.{all_in_range, kind_number, coded}
use Rattle.journal.specs.Format.{Format, Sound, legal, row, all_numbers, fill, word, encoded}
use Rattle.journal.specs.Writing.{answered, laid}
use Rattle.journal.specs.Reading.{fault, kind_of, ranged, meant, opened, decoded, Bytes, ReadsBack, ReadsOnly}
use Rattle.journal.proofs.Bytes.{bytes_of_word_of, word_of_bytes_of, word_of_append, word_of_take, word_of_lt, length_bytes_of, getD_bytes_of, word_of_top}
use Rattle.journal.proofs.Places.{lifted, by_places, eqb_shifted}
use Rattle.journal.specs.Rows.{packed_lt, put_all_is, code_first, rest_behind, row_of, length_take_all, taken, only, flagged}

refused : (a b : Bool) (n : ℕ) (q : Question) (old new : List ℕ) → Err q ≡ cond a (cond b (Ok n) (Err FitsBuffer)) (Err FieldsInRange) → old ≡ cond (a && b) new old
refused true true n q old new h = let z : ◌≡◌ {A = ℕ} 0 1 = cc in absurd (omega arith)
refused true false n q old new h = refl
refused false b n q old new h = refl

pub granted : (a b : Bool) (n k : ℕ) → ◌≡◌ {A = Result ℕ Question} (Ok k) (cond a (cond b (Ok n) (Err FitsBuffer)) (Err FieldsInRange)) → (a ≡ true) × (b ≡ true) × (k ≡ n)
granted true true n k h = (refl, refl, cc)
granted true false n k h = let z : ◌≡◌ {A = ℕ} 0 1 = cc in absurd (omega arith)
granted false b n k h = let z : ◌≡◌ {A = ℕ} 0 1 = cc in absurd (omega arith)

pub headed_is : {F : Type 0} (m : Format F) (bs front : List ℕ) → m.size ≤ length bs → front ≡ take m.size bs → ◌≡◌ {A = Unpacking} (record { word = (word_of (length front) front * 2 ^ (132 - 8 * length front)) % 2 ^ 128; in_range = true }) (headed m bs)
headed_is m bs front le e =
    let len : length front ≡ m.size = ap length e ∙ length-take-le m.size bs le in
    let same : word_of m.size front ≡ word_of m.size bs = ap (word_of m.size) e ∙ word_of_take m.size bs le in
    rw len (rw same refl)

module _ {F : Type 0} (m : Format F) (s : Sound m) where
  -- as many numbers as fields
  numbered : (f : F) → length (all_numbers m f) ≡ length (row m)
  numbered f = ap suc (s.full f)

  narrow : width (row m) ≤ 128
  narrow = omega (arith, s.room, s.short)

  -- the fields behind the kind, in as many bits as the record has
  pub packing : (f : F) (z : ℤ) (l : ℕ) (b b' : Packing) → z ≡ pos m.number → l ≡ m.size → b ≡ put kind_number z (record { word = 0; left = 8 * l; in_range = true }) → b' ≡ put_all m.fields (m.numbers f) b → b' ≡ packed m f
  packing f z l b b' ne le e e' =
      e' ∙ ap (put_all m.fields (m.numbers f)) (e ∙ rw (ne, le) refl) ∙ put_all_is (row m) (all_numbers m f) 0 (8 * m.size) 0 true (numbered f) (omega arith) (omega (arith, narrow)) ∙ ap (λ x. record { word = packed_after 0 (row m) (all_numbers m f); left = fill m; in_range = x && all_in_range m.fields (m.numbers f) }) s.known

  whole_row : width (row m) + fill m ≡ 8 * m.size
  whole_row = omega (arith, s.room)

  word_lt : (f : F) → word m f < 2 ^ (8 * m.size)
  word_lt f = rw whole_row at (shl_below (packed_after 0 (row m) (all_numbers m f)) (width (row m)) (fill m) (packed_lt (row m) (all_numbers m f) (numbered f)))

  pub word_is : (f : F) (b : Packing) → b ≡ packed m f → (b.word * 2 ^ b.left) % 2 ^ 128 ≡ word m f
  word_is f b e =
      ap (λ x. (x.word * 2 ^ x.left) % 2 ^ 128) e ∙ shl_whole (packed_after 0 (row m) (all_numbers m f)) (width (row m)) (fill m) 128 (packed_lt (row m) (all_numbers m f) (numbered f)) (omega (arith, whole_row, s.short))

  pub fill_lt : fill m < 8
  fill_lt = omega (arith, s.spare)

  pub length_encoded : (f : F) → length (encoded m f) ≡ m.size
  length_encoded f = length_bytes_of m.size (word m f)

  -- a refused writing leaves the journal as it was
  pub unwritten : (f : F) (place : ℕ) (old : List ℕ) (q : Question) → Err q ≡ answered (legal m f) (length (encoded m f)) place (length old) → old ≡ laid (legal m f) (encoded m f) place old
  unwritten f place old q h = refused (legal m f) (leb (place + length (encoded m f)) (length old)) (length (encoded m f)) q old _ h

  -- the journal, once the bytes were laid down in the part that is lent on
  pub written : (f : F) (place : ℕ) (old part : List ℕ) (count w : ℕ) → Ok count ≡ answered (legal m f) (length (encoded m f)) place (length old) → w ≡ word m f → part ≡ bytes_of count w ++ drop count (take (length old - place) (drop place old)) → put_mid place (length old - place) old part ≡ laid (legal m f) (encoded m f) place old
  written f place old part count w h we e =
      let size = length_encoded f in
      let t = granted (legal m f) (leb (place + length (encoded m f)) (length old)) (length (encoded m f)) count h in
      let le = leb-true (place + length (encoded m f)) (length old) t.1 in
      let z = drop_all (length old - place) (drop place old) (omega (arith, length-drop place old)) in
      let open_laid : laid (legal m f) (encoded m f) place old ≡ take place old ++ (encoded m f ++ drop (place + count) old) = rw (t.0, t.1) (ap (λ k. take place old ++ (encoded m f ++ drop (place + k) old)) (sym t.2)) in
      let part_is : part ≡ encoded m f ++ drop (place + count) old = e ∙ ap (λ k. bytes_of k w ++ drop count (take (length old - place) (drop place old))) (t.2 ∙ size) ∙ rw (we, take_rest old place) refl ∙ ap (λ x. encoded m f ++ x) (drop-drop count place old) in
      ap (λ x. take place old ++ (part ++ x)) z ∙ ap (λ x. take place old ++ x) (append-nil part ∙ part_is) ∙ sym open_laid

  -- what was asked of the packed record is what the record is asked
  pub asked : (f : F) (b : Packing) (place len : ℕ) (r : Result ℕ Question) → b ≡ packed m f → r ≡ answered (b.in_range && m.related f) m.size place len → r ≡ answered (legal m f) (length (encoded m f)) place len
  asked f b place len r e h =
      h ∙ ap (λ x. answered (x.in_range && m.related f) m.size place len) e ∙ ap (λ k. answered (legal m f) k place len) (sym (length_encoded f))

  -- the bytes of a record at the head of 128 bits, with the kind
  abbrev front : List ℕ → ℕ
  front bs = word_of m.size bs * 2 ^ (128 - 8 * m.size)

  front_lt : (bs : List ℕ) → Bytes bs → front bs < 2 ^ 128
  front_lt bs small =
      let w : 8 * m.size + (128 - 8 * m.size) ≡ 128 = omega (arith, s.short) in
      rw w at (shl_below (word_of m.size bs) (8 * m.size) (128 - 8 * m.size) (word_of_lt m.size bs small))

  -- those behind the kind
  behind_kind : (bs : List ℕ) → (headed m bs).word ≡ (front bs * 2 ^ 4) % 2 ^ 128
  behind_kind bs =
      let n = word_of m.size bs in
      let k = 128 - 8 * m.size in
      let j : 132 - 8 * m.size ≡ k + 4 = omega (arith, s.short) in
      ap (λ x. x % 2 ^ 128) (ap (λ i. n * 2 ^ i) j ∙ ap (λ x. n * x) (pow-add 2 k 4) ∙ sym (mul_assoc n (2 ^ k) (2 ^ 4)))

  beyond : 2 ^ fill m * 2 ^ (128 - 8 * m.size) ≡ 2 ^ (128 - width (row m))
  beyond =
      let z : fill m + (128 - 8 * m.size) ≡ 128 - width (row m) = omega (arith, whole_row, s.short) in
      sym (pow-add 2 (fill m) (128 - 8 * m.size)) ∙ ap (λ k. 2 ^ k) z

  front_is : (f : F) (rest : List ℕ) → front (encoded m f ++ rest) ≡ packed_after 0 (row m) (all_numbers m f) * 2 ^ (128 - width (row m))
  front_is f rest =
      ap (λ x. x * 2 ^ (128 - 8 * m.size)) (word_of_append m.size (encoded m f) rest (omega (arith, length_encoded f)) ∙ word_of_bytes_of m.size (word m f) (word_lt f)) ∙ mul_assoc (packed_after 0 (row m) (all_numbers m f)) (2 ^ fill m) (2 ^ (128 - 8 * m.size)) ∙ ap (λ x. packed_after 0 (row m) (all_numbers m f) * x) beyond

  -- the first four bits are the first byte's
  nibble : (bs : List ℕ) → ((i : ℕ) → i < m.size → get_or bs i 0 < 256) → front bs / 2 ^ 124 ≡ kind_of bs
  nibble bs small =
      let n = word_of m.size bs in
      let j : 124 ≡ 128 - 8 * m.size + (8 * m.size - 4) = omega (arith, s.short, s.some) in
      let k : 8 * m.size - 4 ≡ 8 * (m.size - 1) + 4 = omega (arith, s.some) in
      let one : m.size ≡ suc (m.size - 1) = omega (arith, s.some) in
      let top : n / 2 ^ (8 * (m.size - 1)) ≡ get_or bs 0 0 = ap (λ z. word_of z bs / 2 ^ (8 * (m.size - 1))) one ∙ word_of_top (m.size - 1) bs (λ i lt. small i (omega arith)) in
      ap (λ z. n * 2 ^ (128 - 8 * m.size) / 2 ^ z) j ∙ sym (shr-shr (n * 2 ^ (128 - 8 * m.size)) (128 - 8 * m.size) (8 * m.size - 4)) ∙ ap (λ z. z / 2 ^ (8 * m.size - 4)) (shl-shr n (128 - 8 * m.size)) ∙ ap (λ z. n / 2 ^ z) k ∙ sym (shr-shr n (8 * (m.size - 1)) 4) ∙ ap (λ z. z / 16) top

  number_coded : coded 4 (pos m.number) ≡ m.number
  number_coded = let known = s.known in let lt : m.number < 16 = grind (arith, nat_tests) in mod-eq_of_lt lt

  pub kind_front : (f : F) (rest : List ℕ) → kind_of (encoded m f ++ rest) ≡ m.number
  kind_front f rest =
      let small : (i : ℕ) → i < m.size → get_or (encoded m f ++ rest) i 0 < 256 = λ i lt. rw (get_or_append_left (encoded m f) rest 0 i (omega (arith, length_encoded f)), getD_bytes_of m.size (word m f) i lt) (mod_below (word m f / 2 ^ (8 * (m.size - 1 - i))) 256 (omega arith)) in
      sym (nibble (encoded m f ++ rest) small) ∙ code_first kind_number (pos m.number) m.fields (m.numbers f) (front (encoded m f ++ rest)) narrow (s.full f) (front_is f rest) ∙ number_coded

  -- the same record, as the cursor reads it
  abbrev pub unpacked : Place → Unpacking → Result F Fault
  unpacked p b = cond (eqb (behind_all m.fields b).word 0) (meant m p (take_all m.fields b)) (Err (fault FillZero Bits p))

  pub as_cursor : (p : Place) (bs : List ℕ) → opened m p (word_of m.size bs) ≡ unpacked p (headed m bs)
  as_cursor p bs =
      let k = 8 * m.size - 4 in
      let n = word_of m.size bs in
      let room : width m.fields ≤ k = omega (arith, s.room) in
      let high : k ≤ 128 = omega (arith, s.short) in
      let e : 132 - 8 * m.size ≡ 128 - k = omega (arith, s.short, s.some) in
      let start : (headed m bs).word ≡ (n % 2 ^ k) * 2 ^ (128 - k) = ap (λ j. (n * 2 ^ j) % 2 ^ 128) e ∙ lifted n k 128 high in
      let t = by_places m.fields k n (headed m bs).word true room high start in
      let left : k - width m.fields ≡ fill m = omega arith in
      let rest : (behind_all m.fields (headed m bs)).word ≡ (n % 2 ^ fill m) * 2 ^ (128 - fill m) = t.1 ∙ ap (λ j. (n % 2 ^ j) * 2 ^ (128 - j)) left in
      let zero_fill : eqb (behind_all m.fields (headed m bs)).word 0 ≡ eqb (n % 2 ^ fill m) 0 = ap (λ x. eqb x 0) rest ∙ eqb_shifted (n % 2 ^ fill m) (128 - fill m) in
      sym (ap (λ x. cond x (meant m p (take_all m.fields (headed m bs))) (Err (fault FillZero Bits p))) zero_fill ∙ ap (λ zs. cond (eqb (n % 2 ^ fill m) 0) (meant m p zs) (Err (fault FillZero Bits p))) t.0)

  decoded_by_cursor : (p : Place) (bs : List ℕ) → decoded m p bs ≡ cond (leb m.size (length bs)) (unpacked p (headed m bs)) (Err (fault AllBytesThere Kind p))
  unfolding decoded
  decoded_by_cursor p bs = ap (λ x. cond (leb m.size (length bs)) x (Err (fault AllBytesThere Kind p))) (as_cursor p bs)

  pub decoded_by_layers : (p : Place) (bs : List ℕ) → decoded m p bs ≡ cond (leb m.size (length bs)) (cond (eqb (behind_all m.fields (headed m bs)).word 0) (ranged ((behind_all m.fields (headed m bs)).in_range && m.related (m.made (take_all m.fields (headed m bs)))) (m.made (take_all m.fields (headed m bs))) p) (Err (fault FillZero Bits p))) (Err (fault AllBytesThere Kind p))
  decoded_by_layers p bs = rw (flagged m.fields (headed m bs)) (decoded_by_cursor p bs)

  pub reads_back : ReadsBack m
  reads_back p f rest h =
      let bs = encoded m f ++ rest in
      let l = and_parts (all_in_range m.fields (m.numbers f)) (m.related f) h in
      let is : (headed m bs).word ≡ packed_after 0 m.fields (m.numbers f) * 2 ^ (128 - width m.fields) = behind_kind bs ∙ rest_behind kind_number (pos m.number) m.fields (m.numbers f) (front bs) narrow (s.full f) (front_is f rest) in
      let t = taken m.fields (m.numbers f) (headed m bs).word true (omega (arith, narrow)) s.stand l.0 is in
      let long : m.size ≤ length bs = omega (arith, length-append (encoded m f) rest, length_encoded f) in
      let there : unpacked p (headed m bs) ≡ meant m p (take_all m.fields (headed m bs)) = rw (eq-eqb (behind_all m.fields (headed m bs)).word 0 t.1) refl in
      let meaning : meant m p (m.numbers f) ≡ Ok f = rw (s.back f, l.0, l.1) refl in
      (kind_front f rest, decoded_by_cursor p bs ∙ rw (le-leb m.size (length bs) long) (there ∙ ap (meant m p) t.0 ∙ meaning))

  ok_cond : (b : Bool) (r : Result F Fault) (e : Fault) (f : F) → cond b r (Err e) ≡ Ok f → (b ≡ true) × (r ≡ Ok f)
  ok_cond true r e f h = (refl, h)
  ok_cond false r e f h = let z : ◌≡◌ {A = ℕ} 0 1 = cc in absurd (omega arith)

  pub reads_whole : (p : Place) (bs : List ℕ) (f : F) → decoded m p bs ≡ Ok f → m.size ≤ length bs
  reads_whole p bs f e = leb-true m.size (length bs) (ok_cond (leb m.size (length bs)) _ _ f (sym (decoded_by_cursor p bs) ∙ e)).0

  pub reads_only : ReadsOnly m
  reads_only p bs f small kind e =
      let b = headed m bs in
      let zs = take_all m.fields b in
      let room : width m.fields ≤ 128 = omega (arith, narrow) in
      let a = ok_cond (leb m.size (length bs)) (unpacked p b) _ f (sym (decoded_by_cursor p bs) ∙ e) in
      let z = ok_cond (eqb (behind_all m.fields b).word 0) _ _ f a.1 in
      let o = ok_cond (all_in_range m.fields zs && m.related (m.made zs)) (Ok (m.made zs)) _ f z.1 in
      let l = and_parts (all_in_range m.fields zs) (m.related (m.made zs)) o.0 in
      let same : m.made zs ≡ f = let q = o.1 in cc in
      let numbers : m.numbers f ≡ zs = ap m.numbers (sym same) ∙ s.only zs l.0 in
      let lawful : legal m f ≡ true = and_from (all_in_range m.fields (m.numbers f)) (m.related f) (ap (all_in_range m.fields) numbers ∙ l.0) (ap m.related (sym same) ∙ l.1) in
      let below : b.word < 2 ^ 128 = mod_below (word_of m.size bs * 2 ^ (132 - 8 * m.size)) (2 ^ 128) (omega arith) in
      let fields : b.word ≡ packed_after 0 m.fields zs * 2 ^ (128 - width m.fields) = only m.fields b.word true room below (eqb-true (behind_all m.fields b).word 0 z.0) in
      let first : front bs / 2 ^ 124 ≡ coded 4 (pos m.number) = nibble bs (λ i lt. small i) ∙ kind ∙ sym number_coded in
      let all : front bs ≡ packed_after 0 (row m) (pos m.number ∷ zs) * 2 ^ (128 - width (row m)) = row_of kind_number (pos m.number) m.fields zs (front bs) narrow (length_take_all m.fields b) first (sym (behind_kind bs) ∙ fields) in
      let row_is : front bs ≡ packed_after 0 (row m) (all_numbers m f) * 2 ^ (128 - width (row m)) = all ∙ ap (λ ns. packed_after 0 (row m) (pos m.number ∷ ns) * 2 ^ (128 - width (row m))) (sym numbers) in
      let n = word_of m.size bs in
      let shifted : n * 2 ^ (128 - 8 * m.size) ≡ word m f * 2 ^ (128 - 8 * m.size) = row_is ∙ ap (λ x. packed_after 0 (row m) (all_numbers m f) * x) (sym beyond) ∙ sym (mul_assoc (packed_after 0 (row m) (all_numbers m f)) (2 ^ fill m) (2 ^ (128 - 8 * m.size))) in
      let equal : word m f ≡ n = sym (sym (shl-shr n (128 - 8 * m.size)) ∙ ap (λ x. x / 2 ^ (128 - 8 * m.size)) shifted ∙ shl-shr (word m f) (128 - 8 * m.size)) in
      let begins : encoded m f ≡ take m.size bs = ap (bytes_of m.size) equal ∙ bytes_of_word_of m.size bs (leb-true m.size (length bs) a.0) small in
      (lawful, sym (rw begins (take-append-drop m.size bs)))
