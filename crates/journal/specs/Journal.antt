-- A journal: records of any kind, one behind another.
use Rattle.std.specs.Prelude.{◌≡◌, ℕ, zero, suc, ◌+◌, ◌≤◌, Bool, true, cond, ◌&&◌, List, [], ◌∷◌, ◌++◌, length, take, drop, replicate, Some, None, Ok, Err, Option, Result, ◌==◌}
use Rattle.method.specs.declared.question.Question.TheVariants.{RecordKindKnown}
use Rattle.journal.specs.Format.{Format, legal, encoded}
use Rattle.journal.specs.Kinds.{sequence, three_step, certificate, notice}
use Rattle.journal.specs.Reading.{fault, kind_of, decoded, Bytes}
use Rattle.journal.specs.Writing.{laid}
use Rattle.journal.specs.declared.fault.Fault.{Fault}
use Rattle.journal.specs.declared.fault.Place.{Place}
use Rattle.journal.specs.declared.fault.Layer.TheVariants.{Kind}
use Rattle.journal.specs.declared.record.Record.{Record}
use Rattle.journal.specs.declared.record.Record.TheVariants.{Sequence, ThreeStep, Certificate, Notice}
use Rattle.journal.specs.declared.record.Placed.{Placed}

-- the record's fields are in range
abbrev pub legal_record : Record → Bool
legal_record (Sequence f) = legal sequence f
legal_record (ThreeStep f) = legal three_step f
legal_record (Certificate f) = legal certificate f
legal_record (Notice f) = legal notice f

-- what a record is written as
abbrev pub record_bytes : Record → List ℕ
record_bytes (Sequence f) = encoded sequence f
record_bytes (ThreeStep f) = encoded three_step f
record_bytes (Certificate f) = encoded certificate f
record_bytes (Notice f) = encoded notice f

-- what was read, as a record of its kind
abbrev pub named : {F : Type 0} → (F → Record) → Result F Fault → Result Record Fault
named c (Ok f) = Ok (c f)
named c (Err e) = Err e

-- the record of a kind if its number is k, and else another answer
abbrev pub of_kind : {F : Type 0} → Format F → (F → Record) → ℕ → Place → List ℕ → Result Record Fault → Result Record Fault
of_kind m c k p bs other = cond (k == m.number) (named c (decoded m p bs)) other

-- the record at the front of bytes, by the number of its kind
abbrev pub by_kind : ℕ → Place → List ℕ → Result Record Fault
by_kind k p bs =
    of_kind sequence Sequence k p bs
    (of_kind three_step ThreeStep k p bs
    (of_kind certificate Certificate k p bs
    (of_kind notice Notice k p bs
    (Err (fault RecordKindKnown Kind p)))))

-- the record at the front of bytes
abbrev pub decoded_any : Place → List ℕ → Result Record Fault
decoded_any p bs = by_kind (kind_of bs) p bs

-- the place of the record at byte i, behind n others
abbrev pub place_of : ℕ → ℕ → Place
place_of i n = record { ordinal = n + 1; first_byte = i }

-- what was read, with its place
abbrev pub placed : Place → Result Record Fault → Result (Option Placed) Fault
placed p (Ok r) = Ok (Some (record { place = p; «record» = r }))
placed p (Err e) = Err e

-- what a reader at byte i, behind n records, answers next: nothing exactly at the end
abbrev pub next_of : List ℕ → ℕ → ℕ → Result (Option Placed) Fault
next_of bs i n = cond (i == length bs) (Ok None) (placed (place_of i n) (decoded_any (place_of i n) (drop i bs)))

-- how many bytes an answer takes the reader on
abbrev pub span : Result (Option Placed) Fault → ℕ
span (Ok (Some q)) = length (record_bytes q.«record»)
span (Ok None) = 0
span (Err e) = 0

-- and how many records
abbrev pub count : Result (Option Placed) Fault → ℕ
count (Ok (Some q)) = 1
count (Ok None) = 0
count (Err e) = 0

-- the records' bytes one behind another
abbrev pub journal_bytes : List Record → List ℕ
journal_bytes [] = []
journal_bytes (r ∷ rs) = record_bytes r ++ journal_bytes rs

-- the fields of every record are in range
abbrev pub all_legal : List Record → Bool
all_legal [] = true
all_legal (r ∷ rs) = legal_record r && all_legal rs

-- the records with their places, the first at byte i behind n others
abbrev pub placed_from : ℕ → ℕ → List Record → List Placed
placed_from i n [] = []
placed_from i n (r ∷ rs) = record { place = place_of i n; «record» = r } ∷ placed_from (i + length (record_bytes r)) (n + 1) rs

-- a reader's next k answers
abbrev pub answers : ℕ → List ℕ → ℕ → ℕ → List (Result (Option Placed) Fault)
answers zero bs i n = []
answers (suc k) bs i n = next_of bs i n ∷ answers k bs (i + span (next_of bs i n)) (n + count (next_of bs i n))

-- these records, and then the end
abbrev pub then_end : List Placed → List (Result (Option Placed) Fault)
then_end [] = Ok None ∷ []
then_end (q ∷ qs) = Ok (Some q) ∷ then_end qs

-- a journal of legal records is read as exactly those, each at its place, and then the end
abbrev pub JournalReadsBack : Type 0
JournalReadsBack = (rs : List Record) → all_legal rs ≡ true → answers (suc (length rs)) (journal_bytes rs) 0 0 ≡ then_end (placed_from 0 0 rs)

-- a journal that is read to its end is the bytes of the records that were read, all legal and each at its place
abbrev pub JournalReadsOnly : Type 0
JournalReadsOnly =
    (bs : List ℕ) (qs : List Placed) → Bytes bs → answers (suc (length qs)) bs 0 0 ≡ then_end qs → (rs : List Record) × (all_legal rs ≡ true) × (bs ≡ journal_bytes rs) × (qs ≡ placed_from 0 0 rs)

-- after a fault the reader gives the same again, however often it is asked
abbrev pub FaultStays : Type 0
FaultStays = (k : ℕ) (bs : List ℕ) (i n : ℕ) (e : Fault) → next_of bs i n ≡ Err e → answers k bs i n ≡ replicate k (Err e)

-- the journal is these records and nothing else
pub record Holds (bs : List ℕ) (rs : List Record) : Type 0 where
  pub legal : all_legal rs ≡ true
  pub bytes : bs ≡ journal_bytes rs

-- behind these records stands what is refused with the fault e
pub record Stops (bs : List ℕ) (rs : List Record) (e : Fault) : Type 0 where
  pub legal : all_legal rs ≡ true
  pub bytes : bs ≡ journal_bytes rs ++ drop (length (journal_bytes rs)) bs
  pub refused : next_of bs (length (journal_bytes rs)) (length rs) ≡ Err e

-- a buffer after records were written, the first at a place and each behind the one before
abbrev pub all_laid : List Record → ℕ → List ℕ → List ℕ
all_laid [] place old = old
all_laid (r ∷ rs) place old = all_laid rs (place + length (record_bytes r)) (laid (legal_record r) (record_bytes r) place old)

-- legal records that are written one behind another, where there is room, are the bytes of a journal; all other bytes stay
abbrev pub RecordsBehind : Type 0
RecordsBehind =
    (rs : List Record) (place : ℕ) (old : List ℕ) → all_legal rs ≡ true → place + length (journal_bytes rs) ≤ length old → all_laid rs place old ≡ take place old ++ (journal_bytes rs ++ drop (place + length (journal_bytes rs)) old)

-- what holds of every journal
pub record JournalLaws : Type 0 where
  pub back : JournalReadsBack
  pub only : JournalReadsOnly
  pub stays : FaultStays
  pub behind : RecordsBehind
