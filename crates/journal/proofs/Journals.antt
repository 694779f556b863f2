-- Records one behind another: what is written is read again, and nothing else.
use Rattle.std.proofs.Common.{◌≡◌, ℕ, zero, suc, ◌+◌, ◌-◌, ◌/◌, ◌<◌, ◌≤◌, Bool, true, false, cond, eqb, List, [], ◌∷◌, ◌++◌, length, get_or, take, drop, Some, None, Ok, Err, Option, Result, sym, refl, ap, ◌∙◌, subst, append_assoc, append-nil, add-zero, arith, length-append}
use Rattle.std.proofs.lemmas.Bool.{eq-eqb, ne_eqb, eqb-true, and_parts, and_from, le-leb}
use Rattle.std.proofs.lemmas.List.{drop_all, drop-drop, length-drop, take_rest, drop_at, take_at, length-take-le, take-append-drop, get_or-drop}
use Rattle.journal.specs.declared.fault.Fault.{Fault}
use Rattle.journal.specs.declared.fault.Place.{Place}
use Rattle.journal.specs.declared.record.Record.{Record}
use Rattle.journal.specs.declared.record.Record.TheVariants.{Sequence, ThreeStep, Certificate, Notice}
use Rattle.journal.specs.declared.record.Placed.{Placed}
use Rattle.journal.specs.Format.{Format, Sound, legal, encoded}
use Rattle.journal.specs.Kinds.{sequence, three_step, certificate, notice}
use Rattle.journal.specs.Reading.{kind_of, decoded, Bytes}
use Rattle.journal.specs.Writing.{laid}
use Rattle.journal.specs.Journal.{legal_record, record_bytes, named, of_kind, by_kind, decoded_any, place_of, placed, next_of, span, count, journal_bytes, all_legal, placed_from, answers, then_end, JournalReadsBack, JournalReadsOnly, FaultStays, Holds, Stops, all_laid, RecordsBehind, JournalLaws}
use Rattle.journal.proofs.Formats.{reads_back, reads_only, reads_whole, length_encoded}
use Rattle.journal.specs.Sounds.{sequence_sound, three_step_sound, certificate_sound, notice_sound}

-- bytes that begin with a legal record
abbrev pub Front : List ℕ → Record → Type 0
Front bs r = (legal_record r ≡ true) × (bs ≡ record_bytes r ++ drop (length (record_bytes r)) bs)

-- one clause for each kind
pub any_back : (at : Place) (r : Record) (rest : List ℕ) → legal_record r ≡ true → decoded_any at (record_bytes r ++ rest) ≡ Ok r
any_back at (Sequence f) rest h = let b = reads_back sequence sequence_sound at f rest h in ap (λ k. by_kind k at (encoded sequence f ++ rest)) b.0 ∙ ap (named Sequence) b.1
any_back at (ThreeStep f) rest h = let b = reads_back three_step three_step_sound at f rest h in ap (λ k. by_kind k at (encoded three_step f ++ rest)) b.0 ∙ ap (named ThreeStep) b.1
any_back at (Certificate f) rest h = let b = reads_back certificate certificate_sound at f rest h in ap (λ k. by_kind k at (encoded certificate f ++ rest)) b.0 ∙ ap (named Certificate) b.1
any_back at (Notice f) rest h = let b = reads_back notice notice_sound at f rest h in ap (λ k. by_kind k at (encoded notice f ++ rest)) b.0 ∙ ap (named Notice) b.1

pub record_some : (r : Record) → 0 < length (record_bytes r)
record_some (Sequence f) = omega (arith, length_encoded sequence sequence_sound f)
record_some (ThreeStep f) = omega (arith, length_encoded three_step three_step_sound f)
record_some (Certificate f) = omega (arith, length_encoded certificate certificate_sound f)
record_some (Notice f) = omega (arith, length_encoded notice notice_sound f)

-- a record that was read is of a kind, or of one of those that are asked after it
kind_ok : {F : Type 0} (m : Format F) (c : F → Record) (k : ℕ) (at : Place) (bs : List ℕ) (other : Result Record Fault) (r : Record) (P : Record → Type 0) → ((f : F) → k ≡ m.number → decoded m at bs ≡ Ok f → P (c f)) → (other ≡ Ok r → P r) → of_kind m c k at bs other ≡ Ok r → P r
kind_ok {F = F} m c k at bs other r P here there e = by_test (eqb k m.number) refl e
  where
    by_name : (x : Result F Fault) → decoded m at bs ≡ x → k ≡ m.number → named c x ≡ Ok r → P r
    by_name (Ok f) d n e = let same : c f ≡ r = cc in subst P same (here f n d)
    by_name (Err q) d n e = let z : ◌≡◌ {A = ℕ} 0 1 = cc in absurd (omega arith)

    by_test : (b : Bool) → eqb k m.number ≡ b → cond b (named c (decoded m at bs)) other ≡ Ok r → P r
    by_test true t e = by_name (decoded m at bs) refl (eqb-true k m.number t) e
    by_test false t e = there e

-- what holds of every record of each kind holds of the record that is read
any_of : (P : Record → Type 0) (at : Place) (bs : List ℕ) (r : Record) → ((F : Type 0) (m : Format F) (s : Sound m) (c : F → Record) → ((f : F) → (legal_record (c f) ≡ legal m f) × (record_bytes (c f) ≡ encoded m f)) → (f : F) → kind_of bs ≡ m.number → decoded m at bs ≡ Ok f → P (c f)) → decoded_any at bs ≡ Ok r → P r
any_of P at bs r each =
    kind_ok sequence Sequence (kind_of bs) at bs _ r P (each _ sequence sequence_sound Sequence (λ f. (refl, refl)))
    (kind_ok three_step ThreeStep (kind_of bs) at bs _ r P (each _ three_step three_step_sound ThreeStep (λ f. (refl, refl)))
    (kind_ok certificate Certificate (kind_of bs) at bs _ r P (each _ certificate certificate_sound Certificate (λ f. (refl, refl)))
    (kind_ok notice Notice (kind_of bs) at bs _ r P (each _ notice notice_sound Notice (λ f. (refl, refl)))
    (λ x. absurd (let z : ◌≡◌ {A = ℕ} 0 1 = cc in omega arith)))))

-- nothing below names a kind
pub any_only : (at : Place) (bs : List ℕ) (r : Record) → Bytes bs → decoded_any at bs ≡ Ok r → Front bs r
any_only at bs r small =
    any_of (Front bs) at bs r (λ F m s c is f k e.
    let t = reads_only m s at bs f small k e in
    let size : m.size ≡ length (record_bytes (c f)) = sym (ap length (is f).1 ∙ length_encoded m s f) in
    ((is f).0 ∙ t.0, t.1 ∙ ap (λ x. x ++ drop m.size bs) (sym (is f).1) ∙ ap (λ k. record_bytes (c f) ++ drop k bs) size))

pub any_whole : (at : Place) (bs : List ℕ) (r : Record) → decoded_any at bs ≡ Ok r → length (record_bytes r) ≤ length bs
any_whole at bs r =
    any_of (λ q. length (record_bytes q) ≤ length bs) at bs r (λ F m s c is f k e. omega (arith, reads_whole m s at bs f e, ap length (is f).1, length_encoded m s f))

pub next_end : (bs : List ℕ) (p n : ℕ) → p ≡ length bs → next_of bs p n ≡ Ok None
next_end bs p n e = rw (eq-eqb p (length bs) e) refl

pub next_is : (bs : List ℕ) (p n : ℕ) (x : Result Record Fault) → p < length bs → decoded_any (place_of p n) (drop p bs) ≡ x → next_of bs p n ≡ placed (place_of p n) x
next_is bs p n x lt e = rw (ne_eqb p (length bs) (λ q. omega arith)) (ap (placed (place_of p n)) e)

-- the same, read off the part of the journal from byte p on
pub next_by : (bs : List ℕ) (p n : ℕ) (at : Place) (x : Result Record Fault) → p < length bs → at ≡ place_of p n → by_kind (get_or (take (length bs - p) (drop p bs)) 0 0 / 16) at (take (length bs - p) (drop p bs)) ≡ x → next_of bs p n ≡ placed (place_of p n) x
next_by bs p n at x lt e d =
    next_is bs p n x lt (ap (decoded_any (place_of p n)) (sym (take_rest bs p)) ∙ ap (λ a. decoded_any a (take (length bs - p) (drop p bs))) (sym e) ∙ d)

pub moved : (bs : List ℕ) (p : ℕ) (r : Record) (rest : List ℕ) → p ≤ length bs → length rest + length (record_bytes r) ≡ length (take (length bs - p) (drop p bs)) → length bs - length rest ≡ p + length (record_bytes r)
moved bs p r rest le e = let size = ap length (take_rest bs p) ∙ length-drop p bs in omega arith

past : (bs : List ℕ) (p : ℕ) (r rest : List ℕ) → drop p bs ≡ r ++ rest → drop (p + length r) bs ≡ rest
past bs p r rest e = sym (drop-drop (length r) p bs) ∙ ap (drop (length r)) e ∙ drop_at r rest (length r) refl

length_past : (bs : List ℕ) (p : ℕ) (r rest : List ℕ) → drop p bs ≡ r ++ rest → length bs - p ≡ length r + length rest
length_past bs p r rest e = sym (length-drop p bs) ∙ ap length e ∙ length-append r rest

back_from : (rs : List Record) (bs : List ℕ) (p n : ℕ) → p ≤ length bs → drop p bs ≡ journal_bytes rs → all_legal rs ≡ true → answers (suc (length rs)) bs p n ≡ then_end (placed_from p n rs)
back_from [] bs p n le e h =
    ap (λ x. x ∷ []) (next_end bs p n (let z : p ≡ length bs = omega (arith, sym (length-drop p bs) ∙ ap length e) in z))
back_from (r ∷ rs) bs p n le e h =
    let l = and_parts (legal_record r) (all_legal rs) h in
    let lens = length_past bs p (record_bytes r) (journal_bytes rs) e in
    let some = record_some r in
    let is : next_of bs p n ≡ Ok (Some (record { place = place_of p n; «record» = r })) = next_is bs p n (Ok r) (omega arith) (ap (decoded_any (place_of p n)) e ∙ any_back (place_of p n) r (journal_bytes rs) l.0) in
    let rest = back_from rs bs (p + length (record_bytes r)) (n + 1) (omega arith) (past bs p (record_bytes r) (journal_bytes rs) e) l.1 in
    ap (λ x. x ∷ answers (suc (length rs)) bs (p + span x) (n + count x)) is ∙ ap (λ t. Ok (Some (record { place = place_of p n; «record» = r })) ∷ t) rest

pub journal_reads_back : JournalReadsBack
journal_reads_back rs h = back_from rs (journal_bytes rs) 0 0 (omega arith) refl h

next_none : (bs : List ℕ) (p n : ℕ) (b : Bool) (x : Result Record Fault) → cond b (Ok None) (placed (place_of p n) x) ≡ Ok None → b ≡ true
next_none bs p n true x e = refl
next_none bs p n false (Ok r) e = let z : ◌≡◌ {A = ℕ} 0 1 = cc in absurd (omega arith)
next_none bs p n false (Err d) e = let z : ◌≡◌ {A = ℕ} 0 1 = cc in absurd (omega arith)

pub end_at : (bs : List ℕ) (p n : ℕ) → next_of bs p n ≡ Ok None → p ≡ length bs
end_at bs p n is = eqb-true p (length bs) (next_none bs p n (eqb p (length bs)) (decoded_any (place_of p n) (drop p bs)) is)

next_some : (bs : List ℕ) (p n : ℕ) (b : Bool) (x : Result Record Fault) (q : Placed) → cond b (Ok None) (placed (place_of p n) x) ≡ Ok (Some q) → (x ≡ Ok q.«record») × (q ≡ record { place = place_of p n; «record» = q.«record» })
next_some bs p n true x q e = let z : ◌≡◌ {A = ℕ} 0 1 = cc in absurd (omega arith)
next_some bs p n false (Ok r) q e =
    let same : record { place = place_of p n; «record» = r } ≡ q = cc in
    (ap (λ y. Ok y.«record») same, sym same ∙ ap (λ y. record { place = place_of p n; «record» = y.«record» }) same)
next_some bs p n false (Err d) q e = let z : ◌≡◌ {A = ℕ} 0 1 = cc in absurd (omega arith)

head_of : List (Result (Option Placed) Fault) → Result (Option Placed) Fault
head_of [] = Ok None
head_of (x ∷ xs) = x

only_from : (qs : List Placed) (bs : List ℕ) (p n : ℕ) → Bytes bs → p ≤ length bs → answers (suc (length qs)) bs p n ≡ then_end qs → (rs : List Record) × (all_legal rs ≡ true) × (drop p bs ≡ journal_bytes rs) × (qs ≡ placed_from p n rs)
unfolding head_of
only_from [] bs p n small le e =
    let t = next_none bs p n (eqb p (length bs)) (decoded_any (place_of p n) (drop p bs)) (ap head_of e) in
    ([], refl, drop_all p bs (omega (arith, eqb-true p (length bs) t)), refl)
only_from (q ∷ qs) bs p n small le e =
    let is : next_of bs p n ≡ Ok (Some q) = ap head_of e in
    let t = next_some bs p n (eqb p (length bs)) (decoded_any (place_of p n) (drop p bs)) q is in
    let r = q.«record» in
    let front = any_only (place_of p n) (drop p bs) r (λ i. rw get_or-drop (small (p + i))) t.0 in
    let whole = any_whole (place_of p n) (drop p bs) r t.0 in
    let rest = only_from qs bs (p + length (record_bytes r)) (n + 1) small (omega (arith, length-drop p bs)) (ap (λ x. answers (suc (length qs)) bs (p + span x) (n + count x)) (sym is) ∙ ap (drop 1) e) in
    (r ∷ rest.0, and_from (legal_record r) (all_legal rest.0) front.0 rest.1, front.1 ∙ ap (λ x. record_bytes r ++ x) (drop-drop (length (record_bytes r)) p bs ∙ rest.2), ap (λ x. x ∷ qs) t.1 ∙ ap (λ x. record { place = place_of p n; «record» = r } ∷ x) rest.3)

pub journal_reads_only : JournalReadsOnly
journal_reads_only bs qs small e = only_from qs bs 0 0 small (omega arith) e

-- what a reader at byte p, behind n records, has read
pub record Read (bs : List ℕ) (p n : ℕ) : Type 0 where
  pub rs : List Record
  pub legal : all_legal rs ≡ true
  pub bytes : bs ≡ journal_bytes rs ++ drop p bs
  pub at : p ≡ length (journal_bytes rs)
  pub many : n ≡ length rs

bytes_more : (rs : List Record) (r : Record) → journal_bytes (rs ++ (r ∷ [])) ≡ journal_bytes rs ++ record_bytes r
bytes_more [] r = append-nil (record_bytes r)
bytes_more (q ∷ rs) r = ap (λ x. record_bytes q ++ x) (bytes_more rs r) ∙ sym (append_assoc (record_bytes q) (journal_bytes rs) (record_bytes r))

legal_more : (rs : List Record) (r : Record) → all_legal rs ≡ true → legal_record r ≡ true → all_legal (rs ++ (r ∷ [])) ≡ true
legal_more [] r h l = and_from (legal_record r) true l refl
legal_more (q ∷ rs) r h l = let t = and_parts (legal_record q) (all_legal rs) h in and_from (legal_record q) (all_legal (rs ++ (r ∷ []))) t.0 (legal_more rs r t.1 l)

pub read_more : (bs : List ℕ) (p n : ℕ) (q : Placed) → Bytes bs → Read bs p n → next_of bs p n ≡ Ok (Some q) → Read bs (p + length (record_bytes q.«record»)) (n + 1)
read_more bs p n q small old is =
    let t = next_some bs p n (eqb p (length bs)) (decoded_any (place_of p n) (drop p bs)) q is in
    let r = q.«record» in
    let front = any_only (place_of p n) (drop p bs) r (λ i. rw get_or-drop (small (p + i))) t.0 in
    let more = bytes_more old.rs r in
    record {
      rs = old.rs ++ (r ∷ []);
      legal = legal_more old.rs r old.legal front.0;
      bytes = old.bytes ∙ ap (λ x. journal_bytes old.rs ++ x) (front.1 ∙ ap (λ x. record_bytes r ++ x) (drop-drop (length (record_bytes r)) p bs)) ∙ sym (append_assoc (journal_bytes old.rs) (record_bytes r) (drop (p + length (record_bytes r)) bs)) ∙ ap (λ x. x ++ drop (p + length (record_bytes r)) bs) (sym more);
      at = omega (arith, old.at, ap length more, length-append (journal_bytes old.rs) (record_bytes r));
      many = omega (arith, old.many, length-append old.rs (r ∷ []));
    }

pub read_holds : (bs : List ℕ) (p n : ℕ) (old : Read bs p n) → next_of bs p n ≡ Ok None → Holds bs old.rs
read_holds bs p n old is =
    let t = eqb-true p (length bs) (next_none bs p n (eqb p (length bs)) (decoded_any (place_of p n) (drop p bs)) is) in
    record { legal = old.legal; bytes = old.bytes ∙ ap (λ x. journal_bytes old.rs ++ x) (drop_all p bs (omega arith)) ∙ append-nil (journal_bytes old.rs) }

pub read_stops : (bs : List ℕ) (p n : ℕ) (old : Read bs p n) (e : Fault) → next_of bs p n ≡ Err e → Stops bs old.rs e
read_stops bs p n old e is =
    record { legal = old.legal; bytes = old.bytes ∙ ap (λ k. journal_bytes old.rs ++ drop k bs) old.at; refused = ap (λ k. next_of bs k (length old.rs)) (sym old.at) ∙ ap (next_of bs p) (sym old.many) ∙ is }

-- two lists of legal records with the same first bytes
record More (rs qs : List Record) (xs : List ℕ) : Type 0 where
  ts : List Record
  legal : all_legal ts ≡ true
  is : rs ≡ qs ++ ts
  bytes : xs ≡ journal_bytes ts

one_record : (r q : Record) (xs ys : List ℕ) → legal_record r ≡ true → legal_record q ≡ true → record_bytes r ++ xs ≡ record_bytes q ++ ys → r ≡ q
one_record r q xs ys hr hq e =
    let at = place_of 0 0 in
    let both : ◌≡◌ {A = Result Record Fault} (Ok r) (Ok q) = sym (any_back at r xs hr) ∙ ap (decoded_any at) e ∙ any_back at q ys hq in
    cc

more : (qs rs : List Record) (xs : List ℕ) → all_legal qs ≡ true → all_legal rs ≡ true → journal_bytes rs ≡ journal_bytes qs ++ xs → More rs qs xs
more [] rs xs hq hr e = record { ts = rs; legal = hr; is = refl; bytes = sym e }
more (q ∷ qs) [] xs hq hr e = absurd (omega (arith, record_some q, ap length e, length-append (record_bytes q ++ journal_bytes qs) xs, length-append (record_bytes q) (journal_bytes qs)))
more (q ∷ qs) (r ∷ rs) xs hq hr e =
    let l = and_parts (legal_record q) (all_legal qs) hq in
    let k = and_parts (legal_record r) (all_legal rs) hr in
    let cut : record_bytes r ++ journal_bytes rs ≡ record_bytes q ++ (journal_bytes qs ++ xs) = e ∙ append_assoc (record_bytes q) (journal_bytes qs) xs in
    let same = one_record r q (journal_bytes rs) (journal_bytes qs ++ xs) k.0 l.0 cut in
    let size : length (record_bytes r) ≡ length (record_bytes q) = ap (λ x. length (record_bytes x)) same in
    let tails : journal_bytes rs ≡ journal_bytes qs ++ xs = sym (drop_at (record_bytes r) (journal_bytes rs) (length (record_bytes r)) refl) ∙ ap (drop (length (record_bytes r))) cut ∙ drop_at (record_bytes q) (journal_bytes qs ++ xs) (length (record_bytes r)) (sym size) in
    let rest = more qs rs xs l.1 k.1 tails in
    record { ts = rest.ts; legal = rest.legal; is = ap (λ x. x ∷ rs) same ∙ ap (λ x. q ∷ x) rest.is; bytes = rest.bytes }

next_from : (ts : List Record) (bs : List ℕ) (p n : ℕ) → p ≤ length bs → drop p bs ≡ journal_bytes ts → all_legal ts ≡ true → next_of bs p n ≡ head_of (then_end (placed_from p n ts))
unfolding head_of
next_from ts bs p n le e h = ap head_of (back_from ts bs p n le e h)

never_refused : (ts : List Record) (p n : ℕ) (e : Fault) → head_of (then_end (placed_from p n ts)) ≡ Err e → ⊥
unfolding head_of
never_refused [] p n e h = let z : ◌≡◌ {A = ℕ} 0 1 = cc in omega arith
never_refused (t ∷ ts) p n e h = let z : ◌≡◌ {A = ℕ} 0 1 = cc in omega arith

end_none : (ts : List Record) (p n : ℕ) → head_of (then_end (placed_from p n ts)) ≡ Ok None → ts ≡ []
unfolding head_of
end_none [] p n h = refl
end_none (t ∷ ts) p n h = let z : ◌≡◌ {A = ℕ} 0 1 = cc in absurd (omega arith)

pub read_all : (bs : List ℕ) (p n : ℕ) → Read bs p n → p ≤ length bs → next_of bs p n ≡ Ok None → (rs : List Record) → all_legal rs ≡ true → bs ≡ journal_bytes rs → n ≡ length rs
read_all bs p n old le is rs h e =
    let m = more old.rs rs (drop p bs) old.legal h (sym e ∙ old.bytes) in
    let none = end_none m.ts p n (sym (next_from m.ts bs p n le m.bytes m.legal) ∙ is) in
    old.many ∙ ap length (sym (m.is ∙ ap (λ x. old.rs ++ x) none ∙ append-nil old.rs))

pub read_no_fault : (bs : List ℕ) (p n : ℕ) → Read bs p n → p ≤ length bs → (d : Fault) → next_of bs p n ≡ Err d → (rs : List Record) → all_legal rs ≡ true → bs ≡ journal_bytes rs → ⊥
read_no_fault bs p n old le d is rs h e =
    let m = more old.rs rs (drop p bs) old.legal h (sym e ∙ old.bytes) in
    never_refused m.ts p n d (sym (next_from m.ts bs p n le m.bytes m.legal) ∙ is)

pub fault_stays : FaultStays
fault_stays zero bs p n e is = refl
fault_stays (suc k) bs p n e is =
    let there : next_of bs (p + 0) (n + 0) ≡ Err e = rw (add-zero p, add-zero n) is in
    ap (λ x. x ∷ answers k bs (p + span x) (n + count x)) is ∙ ap (λ t. Err e ∷ t) (fault_stays k bs (p + 0) (n + 0) e there)

-- what one record more leaves of a buffer in which records were laid
laid_there : (r : Record) (place : ℕ) (old : List ℕ) → legal_record r ≡ true → place + length (record_bytes r) ≤ length old → laid (legal_record r) (record_bytes r) place old ≡ take place old ++ (record_bytes r ++ drop (place + length (record_bytes r)) old)
laid_there r place old h le = rw (h, le-leb (place + length (record_bytes r)) (length old) le) refl

pub records_behind : RecordsBehind
records_behind [] place old h le =
    let e : place + 0 ≡ place = omega arith in
    sym (ap (λ k. take place old ++ drop k old) e ∙ take-append-drop place old)
records_behind (r ∷ rs) place old h le =
    let l = and_parts (legal_record r) (all_legal rs) h in
    let rb = record_bytes r in
    let jb = journal_bytes rs in
    let size = length-append rb jb in
    let p = place + length rb in
    let front = take place old ++ rb in
    let tail = drop p old in
    let there : laid (legal_record r) rb place old ≡ front ++ tail = laid_there r place old l.0 (omega arith) ∙ sym (append_assoc (take place old) rb tail) in
    let front_length : length front ≡ p = length-append (take place old) rb ∙ ap (λ k. k + length rb) (length-take-le place old (omega arith)) in
    let whole : length (front ++ tail) ≡ length old = omega (arith, length-append front tail, front_length, length-drop p old) in
    let rest = records_behind rs p (front ++ tail) l.1 (omega (arith, whole, size)) in
    let taken : take p (front ++ tail) ≡ front = take_at front tail p front_length in
    let dropped : drop (p + length jb) (front ++ tail) ≡ drop (place + length (rb ++ jb)) old = sym (drop-drop (length jb) p (front ++ tail)) ∙ ap (drop (length jb)) (drop_at front tail p front_length) ∙ drop-drop (length jb) p old ∙ ap (λ k. drop k old) (let z : p + length jb ≡ place + length (rb ++ jb) = omega (arith, size) in z) in
    ap (all_laid rs p) there ∙ rest ∙ ap (λ x. x ++ (jb ++ drop (p + length jb) (front ++ tail))) taken ∙ ap (λ x. front ++ (jb ++ x)) dropped ∙ append_assoc (take place old) rb (jb ++ drop (place + length (rb ++ jb)) old) ∙ ap (λ x. take place old ++ x) (sym (append_assoc rb jb (drop (place + length (rb ++ jb)) old)))

pub journal_laws : JournalLaws
journal_laws = record { back = journal_reads_back; only = journal_reads_only; stays = fault_stays; behind = records_behind }
