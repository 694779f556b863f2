-- A run that closes its points one behind another leaves their records as a journal.
use Rattle.std.proofs.Common.{◌≡◌, ℕ, ◌+◌, ◌<◌, ◌≤◌, Bool, true, false, cond, ◌&&◌, leb, List, [], ◌∷◌, ◌++◌, length, take, drop, is_ok, Some, None, Ok, Err, Option, sym, refl, ap, ◌∙◌, subst, arith}
use Rattle.std.proofs.lemmas.List.{length-append, length-drop, length-take}
use Rattle.std.proofs.lemmas.Bool.{and_from, cond_both, leb-true, leb-false, or_parts}
use Rattle.method.specs.Meaning.{Meaning, Ranged}
use Rattle.method.specs.declared.question.Question.TheVariants.{FitsBuffer, NotEnded}
use Rattle.journal.proofs.Journals.{journal_laws}
use Rattle.journal.specs.Journal.{all_laid, all_legal, journal_bytes, legal_record, record_bytes}
use Rattle.journal.specs.Writing.{laid}
use Rattle.journal.specs.declared.record.Record.{Record}
use Rattle.point.specs.declared.phase.Course.{Course}
use Rattle.point.specs.declared.phase.Course.TheVariants.{Main, Short}
use Rattle.point.specs.declared.phase.Outcome.{Outcome}
use Rattle.point.specs.declared.phase.Phase.{Phase}
use Rattle.point.specs.declared.phase.Phase.TheVariants.{Waiting, Settling, Observing, Decided}
use Rattle.runs.proofs.Fine.{Fine, step_fine}
use Rattle.runs.specs.Journals.{ClosedBehind, RunJournalReadsBack, WrittenAt, and_then, place_behind, record_closed, record_when, records_closed}
use Rattle.runs.specs.Runs.{bytes_after, bytes_left, step}
use Rattle.runs.specs.declared.call.Call.{Call}
use Rattle.runs.specs.declared.call.Call.TheVariants.{Open, Level, Code, Late, Close}
use Rattle.verification.proofs.Legality.{sequence_legal, three_step_legal}
use Rattle.verification.specs.Calls.{bytes_at, closed_at, closed_by, closing_record, fresh, refused}
use Rattle.verification.specs.Ordering.{ended, stopped}
use Rattle.verification.specs.Records.{record_on}
use Rattle.verification.specs.declared.declared.Declared.{Declared}
use Rattle.verification.specs.declared.progress.Progress.{Progress}

-- the record of a decided point is legal
on_legal : (n : ℕ) (o : Outcome) → 1 ≤ n → n ≤ 999 → Fine (Decided o) → (c : Course) → legal_record (record_on n o c) ≡ true
on_legal n o some few x (Main b) = sequence_legal n b o some few x.0 x.1
on_legal n o some few x Short = three_step_legal n o some few x.0

going_few : (d : Declared) (p : Progress) → ended d p ≡ false → p.closed < d.points
going_few d p e = leb-false d.points p.closed (or_parts (leb d.points p.closed) (stopped d.rule p.unfit) e).0

closing_legal : (d : Declared) (p : Progress) (o : Outcome) → d.points ≤ 999 → ended d p ≡ false → Fine (Decided o) → legal_record (closing_record p o) ≡ true
closing_legal d p o few e x = let l = going_few d p e in on_legal (p.closed + 1) o (omega arith) (omega arith) x o.trial.course

-- what a call has done to the buffer: a legal record in its place, or nothing
abbrev Facts : Option Record → List ℕ → ℕ → List ℕ → Type 0
Facts None new place old = new ≡ old
Facts (Some r) new place old =
    (legal_record r ≡ true) × (new ≡ laid (legal_record r) (record_bytes r) place old) × (place + length (record_bytes r) ≤ length old)

module _ (p : Progress) (q : ℕ) (old : List ℕ) where
  decided_facts : (o : Outcome) → legal_record (closing_record p o) ≡ true → (t : Bool) → t ≡ leb (q + length (record_bytes (closing_record p o))) (length old) →
      Facts (record_when (is_ok (closed_by p o (cond t (Ok (length (record_bytes (closing_record p o)))) (Err FitsBuffer))).answer) p (Decided o)) (laid true (record_bytes (closing_record p o)) q old) q old
  decided_facts o l true e = (l, ap (λ (b : Bool). laid b (record_bytes (closing_record p o)) q old) (sym l), leb-true _ _ (sym e))
  decided_facts o l false e =
      ap (λ (b : Bool). cond (true && b) (take q old ++ (record_bytes (closing_record p o) ++ drop (q + length (record_bytes (closing_record p o))) old)) old) (sym e)

  phase_facts : (f : Phase) → ((o : Outcome) → f ≡ Decided o → legal_record (closing_record p o) ≡ true) → Facts (record_when (is_ok (closed_at p q (length old) f).answer) p f) (bytes_at p q old f) q old
  phase_facts Waiting h = refl
  phase_facts (Settling u) h = refl
  phase_facts (Observing a) h = refl
  phase_facts (Decided o) h = decided_facts o (h o refl) (leb (q + length (record_bytes (closing_record p o))) (length old)) refl

  ended_facts : (b : Bool) (f : Phase) → (b ≡ false → Facts (record_when (is_ok (closed_at p q (length old) f).answer) p f) (bytes_at p q old f) q old) →
      Facts (record_when (is_ok (cond b (refused p NotEnded) (closed_at p q (length old) f)).answer) p f) (cond b old (bytes_at p q old f)) q old
  ended_facts true f h = refl
  ended_facts false f h = h refl

decided_fine : (f : Phase) (o : Outcome) → Fine f → f ≡ Decided o → Fine (Decided o)
decided_fine f o x e = subst Fine e x

close_facts : (d : Declared) (p : Progress) (q : ℕ) (old : List ℕ) → d.points ≤ 999 → Fine p.phase → Facts (record_closed d (length old) p (Close q)) (bytes_after d p (Close q) old) q old
close_facts d p q old few x =
    ended_facts p q old (ended d p) p.phase (λ e. phase_facts p q old p.phase (λ o y. closing_legal d p o few e (decided_fine p.phase o x y)))

-- the same at the place where the record should stand
placed_facts : (r : Option Record) (q place : ℕ) (new old : List ℕ) → WrittenAt r (Close q) place → Facts r new q old → Facts r new place old
placed_facts None q place new old e f = f
placed_facts (Some r) q place new old e f = subst (λ (k : ℕ). Facts (Some r) new k old) e f

call_facts : (d : Declared) (p : Progress) (c : Call) (place : ℕ) (old : List ℕ) → d.points ≤ 999 → Fine p.phase → WrittenAt (record_closed d (length old) p c) c place → Facts (record_closed d (length old) p c) (bytes_after d p c old) place old
call_facts d p (Open a e r n) place old few x w = refl
call_facts d p Level place old few x w = refl
call_facts d p (Code c) place old few x w = refl
call_facts d p Late place old few x w = refl
call_facts d p (Close q) place old few x w = placed_facts (record_closed d (length old) p (Close q)) q place (bytes_after d p (Close q) old) old w (close_facts d p q old few x)

-- a record laid where it fits leaves the buffer as long as it was
laid_length : (b : Bool) (bs : List ℕ) (place : ℕ) (old : List ℕ) → place + length bs ≤ length old → length (laid b bs place old) ≡ length old
laid_length b bs place old fit =
    cond_both (b && leb (place + length bs) (length old)) (take place old ++ (bs ++ drop (place + length bs) old)) old (λ (xs : List ℕ). length xs ≡ length old)
    (λ _. simp (length-append, length-take, length-drop) (omega arith)) (λ _. refl)

-- the records of a list are legal, laid one behind another, and fit
abbrev Laid : List Record → ℕ → List ℕ → List ℕ → Type 0
Laid rs place old new =
    (all_legal rs ≡ true) × (new ≡ all_laid rs place old) × (place ≤ length old → place + length (journal_bytes rs) ≤ length old)

facts_length : (r : Option Record) (new : List ℕ) (place : ℕ) (old : List ℕ) → Facts r new place old → length new ≡ length old
facts_length None new place old f = ap length f
facts_length (Some r) new place old f = ap length f.1 ∙ laid_length (legal_record r) (record_bytes r) place old f.2

one_laid : (r : Option Record) (place : ℕ) (old mid new : List ℕ) (rs : List Record) → Facts r mid place old → Laid rs (place_behind r place) mid new → Laid (and_then r rs) place old new
one_laid None place old mid new rs f x = subst (λ (ys : List ℕ). Laid rs place ys new) f x
one_laid (Some r) place old mid new rs f x =
    let l = facts_length (Some r) mid place old f in
    let n = length-append (record_bytes r) (journal_bytes rs) in
    (and_from _ _ f.0 x.0, x.1 ∙ ap (all_laid rs (place + length (record_bytes r))) f.1, λ h. omega (arith, x.2 (omega (arith, l, f.2)), n, l))

module _ (m s : Meaning) (rm : Ranged m) (rs : Ranged s) (d : Declared) (few : d.points ≤ 999) (len : ℕ) where
  run_laid : (cs : List Call) (p : Progress) (place : ℕ) (old : List ℕ) → len ≡ length old → Fine p.phase → ClosedBehind m s d len p place cs →
      Laid (records_closed m s d len p cs) place old (bytes_left m s d len p cs old)
  run_laid [] p place old e x h = (refl, refl, λ l. omega arith)
  run_laid (c ∷ cs) p place old e x h =
      let at : Facts (record_closed d len p c) (bytes_after d p c old) place old =
      subst (λ (k : ℕ). WrittenAt (record_closed d k p c) c place → Facts (record_closed d k p c) (bytes_after d p c old) place old) (sym e) (call_facts d p c place old few x) h.0 in
      let long = facts_length (record_closed d len p c) (bytes_after d p c old) place old at in
      one_laid (record_closed d len p c) place old (bytes_after d p c old) _ _ at
      (run_laid cs (step m s d len p c) (place_behind (record_closed d len p c) place) (bytes_after d p c old) (e ∙ sym long) (step_fine m s rm rs d len p x c) h.1)

pub journal_reads_back : (m s : Meaning) → Ranged m → Ranged s → RunJournalReadsBack m s
journal_reads_back m s rm rs d cs place old few within behind =
    let x = run_laid m s rm rs d few (length old) cs fresh place old refl tt behind in
    record {
      legal = x.0;
      bytes = x.1 ∙ journal_laws.behind (records_closed m s d (length old) fresh cs) place old x.0 (x.2 within);
      read = journal_laws.back (records_closed m s d (length old) fresh cs) x.0;
    }
