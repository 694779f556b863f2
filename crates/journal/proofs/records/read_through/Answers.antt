use Rattle.std.proofs.Common.{◌≡◌, ℕ, ◌+◌, ◌≤◌, length, Some, None, Ok, Err, sym, refl, ap, ◌∙◌, subst, arith}
use Rattle.std.proofs.lemmas.Result.{err_from_is_err_and}
use Rattle.journal.specs.Journal.{next_of, journal_bytes, span, count}
use Rattle.journal.specs.Reading.{Bytes}
use Rattle.journal.specs.declared.record.Extent.{Extent}
use Rattle.journal.proofs.Journals.{Read, read_more, read_holds, read_stops, read_all, read_no_fault, end_at, journal_laws}
use Rattle.journal.proofs.records.read_through.Goals as goal

pub returns-in_err-next : goal.returns-in_err-next
returns-in_err-next c =
    let bs = c.args.journal.now in
    let p = c.loop.reader.position in
    let n = c.loop.reader.records in
    let old = c.loop.invariant.1 in
    let d = c.in_err-next.field-0.0 in
    let is : next_of bs p n ≡ Err d = ap (λ x. next_of x p n) (sym c.loop.invariant.0) ∙ sym c.next.ensures.answer ∙ c.in_err-next.was in
    let le : p ≤ length bs = omega (arith, c.loop.reader.within, ap length c.loop.invariant.0) in
    let e = err_from_is_err_and c.from_residual.result c.from_residual.ensures.1 in
    record {
      through = rw (e.1, e.2) (old.rs, read_stops bs p n old d is);
      exactly = λ rs h q. absurd (read_no_fault bs p n old le d is rs h q);
      law = journal_laws;
    }

pub loop-preserved : goal.loop-preserved
loop-preserved c =
    let bs = c.args.journal.now in
    let p = c.loop.reader.position in
    let n = c.loop.reader.records in
    let q = c.in-Some.field-0 in
    let small : Bytes bs = λ i. omega (arith, c.type_inv.journal i) in
    let result : c.next.result ≡ Ok (Some q) = c.in_ok-next.was ∙ ap Ok c.in-Some.is in
    let is : next_of bs p n ≡ Ok (Some q) = ap (λ x. next_of x p n) (sym c.loop.invariant.0) ∙ sym c.next.ensures.answer ∙ result in
    let far = c.next.ensures.moves ∙ ap (λ x. p + span x) result in
    let many = c.next.ensures.counts ∙ ap (λ x. n + count x) result in
    (c.next.ensures.same ∙ c.loop.invariant.0, subst (λ k. Read bs c.next.new.self.position k) (sym many) (subst (λ k. Read bs k (n + 1)) (sym far) (read_more bs p n q small c.loop.invariant.1 is)))

pub returns : goal.returns
returns c =
    let bs = c.args.journal.now in
    let p = c.loop.reader.position in
    let n = c.loop.reader.records in
    let old = c.loop.invariant.1 in
    let result : c.next.result ≡ Ok None = c.in_ok-next.was ∙ ap Ok c.in_default.is in
    let is : next_of bs p n ≡ Ok None = ap (λ x. next_of x p n) (sym c.loop.invariant.0) ∙ sym c.next.ensures.answer ∙ result in
    let le : p ≤ length bs = omega (arith, c.loop.reader.within, ap length c.loop.invariant.0) in
    let here : c.next.new.self.position ≡ p = c.next.ensures.moves ∙ ap (λ x. p + span x) result ∙ (let z : p + 0 ≡ p = omega arith in z) in
    let counted : c.next.new.self.records ≡ n = c.next.ensures.counts ∙ ap (λ x. n + count x) result ∙ (let z : n + 0 ≡ n = omega arith in z) in
    let records : c.extent.result.records ≡ n = ap (λ x. x.records) c.extent.ensures ∙ counted in
    let bytes : c.extent.result.bytes ≡ length bs = ap (λ x. x.bytes) c.extent.ensures ∙ here ∙ end_at bs p n is in
    record {
      through = (old.rs, read_holds bs p n old is, records ∙ old.many, bytes);
      exactly = λ rs h q. ap Ok (extent-is c.extent.result (length rs) (length (journal_bytes rs)) (records ∙ read_all bs p n old le is rs h q) (bytes ∙ ap length q));
      law = journal_laws;
    }
  where
    extent-is : (x : Extent) (n k : ℕ) → x.records ≡ n → x.bytes ≡ k → x ≡ record { records = n; bytes = k }
    extent-is x n k a b = rw (← a, ← b) refl
