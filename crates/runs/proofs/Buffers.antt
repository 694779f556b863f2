-- A closing into a buffer is one into a longer buffer, at a place further on.
use Rattle.std.proofs.Common.{◌≡◌, ℕ, ◌+◌, true, cond, leb, length, Ok, Err, refl, ap, arith}
use Rattle.std.proofs.lemmas.Bool.Decides.{nat_tests}
use Rattle.method.specs.declared.question.Question.TheVariants.{FitsBuffer, NotEnded}
use Rattle.journal.specs.Journal.{record_bytes}
use Rattle.journal.specs.Writing.{answered}
use Rattle.point.specs.declared.phase.Phase.{Phase}
use Rattle.point.specs.declared.phase.Phase.TheVariants.{Waiting, Settling, Observing, Decided}
use Rattle.runs.specs.Laws.{AnyBuffer}
use Rattle.verification.specs.Calls.{closed_at, closed_by, closing_record, refused}
use Rattle.verification.specs.Ordering.{ended}
use Rattle.verification.specs.declared.progress.Progress.{Progress}

fits_alike : (place n len more : ℕ) → leb (place + n) len ≡ leb (place + more + n) (len + more)
fits_alike place n len more = grind (arith, nat_tests)

answered_alike : (n place len more : ℕ) → answered true n place len ≡ answered true n (place + more) (len + more)
answered_alike n place len more = ap (λ b. cond b (Ok n) (Err FitsBuffer)) (fits_alike place n len more)

closed_alike : (p : Progress) (place len more : ℕ) (f : Phase) → closed_at p place len f ≡ closed_at p (place + more) (len + more) f
closed_alike p place len more Waiting = refl
closed_alike p place len more (Settling u) = refl
closed_alike p place len more (Observing a) = refl
closed_alike p place len more (Decided o) =
    ap (closed_by p o) (answered_alike (length (record_bytes (closing_record p o))) place len more)

pub any_buffer : AnyBuffer
any_buffer d p place len more = ap (λ r. cond (ended d p) (refused p NotEnded) r) (closed_alike p place len more p.phase)
