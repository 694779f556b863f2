-- A legal code at an open point of a verification that goes on.
use Rattle.std.proofs.Common.{◌≡◌, true, false, cond, ℤ, Ok, Option, sym, ap, ◌∙◌}
use Rattle.method.specs.Meaning.{Meaning}
use Rattle.method.specs.declared.question.Question.TheVariants.{CodeLegal, NotEnded}
use Rattle.method.specs.declared.verdict.Verdict.{Verdict}
use Rattle.point.specs.Levels.{legal_code}
use Rattle.point.specs.Phases.{reached, settle_step}
use Rattle.point.specs.declared.phase.Carried.{Carried}
use Rattle.point.specs.declared.phase.Control.{Control}
use Rattle.point.specs.declared.phase.Phase.{Phase}
use Rattle.point.specs.declared.phase.Unsettled.{Unsettled}
use Rattle.verification.specs.Calls.{coded_at, coded_to, coding, done, one_more, refused}
use Rattle.verification.specs.Ordering.{ended}
use Rattle.verification.specs.declared.declared.Declared.{Declared}
use Rattle.verification.specs.declared.progress.Progress.{Progress}

-- a settling code that is written otherwise
pub settled_same : (m s : Meaning) (k : Control) (h : Carried) (u : Unsettled) (z c : ℤ) (f : Phase) → z ≡ c → f ≡ settle_step m s k h u z → f ≡ settle_step m s k h u c
settled_same m s k h u z c f e q = q ∙ ap (settle_step m s k h u) e

pub coding_answer : (m s : Meaning) (d : Declared) (p : Progress) (c : ℤ) (f g : Phase) (r : Option Verdict) → ended d p ≡ false → legal_code c ≡ true → coded_at m s d p c p.phase ≡ coded_to p c g →
    f ≡ g → r ≡ reached f → Ok r ≡ (coding m s d p c).answer
coding_answer m s d p c f g r going legal at same told =
    ap Ok (told ∙ ap reached same)
    ∙ ap (λ x. x.answer) (sym (ap (λ b. cond b (refused p NotEnded) (coded_at m s d p c p.phase)) going ∙ at ∙ ap (λ b. cond b (done (one_more p g) (reached g)) (refused p CodeLegal)) legal))
