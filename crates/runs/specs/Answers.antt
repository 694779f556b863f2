-- What the answers of a list of calls tell.
use Rattle.std.specs.Prelude.{ℕ, ◌+◌, Bool, true, false, cond, not, ◌&&◌, List, [], ◌∷◌, is_ok, Some, None, Ok, Err, Option, Result}
use Rattle.method.specs.declared.question.Question.{Question}
use Rattle.method.specs.declared.verdict.Verdict.{Verdict}
use Rattle.runs.specs.declared.answer.Answer.{Answer}
use Rattle.runs.specs.declared.answer.Answer.TheVariants.{Opened, Leveled, Coded, Belated, Closed as ClosedBy}
use Rattle.verification.specs.Calls.{unfit_one}
use Rattle.verification.specs.declared.written.Written.{Written}

-- a code was accepted
abbrev pub accepts_code : Answer → Bool
accepts_code (Opened r) = false
accepts_code (Leveled r) = false
accepts_code (Coded r) = is_ok r
accepts_code (Belated r) = false
accepts_code (ClosedBy r) = false

-- a point was opened
abbrev pub opens : Answer → Bool
opens (Opened r) = is_ok r
opens (Leveled r) = false
opens (Coded r) = false
opens (Belated r) = false
opens (ClosedBy r) = false

-- a point was closed
abbrev pub closes : Answer → Bool
closes (Opened r) = false
closes (Leveled r) = false
closes (Coded r) = false
closes (Belated r) = false
closes (ClosedBy r) = is_ok r

-- the verdict of a point that was closed
abbrev pub verdict_closed : Result Written Question → Option Verdict
verdict_closed (Ok k) = Some k.verdict
verdict_closed (Err q) = None

abbrev pub verdict_told : Answer → Option Verdict
verdict_told (Opened r) = None
verdict_told (Leveled r) = None
verdict_told (Coded r) = None
verdict_told (Belated r) = None
verdict_told (ClosedBy r) = verdict_closed r

-- one where that is unfit
abbrev pub one_unfit : Option Verdict → ℕ
one_unfit None = 0
one_unfit (Some v) = unfit_one v

-- how many points were closed, and how many of them unfit
abbrev pub points_closed : List Answer → ℕ
points_closed [] = 0
points_closed (a ∷ rest) = cond (closes a) 1 0 + points_closed rest

abbrev pub points_unfit : List Answer → ℕ
points_unfit [] = 0
points_unfit (a ∷ rest) = one_unfit (verdict_told a) + points_unfit rest

-- how many codes were accepted
abbrev pub codes_accepted : List Answer → ℕ
codes_accepted [] = 0
codes_accepted (a ∷ rest) = cond (accepts_code a) 1 0 + codes_accepted rest

-- no point was closed
abbrev pub none_closed : List Answer → Bool
none_closed [] = true
none_closed (a ∷ rest) = not (closes a) && none_closed rest

-- answers laid over a row from its front, rest far rest it goes; what is behind them stays
abbrev pub overlaid : List Answer → List Answer → List Answer
overlaid [] row = row
overlaid (a ∷ rest) [] = []
overlaid (a ∷ rest) (b ∷ bs) = a ∷ overlaid rest bs
