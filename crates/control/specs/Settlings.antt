-- Settling of a new point's codes.
use Rattle.std.specs.Prelude.{ℕ, ◌+◌, ◌-◌, Bool, cond, ◌&&◌, List, [], ◌∷◌, length, ℤ, pos, ◌-ℤ◌, Some, None, Option, nat_le, slice_index_or, unsigned_abs}
use Rattle.method.specs.Refusals.{asks, between}
use Rattle.method.specs.declared.question.Question.{Question}
use Rattle.method.specs.declared.question.Question.TheVariants.{AgreementInRange}
use Rattle.control.specs.Firsts.{Quiet, FirstAt}
use Rattle.control.specs.declared.codes.Codes.{Codes}
use Rattle.control.specs.declared.codes.Settled.{Settled}
use Rattle.control.specs.declared.codes.SettledBy.{SettledBy}
use Rattle.control.specs.declared.codes.SettledBy.TheVariants.{Agreement, LastCode}

-- the agreement is 0 to 9 steps
abbrev pub agreement_refusal : ℤ → Option Question
agreement_refusal n = asks (between (pos 0) (pos 9) n) AgreementInRange None

-- two codes differ by at most n
abbrev pub near : ℕ → ℤ → ℤ → Bool
near n a b = nat_le (unsigned_abs (a -ℤ b)) n

-- three codes agree, each with each
abbrev pub agree : ℕ → ℤ → ℤ → ℤ → Bool
agree n a b c = near n a b && (near n a c && near n b c)

-- how settling ends with the i-th code, if it does; the latest code is a, and b and c were before it
abbrev pub settled_at : ℕ → ℕ → ℤ → ℤ → ℤ → Option SettledBy
settled_at n i a b c = cond (nat_le 3 i && agree n a b c) (Some Agreement) (cond (nat_le 200 i) (Some LastCode) None)

-- no settling code yet
abbrev pub no_codes : Codes
no_codes = record { count = 0; last = pos 0; previous = pos 0 }

-- one settling code more
abbrev pub with_code : Codes → ℤ → Codes
with_code k c = record { count = k.count + 1; last = c; previous = k.last }

-- how that code ends the settling, if it does
abbrev pub settled_by : ℕ → Codes → ℤ → Option SettledBy
settled_by n k c = settled_at n (k.count + 1) c k.last k.previous

-- the end that comes with the i-th code, or else what comes later
abbrev pub or_settles : Option SettledBy → ℕ → Option Settled → Option Settled
or_settles (Some b) i rest = Some (record { by = b; codes = i })
or_settles None i rest = rest

-- the end over the codes to come
abbrev pub settling_end : ℕ → Codes → List ℤ → Option Settled
settling_end n k [] = None
settling_end n k (c ∷ cs) = or_settles (settled_by n k c) (k.count + 1) (settling_end n (with_code k c) cs)

-- how the i-th code of a list ends the settling, whatever came before
abbrev pub settled_after : ℕ → List ℤ → ℕ → Option SettledBy
settled_after n cs i = settled_at n i (slice_index_or cs (i - 1) (pos 0)) (slice_index_or cs (i - 2) (pos 0)) (slice_index_or cs (i - 3) (pos 0))

-- It ends at the first code at which the latest three agree or which is the 200th, and nowhere else.
abbrev pub SettlesFirst : ℕ → List ℤ → Option Settled → Type 0
SettlesFirst n cs None = Quiet (settled_after n cs) (length cs)
SettlesFirst n cs (Some s) = FirstAt (settled_after n cs) (length cs) s.by s.codes
