-- What is put behind a text piece by piece: a number digit by digit, the last one last.
use Rattle.std.proofs.Common.{◌≡◌, ℕ, ◌+◌, ◌/◌, ◌%◌, ◌^◌, ◌<◌, ◌≤◌, List, [], ◌∷◌, ◌++◌, ℤ, pos, negsuc, nat_abs, ◌<ℤ◌, decimal, sym, ap, ◌∙◌, append_assoc, arith}
use Rattle.std.specs.Fmt.{signed_decimal}
use Rattle.std.proofs.lemmas.Fmt.{decimal_digit, decimal_step}
use Rattle.std.proofs.lemmas.Int.{ints}
use Rattle.console.specs.Texts.{Grown}

pub joined : {a b c x y : List ℕ} → Grown a x b → Grown b y c → Grown a (x ++ y) c
joined {a} {b} {c} {x} {y} f g = record { is = g.is ∙ ap (λ z. z ++ y) f.is ∙ append_assoc a x y }

-- the same text, written otherwise
pub alike : {a b x y : List ℕ} → x ≡ y → Grown a x b → Grown a y b
alike {a} e g = record { is = g.is ∙ ap (λ z. a ++ z) e }

pub one_digit : {a b : List ℕ} (n : ℕ) → n < 10 → Grown a ((48 + n) ∷ []) b → Grown a (decimal n) b
one_digit n h g = alike (sym (decimal_digit n h)) g

pub one_more : {a b c : List ℕ} (n : ℕ) → 10 ≤ n → n < 2 ^ 64 → Grown a (decimal (n / 10)) b → Grown b ((48 + n % 10) ∷ []) c → Grown a (decimal n) c
one_more n h f g e = alike (sym (decimal_step n h f)) (joined g e)

-- a number below 0 is written with its sign in front
pub minus : {a b c : List ℕ} (z : ℤ) (n : ℕ) → z <ℤ pos 0 → n ≡ nat_abs z → Grown a (45 ∷ []) b → Grown b (decimal n) c → Grown a (signed_decimal z) c
minus (pos k) n h e f g = absurd (omega (arith, ints))
minus (negsuc k) n h e f g = alike (ap (λ m. 45 ∷ decimal m) e) (joined f g)
