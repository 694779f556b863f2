-- A text in hexadecimal: two digits to a byte, blanks anywhere, and lines that begin with # left out.
use Rattle.std.specs.Prelude.{◌≡◌, ℕ, ◌+◌, ◌-◌, ◌*◌, ◌%◌, Bool, true, false, cond, ◌&&◌, ◌||◌, List, [], ◌++◌, is_some, Some, None, fold, Option, ◌==◌, nat_le}
use Rattle.std.specs.Option.{option_to_list}
use Rattle.report.specs.declared.scan.HexError.{HexError}
use Rattle.report.specs.declared.scan.HexError.TheVariants.{NotHex, OddDigits, NoMemory}
use Rattle.report.specs.declared.scan.Scan.{Scan}
use Rattle.report.specs.declared.scan.Spot.{Spot}
use Rattle.report.specs.declared.scan.Spot.TheVariants.{LineStart, InLine, Comment}
use Rattle.report.specs.declared.scan.Step.{Step}
use Rattle.report.specs.declared.scan.Token.{Token}
use Rattle.report.specs.declared.scan.Token.TheVariants.{Skipped, Digit, Wrong}

-- what a byte is as a digit: 0 to 9, a to f, A to F
abbrev pub hex_digit : ℕ → Option ℕ
hex_digit b =
    cond (nat_le 48 b && nat_le b 57) (Some (b - 48))
    (cond (nat_le 97 b && nat_le b 102) (Some (b - 97 + 10))
    (cond (nat_le 65 b && nat_le b 70) (Some (b - 65 + 10)) None))

-- a space, or another byte that ASCII moves on by
abbrev pub blank : ℕ → Bool
blank b = b == 32 || (nat_le 9 b && nat_le b 13)

-- up to its first byte that is no blank a line is at its start; # there makes it a comment
abbrev pub spot_within : Spot → ℕ → Spot
spot_within LineStart b = cond (b == 35) Comment (cond (blank b) LineStart InLine)
spot_within InLine b = InLine
spot_within Comment b = Comment

abbrev pub spot_after : Spot → ℕ → Spot
spot_after p b = cond (b == 10) LineStart (spot_within p b)

abbrev pub digit_token : Option ℕ → Token
digit_token (Some d) = Digit d
digit_token None = Wrong

-- what a byte is, at the spot that it leads to
abbrev pub token_at : Spot → ℕ → Token
token_at LineStart b = Skipped
token_at InLine b = cond (blank b) Skipped (digit_token (hex_digit b))
token_at Comment b = Skipped

-- the byte of two digits; they are below 16, so nothing is lost
abbrev pub paired : ℕ → ℕ → ℕ
paired high low = (16 * high + low) % 256

abbrev pub with_digit : Scan → Spot → ℕ → Option ℕ → Step
with_digit s p d None = record { scan = record { spot = p; high = Some d; sound = s.sound }; byte = None }
with_digit s p d (Some h) = record { scan = record { spot = p; high = None; sound = s.sound }; byte = Some (paired h d) }

abbrev pub with_token : Scan → Spot → Token → Step
with_token s p Skipped = record { scan = record { spot = p; high = s.high; sound = s.sound }; byte = None }
with_token s p (Digit d) = with_digit s p d s.high
with_token s p Wrong = record { scan = record { spot = p; high = s.high; sound = false }; byte = None }

-- a scan one byte further
abbrev pub step_of : Scan → ℕ → Step
step_of s b = with_token s (spot_after s.spot b) (token_at (spot_after s.spot b) b)

-- a text that was read so far, and its bytes
pub record Read : Type 0 where
  pub scan : Scan
  pub bytes : List ℕ

abbrev pub read_more : Read → ℕ → Read
read_more r b = record { scan = (step_of r.scan b).scan; bytes = r.bytes ++ option_to_list (step_of r.scan b).byte }

abbrev pub read_none : Read
read_none = record { scan = record { spot = LineStart; high = None; sound = true }; bytes = [] }

abbrev pub read_all : List ℕ → Read
read_all text = fold read_more read_none text

-- what is wrong with a text that ends here
abbrev pub fault_of : Scan → Option HexError
fault_of s = cond s.sound (cond (is_some s.high) (Some OddDigits) None) (Some NotHex)

abbrev pub hex_fault : List ℕ → Option HexError
hex_fault text = fault_of (read_all text).scan

abbrev pub hex_bytes : List ℕ → List ℕ
hex_bytes text = (read_all text).bytes

-- an error is the text's own, or that memory was wanting
abbrev pub Refuses : Option HexError → HexError → Type 0
Refuses f NotHex = f ≡ Some NotHex
Refuses f OddDigits = f ≡ Some OddDigits
Refuses f NoMemory = Unit {0}
