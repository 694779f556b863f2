-- Which line is which command.
use Rattle.std.specs.Prelude.{ℕ, ◌-◌, ◌^◌, Bool, false, cond, List, [], ◌∷◌, ℤ, pos, negsuc, Some, None, codes, Option, ◌==◌}
use Rattle.std.specs.Option.{option_map}
use Rattle.std.specs.Str.{bytes_eq}
use Rattle.console.specs.Grammar.{Word, alone, takes, then}
use Rattle.console.specs.Numbers.{numeral}
use Rattle.journal.specs.declared.codes.Signal.{Signal}
use Rattle.journal.specs.declared.codes.Signal.TheVariants as signal
use Rattle.runs.specs.declared.call.Call.TheVariants as call
use Rattle.verification.specs.declared.notice.Check.{Check}
use Rattle.verification.specs.declared.notice.Check.TheVariants.{Passed, Failed}
use Rattle.commands.specs.Verbs.{verb_named}
use Rattle.commands.specs.declared.command.Command.{Command}
use Rattle.commands.specs.declared.command.Command.TheVariants as command
use Rattle.commands.specs.declared.command.Role.{Role}
use Rattle.commands.specs.declared.command.Role.TheVariants.{Main, Short}
use Rattle.commands.specs.declared.line.Line.{Line}
use Rattle.commands.specs.declared.line.Line.TheVariants as line
use Rattle.commands.specs.declared.verb.Verb.{Verb}
use Rattle.commands.specs.declared.verb.Verb.TheVariants as verb

-- a place before the buffer's first byte, or too large to be held, is past every buffer's end
abbrev pub place_of : ℤ → ℕ
place_of (pos n) = n
place_of (negsuc n) = 2 ^ 64 - 1

abbrev pub place : Word → Option ℕ
place w = option_map place_of (numeral w)

-- an observation number below 0 is outside 1 to every cut, as 0 is
abbrev pub observation_of : ℤ → ℕ
observation_of (pos n) = n
observation_of (negsuc n) = 0

abbrev pub role : Word → Option Role
role w = cond (bytes_eq w (codes "main")) (Some Main) (cond (bytes_eq w (codes "short")) (Some Short) None)

abbrev pub signal_typed : Word → Option Signal
signal_typed w =
    cond (bytes_eq w (codes "inspection")) (Some signal.Inspection)
    (cond (bytes_eq w (codes "trial")) (Some signal.Trial)
    (cond (bytes_eq w (codes "insulation")) (Some signal.Insulation) None))

abbrev pub check_typed : Word → Option Check
check_typed w = cond (bytes_eq w (codes "pass")) (Some Passed) (cond (bytes_eq w (codes "fail")) (Some Failed) None)

-- the norms of one observation, or the numbers of a plan
abbrev pub asked : Role → List Word → Option Command
asked r [] = Some (command.AskNumbers r)
asked r (w ∷ ws) = takes numeral (λ i. alone (command.AskNorms r (observation_of i))) (w ∷ ws)

-- up to a place, or to the end
abbrev pub read_from : ℕ → List Word → Option Command
read_from p [] = Some (command.Read p None)
read_from p (w ∷ ws) = takes place (λ e. alone (command.Read p (Some e))) (w ∷ ws)

-- the permitted error of the reference and the agreement, behind the main signal and the permitted error of the meter
abbrev pub opening : ℤ → ℤ → List Word → Option Command
opening a p ws = takes numeral (λ e. takes numeral (λ n. alone (command.Call (call.Open a p e n)))) ws

-- what follows the word that begins a command; the words of a plan, of bytes and of a record's fields are for those who
-- read them
abbrev pub typed : Verb → List Word → Option Command
typed verb.New ws = alone command.New ws
typed verb.Manual ws = takes signal_typed (λ s. takes check_typed (λ c. alone (command.Manual s c))) ws
typed verb.Notice ws = takes place (λ p. alone (command.Notice p)) ws
typed verb.Plan ws = takes role (λ r rest. Some (command.Plan r)) ws
typed verb.Ask ws = takes role asked ws
typed verb.Orders ws =
    takes numeral (λ points. takes numeral (λ kind. takes numeral (λ rule. alone (command.Orders points kind rule)))) ws
typed verb.Journal ws = takes numeral (λ length. alone (command.Journal length)) ws
typed verb.Open ws = takes numeral (λ a. takes numeral (opening a)) ws
typed verb.Level ws = alone (command.Call call.Level) ws
typed verb.Code ws = takes numeral (λ n. alone (command.Call (call.Code n))) ws
typed verb.Late ws = alone (command.Call call.Late) ws
typed verb.Close ws = takes place (λ p. alone (command.Call (call.Close p))) ws
typed verb.Certificate ws = takes place (λ p. alone (command.Certificate p)) ws
typed verb.Audit ws = alone command.Audit ws
typed verb.Dump ws = alone command.Dump ws
typed verb.Read ws = takes place read_from ws
typed verb.Bytes ws = takes place (λ p rest. Some (command.Bytes p)) ws
typed verb.Write ws = takes place (λ p. takes numeral (λ kind rest. Some (command.Write p kind))) ws

abbrev pub comment : Word → Bool
comment [] = false
comment (b ∷ bs) = b == 35

abbrev pub heard : Option Command → Line
heard None = line.Syntax
heard (Some c) = line.Command c

-- a line of words: blank lines and comments have no answer
abbrev pub line_of : List Word → Line
line_of [] = line.Silent
line_of (w ∷ ws) = cond (comment w) line.Silent (heard (then (verb_named w) (λ v. typed v ws)))
