-- The text of each answer.
use Rattle.std.specs.Prelude.{ℕ, Bool, true, false, List, [], ◌∷◌, ◌++◌, ℤ, codes, decimal, Option, Some, None, unwrap_or}
use Rattle.std.specs.Fmt.{signed_decimal}
use Rattle.method.specs.Questions.{number_of}
use Rattle.method.specs.declared.verdict.Verdict.{Verdict}
use Rattle.method.specs.declared.verdict.Verdict.TheVariants.{Fit, Unfit}
use Rattle.journal.specs.Codes.{signal_code}
use Rattle.point.specs.declared.phase.Level.{Level}
use Rattle.commands.specs.declared.reply.Norms.{Norms}
use Rattle.commands.specs.declared.reply.PlanNumbers.{PlanNumbers}
use Rattle.commands.specs.declared.reply.Reply.{Reply}
use Rattle.commands.specs.declared.reply.Reply.TheVariants as reply
use Rattle.commands.specs.declared.reply.Run.{Run}

-- a number behind a blank
abbrev pub spaced : ℕ → List ℕ
spaced n = 32 ∷ decimal n

abbrev pub spaced_signed : ℤ → List ℕ
spaced_signed z = 32 ∷ signed_decimal z

abbrev pub verdict_text : Verdict → List ℕ
verdict_text Fit = codes " fit"
verdict_text Unfit = codes " unfit"

-- the level in tenths, the number of the coming observation and the soonest fit, 0 for none
abbrev pub level_text : Level → List ℕ
level_text l = spaced_signed l.tenths ++ (spaced (unwrap_or l.observation 0) ++ spaced (unwrap_or l.soonest 0))

abbrev pub numbers_text : PlanNumbers → List ℕ
numbers_text p =
    spaced p.cut ++ (spaced p.cut_number ++ (spaced p.margin ++ (spaced p.trapezoid ++ spaced p.uniform)))

abbrev pub norms_text : Norms → List ℕ
norms_text n = spaced_signed n.accept ++ (spaced n.reject ++ spaced_signed n.offset)

-- the verdict of a run, if it has ended
abbrev pub state_text : Option Verdict → List ℕ
state_text None = codes " going"
state_text (Some v) = verdict_text v

-- the codes that a run accepted, and its verdict if it has ended
abbrev pub run_text : Run → List ℕ
run_text o = spaced o.codes ++ state_text o.verdict

abbrev pub audit_text : Run → Run → List ℕ
audit_text first all = run_text first ++ run_text all

abbrev pub closed_text : Verdict → ℕ → List ℕ
closed_text v n = verdict_text v ++ spaced n

-- how an answer begins
abbrev pub opening_words : Reply → List ℕ
opening_words reply.Done = codes "ok"
opening_words (reply.Notice s) = codes "ok notice"
opening_words (reply.Length n) = codes "ok"
opening_words (reply.Numbers p) = codes "ok"
opening_words (reply.Norms n) = codes "ok"
opening_words (reply.Level l) = codes "ok"
opening_words reply.Undecided = codes "ok undecided"
opening_words (reply.Decided v) = codes "ok"
opening_words (reply.Closed v n) = codes "ok"
opening_words (reply.Audited first all) = codes "ok"
opening_words (reply.Refused q) = codes "refused"
opening_words reply.Misuse = codes "misuse"
opening_words reply.Syntax = codes "syntax"

-- the values that follow
abbrev pub values_text : Reply → List ℕ
values_text reply.Done = []
values_text (reply.Notice s) = spaced_signed (signal_code s)
values_text (reply.Length n) = spaced n
values_text (reply.Numbers p) = numbers_text p
values_text (reply.Norms n) = norms_text n
values_text (reply.Level l) = level_text l
values_text reply.Undecided = []
values_text (reply.Decided v) = verdict_text v
values_text (reply.Closed v n) = closed_text v n
values_text (reply.Audited first all) = audit_text first all
values_text (reply.Refused q) = spaced (number_of q)
values_text reply.Misuse = []
values_text reply.Syntax = []

abbrev pub reply_text : Reply → List ℕ
reply_text r = opening_words r ++ values_text r

-- whether an answer is kept as a line: those that are always the same and come most often
abbrev pub is_kept : Reply → Bool
is_kept reply.Done = true
is_kept (reply.Notice s) = false
is_kept (reply.Length n) = false
is_kept (reply.Numbers p) = false
is_kept (reply.Norms n) = false
is_kept (reply.Level l) = false
is_kept reply.Undecided = true
is_kept (reply.Decided v) = true
is_kept (reply.Closed v n) = false
is_kept (reply.Audited first all) = false
is_kept (reply.Refused q) = false
is_kept reply.Misuse = false
is_kept reply.Syntax = false
