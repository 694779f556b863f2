-- The words that begin a command.
use Rattle.std.specs.Prelude.{ℕ, cond, List, Some, None, codes, Option}
use Rattle.std.specs.Str.{bytes_eq}
use Rattle.commands.specs.declared.verb.Verb.{Verb}
use Rattle.commands.specs.declared.verb.Verb.TheVariants.{New, Manual, Notice, Plan, Ask, Orders, Journal, Open, Level, Code, Late, Close, Certificate, Audit, Dump, Read, Bytes, Write}

-- the commands of the journal's bytes
abbrev pub journal_verb_named : List ℕ → Option Verb
journal_verb_named word =
    cond (bytes_eq word (codes "journal")) (Some Journal)
    (cond (bytes_eq word (codes "dump")) (Some Dump)
    (cond (bytes_eq word (codes "read")) (Some Read)
    (cond (bytes_eq word (codes "bytes")) (Some Bytes)
    (cond (bytes_eq word (codes "write")) (Some Write) None))))

-- the commands around a verification
abbrev pub preparation_named : List ℕ → Option Verb
preparation_named word =
    cond (bytes_eq word (codes "new")) (Some New)
    (cond (bytes_eq word (codes "manual")) (Some Manual)
    (cond (bytes_eq word (codes "notice")) (Some Notice)
    (cond (bytes_eq word (codes "plan")) (Some Plan)
    (cond (bytes_eq word (codes "ask")) (Some Ask)
    (cond (bytes_eq word (codes "orders")) (Some Orders)
    (cond (bytes_eq word (codes "certificate")) (Some Certificate)
    (cond (bytes_eq word (codes "audit")) (Some Audit) (journal_verb_named word))))))))

-- the calls of a verification, and then all others
abbrev pub verb_named : List ℕ → Option Verb
verb_named word =
    cond (bytes_eq word (codes "code")) (Some Code)
    (cond (bytes_eq word (codes "level")) (Some Level)
    (cond (bytes_eq word (codes "open")) (Some Open)
    (cond (bytes_eq word (codes "close")) (Some Close)
    (cond (bytes_eq word (codes "late")) (Some Late) (preparation_named word)))))
