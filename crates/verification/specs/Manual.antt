-- The manual stage.
use Rattle.std.specs.Prelude.{Some, None, Option}
use Rattle.journal.specs.declared.codes.Signal.{Signal}
use Rattle.journal.specs.declared.record.Record.{Record}
use Rattle.journal.specs.declared.record.Record.TheVariants as journal
use Rattle.verification.specs.declared.notice.Check.{Check}
use Rattle.verification.specs.declared.notice.Check.TheVariants.{Passed, Failed}
use Rattle.verification.specs.declared.notice.Notice.{Notice}

-- a failed signal ends in a notice of it
abbrev pub notice_of : Signal → Check → Option Notice
notice_of s Passed = None
notice_of s Failed = Some (record { failed = s })

abbrev pub notice_record : Notice → Record
notice_record n = journal.Notice (record { failed = n.failed })
