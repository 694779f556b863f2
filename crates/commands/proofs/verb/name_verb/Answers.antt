use Rattle.std.proofs.Common.{codes, sym, ap, arith, rules}
use Rattle.std.proofs.lemmas.Slice.Eq.{text_from_reads}
use Rattle.commands.specs.Verbs.{verb_named}
use Rattle.commands.proofs.verb.name_verb.Goals as goal

-- the search closes the shortest words, and that no other word is one
pub returns-in-code : goal.returns-in-code
returns-in-code c = ap verb_named (sym (text_from_reads c.args.word.now (codes "code") (omega arith) (search rules)))

pub returns-in-level : goal.returns-in-level
returns-in-level c = ap verb_named (sym (text_from_reads c.args.word.now (codes "level") (omega arith) (search rules)))

pub returns-in-open : goal.returns-in-open
returns-in-open c = ap verb_named (sym (text_from_reads c.args.word.now (codes "open") (omega arith) (search rules)))

pub returns-in-close : goal.returns-in-close
returns-in-close c = ap verb_named (sym (text_from_reads c.args.word.now (codes "close") (omega arith) (search rules)))

pub returns-in-late : goal.returns-in-late
returns-in-late c = ap verb_named (sym (text_from_reads c.args.word.now (codes "late") (omega arith) (search rules)))

pub returns-in-manual : goal.returns-in-manual
returns-in-manual c = ap verb_named (sym (text_from_reads c.args.word.now (codes "manual") (omega arith) (search rules)))

pub returns-in-notice : goal.returns-in-notice
returns-in-notice c = ap verb_named (sym (text_from_reads c.args.word.now (codes "notice") (omega arith) (search rules)))

pub returns-in-plan : goal.returns-in-plan
returns-in-plan c = ap verb_named (sym (text_from_reads c.args.word.now (codes "plan") (omega arith) (search rules)))

pub returns-in-orders : goal.returns-in-orders
returns-in-orders c = ap verb_named (sym (text_from_reads c.args.word.now (codes "orders") (omega arith) (search rules)))

pub returns-in-certificate : goal.returns-in-certificate
returns-in-certificate c = ap verb_named (sym (text_from_reads c.args.word.now (codes "certificate") (omega arith) (search rules)))

pub returns-in-audit : goal.returns-in-audit
returns-in-audit c = ap verb_named (sym (text_from_reads c.args.word.now (codes "audit") (omega arith) (search rules)))

pub returns-in-journal : goal.returns-in-journal
returns-in-journal c = ap verb_named (sym (text_from_reads c.args.word.now (codes "journal") (omega arith) (search rules)))

pub returns-in-dump : goal.returns-in-dump
returns-in-dump c = ap verb_named (sym (text_from_reads c.args.word.now (codes "dump") (omega arith) (search rules)))

pub returns-in-read : goal.returns-in-read
returns-in-read c = ap verb_named (sym (text_from_reads c.args.word.now (codes "read") (omega arith) (search rules)))

pub returns-in-bytes : goal.returns-in-bytes
returns-in-bytes c = ap verb_named (sym (text_from_reads c.args.word.now (codes "bytes") (omega arith) (search rules)))

pub returns-in-write : goal.returns-in-write
returns-in-write c = ap verb_named (sym (text_from_reads c.args.word.now (codes "write") (omega arith) (search rules)))
