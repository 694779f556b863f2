use Rattle.std.proofs.Common.{◌≡◌, ℕ, List, length, codes, ap, sym, arith, rules}
use Rattle.std.proofs.lemmas.Slice.Eq.{HasBytesAt, text_from_reads}
use Rattle.console.specs.Names.{plan_named}
use Rattle.console.proofs.plan_name.name_plan.Goals as goal

read_as : (word name : List ℕ) → length word ≡ length name → HasBytesAt word 0 name → plan_named name ≡ plan_named word
read_as word name l b = sym (ap plan_named (text_from_reads word name l b))

pub returns-in-normal : goal.returns-in-normal
returns-in-normal c = read_as c.args.word.now (codes "normal") (omega arith) (search rules)

pub returns-in-tabled : goal.returns-in-tabled
returns-in-tabled c = read_as c.args.word.now (codes "tabled") (omega arith) (search rules)

pub returns-in-truncated : goal.returns-in-truncated
returns-in-truncated c = read_as c.args.word.now (codes "truncated") (omega arith) (search rules)

pub returns-in-116 : goal.returns-in-116
returns-in-116 c = read_as c.args.word.now (codes "three-step") (omega arith) (search rules)

pub returns-in-108-2 : goal.returns-in-108-2
returns-in-108-2 c = read_as c.args.word.now (codes "line-normal") (omega arith) (search rules)

pub returns-in-strengthened : goal.returns-in-strengthened
returns-in-strengthened c = read_as c.args.word.now (codes "strengthened") (omega arith) (search rules)

pub returns-in-108 : goal.returns-in-108
returns-in-108 c = read_as c.args.word.now (codes "line-strengthened") (omega arith) (search rules)
