-- What writing a record answers, and what it leaves in the journal.
use Rattle.std.specs.Prelude.{ℕ, ◌+◌, Bool, cond, ◌&&◌, List, ◌++◌, length, take, drop, Ok, Err, Result, nat_le}
use Rattle.method.specs.declared.question.Question.{Question}
use Rattle.method.specs.declared.question.Question.TheVariants.{FieldsInRange, FitsBuffer}

-- are the fields in range, then does the record fit: the bytes that it takes
abbrev pub answered : Bool → ℕ → ℕ → ℕ → Result ℕ Question
answered in_range count place len = cond in_range (cond (nat_le (place + count) len) (Ok count) (Err FitsBuffer)) (Err FieldsInRange)

-- the record's bytes in their place and all others as they were; everything as it was where the writing is refused
abbrev pub laid : Bool → List ℕ → ℕ → List ℕ → List ℕ
laid in_range bytes place old =
    cond (in_range && nat_le (place + length bytes) (length old)) (take place old ++ (bytes ++ drop (place + length bytes) old)) old
