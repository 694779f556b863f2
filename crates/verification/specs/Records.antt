-- The record of a decided point.
use Rattle.std.specs.Prelude.{ℕ, pos}
use Rattle.journal.specs.Codes.{quantity_found}
use Rattle.journal.specs.declared.codes.FirstAttempt.{FirstAttempt}
use Rattle.journal.specs.declared.codes.FirstAttempt.TheVariants as first
use Rattle.journal.specs.declared.record.Record.{Record}
use Rattle.journal.specs.declared.record.Record.TheVariants.{Sequence, ThreeStep}
use Rattle.journal.specs.declared.sequence.SequenceFields.{SequenceFields}
use Rattle.journal.specs.declared.three_step.ThreeStepFields.{ThreeStepFields}
use Rattle.point.specs.declared.phase.Before.{Before}
use Rattle.point.specs.declared.phase.Before.TheVariants.{Nothing, SequenceAlone, QuantityAlone, ShortUnfit}
use Rattle.point.specs.declared.phase.Course.{Course}
use Rattle.point.specs.declared.phase.Course.TheVariants.{Main, Short}
use Rattle.point.specs.declared.phase.Outcome.{Outcome}

-- what the first attempt was, where a main attempt decided
abbrev pub first_of : Before → FirstAttempt
first_of Nothing = first.Absent
first_of (SequenceAlone n) = first.SequenceAlone
first_of (QuantityAlone n) = first.QuantityAlone
first_of (ShortUnfit n) = first.ShortUnfit

-- the numbers of the main attempt that decided, and the dominance found after it
abbrev pub sequence_fields : ℕ → Before → Outcome → SequenceFields
sequence_fields n b o = record {
  point = pos n;
  first_attempt = first_of b;
  observations = pos o.trial.tally.observations;
  outs = pos o.trial.tally.outs;
  sequence = o.sequence;
  quantity = quantity_found o.quantity;
  wild = o.trial.tally.wild;
  dominance = o.dominance;
  verdict = o.verdict;
  settling_codes = pos o.trial.settled;
  tolerance = pos o.trial.width;
  sum = o.trial.tally.sum;
  squares = pos o.trial.tally.squares;
}

-- the numbers of the short attempt that decided
abbrev pub three_step_fields : ℕ → Outcome → ThreeStepFields
three_step_fields n o = record {
  point = pos n;
  settling_codes = pos o.trial.settled;
  tolerance = pos o.trial.width;
  sum = o.trial.tally.sum;
}

abbrev pub record_on : ℕ → Outcome → Course → Record
record_on n o (Main b) = Sequence (sequence_fields n b o)
record_on n o Short = ThreeStep (three_step_fields n o)

-- the record of the n-th point
abbrev pub point_record : ℕ → Outcome → Record
point_record n o = record_on n o o.trial.course
