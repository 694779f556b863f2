-- The laws of runs, together.
use Rattle.control.proofs.SmallerErrors.{steady}
use Rattle.method.specs.Meaning.{Meaning, Ranged}
use Rattle.runs.proofs.Buffers.{any_buffer}
use Rattle.runs.proofs.Counting.{counts, takes_few, takes_legal}
use Rattle.runs.proofs.Closing.{closed_as_judged, points_counted}
use Rattle.runs.proofs.Hearing.{judged_by_codes, opened_once}
use Rattle.runs.proofs.Journaling.{journal_reads_back}
use Rattle.runs.proofs.Stopping.{takes_no_more, verdicts_agree}
use Rattle.runs.specs.Laws.{Laws}

pub laws : (m s : Meaning) → Ranged m → Ranged s → Laws m s
laws m s rm rs = record {
  counts = counts m s;
  takes_few = takes_few m s rm rs;
  takes_legal = takes_legal m s;
  steady_main = steady m;
  steady_short = steady s;
  verdicts_agree = verdicts_agree m s;
  takes_no_more = takes_no_more m s;
  any_buffer = any_buffer;
  journal_reads_back = journal_reads_back m s rm rs;
  opened_once = opened_once m s;
  judged_by_codes = judged_by_codes m s rm rs;
  closed_as_judged = closed_as_judged m s rm rs;
  points_counted = points_counted m s;
}
