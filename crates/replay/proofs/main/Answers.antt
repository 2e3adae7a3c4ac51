-- A run's lines stand at the start of the report, so that their count cuts a part that is there. Assumes nothing.
use mathlib.Core.Path.{sym}
use lib.Seq.{length-take-le}
use Rattle.schedule.specs.Written.{within_report}
use Rattle.replay.proofs.main.Goals as goal

pub slice_bounds-report-end : goal.slice_bounds-report-end
slice_bounds-report-end c = within_report _ _ c.run-ended.ensures.0 c.run-ended.ensures.1

pub slice_bounds-write_all-end : goal.slice_bounds-write_all-end
slice_bounds-write_all-end c = sym (length-take-le _ _ (within_report _ _ c.run-ended.ensures.0 c.run-ended.ensures.1))
