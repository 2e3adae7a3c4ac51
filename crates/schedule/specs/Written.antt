-- For callers of a run, who cut what it wrote from the space. Assumes nothing.
use Rattle.std.specs.Prelude.{◌≡◌, List, ℕ, ◌≤◌, length}
use Rattle.std.proofs.Common.{arith, length-append}
use Rattle.pool.specs.Schedule.{end_of, report_of}
use Rattle.pool.specs.declared.Ended.{Ended}

-- the bytes that a run counts are in the report that it leaves
pub within_report : (s space : List ℕ) {ended : Ended} {left : List ℕ} → ended ≡ end_of s space → left ≡ report_of s space
    → ended.bytes ≤ length left
unfolding end_of report_of
within_report s space e l = rw (e, l, length-append) (omega arith)
