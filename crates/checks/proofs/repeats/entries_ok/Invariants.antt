-- What is left of the test from i on is all of it, since every place before i passed; and each page before i has its mark, so that a page without one is
-- new. Assumes nothing.
use Rattle.std.proofs.Common.{◌+◌, ◌*◌}
use Rattle.laws.specs.Loops.{Passing}
use Rattle.checks.specs.Met.{Marked}
use Rattle.checks.specs.Places.{page_at, entry_ok_in}
use Rattle.checks.proofs.repeats.entries_ok.Given as goal

abbrev pub invariant-loop-i : goal.invariant-loop-i
invariant-loop-i l =
    let n = l.books.numbers.size + 2 * l.books.numbers.client_count in
    Passing (entry_ok_in l.books.table_pages.now l.books.table_frames.now n) n l.i × Marked (page_at l.books.table_pages.now) 1021 l.marks l.i
