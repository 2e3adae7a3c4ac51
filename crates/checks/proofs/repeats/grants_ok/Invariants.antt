-- What is left of the test from i on is all of it, since every grant before i passed; and each page before i has its mark, so that a page without one is
-- new. Assumes nothing.
use Rattle.std.proofs.Common.{◌+◌, ◌*◌}
use Rattle.laws.specs.Elements.{page_of}
use Rattle.laws.specs.Loops.{Passing}
use Rattle.checks.specs.Met.{Marked}
use Rattle.checks.specs.Places.{grant_ok_in}
use Rattle.checks.proofs.repeats.grants_ok.Given as goal

abbrev pub invariant-loop-i : goal.invariant-loop-i
invariant-loop-i l =
    let n = l.books.numbers.size + 2 * l.books.numbers.client_count in
    Passing (grant_ok_in l.books.grant_pages.now l.books.grant_frames.now l.c l.held n) l.held l.i
    × Marked (page_of l.books.grant_pages.now l.c) 64 l.marks l.i
