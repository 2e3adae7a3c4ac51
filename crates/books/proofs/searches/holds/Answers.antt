use Rattle.std.proofs.Common.{◌≤◌, ◌+◌, ◌*◌, length, arith}
use Rattle.books.proofs.Some.{grants_are}
use Rattle.books.proofs.searches.holds.Goals as goal

pub returns : goal.returns
returns c =
    let h : 8 * c.args.c + c.args.held ≤ length c.args.frames.now = omega arith in
    rw (grants_are c.args.frames.now c.args.c c.args.held c.args.f h) (grind arith)
