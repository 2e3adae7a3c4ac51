use Rattle.std.proofs.Common.{◌≤◌, ◌+◌, ◌*◌, length, arith}
use Rattle.memory.specs.Requests.{inside}
use Rattle.checks.proofs.Every.{every_grant}
use Rattle.checks.proofs.bytes.grants_inside.Goals as goal

pub returns : goal.returns
returns c =
    let a = c.args in
    let h : 8 * a.c + a.held ≤ length a.pages.now = omega arith in
    rw (every_grant (inside a.store) a.pages.now a.c a.held 0 h) (grind arith)
