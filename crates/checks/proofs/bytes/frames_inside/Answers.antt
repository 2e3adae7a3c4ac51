use Rattle.std.proofs.Common.{◌∙◌, sym, take, arith}
use Rattle.memory.specs.Requests.{inside}
use Rattle.checks.proofs.Every.{fold_all, every_of}
use Rattle.checks.proofs.bytes.frames_inside.Goals as goal

pub returns : goal.returns
returns c =
    let a = c.args in
    c.each_inside.ensures ∙ fold_all (inside a.store) (take a.n a.pages.now) ∙ sym (every_of (inside a.store) a.pages.now a.n 0 (omega arith))
