use Rattle.std.proofs.Common.{◌∙◌, sym, take, arith}
use Rattle.pool.specs.State.{none}
use Rattle.pool.specs.Valid.{frame_ok}
use Rattle.checks.proofs.Every.{fold_all, every_of}
use Rattle.checks.proofs.whole.slots_ok.Goals as goal

pub returns : goal.returns
returns c =
    let a = c.args in
    c.frames_ok.ensures ∙ fold_all (frame_ok a.n) (take a.size a.slots.now) ∙ sym (every_of (frame_ok a.n) a.slots.now a.size none (omega arith))
