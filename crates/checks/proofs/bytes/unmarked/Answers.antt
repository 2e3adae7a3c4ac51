use Rattle.std.proofs.Common.{◌∙◌, sym, ◌&&◌, not, nat_eq, arith}
use Rattle.pool.specs.Choose.{both}
use Rattle.memory.specs.Memory.{mark}
use Rattle.checks.proofs.Every.{every_pair}
use Rattle.checks.proofs.Stored.{both_off}
use Rattle.checks.proofs.bytes.unmarked.Goals as goal

pub returns : goal.returns
returns c =
    let a = c.args in
    c.none_marked.ensures
    ∙ sym (every_pair a.filled.now a.changed.now a.n (omega arith) (omega arith) (λ f. both (not (mark a.filled.now f)) (not (mark a.changed.now f)))
    (λ x y. nat_eq x 0 && nat_eq y 0) (λ f h. both_off a.filled.now a.changed.now f (omega (arith, h))))
