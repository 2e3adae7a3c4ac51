use Rattle.std.proofs.Common.{◌∙◌, sym, ap, ℕ, take, arith}
use Rattle.std.specs.List.{zip}
use Rattle.pool.specs.State.{evicted, within}
use Rattle.pool.specs.Valid.{state_ok}
use Rattle.laws.specs.Elements.{element}
use Rattle.checks.proofs.Every.{fold_all, every_pair}
use Rattle.checks.proofs.whole.states_ok.Goals as goal

pub returns : goal.returns
returns c =
    let a = c.args in
    c.each_state_ok.ensures ∙ fold_all (λ (s : ℕ × ℕ). state_ok a.cap s.0 s.1) (zip (take a.n a.pins.now) (take a.n a.counts.now))
    ∙ sym (every_pair a.pins.now a.counts.now a.n (omega arith) (omega arith) (λ f. state_ok a.cap (within a.pins.now a.n evicted f) (within a.counts.now a.n 0 f)) (state_ok a.cap)
    (λ j h.
    ap (λ q. state_ok a.cap q (within a.counts.now a.n 0 j)) (element a.pins.now a.n evicted j h)
    ∙ ap (state_ok a.cap _) (element a.counts.now a.n 0 j h)))
