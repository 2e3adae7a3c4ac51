use Rattle.std.proofs.Common.{◌∙◌, sym, ap, ℕ, Bool, nat_eq, take, arith}
use Rattle.std.specs.List.{zip}
use Rattle.pool.specs.Choose.{either}
use Rattle.pool.specs.State.{none, within}
use Rattle.laws.specs.Elements.{element}
use Rattle.memory.specs.Requests.{inside}
use Rattle.checks.proofs.Every.{fold_all, every_pair}
use Rattle.checks.proofs.bytes.entries_inside.Goals as goal

pub returns : goal.returns
returns c =
    let a = c.args in
    let test : ℕ → ℕ → Bool = λ f g. either (nat_eq f none) (inside a.store g) in
    c.each_entry_inside.ensures ∙ fold_all (λ (e : ℕ × ℕ). test e.0 e.1) (zip (take a.n a.frames.now) (take a.n a.pages.now))
    ∙ sym (every_pair a.frames.now a.pages.now a.n (omega arith) (omega arith) (λ i. test (within a.frames.now a.n none i) (within a.pages.now a.n 0 i)) test
    (λ j h. ap (λ f. test f (within a.pages.now a.n 0 j)) (element a.frames.now a.n none j h) ∙ ap (test _) (element a.pages.now a.n 0 j h)))
