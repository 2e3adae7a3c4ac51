use Rattle.std.proofs.Common.{sym, ap, ◌∙◌, subst, ◌≤◌, ℕ, []}
use Rattle.pool.specs.Limits.{max_pins}
use Rattle.pool.specs.State.{pinned}
use Rattle.pool.specs.Stages.{stage2}
use Rattle.actions.proofs.actor.View.turn.Goals as goal

pub stage2-requires : goal.stage2-requires
stage2-requires c = let P : ℕ → Type 0 = λ n. n ≤ pinned max_pins in subst P (sym (c.pins.ensures [])) (c.args.self.now.pins [])

pub stage19-requires : goal.stage19-requires
stage19-requires c = let P : ℕ → Type 0 = λ n. n ≤ pinned max_pins in subst P (sym (c.pins-in-PinMapped.ensures [])) (c.args.self.now.pins [])

pub returns-in-PinFound : goal.returns-in-PinFound
returns-in-PinFound c = λ clients _. rw c.in-PinFound.is (c.stage2.ensures ∙ ap (stage2 c.args.self.now.client) (c.pins.ensures clients))
