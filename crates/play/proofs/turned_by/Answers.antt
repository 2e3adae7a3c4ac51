use Rattle.std.proofs.Common.{◌∙◌, sym, ap, ◌<◌, arith, le-ltb}
use Rattle.pool.specs.State.{client}
use Rattle.pool.specs.Calls.{caller, refusal_at}
use Rattle.laws.specs.Choices.{passed}
use Rattle.play.proofs.Grants.{of_begin, of_step, of_release, not_by_9}
use Rattle.play.proofs.turned_by.Goals as goal

pub returns-then-number-client_count-clause-value : goal.returns-then-number-client_count-clause-value
returns-then-number-client_count-clause-value c =
    λ p a. sym (passed _ _ _ (le-ltb _ _ (omega (arith, a.count, c.caller-number.ensures, c.if-number-client_count.true))))

pub returns-in-Begin-clause-value : goal.returns-in-Begin-clause-value
returns-in-Begin-clause-value c =
    λ p a.
    let n = c.caller-number.ensures in
    let h : caller c.args.call < c.args.client_count = omega (arith, n, c.if-number-client_count.false) in
    c.begin_refusal.ensures p (ap (client p) n ∙ a.client h) a.grant_pages
    ∙ ap (refusal_at p c.args.client) (sym (of_begin c.in-Begin.is n))
    ∙ sym (not_by_9 p c.args.call a h)

pub returns-in-Step-clause-value : goal.returns-in-Step-clause-value
returns-in-Step-clause-value c =
    λ p a.
    let n = c.caller-number.ensures in
    let h : caller c.args.call < c.args.client_count = omega (arith, n, c.if-number-client_count.false) in
    c.step_refusal.ensures p c.caller-number.result
    ∙ ap (refusal_at p c.args.client) (sym (of_step c.in-Step.is n))
    ∙ sym (not_by_9 p c.args.call a h)

pub returns-in-Release-clause-value : goal.returns-in-Release-clause-value
returns-in-Release-clause-value c =
    λ p a.
    let n = c.caller-number.ensures in
    let h : caller c.args.call < c.args.client_count = omega (arith, n, c.if-number-client_count.false) in
    c.release_refusal.ensures p (ap (client p) n ∙ a.client h) a.grant_pages
    ∙ ap (refusal_at p c.args.client) (sym (of_release c.in-Release.is n))
    ∙ sym (not_by_9 p c.args.call a h)
