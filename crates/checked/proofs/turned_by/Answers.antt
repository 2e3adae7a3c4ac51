-- The client's record is the pool's, and a valid pool's clients have few grants. Assumes nothing.
use Rattle.std.proofs.Common.{◌∙◌, sym, ap, subst, refl, ◌<◌, ◌≤◌, arith, le-ltb}
use Rattle.pool.specs.Limits.{max_held}
use Rattle.pool.specs.State.{number_of_clients, client}
use Rattle.pool.specs.declared.Client.{Client}
use Rattle.laws.specs.Choices.{passed}
use Rattle.laws.specs.Elements.{client_of_pool}
use Rattle.play.specs.Searchable.{searchable}
use Rattle.checked.proofs.turned_by.Goals as goal

pub returns-then-number-pool : goal.returns-then-number-pool
returns-then-number-pool c =
    let k = c.args.pool.now in
    sym (passed _ _ _ (le-ltb _ _ (omega (arith, k.client_count, c.caller-number.ensures, c.if-number-pool.true))))

pub turned_by-requires-clause-few : goal.turned_by-requires-clause-few
turned_by-requires-clause-few c =
    let k = c.args.pool.now in
    let p = k.pool.now in
    let n = c.caller-number.result in
    let h : n < number_of_clients p = omega (arith, k.client_count, c.if-number-pool.false) in
    subst (λ (r : Client). r.held ≤ max_held) (client_of_pool p n h) ((searchable p k.valid).grants n h)

pub returns : goal.returns
returns c =
    let k = c.args.pool.now in
    let p = k.pool.now in
    let n = c.caller-number in
    let h : n.result < number_of_clients p = omega (arith, k.client_count, c.if-number-pool.false) in
    c.turned_by.ensures.value p
    (record { count = sym k.client_count; client = λ _. ap (client p) (sym n.ensures) ∙ client_of_pool p n.result h; grant_pages = refl })
