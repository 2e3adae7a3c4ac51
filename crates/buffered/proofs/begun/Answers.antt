-- A pool that does not pass check 8 is turned down by it. A page outside the store is turned down by what would turn the begin down before, else by 16;
-- of a page inside, the begin is the pool's own. Assumes nothing.
use Rattle.std.proofs.Common.{rules, ◌≡◌, sym, ◌∙◌, true, false}
use Rattle.memory.specs.Requests.{Asks, inside}
use Rattle.pool.specs.declared.Call.TheVariants.{Begin}
use Rattle.buffered.specs.Ways.{not_sound, begins, begin_refused}
use Rattle.buffered.proofs.begun.Goals as goal

pub returns-in_err-checked : goal.returns-in_err-checked
returns-in_err-checked c =
    let a = c.args in
    let refused = not_sound a.pool.now (Asks (Begin a.client a.page)) c.in_err-checked.ensures in
    λ store. search (rules, refused store)

pub returns-then-not-inside : goal.returns-then-not-inside
returns-then-not-inside c =
    let a = c.args in
    let out : inside a.pool.now.memory.pages a.page ≡ false = sym c.inside.ensures ∙ c.if-not-inside.true in
    begin_refused a.pool.now a.client a.page c.in_ok-checked.ensures out c.turned_by.ensures _ c.outside_of.ensures

pub returns : goal.returns
returns c =
    let a = c.args in
    let there : inside a.pool.now.memory.pages a.page ≡ true = sym c.inside.ensures ∙ c.if-not-inside.false in
    begins a.pool.now a.client a.page c.in_ok-checked.ensures there c.call_made.ensures
