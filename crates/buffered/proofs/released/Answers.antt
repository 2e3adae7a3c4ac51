-- A pool that does not pass check 8 is turned down by it; of one that does, the release is the pool's own. Assumes nothing.
use Rattle.std.proofs.Common.{rules}
use Rattle.memory.specs.Requests.{Asks}
use Rattle.pool.specs.declared.Call.TheVariants.{Release}
use Rattle.buffered.specs.Ways.{not_sound, releases}
use Rattle.buffered.proofs.released.Goals as goal

pub returns-in_err-sound : goal.returns-in_err-sound
returns-in_err-sound c =
    let a = c.args in
    let refused = not_sound a.pool.now (Asks (Release a.client a.page)) c.in_err-sound.ensures in
    λ store. search (rules, refused store)

pub returns : goal.returns
returns c = releases c.args.pool.now c.args.client c.args.page c.in_ok-sound.ensures c.call_made.ensures
