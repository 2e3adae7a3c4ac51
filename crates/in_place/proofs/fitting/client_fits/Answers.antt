-- A client that fits can act, whatever clients stand beside the books. Assumes nothing.
use borrow.Author.Rules.{rules}
use Rattle.std.specs.Prelude.{◌≡◌, true}
use Rattle.std.proofs.Common.{refl}
use Rattle.pool.specs.Choose.{choose, both}
use Rattle.in_place.specs.Held.{client_fits}
use Rattle.in_place.proofs.Fits.{decidable}
use Rattle.in_place.proofs.fitting.client_fits.Goals as goal

pub returns-then-client-le-MAX_HELD-clause-ready : goal.returns-then-client-le-MAX_HELD-clause-ready
unfolding client_fits both choose
returns-then-client-le-MAX_HELD-clause-ready c t =
    let b = c.args.books.now in
    let k = c.args.client.now in
    let fit : client_fits b.numbers.size c.pins.result k ≡ true = search rules in
    decidable b.numbers.size c.pins.result k fit b refl c.pins.ensures
