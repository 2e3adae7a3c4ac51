use Rattle.in_place.specs.Held.{pool_from}
use Rattle.in_place.specs.Acts.{no_numbers}
use Rattle.in_place.proofs.acting.act.Goals as goal

pub returns-in_default : goal.returns-in_default
returns-in_default c =
    let a = c.args in
    no_numbers (pool_from a.size a.client_count a.cap a.hand.now a.free.now a.last.now a.slots.now a.pages.now a.pins.now a.counts.now a.table_pages.now a.table_frames.now a.client_bytes.now a.client_words.now a.grant_pages.now a.grant_frames.now) a.store_pages a.call c.in_default.ensures
