-- The pool that parts are of, with the clients that are kept beside them. Assumes nothing.
use Rattle.std.specs.Prelude.{List}
use Rattle.pool.specs.declared.Pool.{Pool}
use Rattle.pool.specs.declared.Client.{Client}
use Rattle.books.specs.declared.parts.Parts.{Parts}

abbrev pub pool_lent : Parts → List Client → Pool
pool_lent b clients =
    record {
      size = b.size;
      client_count = b.client_count;
      cap = b.cap;
      hand = b.hand;
      free = b.free;
      last = b.last;
      slots = b.slots.now;
      pages = b.pages.now;
      pins = b.pins.now;
      counts = b.counts.now;
      table_pages = b.table_pages.now;
      table_frames = b.table_frames.now;
      clients = clients;
      grant_pages = b.grant_pages.now;
      grant_frames = b.grant_frames.now;
    }
