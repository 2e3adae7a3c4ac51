-- The pool that lent books are of, with the clients that are kept beside them; and what a call leaves of the loans. Assumes nothing.
use Rattle.std.specs.Prelude.{◌≡◌, List}
use Rattle.pool.specs.declared.Pool.{Pool}
use Rattle.pool.specs.declared.Client.{Client}
use Rattle.books.specs.declared.extent.Extent.{Extent}
use Rattle.books.specs.declared.reading.Books.{Books}
use Rattle.books.specs.declared.writing.BooksMut.{BooksMut}

-- of books that are read
abbrev pub pool_in : Books → List Client → Pool
pool_in b clients =
    record {
      size = b.numbers.size;
      client_count = b.numbers.client_count;
      cap = b.numbers.cap;
      hand = b.hand;
      free = b.free;
      last = b.last;
      slots = b.slots.now;
      pages = b.pages.now;
      pins = b.pins.now;
      counts = b.counts.now;
      table_pages = b.table_pages.now;
      table_frames = b.table_frames.now;
      clients = clients;
      grant_pages = b.grant_pages.now;
      grant_frames = b.grant_frames.now;
    }

-- of books that are written
abbrev pub pool_of : BooksMut → List Client → Pool
pool_of b clients =
    record {
      size = b.numbers.size;
      client_count = b.numbers.client_count;
      cap = b.numbers.cap;
      hand = b.hand.now;
      free = b.free.now;
      last = b.last.now;
      slots = b.slots.now;
      pages = b.pages.now;
      pins = b.pins.now;
      counts = b.counts.now;
      table_pages = b.table_pages.now;
      table_frames = b.table_frames.now;
      clients = clients;
      grant_pages = b.grant_pages.now;
      grant_frames = b.grant_frames.now;
    }

-- these are S, T and C of the pool, as books have them
pub record NumbersOf (p : Pool) (n : Extent) : Type 0 where
  pub size : n.size ≡ p.size
  pub client_count : n.client_count ≡ p.client_count
  pub cap : n.cap ≡ p.cap

-- the same references, and the same S, T and C: whoever lent them knows what stands there afterwards
pub record SameLoans (old new : BooksMut) : Type 0 where
  pub size : new.numbers.size ≡ old.numbers.size
  pub client_count : new.numbers.client_count ≡ old.numbers.client_count
  pub cap : new.numbers.cap ≡ old.numbers.cap
  pub hand : new.hand.ghost_name ≡ old.hand.ghost_name
  pub free : new.free.ghost_name ≡ old.free.ghost_name
  pub last : new.last.ghost_name ≡ old.last.ghost_name
  pub slots : new.slots.ghost_name ≡ old.slots.ghost_name
  pub pages : new.pages.ghost_name ≡ old.pages.ghost_name
  pub pins : new.pins.ghost_name ≡ old.pins.ghost_name
  pub counts : new.counts.ghost_name ≡ old.counts.ghost_name
  pub table_pages : new.table_pages.ghost_name ≡ old.table_pages.ghost_name
  pub table_frames : new.table_frames.ghost_name ≡ old.table_frames.ghost_name
  pub grant_pages : new.grant_pages.ghost_name ≡ old.grant_pages.ghost_name
  pub grant_frames : new.grant_frames.ghost_name ≡ old.grant_frames.ghost_name
