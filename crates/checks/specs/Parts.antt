-- Check 8 over the lists and numbers that it looks at; what it does not look at may be anything. Assumes nothing.
use Rattle.std.specs.Prelude.{◌≡◌, refl, Bool, List, [], ℕ}
use Rattle.pool.specs.Choose.{both}
use Rattle.pool.specs.State.{number_of_clients, slot, pins, count, page, entry_page, entry_frame, client, grant_page, grant_frame}
use Rattle.pool.specs.Table.{maps, entry_of}
use Rattle.pool.specs.Grants.{grant_of}
use Rattle.pool.specs.Valid.{client_ok, valid}
use Rattle.pool.specs.declared.Pool.{Pool}
use Rattle.pool.specs.declared.Client.{Client}
use Rattle.memory.specs.Memory.{is_filled, is_changed}
use Rattle.memory.specs.Requests.{entry_inside, client_inside, pages_inside, unmarked_at, marks_ok, bytes_ok}
use Rattle.memory.specs.declared.Memory.{Memory}
use Rattle.laws.specs.Choices.{both_are}

-- a pool with the parts that check 8 looks at
abbrev pub parts_of : ℕ → ℕ → ℕ → ℕ → ℕ → List ℕ → List ℕ → List ℕ → List ℕ → List ℕ → List Client → List ℕ → List ℕ → Pool
parts_of size count cap free last slots pins counts table_pages table_frames clients grant_pages grant_frames =
    record {
      size = size;
      client_count = count;
      cap = cap;
      hand = 0;
      free = free;
      last = last;
      slots = slots;
      pages = [];
      pins = pins;
      counts = counts;
      table_pages = table_pages;
      table_frames = table_frames;
      clients = clients;
      grant_pages = grant_pages;
      grant_frames = grant_frames;
    }

-- Check 8 of a pool with these parts. It looks neither at the hand nor at the frames' pages, so that they may be anything.
unfoldable pub valid_in : ℕ → ℕ → ℕ → ℕ → ℕ → List ℕ → List ℕ → List ℕ → List ℕ → List ℕ → List Client → List ℕ → List ℕ → Bool
valid_in size count cap free last slots pins counts table_pages table_frames clients grant_pages grant_frames =
    valid (parts_of size count cap free last slots pins counts table_pages table_frames clients grant_pages grant_frames)

pub of_parts : (p : Pool) →
    valid_in p.size (number_of_clients p) p.cap p.free p.last p.slots p.pins p.counts p.table_pages p.table_frames p.clients
    p.grant_pages p.grant_frames ≡ valid p
unfolding valid_in valid client_ok slot pins count entry_page entry_frame client grant_page grant_frame maps entry_of grant_of
of_parts p = refl

-- ---- of a pool that has bytes

-- a pool with the parts that the test of the bytes looks at
abbrev pub books_of : ℕ → ℕ → List ℕ → List ℕ → List ℕ → List Client → List ℕ → Pool
books_of size count pages table_pages table_frames clients grant_pages =
    record {
      size = size;
      client_count = count;
      cap = 0;
      hand = 0;
      free = 0;
      last = 0;
      slots = [];
      pages = pages;
      pins = [];
      counts = [];
      table_pages = table_pages;
      table_frames = table_frames;
      clients = clients;
      grant_pages = grant_pages;
      grant_frames = [];
    }

abbrev pub marks_of : ℕ → List ℕ → List ℕ → Memory
marks_of pages filled changed = record { pages = pages; bytes = []; filled = filled; changed = changed }

unfoldable pub bytes_ok_in : ℕ → ℕ → List ℕ → List ℕ → List ℕ → List Client → List ℕ → ℕ → List ℕ → List ℕ → Bool
bytes_ok_in size count frame_pages table_pages table_frames clients grant_pages pages filled changed =
    bytes_ok (books_of size count frame_pages table_pages table_frames clients grant_pages) (marks_of pages filled changed)

-- check 8 of a pool that has bytes
abbrev pub sound_in : ℕ → ℕ → ℕ → ℕ → ℕ → List ℕ → List ℕ → List ℕ → List ℕ → List ℕ → List ℕ → List Client → List ℕ → List ℕ → ℕ → List ℕ
    → List ℕ → Bool
sound_in size count cap free last slots frame_pages pins counts table_pages table_frames clients grant_pages grant_frames pages filled changed =
    both (valid_in size count cap free last slots pins counts table_pages table_frames clients grant_pages grant_frames)
    (bytes_ok_in size count frame_pages table_pages table_frames clients grant_pages pages filled changed)

of_bytes : (p : Pool) (m : Memory) →
    bytes_ok_in p.size (number_of_clients p) p.pages p.table_pages p.table_frames p.clients p.grant_pages m.pages m.filled m.changed
    ≡ bytes_ok p m
unfolding
    bytes_ok_in bytes_ok pages_inside entry_inside client_inside marks_ok unmarked_at is_filled is_changed page entry_page entry_frame client grant_page
of_bytes p m = refl

pub of_sound : (p : Pool) (m : Memory) →
    sound_in p.size (number_of_clients p) p.cap p.free p.last p.slots p.pages p.pins p.counts p.table_pages p.table_frames
    p.clients p.grant_pages p.grant_frames m.pages m.filled m.changed ≡ both (valid p) (bytes_ok p m)
of_sound p m = both_are refl (of_parts p) (of_bytes p m)
