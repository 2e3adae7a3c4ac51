-- A pool put together from its parts, and that its parts as a move leaves each of them are the pool after the move. Assumes nothing.
use Rattle.std.specs.Prelude.{◌≡◌, List, ℕ, ◌*◌, set}
use Rattle.pool.specs.Limits.{max_held}
use Rattle.pool.specs.State.{number_of_clients, total}
use Rattle.pool.specs.Apply.{slots_after, pages_after, pins_after, counts_after, entry_pages_after, entry_frames_after, hand_after, free_after, last_after}
use Rattle.pool.specs.Apply.{grant_pages_after, grant_frames_after, apply}
use Rattle.pool.specs.declared.Client.{Client}
use Rattle.pool.specs.declared.Move.{Move}
use Rattle.pool.specs.declared.Pool.{Pool}

abbrev pub pool_of : ℕ → ℕ → ℕ → ℕ → ℕ → ℕ → List ℕ → List ℕ → List ℕ → List ℕ → List ℕ → List ℕ → List Client → List ℕ → List ℕ → Pool
pool_of size count cap hand free last slots pages pins counts table_pages table_frames clients grant_pages grant_frames =
    record {
      size = size;
      client_count = count;
      cap = cap;
      hand = hand;
      free = free;
      last = last;
      slots = slots;
      pages = pages;
      pins = pins;
      counts = counts;
      table_pages = table_pages;
      table_frames = table_frames;
      clients = clients;
      grant_pages = grant_pages;
      grant_frames = grant_frames;
    }

-- with other clients that are the same
pub same_clients : {size count cap hand free last : ℕ} {slots pages pins counts table_pages table_frames grant_pages grant_frames : List ℕ} {l k : List Client}
    {q : Pool} → l ≡ k → pool_of size count cap hand free last slots pages pins counts table_pages table_frames k grant_pages grant_frames ≡ q
    → pool_of size count cap hand free last slots pages pins counts table_pages table_frames l grant_pages grant_frames ≡ q
same_clients e f = rw e f

-- n is the number of the pool's frames
pub applied : (p : Pool) (c n : ℕ) (m : Move) →
    {hand free last : ℕ} {slots pages pins counts table_pages table_frames grant_pages grant_frames : List ℕ} →
    n ≡ total p →
    hand ≡ hand_after p.hand m.write →
    free ≡ free_after p.free m.write →
    last ≡ last_after p.last m.write →
    slots ≡ slots_after p.size p.slots m.write →
    pages ≡ pages_after n p.pages m.write →
    pins ≡ pins_after n p.pins m.write →
    counts ≡ counts_after n p.counts m.write →
    table_pages ≡ entry_pages_after n p.table_pages m.write →
    table_frames ≡ entry_frames_after n p.table_frames m.write →
    grant_pages ≡ grant_pages_after (max_held * number_of_clients p) c p.grant_pages m.grants →
    grant_frames ≡ grant_frames_after (max_held * number_of_clients p) c p.grant_frames m.grants →
    pool_of p.size (number_of_clients p) p.cap hand free last slots pages pins counts table_pages table_frames
    (set p.clients c m.next) grant_pages grant_frames ≡ apply p c m
unfolding apply
applied p c n m e0 e1 e2 e3 e4 e5 e6 e7 e8 e9 e10 e11 = simp (e1, e2, e3, e4, e5, e6, e7, e8, e9, e10, e11, e0)
