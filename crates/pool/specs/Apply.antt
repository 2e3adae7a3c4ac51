-- What a move leaves of each part of the pool, and the pool after it. A write past the part that the pool has changes nothing.
-- Assumes nothing.
use Rattle.std.specs.Prelude.{List, ℕ, ◌*◌, ltb, set}
use Rattle.pool.specs.Limits.{max_held}
use Rattle.pool.specs.Choose.{choose}
use Rattle.pool.specs.State.{number_of_clients, total, within, grant_place}
use Rattle.pool.specs.declared.Pool.{Pool}
use Rattle.pool.specs.declared.Move.{Move}
use Rattle.pool.specs.declared.GrantChange.{GrantChange}
use Rattle.pool.specs.declared.GrantChange.TheVariants.{Same, Open, End}
use Rattle.pool.specs.declared.Write.{Write}
use Rattle.pool.specs.declared.Write.TheVariants.{Keep, PutSlot, PutPins, PutCount, TakeFrame, PutEntry, PutHand, PutFree}

-- the list with element i of its first n replaced; unchanged where i is past them
unfoldable pub stored : List ℕ → ℕ → ℕ → ℕ → List ℕ
stored l n i v = choose (ltb i n) (set l i v) l

module _ (n : ℕ) (l : List ℕ) where
  unfoldable pub slots_after : Write → List ℕ
  slots_after Keep = l
  slots_after (PutSlot i f) = stored l n i f
  slots_after (PutPins f x) = l
  slots_after (PutCount f x) = l
  slots_after (TakeFrame f g x y) = l
  slots_after (PutEntry i g f) = l
  slots_after (PutHand h) = l
  slots_after (PutFree x) = l

  unfoldable pub pages_after : Write → List ℕ
  pages_after Keep = l
  pages_after (PutSlot i f) = l
  pages_after (PutPins f x) = l
  pages_after (PutCount f x) = l
  pages_after (TakeFrame f g x y) = stored l n f g
  pages_after (PutEntry i g f) = l
  pages_after (PutHand h) = l
  pages_after (PutFree x) = l

  unfoldable pub pins_after : Write → List ℕ
  pins_after Keep = l
  pins_after (PutSlot i f) = l
  pins_after (PutPins f x) = stored l n f x
  pins_after (PutCount f x) = l
  pins_after (TakeFrame f g x y) = stored l n f x
  pins_after (PutEntry i g f) = l
  pins_after (PutHand h) = l
  pins_after (PutFree x) = l

  unfoldable pub counts_after : Write → List ℕ
  counts_after Keep = l
  counts_after (PutSlot i f) = l
  counts_after (PutPins f x) = l
  counts_after (PutCount f x) = stored l n f x
  counts_after (TakeFrame f g x y) = stored l n f y
  counts_after (PutEntry i g f) = l
  counts_after (PutHand h) = l
  counts_after (PutFree x) = l

  unfoldable pub entry_pages_after : Write → List ℕ
  entry_pages_after Keep = l
  entry_pages_after (PutSlot i f) = l
  entry_pages_after (PutPins f x) = l
  entry_pages_after (PutCount f x) = l
  entry_pages_after (TakeFrame f g x y) = l
  entry_pages_after (PutEntry i g f) = stored l n i g
  entry_pages_after (PutHand h) = l
  entry_pages_after (PutFree x) = l

  unfoldable pub entry_frames_after : Write → List ℕ
  entry_frames_after Keep = l
  entry_frames_after (PutSlot i f) = l
  entry_frames_after (PutPins f x) = l
  entry_frames_after (PutCount f x) = l
  entry_frames_after (TakeFrame f g x y) = l
  entry_frames_after (PutEntry i g f) = stored l n i f
  entry_frames_after (PutHand h) = l
  entry_frames_after (PutFree x) = l

module _ (x : ℕ) where
  unfoldable pub hand_after : Write → ℕ
  hand_after Keep = x
  hand_after (PutSlot i f) = x
  hand_after (PutPins f y) = x
  hand_after (PutCount f y) = x
  hand_after (TakeFrame f g y z) = x
  hand_after (PutEntry i g f) = x
  hand_after (PutHand h) = h
  hand_after (PutFree y) = x

  unfoldable pub free_after : Write → ℕ
  free_after Keep = x
  free_after (PutSlot i f) = x
  free_after (PutPins f y) = x
  free_after (PutCount f y) = x
  free_after (TakeFrame f g y z) = x
  free_after (PutEntry i g f) = x
  free_after (PutHand h) = x
  free_after (PutFree y) = y

  unfoldable pub last_after : Write → ℕ
  last_after Keep = x
  last_after (PutSlot i f) = x
  last_after (PutPins f y) = x
  last_after (PutCount f y) = x
  last_after (TakeFrame f g y z) = f
  last_after (PutEntry i g f) = x
  last_after (PutHand h) = x
  last_after (PutFree y) = x

-- of n places for grants, those of client c
module _ (n c : ℕ) (l : List ℕ) where
  unfoldable pub grant_pages_after : GrantChange → List ℕ
  grant_pages_after Same = l
  grant_pages_after (Open i g f) = stored l n (grant_place c i) g
  grant_pages_after (End i last) = stored l n (grant_place c i) (within l n 0 (grant_place c last))

  unfoldable pub grant_frames_after : GrantChange → List ℕ
  grant_frames_after Same = l
  grant_frames_after (Open i g f) = stored l n (grant_place c i) f
  grant_frames_after (End i last) = stored l n (grant_place c i) (within l n 0 (grant_place c last))

-- SPECIFICATION 1.9: the pool after a move of client c
unfoldable pub apply : Pool → ℕ → Move → Pool
apply p c m =
    record {
      size = p.size;
      client_count = p.client_count;
      cap = p.cap;
      hand = hand_after p.hand m.write;
      free = free_after p.free m.write;
      last = last_after p.last m.write;
      slots = slots_after p.size p.slots m.write;
      pages = pages_after (total p) p.pages m.write;
      pins = pins_after (total p) p.pins m.write;
      counts = counts_after (total p) p.counts m.write;
      table_pages = entry_pages_after (total p) p.table_pages m.write;
      table_frames = entry_frames_after (total p) p.table_frames m.write;
      clients = set p.clients c m.next;
      grant_pages = grant_pages_after (max_held * number_of_clients p) c p.grant_pages m.grants;
      grant_frames = grant_frames_after (max_held * number_of_clients p) c p.grant_frames m.grants;
    }
