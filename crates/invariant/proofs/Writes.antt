-- Which lists a write leaves as they are: a `counters_only` one all that the slots, the frames' pages and pins, and the table are read from; and any write
-- but that of an entry leaves the table, and so every look-up. Assumes nothing.
use mathlib.Core.Path.{◌≡◌, refl}
use mathlib.Core.Bool.{Bool, not}
use mathlib.Core.List.{List}
use Prim.Native.Nat.{ℕ}
use lib.Dec.{T, eqb}
use Rattle.pool.specs.State.{total, entry_page, entry_frame}
use Rattle.pool.specs.Table.{maps, entry_of, lookup}
use Rattle.pool.specs.Apply.{slots_after, pages_after, pins_after, entry_pages_after, entry_frames_after, apply}
use Rattle.pool.specs.declared.Pool.{Pool}
use Rattle.pool.specs.declared.Move.{Move}
use Rattle.pool.specs.declared.Write.{Write}
use Rattle.pool.specs.declared.Write.TheVariants.{Keep, PutSlot, PutPins, PutCount, TakeFrame, PutEntry, PutHand, PutFree}

-- what a write touches besides counters: 0 nothing, 1 a slot, 2 a frame, 3 an entry
abbrev touched : Write → ℕ
touched Keep = 0
touched (PutSlot i f) = 1
touched (PutPins f x) = 2
touched (PutCount f x) = 0
touched (TakeFrame f g x y) = 2
touched (PutEntry i g f) = 3
touched (PutHand h) = 0
touched (PutFree x) = 0

abbrev pub counters_only : Write → Bool
counters_only w = eqb (touched w) 0

abbrev pub keeps_table : Write → Bool
keeps_table w = not (eqb (touched w) 3)

-- whichever list it is, of which the first n count
pub record Untouched (n : ℕ) (l : List ℕ) (w : Write) : Type 0 where
  pub slots : slots_after n l w ≡ l
  pub pages : pages_after n l w ≡ l
  pub pins : pins_after n l w ≡ l
  pub entry_pages : entry_pages_after n l w ≡ l
  pub entry_frames : entry_frames_after n l w ≡ l
  pub table : T (keeps_table w)

pub untouched : (n : ℕ) (l : List ℕ) (w : Write) → T (counters_only w) → Untouched n l w
unfolding slots_after pages_after pins_after entry_pages_after entry_frames_after
untouched n l Keep t = record { slots = refl; pages = refl; pins = refl; entry_pages = refl; entry_frames = refl; table = tt }
untouched n l (PutCount f x) t = record { slots = refl; pages = refl; pins = refl; entry_pages = refl; entry_frames = refl; table = tt }
untouched n l (PutHand h) t = record { slots = refl; pages = refl; pins = refl; entry_pages = refl; entry_frames = refl; table = tt }
untouched n l (PutFree x) t = record { slots = refl; pages = refl; pins = refl; entry_pages = refl; entry_frames = refl; table = tt }
untouched n l (PutSlot i f) t = absurd t
untouched n l (PutPins f x) t = absurd t
untouched n l (TakeFrame f g x y) t = absurd t
untouched n l (PutEntry i g f) t = absurd t

pub table_kept : (w : Write) → T (keeps_table w) → (n : ℕ) (l : List ℕ) → (entry_pages_after n l w ≡ l) × (entry_frames_after n l w ≡ l)
unfolding entry_pages_after entry_frames_after
table_kept Keep t n l = (refl, refl)
table_kept (PutSlot i f) t n l = (refl, refl)
table_kept (PutPins f x) t n l = (refl, refl)
table_kept (PutCount f x) t n l = (refl, refl)
table_kept (TakeFrame f g x y) t n l = (refl, refl)
table_kept (PutEntry i g f) t n l = absurd t
table_kept (PutHand h) t n l = (refl, refl)
table_kept (PutFree x) t n l = (refl, refl)

pub lookup_kept : (p : Pool) (c : ℕ) (m : Move) → T (keeps_table m.write) → (g : ℕ) → lookup (apply p c m) g ≡ lookup p g
unfolding apply lookup entry_of maps entry_page entry_frame
lookup_kept p c m t g = rw ((table_kept m.write t (total p) p.table_pages).0, (table_kept m.write t (total p) p.table_frames).1) refl
