-- How the pool reads after a move. A move writes at most one place of a list, so every other place reads as it did, and the lists keep their lengths;
-- the acting client's record is the move's, and every other client's is the one it had. The pool is read through its accessors alone, so what stands
-- past the part in use never matters. Assumes nothing.
use mathlib.Core.Path.{◌≡◌, refl, ap, ◌∙◌}
use mathlib.Core.Logic.{◌≢◌}
use mathlib.Core.List.{List}
use Prim.Native.Nat.{ℕ, ◌≤◌, ◌<◌}
use native.Mathlib.Omega.{arith}
use native.Mathlib.Decide.{ℕ_discrete, dec_lt}
use lib.Dec.{ltb}
use lib.ListN.{length, get_or, length-set}
use lib.Seq.{get_or-set_same, get_or-set_other}
use borrow.Author.Tests.{lt-ltb, le-ltb}
use Rattle.pool.specs.Limits.{max_frames}
use Rattle.pool.specs.Choose.{choose}
use Rattle.pool.specs.State.{none, evicted, number_of_clients, total, within, resting, no_client, slot, page, pins, count, entry_page, entry_frame, client, grant_place}
use Rattle.pool.specs.Apply.{stored, slots_after, pages_after, pins_after, counts_after, entry_pages_after, entry_frames_after, grant_pages_after, grant_frames_after}
use Rattle.pool.specs.Apply.{apply}
use Rattle.pool.specs.declared.Pool.{Pool}
use Rattle.pool.specs.declared.Client.{Client}
use Rattle.pool.specs.declared.Move.{Move}
use Rattle.pool.specs.declared.GrantChange.{GrantChange}
use Rattle.pool.specs.declared.GrantChange.TheVariants.{Same, Open, End}
use Rattle.pool.specs.declared.Write.{Write}
use Rattle.pool.specs.declared.Write.TheVariants.{Keep, PutSlot, PutPins, PutCount, TakeFrame, PutEntry, PutHand, PutFree}
use Rattle.laws.specs.Choices.{chosen, passed, by_test}
use Rattle.invariant.proofs.Reached.{Shape}

-- ---- a list of which the first n count

pub inside : (i n : ℕ) → (n ≤ i → ⊥) → i < n
inside i n z = elim (dec_lt i n) [ yes h ↦ h | no h ↦ absurd (z (omega arith)) ]

pub within_in : (l : List ℕ) (n d i : ℕ) → i < n → within l n d i ≡ get_or l i 0
unfolding within
within_in l n d i h = chosen _ _ _ (lt-ltb i n h)

pub within_past : (l : List ℕ) (n d i : ℕ) → n ≤ i → within l n d i ≡ d
unfolding within
within_past l n d i h = passed _ _ _ (le-ltb i n h)

stored_length : (l : List ℕ) (n i v : ℕ) → length (stored l n i v) ≡ length l
unfolding stored
stored_length l n i v = by_test (λ (x : List ℕ). length x ≡ length l) (λ _. length-set l i v) (λ _. refl)

-- m is the list with one element stored
module _ (l m : List ℕ) (n j v : ℕ) (e : m ≡ stored l n j v) where
  pub raw_here : j < n → n ≤ length l → get_or m j 0 ≡ v
  unfolding stored
  raw_here h r = rw (e, chosen _ _ _ (lt-ltb j n h)) (get_or-set_same l j v 0 (omega arith))

  pub raw_else : (i : ℕ) → i ≢ j → get_or m i 0 ≡ get_or l i 0
  unfolding stored
  raw_else i q = rw e (by_test (λ (x : List ℕ). get_or x i 0 ≡ get_or l i 0) (λ _. get_or-set_other l j i v 0 q) (λ _. refl))

  within_here : (d : ℕ) → j < n → n ≤ length l → within m n d j ≡ v
  within_here d h r = within_in m n d j h ∙ raw_here h r

  within_else : (d i : ℕ) → i ≢ j → within m n d i ≡ within l n d i
  unfolding within
  within_else d i q = ap (λ (x : ℕ). choose (ltb i n) x d) (raw_else i q)

-- ---- the arrays keep their lengths

slots_length : (n : ℕ) (l : List ℕ) (w : Write) → length (slots_after n l w) ≡ length l
unfolding slots_after
slots_length n l (PutSlot i f) = stored_length l n i f
slots_length n l Keep = refl
slots_length n l (PutPins f x) = refl
slots_length n l (PutCount f x) = refl
slots_length n l (TakeFrame f g x y) = refl
slots_length n l (PutEntry i g f) = refl
slots_length n l (PutHand h) = refl
slots_length n l (PutFree x) = refl

-- pages, pins and counts; pages and frames of the table
record Lengths (n : ℕ) (l : List ℕ) (w : Write) : Type 0 where
  pages : length (pages_after n l w) ≡ length l
  pins : length (pins_after n l w) ≡ length l
  counts : length (counts_after n l w) ≡ length l
  entry_pages : length (entry_pages_after n l w) ≡ length l
  entry_frames : length (entry_frames_after n l w) ≡ length l

lengths : (n : ℕ) (l : List ℕ) (w : Write) → Lengths n l w
unfolding pages_after pins_after counts_after entry_pages_after entry_frames_after
lengths n l Keep = record { pages = refl; pins = refl; counts = refl; entry_pages = refl; entry_frames = refl }
lengths n l (PutSlot i f) = record { pages = refl; pins = refl; counts = refl; entry_pages = refl; entry_frames = refl }
lengths n l (PutPins f x) = record { pages = refl; pins = stored_length l n f x; counts = refl; entry_pages = refl; entry_frames = refl }
lengths n l (PutCount f x) = record { pages = refl; pins = refl; counts = stored_length l n f x; entry_pages = refl; entry_frames = refl }
lengths n l (TakeFrame f g x y) =
    record { pages = stored_length l n f g; pins = stored_length l n f x; counts = stored_length l n f y; entry_pages = refl; entry_frames = refl }
lengths n l (PutEntry i g f) = record { pages = refl; pins = refl; counts = refl; entry_pages = stored_length l n i g; entry_frames = stored_length l n i f }
lengths n l (PutHand h) = record { pages = refl; pins = refl; counts = refl; entry_pages = refl; entry_frames = refl }
lengths n l (PutFree x) = record { pages = refl; pins = refl; counts = refl; entry_pages = refl; entry_frames = refl }

grant_pages_length : (n c : ℕ) (l : List ℕ) (g : GrantChange) → length (grant_pages_after n c l g) ≡ length l
unfolding grant_pages_after
grant_pages_length n c l Same = refl
grant_pages_length n c l (Open i g f) = stored_length l n (grant_place c i) g
grant_pages_length n c l (End i z) = stored_length l n (grant_place c i) _

grant_frames_length : (n c : ℕ) (l : List ℕ) (g : GrantChange) → length (grant_frames_after n c l g) ≡ length l
unfolding grant_frames_after
grant_frames_length n c l Same = refl
grant_frames_length n c l (Open i g f) = stored_length l n (grant_place c i) f
grant_frames_length n c l (End i z) = stored_length l n (grant_place c i) _

pub shape_next : (p : Pool) (c : ℕ) (m : Move) → Shape p → Shape (apply p c m)
unfolding apply
shape_next p c m s =
    record {
      size_low = s.size_low;
      size_high = s.size_high;
      clients_low = s.clients_low;
      clients_high = s.clients_high;
      cap_low = s.cap_low;
      cap_high = s.cap_high;
      slots = slots_length _ _ m.write ∙ s.slots;
      pages = (lengths _ _ m.write).pages ∙ s.pages;
      pins = (lengths _ _ m.write).pins ∙ s.pins;
      counts = (lengths _ _ m.write).counts ∙ s.counts;
      entry_pages = (lengths _ _ m.write).entry_pages ∙ s.entry_pages;
      entry_frames = (lengths _ _ m.write).entry_frames ∙ s.entry_frames;
      clients = length-set p.clients c m.next ∙ s.clients;
      grant_pages = grant_pages_length _ c _ m.grants ∙ s.grant_pages;
      grant_frames = grant_frames_length _ c _ m.grants ∙ s.grant_frames;
    }

-- ---- a write leaves a list, or puts one element

module _ (p : Pool) (w : Write) where
  abbrev pub SlotsStay : Type 0
  SlotsStay = slots_after p.size p.slots w ≡ p.slots

  abbrev pub PagesStay : Type 0
  PagesStay = pages_after (total p) p.pages w ≡ p.pages

  abbrev pub PinsStay : Type 0
  PinsStay = pins_after (total p) p.pins w ≡ p.pins

  abbrev pub CountsStay : Type 0
  CountsStay = counts_after (total p) p.counts w ≡ p.counts

  abbrev pub EntryPagesStay : Type 0
  EntryPagesStay = entry_pages_after (total p) p.table_pages w ≡ p.table_pages

  abbrev pub EntryFramesStay : Type 0
  EntryFramesStay = entry_frames_after (total p) p.table_frames w ≡ p.table_frames

  module _ (i v : ℕ) where
    abbrev pub SlotsPut : Type 0
    SlotsPut = slots_after p.size p.slots w ≡ stored p.slots p.size i v

    abbrev pub PagesPut : Type 0
    PagesPut = pages_after (total p) p.pages w ≡ stored p.pages (total p) i v

    abbrev pub PinsPut : Type 0
    PinsPut = pins_after (total p) p.pins w ≡ stored p.pins (total p) i v

    abbrev pub CountsPut : Type 0
    CountsPut = counts_after (total p) p.counts w ≡ stored p.counts (total p) i v

    abbrev EntryPagesPut : Type 0
    EntryPagesPut = entry_pages_after (total p) p.table_pages w ≡ stored p.table_pages (total p) i v

    abbrev EntryFramesPut : Type 0
    EntryFramesPut = entry_frames_after (total p) p.table_frames w ≡ stored p.table_frames (total p) i v

-- ---- clients

pub client_past : (p : Pool) (c : ℕ) → number_of_clients p ≤ c → client p c ≡ resting 0
unfolding client
client_past p c h = passed _ _ _ (le-ltb c (number_of_clients p) h)

-- a client of which anything is known that does not hold of one at rest is one of the pool's
pub client_here : (p : Pool) (P : Client → Type 0) (c : ℕ) → P (client p c) → (P (resting 0) → ⊥) → c < number_of_clients p
client_here p P c h no_rest = inside c (number_of_clients p) (λ l. no_rest (rw (client_past p c l) at h))

-- what a move does not write reads as it did
module _ (p : Pool) (c : ℕ) (m : Move) where
  pub client_other : (d : ℕ) → d ≢ c → client (apply p c m) d ≡ client p d
  unfolding apply client
  client_other d q = ap (λ (k : Client). choose (ltb d (number_of_clients p)) k (resting 0)) (get_or-set_other p.clients c d m.next no_client q)

  pub slot_kept : SlotsStay p m.write → (i : ℕ) → slot (apply p c m) i ≡ slot p i
  unfolding apply slot
  slot_kept e i = ap (λ (l : List ℕ). within l p.size none i) e

  pub pins_kept : PinsStay p m.write → (f : ℕ) → pins (apply p c m) f ≡ pins p f
  unfolding apply pins
  pins_kept e f = ap (λ (l : List ℕ). within l (total p) evicted f) e

  pub page_kept : PagesStay p m.write → (f : ℕ) → page (apply p c m) f ≡ page p f
  unfolding apply page
  page_kept e f = ap (λ (l : List ℕ). within l (total p) 0 f) e

  pub count_kept : CountsStay p m.write → (f : ℕ) → count (apply p c m) f ≡ count p f
  unfolding apply count
  count_kept e f = ap (λ (l : List ℕ). within l (total p) 0 f) e

  pub entry_page_kept : EntryPagesStay p m.write → (i : ℕ) → entry_page (apply p c m) i ≡ entry_page p i
  unfolding apply entry_page
  entry_page_kept e i = ap (λ (l : List ℕ). within l (total p) 0 i) e

  pub entry_frame_kept : EntryFramesStay p m.write → (i : ℕ) → entry_frame (apply p c m) i ≡ entry_frame p i
  unfolding apply entry_frame
  entry_frame_kept e i = ap (λ (l : List ℕ). within l (total p) none i) e

  -- one place is written: the others
  module _ (j v : ℕ) where
    pub slot_else : SlotsPut p m.write j v → (i : ℕ) → i ≢ j → slot (apply p c m) i ≡ slot p i
    unfolding apply slot
    slot_else e i = within_else p.slots _ p.size j v e none i

    pub pins_else : PinsPut p m.write j v → (i : ℕ) → i ≢ j → pins (apply p c m) i ≡ pins p i
    unfolding apply pins
    pins_else e i = within_else p.pins _ (total p) j v e evicted i

    pub page_else : PagesPut p m.write j v → (i : ℕ) → i ≢ j → page (apply p c m) i ≡ page p i
    unfolding apply page
    page_else e i = within_else p.pages _ (total p) j v e 0 i

    pub count_else : CountsPut p m.write j v → (i : ℕ) → i ≢ j → count (apply p c m) i ≡ count p i
    unfolding apply count
    count_else e i = within_else p.counts _ (total p) j v e 0 i

    pub entry_page_else : EntryPagesPut p m.write j v → (i : ℕ) → i ≢ j → entry_page (apply p c m) i ≡ entry_page p i
    unfolding apply entry_page
    entry_page_else e i = within_else p.table_pages _ (total p) j v e 0 i

    pub entry_frame_else : EntryFramesPut p m.write j v → (i : ℕ) → i ≢ j → entry_frame (apply p c m) i ≡ entry_frame p i
    unfolding apply entry_frame
    entry_frame_else e i = within_else p.table_frames _ (total p) j v e none i

-- and what it writes, as the lists are long enough
pub few_frames : (p : Pool) → Shape p → total p ≤ max_frames
few_frames p shape = omega (arith, shape.size_high, shape.clients_high)

module _ (p : Pool) (c : ℕ) (m : Move) (shape : Shape p) where
  pub client_same : c < number_of_clients p → client (apply p c m) c ≡ m.next
  unfolding apply client
  client_same h =
      chosen _ _ _ (lt-ltb c (number_of_clients p) h) ∙
      get_or-set_same p.clients c m.next no_client (omega (arith, shape.clients, shape.clients_high))

  -- what holds of the other clients as they were, and of the acting one as it is now, holds of all
  pub all_clients : (P : ℕ → Client → Type 0) → c < number_of_clients p → ((d : ℕ) → d ≢ c → P d (client p d)) → P c m.next
      → (d : ℕ) → P d (client (apply p c m) d)
  all_clients P h old new d = go (ℕ_discrete d c)
    where
      go : Dec (d ≡ c) → P d (client (apply p c m) d)
      go (yes e) = rw (e, client_same h) new
      go (no e) = rw (client_other p c m d e) (old d e)

  module _ (j v : ℕ) where
    pub slot_here : SlotsPut p m.write j v → j < p.size → slot (apply p c m) j ≡ v
    unfolding apply slot
    slot_here e h = within_here p.slots _ p.size j v e none h (omega (arith, shape.size_high, shape.slots))

    pub pins_here : PinsPut p m.write j v → j < total p → pins (apply p c m) j ≡ v
    unfolding apply pins
    pins_here e h = within_here p.pins _ (total p) j v e evicted h (omega (arith, few_frames p shape, shape.pins))

    pub page_here : PagesPut p m.write j v → j < total p → page (apply p c m) j ≡ v
    unfolding apply page
    page_here e h = within_here p.pages _ (total p) j v e 0 h (omega (arith, few_frames p shape, shape.pages))

    pub count_here : CountsPut p m.write j v → j < total p → count (apply p c m) j ≡ v
    unfolding apply count
    count_here e h = within_here p.counts _ (total p) j v e 0 h (omega (arith, few_frames p shape, shape.counts))

    pub entry_page_here : EntryPagesPut p m.write j v → j < total p → entry_page (apply p c m) j ≡ v
    unfolding apply entry_page
    entry_page_here e h = within_here p.table_pages _ (total p) j v e 0 h (omega (arith, few_frames p shape, shape.entry_pages))

    pub entry_frame_here : EntryFramesPut p m.write j v → j < total p → entry_frame (apply p c m) j ≡ v
    unfolding apply entry_frame
    entry_frame_here e h = within_here p.table_frames _ (total p) j v e none h (omega (arith, few_frames p shape, shape.entry_frames))

-- ---- past the part that the pool has

pub slot_past : (p : Pool) (i : ℕ) → p.size ≤ i → slot p i ≡ none
unfolding slot
slot_past p i h = within_past p.slots p.size none i h

pub pins_past : (p : Pool) (f : ℕ) → total p ≤ f → pins p f ≡ evicted
unfolding pins
pins_past p f h = within_past p.pins (total p) evicted f h

pub count_past : (p : Pool) (f : ℕ) → total p ≤ f → count p f ≡ 0
unfolding count
count_past p f h = within_past p.counts (total p) 0 f h

pub entry_frame_past : (p : Pool) (i : ℕ) → total p ≤ i → entry_frame p i ≡ none
unfolding entry_frame
entry_frame_past p i h = within_past p.table_frames (total p) none i h

-- what is not neutral stands in the pool
module _ (p : Pool) (i : ℕ) where
  pub slot_in : slot p i ≢ none → i < p.size
  slot_in z = inside i p.size (λ h. z (slot_past p i h))

  pub pins_in : pins p i ≢ evicted → i < total p
  pins_in z = inside i (total p) (λ h. z (pins_past p i h))

  pub entry_in : entry_frame p i ≢ none → i < total p
  entry_in z = inside i (total p) (λ h. z (entry_frame_past p i h))
