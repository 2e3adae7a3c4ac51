-- The invariant: what holds of every pool that comes from setup and calls. One record, its clauses grouped by layer, each named. Definitions
-- only: the proofs stand in the layers' own files. Assumes nothing.
use mathlib.Core.Path.{◌≡◌}
use mathlib.Core.Logic.{◌≢◌, ◌⊎◌}
use mathlib.Core.Bool.{Bool, true, false, not, ◌&&◌, ◌||◌}
use mathlib.Core.List.{List, [], ◌∷◌}
use Prim.Native.Nat.{ℕ, zero, suc, ◌+◌, ◌≤◌, ◌<◌}
use lib.Dec.{T, eqb, leb}
use lib.ListN.{length, get_or}
use Rattle.pool.specs.Limits.{max_size, max_clients, max_cap, max_held, max_frames, max_grants}
use Rattle.pool.specs.Choose.{scan}
use Rattle.pool.specs.State.{none, evicted, pinned, number_of_clients, total, slot, page, pins, count, entry_page, entry_frame, client, grant_page, grant_frame}
use Rattle.pool.specs.Valid.{uses_own, uses_found, uses_victim}
use Rattle.pool.specs.declared.Pool.{Pool}
use Rattle.pool.specs.declared.Client.{Client}

-- ---- words

abbrev pub one : Bool → ℕ
one true = 1
one false = 0

unfoldable pub sum_to : (ℕ → ℕ) → ℕ → ℕ
sum_to g zero = 0
sum_to g (suc n) = sum_to g n + g n

-- no two places have the same number, the neutral one z aside
abbrev pub Distinct : (ℕ → ℕ) → ℕ → Type 0
Distinct g z = (i j : ℕ) → g i ≢ z → g i ≡ g j → i ≡ j

-- The table by frame: one more than the page that is mapped to a frame, 0 where none is. No frame is in two entries (`entries_distinct`).
unfoldable pub mapped : Pool → ℕ → ℕ
mapped p f = scan (λ i. eqb (entry_frame p i) f) (λ i. suc (entry_page p i)) 0 0 (total p)

-- a frame stands in a slot
abbrev pub InSlot : Pool → ℕ → Type 0
InSlot p f = (i : ℕ) × (slot p i ≡ f)

-- ---- stages

-- the own frame has no slot yet
abbrev pub unplaced : ℕ → Bool
unplaced s = (leb 5 s && leb s 8) || (leb 10 s && leb s 15)

-- a client has no own frame, no found frame, no victim: its stage uses none
abbrev pub ownless : ℕ → Bool
ownless s = not (uses_own s)

abbrev pub foundless : ℕ → Bool
foundless s = not (uses_found s)

abbrev pub victimless : ℕ → Bool
victimless s = not (uses_victim s)

-- the found frame is pinned for this client, and no grant names it yet
abbrev pub pins_found : ℕ → Bool
pins_found s = eqb s 3 || eqb s 20 || eqb s 21

-- the victim is taken out of its slot and may still be in the table
abbrev pub unmapping : ℕ → Bool
unmapping s = eqb s 16 || eqb s 17

-- the client has claimed an empty slot and not filled it
abbrev pub filling : ℕ → Bool
filling s = eqb s 7 || eqb s 8

-- the client examines a victim, which stands in no slot but its place
abbrev pub examining : ℕ → Bool
examining s = leb 12 s && leb s 15

-- ---- open grants of a page; claims on a frame: open grants, the found frame where it is pinned for this client, the own frame

unfoldable pub grants_of : Pool → ℕ → ℕ → ℕ
grants_of p c g = sum_to (λ i. one (eqb (grant_page p c i) g)) (client p c).held

unfoldable pub grants_on : Pool → ℕ → ℕ → ℕ
grants_on p c f = sum_to (λ i. one (eqb (grant_frame p c i) f)) (client p c).held

abbrev pub claims : Pool → ℕ → ℕ → ℕ
claims p c f = let k = client p c in grants_on p c f + one (pins_found k.stage && eqb k.found f) + one (eqb k.own f)

unfoldable pub claimed : Pool → ℕ → ℕ
claimed p f = sum_to (λ c. claims p c f) (number_of_clients p)

-- A frame that nothing but a victim may name: no slot, no table entry, no client's own or found frame and no grant does. Refusal 15 leaves one,
-- with its pins.
pub record Orphan (p : Pool) (f : ℕ) : Type 0 where
  pub no_slot : (i : ℕ) → slot p i ≢ f
  pub unmapped : mapped p f ≡ 0
  pub unowned : (c : ℕ) → (client p c).own ≢ f
  pub unfound : (c : ℕ) → (client p c).found ≢ f
  pub ungranted : (c i : ℕ) → grant_frame p c i ≢ f

-- how a frame's pins, as stored, and the claims on it go together
pub data Balance (p : Pool) (f q w : ℕ) : Type 0 where
  unclaimed : q ≡ evicted → w ≡ 0 → Balance p f q w
  counted : q ≡ suc w → Balance p f q w
  orphan : Orphan p f → Balance p f q w

-- ---- what a client knows at its stage, whatever the others do

abbrev pub Know : Type 1
Know = Pool → Client → Type 0

abbrev pub Owns : Know
Owns p k = k.own ≢ none

abbrev pub Placed : Know
Placed p k = (k.own ≢ none) × InSlot p k.own

-- the found frame is the page's, if it is not evicted
abbrev pub FoundMapped : Know
FoundMapped p k = (k.found ≢ none) × (pins p k.found ≢ evicted → mapped p k.found ≡ suc k.page)

abbrev pub FoundEvicted : Know
FoundEvicted p k = (k.found ≢ none) × (pins p k.found ≡ evicted)

-- the victim stands in a slot, if it is not evicted
abbrev pub VictimInSlot : Know
VictimInSlot p k = (k.victim ≢ none) × (pins p k.victim ≢ evicted → InSlot p k.victim)

abbrev pub VictimEvicted : Know
VictimEvicted p k = (k.victim ≢ none) × (pins p k.victim ≡ evicted)

abbrev pub Nothing : Know
Nothing p k = Unit {0}

infixr 35 ◌and◌
abbrev pub ◌and◌ : Know → Know → Know
◌and◌ x y p k = x p k × y p k

-- at stage 0, 1, 2 and so on
abbrev pub knows : List Know
knows =
    Nothing ∷ Nothing ∷ FoundMapped ∷ FoundMapped ∷ Nothing ∷ Owns ∷ Owns ∷ Owns ∷ Owns ∷ Placed ∷ Owns ∷ Owns ∷ (Owns and VictimInSlot) ∷
    (Owns and VictimInSlot) ∷ (Owns and VictimInSlot) ∷ (Owns and VictimEvicted) ∷ (Placed and VictimEvicted) ∷ (Placed and VictimEvicted) ∷ Placed ∷
    (Placed and FoundMapped) ∷ (Placed and FoundMapped) ∷ FoundMapped ∷ (Placed and FoundEvicted) ∷ Placed ∷ []

abbrev pub Knows : ℕ → Know
Knows s = get_or knows s Nothing

-- ---- the layers

-- the arrays are as long as the largest pool needs, and the numbers of the setup are in range
pub record Shape (p : Pool) : Type 0 where
  pub size_low : 1 ≤ p.size
  pub size_high : p.size ≤ max_size
  pub clients_low : 1 ≤ number_of_clients p
  pub clients_high : number_of_clients p ≤ max_clients
  pub cap_low : 1 ≤ p.cap
  pub cap_high : p.cap ≤ max_cap
  pub slots : length p.slots ≡ max_size
  pub pages : length p.pages ≡ max_frames
  pub pins : length p.pins ≡ max_frames
  pub counts : length p.counts ≡ max_frames
  pub entry_pages : length p.table_pages ≡ max_frames
  pub entry_frames : length p.table_frames ≡ max_frames
  pub clients : length p.clients ≡ max_clients
  pub grant_pages : length p.grant_pages ≡ max_grants
  pub grant_frames : length p.grant_frames ≡ max_grants

-- ranges, for every client of the pool
pub record Ranges (p : Pool) : Type 0 where
  pub free_ok : p.free ≤ p.size
  pub last_ok : (p.last ≡ none) ⊎ (p.last < total p)
  pub stage_ok : (c : ℕ) → (client p c).stage ≤ 23
  pub place_ok : (c : ℕ) → (client p c).place < p.size
  pub busy_ok : (c : ℕ) → (client p c).busy < p.size
  pub seen_ok : (c : ℕ) → (client p c).seen ≤ p.size
  pub held_ok : (c : ℕ) → (client p c).held ≤ max_held
  pub working_held : (c : ℕ) → (client p c).stage ≢ 0 → (client p c).held < max_held
  pub pins_ok : (f : ℕ) → pins p f ≤ pinned (number_of_clients p)
  pub count_ok : (f : ℕ) → count p f ≤ p.cap
  pub slot_ok : (i : ℕ) → slot p i ≢ none → slot p i < total p
  pub entry_ok : (i : ℕ) → entry_frame p i ≢ none → entry_frame p i < total p
  pub own_ok : (c : ℕ) → (client p c).own ≢ none → (client p c).own < total p
  pub found_ok : (c : ℕ) → (client p c).found ≢ none → (client p c).found < total p
  pub victim_ok : (c : ℕ) → (client p c).victim ≢ none → (client p c).victim < total p
  pub grant_ok : (c i : ℕ) → grant_frame p c i ≢ none → grant_frame p c i < total p

-- one grant per client and page: none is begun that is held
pub record Singles (p : Pool) : Type 0 where
  pub one_each : (c g : ℕ) → grants_of p c g ≤ 1
  pub wanted_unheld : (c : ℕ) → (client p c).stage ≢ 0 → grants_of p c (client p c).page ≡ 0

-- where frames stand
pub record Places (p : Pool) : Type 0 where
  pub slots_distinct : Distinct (slot p) none
  pub owns_distinct : Distinct (λ c. (client p c).own) none
  pub unplaced_no_slot : (c i : ℕ) → T (unplaced (client p c).stage) → (client p c).own ≢ none → slot p i ≢ (client p c).own

-- the own frame is in no entry and nobody else's
pub record Private (p : Pool) : Type 0 where
  pub own_unmapped : (c : ℕ) → (client p c).own ≢ none → mapped p (client p c).own ≡ 0
  pub own_unfound : (c d : ℕ) → (client p c).own ≢ none → (client p d).found ≢ (client p c).own
  pub own_ungranted : (c d i : ℕ) → (client p c).own ≢ none → grant_frame p d i ≢ (client p c).own

-- pins and claims
pub record PinCounts (p : Pool) : Type 0 where
  pub owns_none : (c : ℕ) → T (ownless (client p c).stage) → (client p c).own ≡ none
  pub balance : (f : ℕ) → f ≢ none → Balance p f (pins p f) (claimed p f)

-- the table, and what each client knows
pub record Mapping (p : Pool) : Type 0 where
  pub entries_distinct : Distinct (entry_frame p) none
  pub pages_distinct : (i j : ℕ) → entry_frame p i ≢ none → entry_frame p j ≢ none → entry_page p i ≡ entry_page p j → i ≡ j
  pub grant_mapped : (c i : ℕ) → grant_frame p c i ≢ none → mapped p (grant_frame p c i) ≡ suc (grant_page p c i)
  pub grant_named : (c i : ℕ) → i < (client p c).held → grant_frame p c i ≢ none
  pub knowing : (c : ℕ) → Knows (client p c).stage p (client p c)
  pub resident_in_slot : (f : ℕ) → f ≢ none → pins p f ≢ evicted → mapped p f ≢ 0 → InSlot p f
  pub mapped_or_owned : (f : ℕ) → f ≢ none → pins p f ≢ evicted → (mapped p f ≢ 0) ⊎ (((c : ℕ) × ((client p c).own ≡ f)) ⊎ Orphan p f)
  pub no_found : (c : ℕ) → T (foundless (client p c).stage) → (client p c).found ≡ none
  pub no_victim : (c : ℕ) → T (victimless (client p c).stage) → (client p c).victim ≡ none
  pub own_page : (c : ℕ) → (client p c).own ≢ none → page p (client p c).own ≡ (client p c).page
  pub mapped_page : (f g : ℕ) → f ≢ none → mapped p f ≡ suc g → page p f ≡ g

-- a client will remove frame f's entry: it has the frame for its victim and stands at 16 or 17, or at 15 with the frame in its slot
abbrev pub WillUnmap : Pool → Client → ℕ → Type 0
WillUnmap p k f = (k.victim ≡ f) × (T (unmapping k.stage) ⊎ ((k.stage ≡ 15) × (slot p k.place ≡ f)))

-- empty slots, victims, evicted frames in the table
pub record Evictions (p : Pool) : Type 0 where
  pub empties : sum_to (λ i. one (eqb (slot p i) none)) p.size ≡ p.free + sum_to (λ c. one (filling (client p c).stage)) (number_of_clients p)
  pub six_seen : (c : ℕ) → (client p c).stage ≡ 6 → (client p c).seen ≢ 0
  pub victim_place : (c i : ℕ) → T (examining (client p c).stage) → (client p c).victim ≢ none → slot p i ≡ (client p c).victim → i ≡ (client p c).place
  pub evicted_mapped : (f : ℕ) → f ≢ none → mapped p f ≢ 0 → pins p f ≡ evicted → (c : ℕ) × WillUnmap p (client p c) f

pub record Reached (p : Pool) : Type 0 where
  pub shape : Shape p
  pub ranges : Ranges p
  pub singles : Singles p
  pub places : Places p
  pub private : Private p
  pub pin_counts : PinCounts p
  pub mapping : Mapping p
  pub evictions : Evictions p
