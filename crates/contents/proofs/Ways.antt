-- What each kind of move is to the bytes and to page numbers: it writes nothing that they see, takes a frame, or removes or puts a page's entry.
-- Assumes nothing.
use mathlib.Core.Path.{◌≡◌, refl, sym, ◌∙◌}
use mathlib.Core.Logic.{◌≢◌, ◌⊎◌, inl, inr}
use mathlib.Core.Bool.{Bool, true, false, not}
use mathlib.Core.List.{List}
use Prim.Native.Nat.{ℕ, ◌<◌}
use lib.Dec.{T, eqb}
use Rattle.pool.specs.State.{none, pinned, total, page, entry_frame, client}
use Rattle.pool.specs.Table.{lookup}
use Rattle.pool.specs.Frames.{referenced, free_frame}
use Rattle.pool.specs.Apply.{pages_after}
use Rattle.pool.specs.declared.Pool.{Pool}
use Rattle.pool.specs.declared.Client.{Client}
use Rattle.pool.specs.declared.Move.{Move}
use Rattle.pool.specs.declared.GrantChange.TheVariants.{Same, Open}
use Rattle.pool.specs.declared.Write.{Write}
use Rattle.pool.specs.declared.Write.TheVariants.{Keep, PutSlot, PutPins, PutCount, TakeFrame, PutEntry, PutHand, PutFree}
use Rattle.invariant.proofs.Reached.{Reached}
use Rattle.invariant.proofs.After.{PagesStay}
use Rattle.invariant.proofs.Writes.{keeps_table}
use Rattle.invariant.proofs.StageTests.{differ}
use Rattle.invariant.proofs.Searches.{lookup_found, unused_found, free_found}
use Rattle.invariant.proofs.NeverFails.{mover}
use Rattle.invariant.proofs.Edges.{CountersOnly, keep, hand, counts, free, Edge, moves_on, found1, found18, forgets2, forgets22, pins2, pins19}
use Rattle.invariant.proofs.Edges.{gets3, gets21, takes, fills, replaces, refuses, evicts14, removes, admits, revives, evicts20, evicts23, begins, releases}
use Rattle.invariant.proofs.Effects.{no_open, ends_no_open}
use Rattle.memory.specs.Memory.{memory_after, store_after}
use Rattle.memory.specs.Requests.{refused}
use Rattle.memory.specs.declared.Memory.{Memory}

-- a write that leaves bytes, marks, store, table and the frames' pages
unfoldable pub apart : Write → Bool
apart Keep = true
apart (PutSlot i f) = true
apart (PutPins f x) = true
apart (PutCount f x) = true
apart (TakeFrame f g x y) = false
apart (PutEntry i g f) = false
apart (PutHand h) = true
apart (PutFree x) = true

pub record Apart (p : Pool) (w : Write) : Type 0 where
  pub table : T (keeps_table w)
  pub pages : PagesStay p w
  pub memory : (m : Memory) → memory_after p m w ≡ m
  pub store : (m : Memory) (s : List ℕ) → store_after p m s w ≡ s

pub apart_means : (p : Pool) (w : Write) → T (apart w) → Apart p w
unfolding apart pages_after memory_after store_after
apart_means p Keep t = record { table = tt; pages = refl; memory = λ _. refl; store = λ _ _. refl }
apart_means p (PutSlot i f) t = record { table = tt; pages = refl; memory = λ _. refl; store = λ _ _. refl }
apart_means p (PutPins f x) t = record { table = tt; pages = refl; memory = λ _. refl; store = λ _ _. refl }
apart_means p (PutCount f x) t = record { table = tt; pages = refl; memory = λ _. refl; store = λ _ _. refl }
apart_means p (TakeFrame f g x y) t = absurd t
apart_means p (PutEntry i g f) t = absurd t
apart_means p (PutHand h) t = record { table = tt; pages = refl; memory = λ _. refl; store = λ _ _. refl }
apart_means p (PutFree x) t = record { table = tt; pages = refl; memory = λ _. refl; store = λ _ _. refl }

module _ (p : Pool) (c : ℕ) (m : Move) where
  abbrev k : Client
  k = client p c

  -- the own frame is the one it was, or forgotten
  abbrev pub OwnKept : Type 0
  OwnKept = (m.next.own ≡ none) ⊎ (m.next.own ≡ k.own)

  pub data Way : Type 0 where
    idles : T (apart m.write) → OwnKept → Way
    -- 4
    takes_frame : (f x y : ℕ) → m.write ≡ TakeFrame f k.page x y → f < total p → referenced p f ≡ false → m.next.own ≡ f → k.stage ≢ 0 → Way
    -- 17: the entry of page g is removed
    removes_entry : (i g : ℕ) → m.write ≡ PutEntry i g none → i < total p → lookup p g ≡ entry_frame p i → lookup p g ≢ none → OwnKept → Way
    -- 18, 22: the page gets the own frame, at an unused place or at that of its entry
    puts_entry : (i : ℕ) → m.write ≡ PutEntry i k.page k.own → i < total p → lookup p k.page ≡ entry_frame p i → k.own ≢ none → m.next.own ≡ none
        → Way

  pub record Goes : Type 0 where
    pub way : Way
    -- a client at work wants the page that it wanted, and a new grant is of that page
    pub page : m.next.stage ≢ 0 → k.stage ≢ 0 → m.next.page ≡ k.page
    pub opens : (g f : ℕ) → m.grants ≡ Open k.held g f → (k.stage ≢ 0) × (g ≡ k.page)
    -- no refusal writes
    pub told : (refused m.answer ≡ false) ⊎ (m.write ≡ Keep)

counters_apart : {p : Pool} {w : Write} → CountersOnly p w → T (apart w)
unfolding apart
counters_apart keep = tt
counters_apart hand = tt
counters_apart (counts _) = tt
counters_apart (free _) = tt

module _ (p : Pool) (c : ℕ) (r : Reached p) where
  open mover p r c use {me, known}

  -- a step that opens no grant
  quiet : {m : Move} → m.next.page ≡ me.page → m.grants ≡ Same → refused m.answer ≡ false → Way p c m → Goes p c m
  quiet e s t w = record { way = w; page = λ _ _. e; opens = λ _ _ y. no_open (sym s ∙ y); told = inl t }

  -- a grant of the page that the client wanted
  opening : {m : Move} (i f : ℕ) → (client p c).stage ≡ i → T (not (eqb i 0)) → m.next.stage ≡ 0 → m.grants ≡ Open me.held me.page f
      → refused m.answer ≡ false → Way p c m → Goes p c m
  opening i f e t rests s a w =
      record {
        way = w;
        page = λ z. absurd (z rests);
        opens = λ g h y. (
          (λ z. differ i 0 t (sym e ∙ z)),
          let q : Open me.held me.page f ≡ Open me.held g h = sym s ∙ y in cc,
        );
        told = inl a;
      }

  pub goes : {m : Move} → Edge p c m → Goes p c m
  unfolding apart refused
  goes (moves_on n j w h) = quiet h.same.page refl refl (idles (counters_apart h.counters_only) (inr h.same.own))
  goes (found1 e z) = quiet refl refl refl (idles tt (inr refl))
  goes (found18 e z) = quiet refl refl refl (idles tt (inr refl))
  goes (forgets2 e d) = quiet refl refl refl (idles tt (inr refl))
  goes (forgets22 e d) = quiet refl refl refl (idles tt (inr refl))
  goes (pins2 e l) = quiet refl refl refl (idles tt (inr refl))
  goes (pins19 e l) = quiet refl refl refl (idles tt (inr refl))
  goes (gets3 e) = opening 3 _ e tt refl refl refl (idles tt (inl refl))
  goes (gets21 e) = opening 21 _ e tt refl refl refl (idles tt (inl refl))
  goes (takes e z) =
      let f = free_found p r.shape z in
      quiet refl refl refl (takes_frame (free_frame p) (pinned 1) _ refl f.0 f.1 refl (λ y. differ 4 0 tt (sym e ∙ y)))
  goes (fills e s) = quiet refl refl refl (idles tt (inr refl))
  goes (replaces e s) = quiet refl refl refl (idles tt (inr refl))
  goes (refuses v b) = record { way = idles tt (inl refl); page = λ z. absurd (z refl); opens = λ _ _ y. no_open y; told = inr refl }
  goes (evicts14 e h) = quiet refl refl refl (idles tt (inr refl))
  goes (removes e h) =
      let z : lookup p (page p me.victim) ≢ none = λ w. (known 17 e).1.0 (sym h ∙ w) in
      let f = lookup_found p r.shape (page p me.victim) z in
      quiet refl refl refl (removes_entry _ _ refl f.inside (sym f.entry_frame) z (inr refl))
  goes (admits e l u) =
      let f = unused_found p r.shape u in
      opening 18 _ e tt refl refl refl (puts_entry _ refl f.0 (l ∙ sym f.1) (known 18 e).0 refl)
  goes (revives e l) =
      let f = lookup_found p r.shape me.page (λ w. (known 22 e).1.0 (sym l ∙ w)) in
      opening 22 _ e tt refl refl refl (puts_entry _ refl f.inside (sym f.entry_frame) (known 22 e).0.0 refl)
  goes (evicts20 e) = quiet refl refl refl (idles tt (inl refl))
  goes (evicts23 e) = quiet refl refl refl (idles tt (inl refl))
  goes (begins g e h _) = record { way = idles tt (inr refl); page = λ _ z. absurd (z e); opens = λ _ _ y. no_open y; told = inl refl }
  goes (releases g e z) = record { way = idles tt (inr refl); page = λ y. absurd (y e); opens = λ _ _ y. ends_no_open y; told = inl refl }
