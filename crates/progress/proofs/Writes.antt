-- A client of a reached pool makes a move. What the move's write does to the frames' part of the rank and to each client's, said once for the eight kinds
-- of write: no frame becomes heavier (`Lightens`), and no client that does not go by what is written (`Unseen`). Assumes nothing.
use mathlib.Core.Path.{◌≡◌, refl, sym, ap, ◌∙◌}
use mathlib.Core.Logic.{◌≢◌}
use Prim.Native.Nat.{ℕ, ◌≤◌, ◌<◌}
use native.Mathlib.Omega.{arith}
use native.Mathlib.Decide.{ℕ_discrete}
use lib.Dec.{T}
use Rattle.pool.specs.State.{none, evicted, pinned, number_of_clients, total, pins, count, client}
use Rattle.pool.specs.Apply.{slots_after, pins_after, counts_after, entry_pages_after, entry_frames_after, free_after, apply}
use Rattle.pool.specs.declared.Pool.{Pool}
use Rattle.pool.specs.declared.Client.{Client}
use Rattle.pool.specs.declared.Move.{Move}
use Rattle.pool.specs.declared.Write.{Write}
use Rattle.pool.specs.declared.Write.TheVariants.{Keep, PutSlot, PutPins, PutCount, TakeFrame, PutEntry, PutHand, PutFree}
use Rattle.invariant.proofs.Reached.{mapped, Reached}
use Rattle.invariant.proofs.After.{SlotsStay, CountsStay, PinsStay, EntryPagesStay, EntryFramesStay, few_frames, slot_kept, pins_kept, pins_else}
use Rattle.invariant.proofs.After.{pins_here, count_kept, count_else, count_here}
use Rattle.invariant.proofs.Writes.{keeps_table, lookup_kept}
use Rattle.invariant.proofs.Table.{mapped_kept, put_unmapped}
use Rattle.progress.proofs.Rank.{rank_at, frame_rank}
use Rattle.progress.proofs.Frames.{frame_kept}
use Rattle.progress.proofs.Clients.{TableTerms, client_kept}

-- who makes the move
pub record Acting (p : Pool) (c : ℕ) : Type 0 where
  pub here : c < number_of_clients p
  pub reached : Reached p

-- the names by which the proofs speak of it, opened in each
pub record Actor (p : Pool) (c : ℕ) : Type 0 where
  pub here : c < number_of_clients p
  pub r : Reached p
  pub k : Client
  pub s : ℕ
  pub t : ℕ

abbrev pub actor : {p : Pool} {c : ℕ} → Acting p c → Actor p c
actor {p} {c} act = record { here = act.here; r = act.reached; k = client p c; s = p.size; t = number_of_clients p }

module _ {p : Pool} {c : ℕ} (act : Acting p c) where
  open actor act use {r, s, t}

  -- ---- one write

  -- no frame becomes heavier by it
  abbrev pub Lightens : Write → Type 0
  Lightens Keep = Unit {0}
  Lightens (PutSlot i f) = Unit {0}
  Lightens (PutPins f x) = (f < total p) × (pins p f ≡ evicted → x ≡ evicted)
  Lightens (PutCount f x) = (f < total p) × (x ≤ count p f)
  Lightens (TakeFrame f h x y) = mapped p f ≡ 0
  Lightens (PutEntry i h f) = (i < total p) × (f ≡ none)
  Lightens (PutHand h) = Unit {0}
  Lightens (PutFree x) = x ≤ p.free

  module _ (m : Move) where
    -- the move with this write, and the pool after it; with its own write it is the move itself
    abbrev move : Write → Move
    move w = record { next = m.next; grants = m.grants; write = w; answer = m.answer; counted = m.counted }

    abbrev q : Write → Pool
    q w = apply p c (move w)

    -- where the table stays
    frame_by : (w : Write) (f : ℕ) → EntryPagesStay p w → EntryFramesStay p w → count (q w) f ≤ count p f → (pins p f ≡ evicted → pins (q w) f ≡ evicted)
        → frame_rank s t (q w) f ≤ frame_rank s t p f
    frame_by w f x y h i = frame_kept s t p (q w) f (λ z. ((λ e. z (mapped_kept p c (move w) x y f ∙ e)), h, i))

    frame_same : (w : Write) (f : ℕ) → EntryPagesStay p w → EntryFramesStay p w → CountsStay p w → PinsStay p w → frame_rank s t (q w) f ≤ frame_rank s t p f
    frame_same w f x y e b = frame_by w f x y (omega (arith, count_kept p c (move w) e f)) (λ z. pins_kept p c (move w) b f ∙ z)

    pub frame_after : (w : Write) → Lightens w → (f : ℕ) → f < total p → frame_rank s t (q w) f ≤ frame_rank s t p f
    unfolding counts_after pins_after entry_pages_after entry_frames_after
    frame_after Keep h f l = frame_same Keep f refl refl refl refl
    frame_after (PutSlot i x) h f l = frame_same (PutSlot i x) f refl refl refl refl
    frame_after (PutHand x) h f l = frame_same (PutHand x) f refl refl refl refl
    frame_after (PutFree x) h f l = frame_same (PutFree x) f refl refl refl refl
    frame_after (PutPins x v) h f l = frame_by w f refl refl (omega (arith, count_kept p c (move w) refl f)) (gone (ℕ_discrete f x))
      where
        w : Write
        w = PutPins x v

        gone : Dec (f ≡ x) → pins p f ≡ evicted → pins (q w) f ≡ evicted
        gone (yes e) z = ap (pins (q w)) e ∙ (pins_here p c (move w) r.shape x v refl h.0 ∙ h.1 (ap (pins p) (sym e) ∙ z))
        gone (no e) z = pins_else p c (move w) x v refl f e ∙ z
    frame_after (PutCount x v) h f l = frame_by w f refl refl (less (ℕ_discrete f x)) (λ z. pins_kept p c (move w) refl f ∙ z)
      where
        w : Write
        w = PutCount x v

        less : Dec (f ≡ x) → count (q w) f ≤ count p f
        less (yes e) = rw e (omega (arith, count_here p c (move w) r.shape x v refl h.0, h.1))
        less (no e) = omega (arith, count_else p c (move w) x v refl f e)
    frame_after (TakeFrame x y v z) h f l = elim (ℕ_discrete f x) [
      | yes e ↦ frame_kept s t p (q w) f (λ n. absurd (n (mapped_kept p c (move w) refl refl f ∙ (ap (mapped p) e ∙ h))))
      | no e ↦ frame_by w f refl refl (omega (arith, count_else p c (move w) x z refl f e)) (λ i. pins_else p c (move w) x v refl f e ∙ i)
    ]
      where
        w : Write
        w = TakeFrame x y v z
    frame_after (PutEntry i y x) h f l =
        frame_kept s t p (q w) f
        (λ n. (
          (λ e. n (put_unmapped p c (move w) r.shape i y x refl h.0 f named e (λ e. named (e ∙ h.1)))),
          omega (arith, count_kept p c (move w) refl f),
          (λ e. pins_kept p c (move w) refl f ∙ e),
        ))
      where
        w : Write
        w = PutEntry i y x

        named : f ≢ none
        named e = let z : ⊥ = omega (arith, few_frames p r.shape) in z

    pub free_after_lem : (w : Write) → Lightens w → free_after p.free w ≤ p.free
    unfolding free_after
    free_after_lem Keep h = omega arith
    free_after_lem (PutSlot i f) h = omega arith
    free_after_lem (PutPins f x) h = omega arith
    free_after_lem (PutCount f x) h = omega arith
    free_after_lem (TakeFrame f y x z) h = omega arith
    free_after_lem (PutEntry i y f) h = omega arith
    free_after_lem (PutHand x) h = omega arith
    free_after_lem (PutFree x) h = h

    -- client k does not see it: what the client goes by stays
    abbrev pub Unseen : Client → Write → Type 0
    Unseen k Keep = Unit {0}
    Unseen k (PutSlot i f) = ⊥
    Unseen k (PutPins f x) = pins p f ≢ pinned 0
    Unseen k (PutCount f x) = Unit {0}
    Unseen k (TakeFrame f h x y) = k.victim ≢ f
    Unseen k (PutEntry i h f) = (j : ℕ) → TableTerms s t p (q (PutEntry i h f)) j k
    Unseen k (PutHand h) = Unit {0}
    Unseen k (PutFree x) = ⊥

    pub table_terms : (w : Write) → T (keeps_table w) → (i : ℕ) (k : Client) → TableTerms s t p (q w) i k
    table_terms w h i k = rw (lookup_kept p c (move w) h k.page) (omega arith)

    -- where slots and free stay
    module _ (i : ℕ) (k : Client) where
      client_by : (w : Write) → SlotsStay p w → free_after p.free w ≡ p.free → (pins p k.victim ≡ pinned 0 → pins (q w) k.victim ≡ pinned 0)
          → TableTerms s t p (q w) i k → rank_at s t (q w) i k ≤ rank_at s t p i k
      unfolding apply
      client_by w slots free same table = client_kept s t p (q w) i k free (slot_kept p c (move w) slots) (λ _. same) table

      client_same_pins : (w : Write) → SlotsStay p w → free_after p.free w ≡ p.free → PinsStay p w → TableTerms s t p (q w) i k
          → rank_at s t (q w) i k ≤ rank_at s t p i k
      client_same_pins w slots free same = client_by w slots free (λ e. pins_kept p c (move w) same k.victim ∙ e)

      pub client_after : (w : Write) → Unseen k w → rank_at s t (q w) i k ≤ rank_at s t p i k
      unfolding slots_after pins_after free_after
      client_after Keep h = client_same_pins Keep refl refl refl (table_terms Keep tt i k)
      client_after (PutCount f x) h = client_same_pins (PutCount f x) refl refl refl (table_terms (PutCount f x) tt i k)
      client_after (PutHand x) h = client_same_pins (PutHand x) refl refl refl (table_terms (PutHand x) tt i k)
      client_after (PutEntry j y f) h = client_same_pins (PutEntry j y f) refl refl refl (h i)
      client_after (PutPins f x) h =
          let w : Write = PutPins f x in
          client_by w refl refl (λ e. pins_else p c (move w) f x refl k.victim (λ y. h (ap (pins p) (sym y) ∙ e)) ∙ e) (table_terms w tt i k)
      client_after (TakeFrame f y x z) h =
          let w : Write = TakeFrame f y x z in
          client_by w refl refl (λ e. pins_else p c (move w) f x refl k.victim h ∙ e) (table_terms w tt i k)
      client_after (PutSlot j f) h = absurd h
      client_after (PutFree x) h = absurd h
