-- No frame stands in two slots, no two clients own one frame, and an own frame that has no slot yet stands in none: a client forgets its own
-- frame, keeps it, or takes one that nobody names; and only an own frame without a slot is put into one. Assumes nothing.
use mathlib.Core.Path.{◌≡◌, refl, sym, ap, ◌∙◌}
use mathlib.Core.Logic.{◌≢◌, inl, inr}
use Prim.Native.Nat.{ℕ}
use lib.Dec.{T}
use Rattle.pool.specs.State.{none, slot, client}
use Rattle.pool.specs.Apply.{slots_after}
use Rattle.pool.specs.declared.Pool.{Pool}
use Rattle.pool.specs.declared.Client.{Client}
use Rattle.pool.specs.declared.Move.{Move}
use Rattle.invariant.proofs.Reached.{Distinct, Places, unplaced}
use Rattle.invariant.proofs.After.{client_same, client_other, all_clients, slot_kept, slot_here, slot_else}
use Rattle.invariant.proofs.Distinct.{distinct_put, distinct_same}
use Rattle.invariant.proofs.Searches.{unreferenced_means}
use Rattle.invariant.proofs.StageTests.{T_not, imp_mp}
use Rattle.invariant.proofs.Effects.{OwnOk, own_forgotten, own_stays, own_taken, SlotOk, slots_stay, slot_put, Effect, scene}
use Rattle.invariant.proofs.Next.{SlotNow, slot_now}

module _ {p : Pool} {c : ℕ} {m : Move} (x : Effect p c m) where
  open scene x use {r, here, k, q}

  -- the new own frame is nobody else's
  own_new : (d : ℕ) → d ≢ c → m.next.own ≢ none → (client p d).own ≢ m.next.own
  own_new d o z = go x.own
    where
      go : OwnOk p c m → (client p d).own ≢ m.next.own
      go (own_forgotten e) = absurd (z e)
      go (own_stays e _) = λ h. o (r.places.owns_distinct d c (λ n. z (sym h ∙ n)) (h ∙ e))
      go (own_taken _ _ e _) = (unreferenced_means p m.next.own z e).no_own d

  owns_next : Distinct (λ d. (client q d).own) none
  owns_next =
      distinct_put (λ d. (client p d).own) (λ d. (client q d).own) none r.places.owns_distinct c
      (λ d o. ap (λ (n : Client). n.own) (client_other p c m d o))
      (λ z d o e. own_new d o (λ n. z (mine ∙ n)) (e ∙ mine))
    where
      mine : (client q c).own ≡ m.next.own
      mine = ap (λ (n : Client). n.own) (client_same p c m r.shape here)

  -- the own frame is in no slot yet, so it may be put into one
  slots_next : Distinct (slot q) none
  unfolding slots_after
  slots_next = go x.slot
    where
      go : SlotOk p c m → Distinct (slot q) none
      go (slots_stay w) = distinct_same (slot p) (slot q) none r.places.slots_distinct (slot_kept p c m w)
      go (slot_put j w h u _ o _) =
          distinct_put (slot p) (slot q) none r.places.slots_distinct j (slot_else p c m j k.own (rw w refl))
          (λ _ i _ e. r.places.unplaced_no_slot c i u o (e ∙ slot_here p c m r.shape j k.own (rw w refl) h))

  unplaced_next : (d i : ℕ) → T (unplaced (client q d).stage) → (client q d).own ≢ none → slot q i ≢ (client q d).own
  unplaced_next d i = all_clients p c m r.shape (λ _ n. T (unplaced n.stage) → n.own ≢ none → slot q i ≢ n.own) here others mine d
    where
      others : (d : ℕ) → d ≢ c → T (unplaced (client p d).stage) → (client p d).own ≢ none → slot q i ≢ (client p d).own
      others d o t z = by (slot_now x i)
        where
          by : SlotNow x i → slot q i ≢ (client p d).own
          by (inl e) h = r.places.unplaced_no_slot d i t z (sym e ∙ h)
          by (inr e) h = o (r.places.owns_distinct d c z (sym h ∙ e.0))

      mine : T (unplaced m.next.stage) → m.next.own ≢ none → slot q i ≢ m.next.own
      mine t z = by x.own (slot_now x i)
        where
          by : OwnOk p c m → SlotNow x i → slot q i ≢ m.next.own
          by _ (inr e) = absurd (T_not (unplaced m.next.stage) e.2 t)
          by (own_forgotten n) (inl e) = absurd (z n)
          by (own_stays n u) (inl e) =
              λ h. r.places.unplaced_no_slot c i (imp_mp (unplaced m.next.stage) (unplaced k.stage) u t) (λ w. z (n ∙ w)) (sym e ∙ h ∙ n)
          by (own_taken _ _ n _) (inl e) = λ h. (unreferenced_means p m.next.own z n).no_slot i (sym e ∙ h)

  pub places_next : Places q
  places_next = record { slots_distinct = slots_next; owns_distinct = owns_next; unplaced_no_slot = unplaced_next }
