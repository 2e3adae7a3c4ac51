-- An own frame is in no entry of the table, and no client has it for its found frame or in a grant: look-ups find frames that have an entry, and
-- an own frame gets one only where its client forgets it. Assumes nothing.
use mathlib.Core.Path.{◌≡◌, sym, ap, ◌∙◌}
use mathlib.Core.Logic.{◌≢◌}
use Prim.Native.Nat.{ℕ}
use Rattle.pool.specs.State.{none, client, grant_frame}
use Rattle.pool.specs.declared.Pool.{Pool}
use Rattle.pool.specs.declared.Client.{Client}
use Rattle.pool.specs.declared.Move.{Move}
use Rattle.invariant.proofs.Reached.{Private, mapped}
use Rattle.invariant.proofs.After.{all_clients}
use Rattle.invariant.proofs.Searches.{unreferenced_means, grant_in}
use Rattle.invariant.proofs.Table.{mapped_zero}
use Rattle.invariant.proofs.Effects.{OwnOk, own_forgotten, own_stays, own_taken, FoundOk, found_stays, found_forgotten, found_looked_up, Opened}
use Rattle.invariant.proofs.Effects.{of_found, of_own, Effect, scene}
use Rattle.invariant.proofs.Next.{unmapped_next, all_grants}

-- no entry, no found frame and no grant names it, and it is not the own frame that the mover, whose next record is n, gives away
pub record PrivateFrame (p : Pool) (c : ℕ) (n : Client) (f : ℕ) : Type 0 where
  pub unmapped : mapped p f ≡ 0
  pub unfound : (d : ℕ) → (client p d).found ≢ f
  pub ungranted : (d i : ℕ) → grant_frame p d i ≢ f
  pub not_forgotten : n.own ≡ none → (client p c).own ≢ f

module _ {p : Pool} {c : ℕ} {m : Move} (x : Effect p c m) where
  open scene x use {r, here, q}

  -- such a frame stays so
  module _ (f : ℕ) (z : f ≢ none) (s : PrivateFrame p c m.next f) where
    pub private_unmapped : mapped q f ≡ 0
    private_unmapped = unmapped_next x f z s.unmapped s.not_forgotten

    pub private_unfound : (d : ℕ) → (client q d).found ≢ f
    private_unfound = all_clients p c m r.shape (λ _ n. n.found ≢ f) here (λ d _. s.unfound d) (mine x.found)
      where
        mine : FoundOk p c m → m.next.found ≢ f
        mine (found_stays e) = λ w. s.unfound c (sym e ∙ w)
        mine (found_forgotten e) = λ w. z (sym w ∙ e)
        mine (found_looked_up _ n) = λ w. n (ap (mapped p) w ∙ s.unmapped)

    pub private_ungranted : (d i : ℕ) → grant_frame q d i ≢ f
    private_ungranted d i w =
        all_grants x (λ _ y. y ≢ f) (λ d i _. s.ungranted d i) (λ g y e. new (x.opened g y e)) d i (grant_in q d i (λ n. z (sym w ∙ n))) w
      where
        new : {g y : ℕ} → Opened p c m g y → y ≢ f
        new (of_found e _ _ _) = λ w. s.unfound c (sym e ∙ w)
        new (of_own _ e _ o _ _) = λ w. s.not_forgotten o (sym e ∙ w)

  own_private : (d : ℕ) → (client q d).own ≢ none → PrivateFrame p c m.next (client q d).own
  own_private = all_clients p c m r.shape (λ _ n. n.own ≢ none → PrivateFrame p c m.next n.own) here others (mine x.own)
    where
      others : (d : ℕ) → d ≢ c → (client p d).own ≢ none → PrivateFrame p c m.next (client p d).own
      others d o z =
          record {
            unmapped = r.private.own_unmapped d z;
            unfound = λ e. r.private.own_unfound d e z;
            ungranted = λ e i. r.private.own_ungranted d e i z;
            not_forgotten = λ _ w. o (r.places.owns_distinct d c z (sym w));
          }

      mine : OwnOk p c m → m.next.own ≢ none → PrivateFrame p c m.next m.next.own
      mine (own_forgotten e) z = absurd (z e)
      mine (own_stays e _) z =
          let o : (client p c).own ≢ none = λ w. z (e ∙ w) in
          record {
            unmapped = ap (mapped p) e ∙ r.private.own_unmapped c o;
            unfound = λ d w. r.private.own_unfound c d o (w ∙ e);
            ungranted = λ d i w. r.private.own_ungranted c d i o (w ∙ e);
            not_forgotten = λ w. absurd (z w);
          }
      mine (own_taken _ _ e _) z =
          let f = unreferenced_means p m.next.own z e in
          record { unmapped = mapped_zero p m.next.own f.no_entry; unfound = f.no_found; ungranted = f.no_grant; not_forgotten = λ _. f.no_own c }

  pub private_next : Private q
  private_next =
      record {
        own_unmapped = λ d z. private_unmapped (client q d).own z (own_private d z);
        own_unfound = λ d e z. private_unfound (client q d).own z (own_private d z) e;
        own_ungranted = λ d e i z. private_ungranted (client q d).own z (own_private d z) e i;
      }
