-- The simulation relation between a pool and a sequential pool, and a pool's view, which is one sequential pool that it relates. Slot i of the sequential
-- pool shows the pool's slot i: the page of the slot's frame with that frame, if the table maps the page there and the frame is not evicted. The clients
-- stand where the pool's stand. A client's grants are its open ones, and its wanted page once more where that is pinned and not answered yet: at 3, 20 and
-- 21. A release moves the last grant into the freed place while `without` leaves the others in order, so the relation compares how often each page stands
-- in a list of grants, and not the lists. Assumes nothing.
use mathlib.Core.Path.{◌≡◌, refl, sym, ap, ◌∙◌}
use mathlib.Core.Logic.{◌≢◌}
use mathlib.Core.Bool.{Bool, true, false, ◌&&◌, ◌||◌}
use mathlib.Core.List.{List, [], ◌∷◌}
use Prim.Native.Nat.{ℕ, zero, suc, ◌+◌, ◌≤◌, ◌<◌}
use native.Mathlib.Nat.{le_of_suc-le-suc, not-suc-le-zero}
use native.Mathlib.Decide.{dec_lt}
use native.Mathlib.Omega.{arith}
use lib.Dec.{eqb}
use lib.ListN.{length, get_or, get_or-eq_default}
use borrow.Author.Tests.{eqb-true, eqb-false, eq-eqb, ne_eqb}
use Rattle.pool.specs.Choose.{choose, member}
use Rattle.pool.specs.State.{none, evicted, number_of_clients, slot, pins, client, grant_page}
use Rattle.pool.specs.declared.Pool.{Pool}
use Rattle.pool.specs.declared.Client.{Client}
use Rattle.laws.specs.Choices.{by_test, chosen, passed}
use Rattle.invariant.proofs.Reached.{one, sum_to, mapped, pins_found, grants_of, Shape}
use Rattle.invariant.proofs.After.{slot_past, client_past}
use Rattle.invariant.proofs.Searches.{none_evicted}
use Rattle.guarantee.specs.Sequential.{SeqSlot, empty, stores, SeqClient, Sequential, seq_slot, seq_resting, seq_client, without}

-- ---- slots

-- a frame and its entry, one more than the page or 0, as a slot
unfoldable pub view_entry : ℕ → ℕ → SeqSlot
view_entry f zero = empty
view_entry f (suc g) = stores g f

unfoldable pub view_frame : Pool → ℕ → SeqSlot
view_frame p f = choose (eqb (pins p f) evicted) empty (view_entry f (mapped p f))

module _ (p : Pool) (f : ℕ) where
  pub view_evicted : pins p f ≡ evicted → view_frame p f ≡ empty
  unfolding view_frame
  view_evicted e = chosen _ _ _ (eq-eqb (pins p f) evicted e)

  pub view_unmapped : mapped p f ≡ 0 → view_frame p f ≡ empty
  unfolding view_frame view_entry
  view_unmapped e = by_test (λ (x : SeqSlot). x ≡ empty) (λ _. refl) (λ _. rw e refl)

  pub view_mapped : {g : ℕ} → pins p f ≢ evicted → mapped p f ≡ suc g → view_frame p f ≡ stores g f
  unfolding view_frame view_entry
  view_mapped z e = passed _ _ _ (ne_eqb (pins p f) evicted z) ∙ rw e refl

  -- a slot that stores a page shows a resident frame
  pub record ResidentFrame (g h : ℕ) : Type 0 where
    pub not_evicted : pins p f ≢ evicted
    pub entry : mapped p f ≡ suc g
    pub frame : f ≡ h

  pub view_resident : {g h : ℕ} → view_frame p f ≡ stores g h → ResidentFrame g h
  unfolding view_frame view_entry choose
  view_resident {g} {h} e = go (eqb (pins p f) evicted) (mapped p f) refl refl e
    where
      go : (t : Bool) (n : ℕ) → eqb (pins p f) evicted ≡ t → mapped p f ≡ n → choose t empty (view_entry f n) ≡ stores g h → ResidentFrame g h
      go true n a b e = let z : ◌≡◌ {A = ℕ} 0 1 = cc in absurd (omega arith)
      go false zero a b e = let z : ◌≡◌ {A = ℕ} 0 1 = cc in absurd (omega arith)
      go false (suc n) a b e = record { not_evicted = eqb-false (pins p f) evicted a; entry = cc; frame = cc }

-- a frame that is mapped as it was, and evicted as it was
pub view_same : (p q : Pool) (f : ℕ) → eqb (pins q f) evicted ≡ eqb (pins p f) evicted → mapped q f ≡ mapped p f → view_frame q f ≡ view_frame p f
unfolding view_frame
view_same p q f a b = rw (a, b) refl

-- ---- grants

-- how often a page stands in a list
unfoldable pub times : ℕ → List ℕ → ℕ
times g [] = 0
times g (x ∷ xs) = times g xs + one (eqb x g)

pub not_member : (g : ℕ) (l : List ℕ) → times g l ≡ 0 → member g l ≡ false
unfolding times
not_member g [] e = refl
not_member g (x ∷ xs) e = go (eqb x g) e (not_member g xs)
  where
    go : (t : Bool) → times g xs + one t ≡ 0 → (times g xs ≡ 0 → member g xs ≡ false) → t || member g xs ≡ false
    go true h ih = absurd (omega arith)
    go false h ih = ih (omega arith)

pub is_member : (g : ℕ) (l : List ℕ) → times g l ≢ 0 → member g l ≡ true
unfolding times
is_member g [] z = absurd (z refl)
is_member g (x ∷ xs) z = go (eqb x g) z (is_member g xs)
  where
    go : (t : Bool) → times g xs + one t ≢ 0 → (times g xs ≢ 0 → member g xs ≡ true) → t || member g xs ≡ true
    go true h ih = refl
    go false h ih = ih (λ e. h (omega arith))

-- the list without a page that stands in it
pub without_times : (g h : ℕ) (l : List ℕ) → times g l ≢ 0 → times h (without g l) + one (eqb g h) ≡ times h l
unfolding times without choose
without_times g h [] z = absurd (z refl)
without_times g h (x ∷ xs) z = go (eqb x g) refl (without_times g h xs)
  where
    go : (t : Bool) → eqb x g ≡ t → (times g xs ≢ 0 → times h (without g xs) + one (eqb g h) ≡ times h xs)
        → times h (choose t xs (x ∷ without g xs)) + one (eqb g h) ≡ times h xs + one (eqb x h)
    go true e ih = rw (eqb-true x g e) refl
    go false e ih = omega (arith, ih (λ w. z (omega (arith, ap one e))))

pub without_length : (g : ℕ) (l : List ℕ) → times g l ≢ 0 → length (without g l) + 1 ≡ length l
unfolding times without choose
without_length g [] z = absurd (z refl)
without_length g (x ∷ xs) z = go (eqb x g) refl (without_length g xs)
  where
    go : (t : Bool) → eqb x g ≡ t → (times g xs ≢ 0 → length (without g xs) + 1 ≡ length xs)
        → length (choose t xs (x ∷ without g xs)) + 1 ≡ suc (length xs)
    go true e ih = omega arith
    go false e ih = omega (arith, ih (λ w. z (omega (arith, ap one e))))

-- A client and its client of the sequential pool; x says how many open grants the client has on each page.
pub record ClientRelation (k : Client) (x : ℕ → ℕ) (t : SeqClient) : Type 0 where
  pub stage : t.stage ≡ k.stage
  pub wants : k.stage ≢ 0 → t.wants ≡ k.page
  pub many : length t.grants ≡ k.held + one (pins_found k.stage)
  pub grants : (g : ℕ) → times g t.grants ≡ x g + one (pins_found k.stage && eqb k.page g)

pub client_relation_as : {k : Client} {x y : ℕ → ℕ} {t : SeqClient} → ((g : ℕ) → y g ≡ x g) → ClientRelation k x t → ClientRelation k y t
client_relation_as e h = record { stage = h.stage; wants = h.wants; many = h.many; grants = λ g. rw (e g) (h.grants g) }

-- where no page is pinned for it, its grants are the open ones
module _ {k : Client} {x : ℕ → ℕ} {t : SeqClient} (old : ClientRelation k x t) (e : pins_found k.stage ≡ false) where
  pub open_many : length t.grants ≡ k.held
  open_many = old.many ∙ rw e (omega arith)

  pub open_grants : (g : ℕ) → times g t.grants ≡ x g
  open_grants g = old.grants g ∙ rw e (omega arith)

-- ---- the two pools

pub record SimulationRelation (p : Pool) (q : Sequential) : Type 0 where
  pub size : length q.slots ≡ p.size
  pub slots : (i : ℕ) → seq_slot q i ≡ view_frame p (slot p i)
  pub count : length q.clients ≡ number_of_clients p
  pub clients : (c : ℕ) → ClientRelation (client p c) (grants_of p c) (seq_client q c)

-- ---- one such sequential pool

-- f 0 to f (n - 1); f (n - 1) to f 0
unfoldable pub up_to : {A : Type 0} → (ℕ → A) → ℕ → List A
up_to f zero = []
up_to f (suc n) = f 0 ∷ up_to (λ i. f (suc i)) n

unfoldable pub down_from : (ℕ → ℕ) → ℕ → List ℕ
down_from f zero = []
down_from f (suc n) = f n ∷ down_from f n

unfoldable pub view_client : Client → List ℕ → SeqClient
view_client k grants =
    record {
      stage = k.stage;
      wants = choose (eqb k.stage 0) 0 k.page;
      grants = choose (pins_found k.stage) (k.page ∷ grants) grants;
    }

unfoldable pub view : Pool → Sequential
view p =
    record {
      slots = up_to (λ i. view_frame p (slot p i)) p.size;
      clients = up_to (λ c. view_client (client p c) (down_from (grant_page p c) (client p c).held)) (number_of_clients p);
    }

module _ {A : Type 0} where
  up_to_length : (f : ℕ → A) (n : ℕ) → length (up_to f n) ≡ n
  unfolding up_to
  up_to_length f zero = refl
  up_to_length f (suc n) = ap suc (up_to_length (λ i. f (suc i)) n)

  up_to_in : (f : ℕ → A) (n i : ℕ) (d : A) → i < n → get_or (up_to f n) i d ≡ f i
  unfolding up_to
  up_to_in f zero i d h = absurd (not-suc-le-zero h)
  up_to_in f (suc n) zero d h = refl
  up_to_in f (suc n) (suc i) d h = up_to_in (λ i. f (suc i)) n i d (le_of_suc-le-suc h)

  -- a numbering that is d from n on
  up_to_at : (f : ℕ → A) (n : ℕ) (d : A) → ((i : ℕ) → n ≤ i → f i ≡ d) → (i : ℕ) → get_or (up_to f n) i d ≡ f i
  up_to_at f n d past i = go (dec_lt i n)
    where
      go : Dec (i < n) → get_or (up_to f n) i d ≡ f i
      go (yes h) = up_to_in f n i d h
      go (no h) = get_or-eq_default (up_to f n) d (omega (arith, up_to_length f n)) ∙ sym (past i (omega arith))

down_times : (f : ℕ → ℕ) (n g : ℕ) → times g (down_from f n) ≡ sum_to (λ i. one (eqb (f i) g)) n
unfolding down_from times sum_to
down_times f zero g = refl
down_times f (suc n) g = ap (λ (x : ℕ). x + one (eqb (f n) g)) (down_times f n g)

down_length : (f : ℕ → ℕ) (n : ℕ) → length (down_from f n) ≡ n
unfolding down_from
down_length f zero = refl
down_length f (suc n) = ap suc (down_length f n)

one_and : (a b : Bool) → a ≡ false → one (a && b) ≡ 0
one_and a b e = rw e refl

view_client_related : (k : Client) (l : List ℕ) → length l ≡ k.held → ClientRelation k (λ g. times g l) (view_client k l)
unfolding view_client times
view_client_related k l n =
    record {
      stage = refl;
      wants = λ z. passed _ _ _ (ne_eqb k.stage 0 z);
      many = by_test (λ (x : List ℕ). length x ≡ k.held + one (pins_found k.stage)) (λ e. omega (arith, ap one e)) (λ e. omega (arith, ap one e));
      grants =
          λ g. by_test (λ (x : List ℕ). times g x ≡ times g l + one (pins_found k.stage && eqb k.page g))
          (λ e. rw e refl) (λ e. omega (arith, one_and (pins_found k.stage) (eqb k.page g) e));
    }

pub view_related : (p : Pool) → Shape p → SimulationRelation p (view p)
unfolding view grants_of view_client choose down_from
view_related p s =
    record {
      size = up_to_length _ p.size;
      slots =
          up_to_at (λ i. view_frame p (slot p i)) p.size empty
          (λ i h. ap (view_frame p) (slot_past p i h) ∙ view_evicted p none (none_evicted p s));
      count = up_to_length _ (number_of_clients p);
      clients =
          λ c. rw (up_to_at viewed (number_of_clients p) (seq_resting []) past c)
          (client_relation_as (λ g. sym (down_times (grant_page p c) _ g)) (view_client_related (client p c) (grants c) (down_length (grant_page p c) _)));
    }
  where
    grants : ℕ → List ℕ
    grants c = down_from (grant_page p c) (client p c).held

    viewed : ℕ → SeqClient
    viewed c = view_client (client p c) (grants c)

    past : (c : ℕ) → number_of_clients p ≤ c → viewed c ≡ seq_resting []
    past c h = rw (client_past p c h) refl
