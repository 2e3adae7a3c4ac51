-- What a valid pool's numbers are: `ranged`, for callers, who cite its fields in place of the test's text; and back, `valid_from`, for those
-- who show that a pool never meets check 8. Assumes nothing.
use Rattle.std.specs.Prelude.{◌≡◌, refl, Bool, List, ℕ, ◌<◌, ◌≤◌, get_or}
use Rattle.std.proofs.Common.{◌∙◌, true≢false, arith}
use Rattle.std.proofs.Math.Path.{sym, ap}
use Rattle.std.proofs.Math.Bool.{true, false, not}
use Rattle.std.proofs.Math.Decide.{ℕ_discrete}
use Rattle.std.proofs.Math.Dec.{eqb}
use borrow.Author.Tests.{ltb-true, leb-true, eqb-true, eqb-false, lt-ltb, le-leb, eq-eqb, ne_eqb, not-true}
use Rattle.pool.specs.Limits.{max_size, max_clients, max_cap, max_held, max_pins, max_frames}
use Rattle.pool.specs.Choose.{choose, either}
use Rattle.pool.specs.State.{none, pinned, total, number_of_clients, within, slot, pins, count, entry_page, entry_frame, client, grant_page, grant_frame}
use Rattle.pool.specs.Table.{maps, entry_of}
use Rattle.pool.specs.Grants.{grant_of}
use Rattle.pool.specs.Valid.{numbers_ok, frame_ok, used_ok, uses_own, uses_found, uses_victim, state_ok, entry_ok, grant_ok}
use Rattle.pool.specs.Valid.{slot_ok_at, state_ok_at, entry_ok_at, grant_ok_at}
use Rattle.pool.specs.Valid.{counts_ok, names_ok, client_ok, valid}
use Rattle.pool.specs.declared.Pool.{Pool}
use Rattle.pool.specs.declared.Client.{Client}
use Rattle.laws.specs.Choices.{by_test, chosen}
use Rattle.laws.specs.Scans.{First, first, every_at, every_yes, both_first, both_second, both_yes}

-- ---- the ranges

-- SPECIFICATION 1.1
pub record Numbers (s t c : ℕ) : Type 0 where
  pub some_slot : 0 < s
  pub slots : s ≤ max_size
  pub some_client : 0 < t
  pub clients : t ≤ max_clients
  pub some_count : 0 < c
  pub cap : c ≤ max_cap

-- SPECIFICATION 5.5
pub record Counts (k : Client) (size : ℕ) : Type 0 where
  pub stage : k.stage ≤ 23
  pub held : k.held ≤ max_held
  pub place : k.place < size
  pub busy : k.busy < size
  pub seen : k.seen ≤ size

-- a number that names a frame
abbrev pub Named : ℕ → Type 0
Named f = f ≡ none → ⊥

-- a frame number below n where the stage uses it, none where it does not
pub record Names (used : Bool) (n f : ℕ) : Type 0 where
  pub there : used ≡ true → f < n
  pub gone : used ≡ false → f ≡ none

pub record ClientRanged (p : Pool) (c : ℕ) : Type 0 where
  pub counts : Counts (client p c) p.size
  pub own : Names (uses_own (client p c).stage) (total p) (client p c).own
  pub found : Names (uses_found (client p c).stage) (total p) (client p c).found
  pub victim : Names (uses_victim (client p c).stage) (total p) (client p c).victim
  pub grant : (i : ℕ) → i < (client p c).held → grant_frame p c i < total p
  -- no two of a client's grants are of one page (SPECIFICATION 5.7)
  pub single : (i j : ℕ) → i < (client p c).held → j < (client p c).held → grant_page p c i ≡ grant_page p c j → i ≡ j

pub record Ranged (p : Pool) : Type 0 where
  pub numbers : Numbers p.size (number_of_clients p) p.cap
  pub free : p.free ≤ p.size
  pub last : Named p.last → p.last < total p
  pub slot : (i : ℕ) → i < p.size → Named (slot p i) → slot p i < total p
  pub pins : (f : ℕ) → f < total p → pins p f ≤ pinned max_pins
  pub count : (f : ℕ) → f < total p → count p f ≤ p.cap
  pub entry : (i : ℕ) → i < total p → Named (entry_frame p i) → entry_frame p i < total p
  -- no two entries have one page (SPECIFICATION 5.4)
  pub apart : (i j : ℕ) → i < total p → j < total p → Named (entry_frame p i) → Named (entry_frame p j) → entry_page p i ≡ entry_page p j → i ≡ j
  pub client : (c : ℕ) → c < number_of_clients p → ClientRanged p c

-- the frames, and the places of the table, are at most 96
pub total_in : (p : Pool) → Numbers p.size (number_of_clients p) p.cap → total p ≤ max_frames
total_in p n = omega arith

-- Past the pool's frames the pins and the count are 0, so that no caller need show that a frame is one of them.
low : (l : List ℕ) (n most i : ℕ) → (i < n → within l n 0 i ≤ most) → within l n 0 i ≤ most
unfolding within
low l n most i h = by_test (λ x. x ≤ most) (λ e. rw (chosen _ (get_or l i 0) 0 e) at (h (ltb-true _ _ e))) (λ _. omega arith)

pub pins_low : (p : Pool) → Ranged p → (f : ℕ) → pins p f ≤ pinned max_pins
unfolding pins
pins_low p r f = low p.pins (total p) (pinned max_pins) f (r.pins f)

-- ---- tests that hold, taken apart and put together

pub numbers_in : (s t c : ℕ) → numbers_ok s t c ≡ true → Numbers s t c
unfolding numbers_ok
numbers_in s t c h =
    let h₂ = both_second _ _ h in
    let h₃ = both_second _ _ h₂ in
    let h₄ = both_second _ _ h₃ in
    let h₅ = both_second _ _ h₄ in
    record {
      some_slot = ltb-true _ _ (both_first _ _ h);
      slots = leb-true _ _ (both_first _ _ h₂);
      some_client = ltb-true _ _ (both_first _ _ h₃);
      clients = leb-true _ _ (both_first _ _ h₄);
      some_count = ltb-true _ _ (both_first _ _ h₅);
      cap = leb-true _ _ (both_second _ _ h₅);
    }

numbers_from : (s t c : ℕ) → Numbers s t c → numbers_ok s t c ≡ true
unfolding numbers_ok
numbers_from s t c n =
    both_yes _ _ (lt-ltb _ _ n.some_slot)
    (both_yes _ _ (le-leb _ _ n.slots)
    (both_yes _ _ (lt-ltb _ _ n.some_client)
    (both_yes _ _ (le-leb _ _ n.clients) (both_yes _ _ (lt-ltb _ _ n.some_count) (le-leb _ _ n.cap)))))

pub counts_in : (k : Client) (size : ℕ) → counts_ok k size ≡ true → Counts k size
unfolding counts_ok
counts_in k size h =
    let h₂ = both_second _ _ h in
    let h₃ = both_second _ _ h₂ in
    let h₄ = both_second _ _ h₃ in
    record {
      stage = leb-true _ _ (both_first _ _ h);
      held = leb-true _ _ (both_first _ _ h₂);
      place = ltb-true _ _ (both_first _ _ h₃);
      busy = ltb-true _ _ (both_first _ _ h₄);
      seen = leb-true _ _ (both_second _ _ h₄);
    }

counts_from : (k : Client) (size : ℕ) → Counts k size → counts_ok k size ≡ true
unfolding counts_ok
counts_from k size n =
    both_yes _ _ (le-leb _ _ n.stage)
    (both_yes _ _ (le-leb _ _ n.held)
    (both_yes _ _ (lt-ltb _ _ n.place) (both_yes _ _ (lt-ltb _ _ n.busy) (le-leb _ _ n.seen))))

-- ---- a frame number f of a pool with n frames

-- a test that is made only of a number that names a frame
unless_none : (f : ℕ) (test : Bool) → (Named f → test ≡ true) → either (eqb f none) test ≡ true
unfolding either choose
unless_none f test h = go (ℕ_discrete f none)
  where
    go : Dec (f ≡ none) → either (eqb f none) test ≡ true
    go (yes e) = simp (eq-eqb f none e)
    go (no d) = simp (ne_eqb f none d, h d)

of_named : (f : ℕ) (test : Bool) → either (eqb f none) test ≡ true → Named f → test ≡ true
unfolding either choose
of_named f test h d = rw (ne_eqb f none d) at h

module _ (n f : ℕ) where
  name_in : frame_ok n f ≡ true → Named f → f < n
  unfolding frame_ok
  name_in h d = ltb-true _ _ (of_named f _ h d)

  name_from : (Named f → f < n) → frame_ok n f ≡ true
  unfolding frame_ok
  name_from r = unless_none f _ (λ d. lt-ltb _ _ (r d))

  used_in : (u : Bool) → used_ok u n f ≡ true → Names u n f
  unfolding used_ok choose
  used_in true h = record { there = λ _. ltb-true _ _ h; gone = λ e. absurd (true≢false e) }
  used_in false h = record { there = λ e. absurd (true≢false (sym e)); gone = λ _. eqb-true _ _ h }

  used_from : (u : Bool) → Names u n f → used_ok u n f ≡ true
  unfolding used_ok choose
  used_from true r = lt-ltb _ _ (r.there refl)
  used_from false r = eq-eqb _ _ (r.gone refl)

  -- a place of the table
  entry_in : (i first : ℕ) → entry_ok n i f first ≡ true → Named f → (f < n) × (first ≡ i)
  unfolding entry_ok
  entry_in i first h d =
      let r = of_named f _ h d in
      (ltb-true _ _ (both_first _ _ r), eqb-true _ _ (both_second _ _ r))

  entry_from : (i first : ℕ) → (Named f → (f < n) × (first ≡ i)) → entry_ok n i f first ≡ true
  unfolding entry_ok
  entry_from i first r = unless_none f _ (λ d. both_yes _ _ (lt-ltb _ _ (r d).0) (eq-eqb _ _ (r d).1))

  -- a grant
  grant_in : (i first : ℕ) → grant_ok n i f first ≡ true → (f < n) × (first ≡ i)
  unfolding grant_ok
  grant_in i first h = (ltb-true _ _ (both_first _ _ h), eqb-true _ _ (both_second _ _ h))

  grant_from : (i first : ℕ) → f < n → first ≡ i → grant_ok n i f first ≡ true
  unfolding grant_ok
  grant_from i first h e = both_yes _ _ (lt-ltb _ _ h) (eq-eqb _ _ e)

module _ (p : Pool) where
  -- ---- a place of the table

  module _ (i : ℕ) where
    maps_in : (g : ℕ) → maps p g i ≡ true → (entry_page p i ≡ g) × Named (entry_frame p i)
    unfolding maps
    maps_in g h = (eqb-true _ _ (both_first _ _ h), eqb-false _ _ (not-true _ (both_second _ _ h)))

    maps_from : Named (entry_frame p i) → maps p (entry_page p i) i ≡ true
    unfolding maps
    maps_from d = both_yes _ _ (eq-eqb (entry_page p i) (entry_page p i) refl) (ap not (ne_eqb _ _ d))

  -- ---- a client

  module _ (c : ℕ) where
    -- the first grant of a grant's page
    first_grant : (i : ℕ) → i < (client p c).held → First (λ j. eqb (grant_page p c j) (grant_page p c i)) i (grant_of p c (grant_page p c i))
    unfolding grant_of
    first_grant i h =
        let g = grant_page p c i in
        first (λ j. eqb (grant_page p c j) g) none 0 (client p c).held i (omega arith) (omega arith) (eq-eqb g g refl)

    client_in : client_ok p c ≡ true → ClientRanged p c
    unfolding client_ok names_ok
    client_in h =
        let r = both_second _ _ h in
        let u = both_first _ _ r in
        let u₂ = both_second _ _ u in
        let g = every_at (grant_ok_at p c) (client p c).held (both_second _ _ r) in
        record {
          counts = counts_in (client p c) p.size (both_first _ _ h);
          own = used_in _ _ _ (both_first _ _ u);
          found = used_in _ _ _ (both_first _ _ u₂);
          victim = used_in _ _ _ (both_second _ _ u₂);
          grant = λ i l. (grant_in _ _ _ _ (g i l)).0;
          single = λ i j l m e. sym (grant_in _ _ _ _ (g i l)).1 ∙ ap (grant_of p c) e ∙ (grant_in _ _ _ _ (g j m)).1;
        }

    client_from : ClientRanged p c → client_ok p c ≡ true
    unfolding client_ok names_ok
    client_from r =
        both_yes _ _ (counts_from _ _ r.counts)
        (both_yes _ _
        (both_yes _ _ (used_from _ _ _ r.own) (both_yes _ _ (used_from _ _ _ r.found) (used_from _ _ _ r.victim)))
        (every_yes (grant_ok_at p c) (client p c).held
        (λ i l.
        let f = first_grant i l in
        grant_from _ _ _ _ (r.grant i l) (r.single _ i (omega arith) l (eqb-true _ _ f.meets)))))

  -- ---- the pool

  pub ranged : valid p ≡ true → Ranged p
  unfolding valid state_ok
  ranged h =
      let h₂ = both_second _ _ h in
      let h₃ = both_second _ _ h₂ in
      let h₄ = both_second _ _ h₃ in
      let h₅ = both_second _ _ h₄ in
      let s = every_at (slot_ok_at p) p.size (both_first _ _ h₃) in
      let f = every_at (state_ok_at p) (total p) (both_first _ _ h₄) in
      let e = every_at (entry_ok_at p) (total p) (both_first _ _ h₅) in
      let k = every_at (client_ok p) (number_of_clients p) (both_second _ _ h₅) in
      record {
        numbers = numbers_in _ _ _ (both_first _ _ h);
        free = leb-true _ _ (both_first _ _ (both_first _ _ h₂));
        last = name_in _ _ (both_second _ _ (both_first _ _ h₂));
        slot = λ i l. name_in _ _ (s i l);
        pins = λ i l. leb-true _ _ (both_first _ _ (f i l));
        count = λ i l. leb-true _ _ (both_second _ _ (f i l));
        entry = λ i l d. (entry_in _ _ _ _ (e i l) d).0;
        apart = λ i j l m d d' q. sym (entry_in _ _ _ _ (e i l) d).1 ∙ ap (entry_of p) q ∙ (entry_in _ _ _ _ (e j m) d').1;
        client = λ c l. client_in c (k c l);
      }

  -- a used place is the one that its page is found at, since no other maps the page
  found_there : Ranged p → (i : ℕ) → i < total p → Named (entry_frame p i) → entry_of p (entry_page p i) ≡ i
  unfolding entry_of
  found_there r i l d =
      let f = first (maps p (entry_page p i)) none 0 (total p) i (omega arith) (omega arith) (maps_from i d) in
      let m = maps_in _ (entry_page p i) f.meets in
      r.apart _ i (omega arith) l m.1 d m.0

  pub valid_from : Ranged p → valid p ≡ true
  unfolding valid state_ok
  valid_from r =
      both_yes _ _ (numbers_from _ _ _ r.numbers)
      (both_yes _ _ (both_yes _ _ (le-leb _ _ r.free) (name_from _ _ r.last))
      (both_yes _ _ (every_yes (slot_ok_at p) p.size (λ i l. name_from _ _ (r.slot i l)))
      (both_yes _ _ (every_yes (state_ok_at p) (total p) (λ f l. both_yes _ _ (le-leb _ _ (r.pins f l)) (le-leb _ _ (r.count f l))))
      (both_yes _ _ (every_yes (entry_ok_at p) (total p) (λ i l. entry_from _ _ _ _ (λ d. (r.entry i l d, found_there r i l d))))
      (every_yes (client_ok p) (number_of_clients p) (λ c l. client_from c (r.client c l)))))))
