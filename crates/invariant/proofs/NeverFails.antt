-- Stage 4 always finds a frame, and stage 18 an unused place. A frame that is referenced stands in a slot, or is the own frame of a client, or
-- its found frame or victim (never both): an entry's frame is resident, so in a slot, or on its way out, so a victim, and a grant's frame has an
-- entry. With the client at 4, which names none, these are at most S + 2(T - 1). Entries have different frames, none of them the own one:
-- at most S + 2T - 1 are used. Assumes nothing.
use mathlib.Core.Path.{◌≡◌, refl, sym, ap, subst, ◌∙◌}
use mathlib.Core.Logic.{◌≢◌, ◌⊎◌, inl, inr}
use mathlib.Core.Bool.{Bool, true, false}
use Prim.Native.Nat.{ℕ, ◌+◌, ◌≤◌, ◌<◌}
use native.Mathlib.Omega.{arith}
use native.Mathlib.Decide.{ℕ_discrete}
use lib.Dec.{eqb, leb}
use borrow.Author.Tests.{eqb-true, eq-eqb, ne_eqb, leb-true, le-leb, lt-leb}
use Rattle.pool.specs.Limits.{max_frames}
use Rattle.pool.specs.Choose.{choose, either, some}
use Rattle.pool.specs.State.{none, evicted, number_of_clients, total, resting, slot, pins, entry_frame, client, grant_frame}
use Rattle.pool.specs.Table.{unused_entry}
use Rattle.pool.specs.Grants.{holds}
use Rattle.pool.specs.Frames.{names, referenced, free_frame}
use Rattle.pool.specs.declared.Pool.{Pool}
use Rattle.pool.specs.declared.Client.{Client}
use Rattle.laws.specs.Choices.{chosen, passed}
use Rattle.laws.specs.Scans.{either_true, some_true}
use Rattle.invariant.proofs.Reached.{mapped, InSlot, Knows, Reached, sum_to}
use Rattle.invariant.proofs.After.{few_frames, slot_in, client_here}
use Rattle.invariant.proofs.Sums.{sum_add, sum_at_least, sum_gap}
use Rattle.invariant.proofs.Searches.{free_found, free_none, unused_none}
use Rattle.invariant.proofs.Table.{suc_not, mapped_none}
use Rattle.invariant.proofs.Pigeonhole.{below, equal, below_all, equal_has, equal_none, equal_at_most, below_at_most, below_gap, below_full}

module _ (p : Pool) (r : Reached p) where
  -- what a client knows at the stage it stands at
  pub know : (c i : ℕ) → (client p c).stage ≡ i → Knows i p (client p c)
  know c i e = subst (λ s. Knows s p (client p c)) e (r.mapping.knowing c)

-- the names by which the proofs over the edges speak of the client that moves, opened in each: the client, and what it knows at its stage
pub record Mover (p : Pool) (c : ℕ) : Type 0 where
  pub me : Client
  pub known : (i : ℕ) → (client p c).stage ≡ i → Knows i p (client p c)

abbrev pub mover : (p : Pool) → Reached p → (c : ℕ) → Mover p c
mover p r c = record { me = client p c; known = know p r c }

module _ (p : Pool) (r : Reached p) where
  -- no client has a found frame and a victim
  not_both : (c : ℕ) → (client p c).victim ≢ none → (client p c).found ≡ none
  not_both c z = go (leb 12 s) (leb s 17) refl refl
    where
      s : ℕ
      s = (client p c).stage

      go : (x y : Bool) → leb 12 s ≡ x → leb s 17 ≡ y → (client p c).found ≡ none
      go true true a d =
          let l : 12 ≤ s = leb-true 12 s a in
          let h : s ≤ 17 = leb-true s 17 d in
          r.mapping.no_found c (rw (le-leb 2 s (omega arith), lt-leb s 3 (omega arith), lt-leb 19 s (omega arith)) tt)
      go true false a d = absurd (z (r.mapping.no_victim c (rw (a, d) tt)))
      go false y a d = absurd (z (r.mapping.no_victim c (rw a tt)))

  -- the frame that a client names besides its own and those of its grants
  second : ℕ → ℕ
  second c = choose (eqb (client p c).found none) (client p c).victim (client p c).found

  second_victim : (c : ℕ) → (client p c).found ≡ none → second c ≡ (client p c).victim
  unfolding second
  second_victim c e = chosen _ _ _ (eq-eqb _ _ e)

  second_found : (c : ℕ) → (client p c).found ≢ none → second c ≡ (client p c).found
  unfolding second
  second_found c e = passed _ _ _ (ne_eqb _ _ e)

  own : ℕ → ℕ
  own c = (client p c).own

  -- how often a frame is in a slot, own, or second
  times_named : ℕ → ℕ
  times_named f = equal (slot p) p.size f + equal own (number_of_clients p) f + equal second (number_of_clients p) f

  module _ (f : ℕ) (z : f ≢ none) where
    named_here : (c : ℕ) (g : Client → ℕ) → g (resting 0) ≡ none → g (client p c) ≡ f → c < number_of_clients p
    named_here c g n e = client_here p (λ k. g k ≡ f) c e (λ w. z (sym w ∙ n))

    in_slot : InSlot p f → 1 ≤ times_named f
    unfolding times_named
    in_slot s = omega (arith, equal_has (slot p) p.size f s.0 (slot_in p s.0 (λ n. z (sym s.1 ∙ n))) s.1)

    as_own : (c : ℕ) → (client p c).own ≡ f → 1 ≤ times_named f
    unfolding times_named own
    as_own c e = omega (arith, equal_has own (number_of_clients p) f c (named_here c (λ k. k.own) refl e) e)

    as_second : (c : ℕ) → c < number_of_clients p → second c ≡ f → 1 ≤ times_named f
    unfolding times_named
    as_second c h e = omega (arith, equal_has second (number_of_clients p) f c h e)

    as_found : (c : ℕ) → (client p c).found ≡ f → 1 ≤ times_named f
    as_found c e = as_second c (named_here c (λ k. k.found) refl e) (second_found c (λ n. z (sym e ∙ n)) ∙ e)

    as_victim : (c : ℕ) → (client p c).victim ≡ f → 1 ≤ times_named f
    as_victim c e = as_second c (named_here c (λ k. k.victim) refl e) (second_victim c (not_both c (λ n. z (sym e ∙ n))) ∙ e)

    as_mapped : mapped p f ≢ 0 → 1 ≤ times_named f
    as_mapped n = go (ℕ_discrete (pins p f) evicted)
      where
        go : Dec (pins p f ≡ evicted) → 1 ≤ times_named f
        go (yes d) = let w = r.evictions.evicted_mapped f z n d in as_victim w.0 w.1.0
        go (no d) = in_slot (r.mapping.resident_in_slot f z d n)

    as_entry : (i : ℕ) → entry_frame p i ≡ f → 1 ≤ times_named f
    as_entry i e = as_mapped (λ n. mapped_none p f z n i e)

    as_grant : (c i : ℕ) → grant_frame p c i ≡ f → 1 ≤ times_named f
    as_grant c i e =
        as_mapped (suc_not (ap (mapped p) (sym e) ∙ r.mapping.grant_mapped c i (λ n. z (sym e ∙ n))))

    as_referenced : referenced p f ≡ true → 1 ≤ times_named f
    unfolding referenced names holds
    as_referenced e = go (either_true _ _ e)
      where
        k : ℕ → Client
        k c = client p c

        name4 : (c : ℕ) → (eqb (k c).victim f ≡ true) ⊎ (holds p f c ≡ true) → 1 ≤ times_named f
        name4 c (inl t) = as_victim c (eqb-true _ _ t)
        name4 c (inr t) = let s = some_true (λ i. eqb (grant_frame p c i) f) (client p c).held t in as_grant c s.0 (eqb-true _ _ s.2)

        name3 : (c : ℕ) → (eqb (k c).found f ≡ true) ⊎ (either (eqb (k c).victim f) (holds p f c) ≡ true) → 1 ≤ times_named f
        name3 c (inl t) = as_found c (eqb-true _ _ t)
        name3 c (inr t) = name4 c (either_true _ _ t)

        name2 : (c : ℕ) → (eqb (k c).own f ≡ true) ⊎ (either (eqb (k c).found f) (either (eqb (k c).victim f) (holds p f c)) ≡ true) → 1 ≤ times_named f
        name2 c (inl t) = as_own c (eqb-true _ _ t)
        name2 c (inr t) = name3 c (either_true _ _ t)

        shared : (some (λ i. eqb (entry_frame p i) f) (total p) ≡ true) ⊎ (some (names p f) (number_of_clients p) ≡ true) → 1 ≤ times_named f
        shared (inl t) = let s = some_true (λ i. eqb (entry_frame p i) f) (total p) t in as_entry s.0 (eqb-true _ _ s.2)
        shared (inr t) = let s = some_true (names p f) (number_of_clients p) t in name2 s.0 (either_true _ _ s.2)

        go : (some (λ i. eqb (slot p i) f) p.size ≡ true)
            ⊎ (either (some (λ i. eqb (entry_frame p i) f) (total p)) (some (names p f) (number_of_clients p)) ≡ true) → 1 ≤ times_named f
        go (inl t) = let s = some_true (λ i. eqb (slot p i) f) p.size t in in_slot (s.0, eqb-true _ _ s.2)
        go (inr t) = shared (either_true _ _ t)

  -- stage 4 finds a frame
  pub finds_some : (c : ℕ) → c < number_of_clients p → (client p c).stage ≡ 4 → free_frame p ≢ none
  unfolding times_named own
  finds_some c here e missing =
      omega (
        arith,
        all,
        below_at_most (slot p) p.size n,
        below_gap own (number_of_clients p) n c here (omega (arith, few, own_none)),
        below_gap second (number_of_clients p) n c here (omega (arith, few, second_none)),
      )
    where
      n : ℕ
      n = total p

      few : n ≤ max_frames
      few = few_frames p r.shape

      own_none : (client p c).own ≡ none
      own_none = r.pin_counts.owns_none c (rw e tt)

      second_none : second c ≡ none
      second_none = second_victim c (r.mapping.no_found c (rw e tt)) ∙ r.mapping.no_victim c (rw e tt)

      most : n ≤ sum_to times_named n
      most = sum_at_least times_named n (λ f h. as_referenced f (λ w. let z : ⊥ = omega (arith, few) in z) (free_none p r.shape missing f h))

      split : sum_to times_named n ≡ sum_to (equal (slot p) p.size) n + sum_to (equal own (number_of_clients p)) n + sum_to (equal second (number_of_clients p)) n
      split =
          sum_add (λ f. equal (slot p) p.size f + equal own (number_of_clients p) f) (equal second (number_of_clients p)) n ∙
          ap (λ (x : ℕ). x + sum_to (equal second (number_of_clients p)) n) (sum_add (equal (slot p) p.size) (equal own (number_of_clients p)) n)

      all : n ≤ below (slot p) p.size n + below own (number_of_clients p) n + below second (number_of_clients p) n
      all = omega (arith, most, split, below_all (slot p) p.size n, below_all own (number_of_clients p) n, below_all second (number_of_clients p) n)

  pub finds : (c : ℕ) → c < number_of_clients p → (client p c).stage ≡ 4 → free_frame p < total p
  finds c here e = (free_found p r.shape (finds_some c here e)).0

  -- a client with an own frame leaves an unused place in the table
  pub finds_unused : (c : ℕ) → (client p c).own ≢ none → unused_entry p ≢ none
  finds_unused c z full =
      omega (
        arith,
        below_all (entry_frame p) n n,
        below_full (entry_frame p) n n (λ i h. r.ranges.entry_ok i (unused_none p r.shape full i h)),
        sum_gap (equal (entry_frame p) n) n 1 (client p c).own 1 (r.ranges.own_ok c z) (λ f _. once f) (omega (arith, out)),
      )
    where
      n : ℕ
      n = total p

      once : (f : ℕ) → equal (entry_frame p) n f ≤ 1
      once f = equal_at_most (entry_frame p) n f (λ i j h _ a b. r.mapping.entries_distinct i j (unused_none p r.shape full i h) (a ∙ sym b))

      out : equal (entry_frame p) n (client p c).own ≡ 0
      out = equal_none (entry_frame p) n (client p c).own (λ i _. mapped_none p (client p c).own z (r.private.own_unmapped c z) i)
