-- While the others rest, a client that is stepped is granted a resident page within 3 steps, and one that gets an empty slot within S + 7. The limits
-- are put together from the last step back. At stages 7 and 8 the client has itself claimed an empty slot, so there is one, and stage 8 comes to it
-- in d + 1 steps if it is d places on. Assumes nothing.
use mathlib.Core.Path.{◌≡◌, refl, sym, ap, ◌∙◌}
use mathlib.Core.Logic.{◌≢◌, ◌⊎◌, inl, inr}
use mathlib.Core.Bool.{true, false}
use mathlib.Core.List.{List, [], ◌∷◌}
use Prim.Native.Nat.{ℕ, zero, suc, ◌+◌, ◌-◌, ◌≤◌, ◌<◌, ◌%◌}
use native.Mathlib.Decide.{ℕ_discrete, dec_lt}
use native.Mathlib.Nat.{mod-lt}
use native.Mathlib.Omega.{arith}
use lib.Dec.{T, eqb}
use borrow.Author.Tests.{eqb-true, eqb-false, not-true, not-false}
use Rattle.pool.specs.State.{none, evicted, number_of_clients, slot, pins, client}
use Rattle.pool.specs.Table.{lookup, resident}
use Rattle.pool.specs.Moves.{works, with_place}
use Rattle.pool.specs.Apply.{slots_after, pins_after, free_after, apply}
use Rattle.pool.specs.Stages.{around}
use Rattle.pool.specs.Calls.{begin_move, call_of, pool_after}
use Rattle.pool.specs.declared.Pool.{Pool}
use Rattle.pool.specs.declared.Client.{Client}
use Rattle.pool.specs.declared.Move.{Move}
use Rattle.pool.specs.declared.Call.{Call}
use Rattle.pool.specs.declared.Call.TheVariants.{Begin, Step}
use Rattle.pool.specs.declared.Answer.TheVariants.{Done, Granted}
use Rattle.pool.specs.declared.Write.TheVariants.{Keep}
use Rattle.invariant.proofs.Reached.{one, filling, WillUnmap, Shape, Reached}
use Rattle.invariant.proofs.After.{pins_kept, slot_kept}
use Rattle.invariant.proofs.Writes.{keeps_table, lookup_kept}
use Rattle.invariant.proofs.Searches.{pins_named}
use Rattle.invariant.proofs.Table.{suc_not, lookup_mapped}
use Rattle.invariant.proofs.Facts.{filling_empty}
use Rattle.invariant.proofs.Steps.{around_is}
use Rattle.invariant.proofs.Sums.{sum_zero, sum_has}
use Rattle.invariant.proofs.Calls.{reached_after}
use Rattle.guarantee.specs.Runs.{events, At}
use Rattle.guarantee.specs.Claims.{GrantedWithin, WithinLimits, ClaimLimits}
use Rattle.guarantee.proofs.TurnedDown.{same_numbers}
use Rattle.guarantee.proofs.AloneSteps.{AloneAt, StepIs, begun_is, begun_alone, after_step, alone_next, move1, move1_found, move2, move3}
use Rattle.guarantee.proofs.AloneSteps.{move4, move5, move6, move7, move8, move8_next, move9, move18}

-- ---- the pool after a step

module _ {p : Pool} {b g i : ℕ} {m : Move} (on : AloneAt p b g i) (w : StepIs p b m) where
  pub next_is : (P : Pool → Client → Type 0) → P (apply p b m) m.next → P (call_of p (Step b)).pool (client (call_of p (Step b)).pool b)
  next_is = after_step w on.reached on.here

  pub absent_next : T (keeps_table m.write) → lookup p g ≡ none → lookup (call_of p (Step b)).pool g ≡ none
  absent_next t a = next_is (λ q _. lookup q g ≡ none) (lookup_kept p b m t g ∙ a)

-- ---- putting limits together

module _ (p : Pool) (b n : ℕ) where
  within_now : (f : ℕ) → (call_of p (Step b)).answer ≡ Granted f → GrantedWithin p b (suc n)
  unfolding events At
  within_now f e = (0, omega arith, (f, refl, e))

  within_next : GrantedWithin (call_of p (Step b)).pool b n → GrantedWithin p b (suc n)
  unfolding events At
  within_next h = (suc h.0, omega (arith, h.1), h.2)

  within_more : (m : ℕ) → m ≤ n → GrantedWithin p b m → GrantedWithin p b n
  within_more m l h = (h.0, omega (arith, h.1), h.2)

-- ---- a hit

hit3 : (p : Pool) (b g : ℕ) → AloneAt p b g 3 → GrantedWithin p b 1
hit3 p b g on = within_now p b 0 (client p b).found (move3 p b g on).answer_is

hit2 : (p : Pool) (b g : ℕ) → AloneAt p b g 2 → pins p (client p b).found ≢ evicted → GrantedWithin p b 2
hit2 p b g on z = within_next p b 1 (hit3 _ b g (alone_next (move2 p b g on z) 3 on refl refl))

hit1 : (p : Pool) (b g : ℕ) → AloneAt p b g 1 → lookup p g ≢ none → pins p (lookup p g) ≢ evicted → GrantedWithin p b 3
unfolding pins_after
hit1 p b g on n z =
    let w = move1_found p b g on n in
    within_next p b 2 (hit2 _ b g (alone_next w 2 on refl refl) (next_is on w (λ q k. pins q k.found ≢ evicted)
    (λ e. z (ap (λ (x : ℕ). pins p (lookup p x)) (sym on.page) ∙ (sym (pins_kept p b _ refl _) ∙ e)))))

-- ---- an admission to an empty slot

admission18 : (p : Pool) (b g : ℕ) → AloneAt p b g 18 → lookup p g ≡ none → GrantedWithin p b 1
admission18 p b g on a = within_now p b 0 (client p b).own (move18 p b g on a).answer_is

admission9 : (p : Pool) (b g : ℕ) → AloneAt p b g 9 → lookup p g ≡ none → GrantedWithin p b 2
admission9 p b g on a = let w = move9 p b g on in within_next p b 1 (admission18 _ b g (alone_next w 18 on refl refl) (absent_next on w tt a))

admission8_empty : (p : Pool) (b g : ℕ) → AloneAt p b g 8 → lookup p g ≡ none → slot p (client p b).place ≡ none → GrantedWithin p b 3
admission8_empty p b g on a e = let w = move8 p b g on e in within_next p b 2 (admission9 _ b g (alone_next w 9 on refl refl) (absent_next on w tt a))

-- the empty slot i is d places on from place j
record Ahead (p : Pool) (j i d : ℕ) : Type 0 where
  place : j < p.size
  inside : i < p.size
  empty : slot p i ≡ none
  far : (j + d ≡ i) ⊎ (j + d ≡ i + p.size)

closer : (p : Pool) (j i d : ℕ) → Ahead p j i (suc d) → Ahead p (around p.size j) i d
closer p j i d h = go (around_is p.size j h.place) h.far
  where
    s : ℕ
    s = p.size

    x : ℕ
    x = around s j

    go : ((suc j < s) × (x ≡ suc j)) ⊎ ((suc j ≡ s) × (x ≡ 0)) → (j + suc d ≡ i) ⊎ (j + suc d ≡ i + s) → Ahead p x i d
    go (inl n) (inl f) = record { place = omega (arith, n); inside = h.inside; empty = h.empty; far = inl (omega (arith, n)) }
    go (inl n) (inr f) = record { place = omega (arith, n); inside = h.inside; empty = h.empty; far = inr (omega (arith, n)) }
    go (inr n) (inl f) = absurd (omega (arith, n, h.inside))
    go (inr n) (inr f) = record { place = omega (arith, n, h.inside); inside = h.inside; empty = h.empty; far = inl (omega (arith, n)) }

ahead_next : (p : Pool) (b : ℕ) (m : Move) {j i d : ℕ} → Shape p → m.write ≡ Keep → Ahead p j i d → Ahead (apply p b m) j i d
unfolding apply slots_after
ahead_next p b m s e h =
    record { place = h.place; inside = h.inside; empty = slot_kept p b m (rw e refl) _ ∙ h.empty; far = h.far }

admission8 : (d : ℕ) (p : Pool) (b g i : ℕ) → AloneAt p b g 8 → lookup p g ≡ none → Ahead p (client p b).place i d → GrantedWithin p b (d + 3)
admission8 zero p b g i on a h = admission8_empty p b g on a (go h.far)
  where
    go : ((client p b).place + 0 ≡ i) ⊎ ((client p b).place + 0 ≡ i + p.size) → slot p (client p b).place ≡ none
    go (inl x) = let q : (client p b).place ≡ i = omega arith in rw q h.empty
    go (inr x) = absurd (omega (arith, h.place))
admission8 (suc d) p b g i on a h =
    let ih = admission8 d (call_of p (Step b)).pool b g i in
    elim (ℕ_discrete (slot p (client p b).place) none) [
      | yes e ↦ within_more p b (suc d + 3) 3 (omega arith) (admission8_empty p b g on a e)
      | no e ↦
          let w = move8_next p b g on e in
          within_more p b (suc d + 3) (suc (d + 3)) (omega arith) (within_next p b (d + 3)
          (ih (alone_next w 8 on refl refl) (absent_next on w tt a)
          (next_is on w (λ q k. Ahead q k.place i d) (ahead_next p b _ on.reached.shape refl (closer p _ i d h)))))
    ]

admission7 : (p : Pool) (b g n : ℕ) → p.size ≡ n → AloneAt p b g 7 → lookup p g ≡ none → GrantedWithin p b (n + 3)
unfolding slots_after
admission7 p b g n sz on a =
    within_more p b (n + 3) (suc (far.0 + 3)) (omega (arith, far.1)) (within_next p b (far.0 + 3)
    (admission8 far.0 _ b g e.0 (alone_next w 8 on refl refl) (absent_next on w tt a)
    (next_is on w (λ q k. Ahead q k.place e.0 far.0)
    (ahead_next p b _ on.reached.shape refl (record { place = place; inside = e.1; empty = e.2; far = far.2 })))))
  where
    w : StepIs p b (works (with_place (client p b) (p.hand % p.size)) 8 Keep)
    w = move7 p b g on

    j : ℕ
    j = p.hand % p.size

    place : j < p.size
    place = mod-lt p.hand on.reached.shape.size_low

    e : (i : ℕ) × (i < p.size) × (slot p i ≡ none)
    e = filling_empty p on.reached b 7 on.here on.stage tt

    far : (d : ℕ) × (d < p.size) × ((j + d ≡ e.0) ⊎ (j + d ≡ e.0 + p.size))
    far =
        elim (dec_lt e.0 j) [
          | yes l ↦ (e.0 + p.size - j, omega (arith, place, e.1), inr (omega (arith, place)))
          | no l ↦ (e.0 - j, omega (arith, e.1), inl (omega arith))
        ]

admission6 : (p : Pool) (b g n : ℕ) → p.size ≡ n → AloneAt p b g 6 → lookup p g ≡ none → p.free ≡ (client p b).seen → GrantedWithin p b (n + 4)
unfolding apply
admission6 p b g n sz on a f =
    let w = move6 p b g on f in
    within_more p b (n + 4) (suc (n + 3)) (omega arith) (within_next p b (n + 3)
    (admission7 _ b g n (next_is on w (λ q _. q.size ≡ n) sz) (alone_next w 7 on refl refl) (absent_next on w tt a)))

admission5 : (p : Pool) (b g n : ℕ) → p.size ≡ n → AloneAt p b g 5 → lookup p g ≡ none → p.free ≢ 0 → GrantedWithin p b (n + 5)
unfolding apply free_after
admission5 p b g n sz on a f =
    let w = move5 p b g on f in
    within_more p b (n + 5) (suc (n + 4)) (omega arith) (within_next p b (n + 4)
    (admission6 _ b g n (next_is on w (λ q _. q.size ≡ n) sz) (alone_next w 6 on refl refl) (absent_next on w tt a)
    (next_is on w (λ q k. q.free ≡ k.seen) refl)))

admission4 : (p : Pool) (b g n : ℕ) → p.size ≡ n → AloneAt p b g 4 → lookup p g ≡ none → p.free ≢ 0 → GrantedWithin p b (n + 6)
unfolding apply free_after
admission4 p b g n sz on a f =
    let w = move4 p b g on in
    within_more p b (n + 6) (suc (n + 5)) (omega arith) (within_next p b (n + 5)
    (admission5 _ b g n (next_is on w (λ q _. q.size ≡ n) sz) (alone_next w 5 on refl refl) (absent_next on w tt a) (next_is on w (λ q _. q.free ≢ 0) f)))

admission1 : (p : Pool) (b g n : ℕ) → p.size ≡ n → AloneAt p b g 1 → lookup p g ≡ none → p.free ≢ 0 → GrantedWithin p b (n + 7)
unfolding apply free_after
admission1 p b g n sz on a f =
    let w = move1 p b g on a in
    within_more p b (n + 7) (suc (n + 6)) (omega arith) (within_next p b (n + 6)
    (admission4 _ b g n (next_is on w (λ q _. q.size ≡ n) sz) (alone_next w 4 on refl refl) (absent_next on w tt a) (next_is on w (λ q _. q.free ≢ 0) f)))

-- ---- from a pool where all rest

module _ (p : Pool) (r : Reached p) (rest : (c : ℕ) → (client p c).stage ≡ 0) where
  -- nothing evicted is in the table
  pub found_not_evicted : (g : ℕ) → lookup p g ≢ none → pins p (lookup p g) ≢ evicted
  found_not_evicted g z d = go (r.evictions.evicted_mapped (lookup p g) z (suc_not (lookup_mapped p r.shape r.mapping.entries_distinct g z)) d)
    where
      go : (c : ℕ) × WillUnmap p (client p c) (lookup p g) → ⊥
      go (c, (_, inl h)) = rw (rest c) at h
      go (c, (_, inr h)) = let q : ◌≡◌ {A = ℕ} 0 15 = sym (rest c) ∙ h.0 in omega arith

  -- so a page is resident exactly if the look-up finds it
  resident_found : (g : ℕ) → resident p g ≡ true → (lookup p g ≢ none) × (pins p (lookup p g) ≢ evicted)
  unfolding resident
  resident_found g e =
      let live = eqb-false _ evicted (not-true _ e) in
      (pins_named p r.shape _ live, live)

  absent_found : (g : ℕ) → resident p g ≡ false → lookup p g ≡ none
  unfolding resident
  absent_found g e =
      elim (ℕ_discrete (lookup p g) none) [ yes q ↦ q | no z ↦ absurd (found_not_evicted g z (eqb-true _ evicted (not-false _ e))) ]

  -- an empty slot is one that nobody has claimed
  free_some : (i : ℕ) → i < p.size → slot p i ≡ none → p.free ≢ 0
  free_some i h e z =
      omega (
        arith,
        r.evictions.empties,
        sum_has (λ i. one (eqb (slot p i) none)) p.size i h,
        ap (λ (x : ℕ). one (eqb x none)) e,
        sum_zero (λ c. one (filling (client p c).stage)) (number_of_clients p) (λ c _. ap (λ (x : ℕ). one (filling x)) (rest c)),
      )

  limits_from : (n b g : ℕ) → p.size ≡ n → (call_of p (Begin b g)).answer ≡ Done g → WithinLimits p n b g
  unfolding apply pins_after free_after
  limits_from n b g sz a = (
    (λ e. let f = resident_found g e in
        within_more _ b _ _ (omega arith)
        (hit1 _ b g on (begun_is p b g a (λ q. lookup q g ≢ none) (rw (lookup_kept p b m tt g) f.0))
        (begun_is p b g a (λ q. pins q (lookup q g) ≢ evicted) (rw (lookup_kept p b m tt g, pins_kept p b m refl (lookup p g)) f.1)))),
    (λ e i h s. within_more _ b _ _ (omega arith)
        (admission1 _ b g n (begun_is p b g a (λ q. q.size ≡ n) sz) on
        (begun_is p b g a (λ q. lookup q g ≡ none) (lookup_kept p b m tt g ∙ absent_found g e))
        (begun_is p b g a (λ q. q.free ≢ 0) (free_some i h s)))),
  )
    where
      m : Move
      m = begin_move (client p b) g

      on : AloneAt (call_of p (Begin b g)).pool b g 1
      on = begun_alone p b g a r (λ c _. rest c)

-- ---- the claim

size_after : (p : Pool) (calls : List Call) → (pool_after p calls).size ≡ p.size
unfolding pool_after
size_after p [] = refl
size_after p (x ∷ calls) = size_after (call_of p x).pool calls ∙ same_numbers (λ s _ _. s) p x

pub limits : ClaimLimits
limits p u calls b g rest a = limits_from (pool_after p calls) (reached_after u calls) rest p.size b g (size_after p calls) a
