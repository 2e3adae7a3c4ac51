-- Tests on stage numbers. A closed test computes, so that `tt` proves it, and at a client's stage `rw e tt` does, with e : its stage ≡ i.
-- Assumes nothing.
use mathlib.Core.Path.{◌≡◌, refl}
use mathlib.Core.Logic.{◌≢◌, ◌⊎◌, inl, inr}
use mathlib.Core.Bool.{Bool, true, false, not, ◌&&◌, ◌||◌}
use Prim.Native.Nat.{ℕ, ◌≤◌}
use native.Mathlib.Omega.{arith}
use native.Mathlib.Decide.{ℕ_discrete}
use lib.Dec.{T, eqb, leb}
use borrow.Author.Tests.{eqb-false, leb-true}
use Rattle.invariant.proofs.Reached.{unplaced, ownless, foundless, victimless, pins_found, unmapping, filling, examining}
use Rattle.laws.specs.Scans.{and_parts}

-- ---- what a test says

pub T_true : (a : Bool) → T a → a ≡ true
T_true true h = refl
T_true false h = absurd h

pub T_false : (a : Bool) → T (not a) → a ≡ false
T_false true h = absurd h
T_false false h = refl

pub T_not : (a : Bool) → T (not a) → T a → ⊥
T_not true h t = h
T_not false h t = t

or_parts : (a b : Bool) → T (not (a || b)) → T (not a) × T (not b)
or_parts true b h = absurd h
or_parts false b h = (tt, h)

pub and_false : (a : Bool) → a && false ≡ false
and_false true = refl
and_false false = refl

pub never : {A : Type 0} → ⊥ → A
never x = absurd x

-- two numerals differ; one is at most another
pub differ : (i j : ℕ) → T (not (eqb i j)) → i ≢ j
differ i j t = eqb-false i j (T_false (eqb i j) t)

pub at_most : (i j : ℕ) → T (leb i j) → i ≤ j
at_most i j t = leb-true i j (T_true (leb i j) t)

abbrev pub imp : Bool → Bool → Bool
imp true b = b
imp false b = true

pub imp_mp : (a b : Bool) → T (imp a b) → T a → T b
imp_mp true b h t = h
imp_mp false b h t = absurd t

abbrev pub iff : Bool → Bool → Bool
iff true b = b
iff false b = not b

pub iff_same : (a b : Bool) → T (iff a b) → a ≡ b
iff_same true true h = refl
iff_same true false h = absurd h
iff_same false true h = absurd h
iff_same false false h = refl

-- ---- from stage i to stage j

abbrev pins_or_evicts : ℕ → ℕ → Bool
pins_or_evicts i j = ((eqb i 2 && eqb j 3) || (eqb i 19 && eqb j 20)) || (eqb i 14 && eqb j 15)

-- A client may go from the one to the other with its own frame, its found frame and its claims as they are. The step is none of those at which a
-- found frame is pinned, 2 to 3 and 19 to 20, and not the one at which a victim is evicted, 14 to 15.
pub record Onward (i j : ℕ) : Type 0 where
  pub from_unplaced : T (imp (unplaced j) (unplaced i))
  pub from_ownless : T (imp (ownless j) (ownless i))
  pub from_foundless : T (imp (foundless j) (foundless i))
  pub pins_alike : pins_found j ≡ pins_found i
  pub plain_step : T (not (pins_or_evicts i j))
  pub starts : 1 ≤ j
  pub stage_ok : j ≤ 23
  pub working : i ≢ 0

abbrev pub onward : ℕ → ℕ → Bool
onward i j =
    imp (unplaced j) (unplaced i) && (imp (ownless j) (ownless i) && (imp (foundless j) (foundless i)
    && (iff (pins_found j) (pins_found i) && (not (pins_or_evicts i j) && (leb 1 j && (leb j 23 && not (eqb i 0)))))))

pub onward_means : (i j : ℕ) → T (onward i j) → Onward i j
onward_means i j t =
    let a = and_parts (imp (unplaced j) (unplaced i)) _ t in
    let b = and_parts (imp (ownless j) (ownless i)) _ a.1 in
    let d = and_parts (imp (foundless j) (foundless i)) _ b.1 in
    let f = and_parts (iff (pins_found j) (pins_found i)) _ d.1 in
    let s = and_parts (not (pins_or_evicts i j)) _ f.1 in
    let l = and_parts (leb 1 j) _ s.1 in
    let g = and_parts (leb j 23) (not (eqb i 0)) l.1 in
    record {
      from_unplaced = a.0;
      from_ownless = b.0;
      from_foundless = d.0;
      pins_alike = iff_same (pins_found j) (pins_found i) f.0;
      plain_step = s.0;
      starts = at_most 1 j l.0;
      stage_ok = at_most j 23 g.0;
      working = differ i 0 g.1;
    }

-- Besides, it keeps its victim and its place, and goes on to fill a slot if it did.
pub record KeepsVictim (i j : ℕ) : Type 0 where
  pub from_victimless : T (imp (victimless j) (victimless i))
  pub from_examining : T (imp (examining j) (examining i))
  pub fills_alike : filling j ≡ filling i
  pub not_six : j ≢ 6

abbrev pub keeps_victim : ℕ → ℕ → Bool
keeps_victim i j = imp (victimless j) (victimless i) && (imp (examining j) (examining i) && (iff (filling j) (filling i) && not (eqb j 6)))

pub keeps_victim_means : (i j : ℕ) → T (keeps_victim i j) → KeepsVictim i j
keeps_victim_means i j t =
    let a = and_parts (imp (victimless j) (victimless i)) _ t in
    let b = and_parts (imp (examining j) (examining i)) _ a.1 in
    let d = and_parts (iff (filling j) (filling i)) (not (eqb j 6)) b.1 in
    record { from_victimless = a.0; from_examining = b.0; fills_alike = iff_same (filling j) (filling i) d.0; not_six = differ j 6 d.1 }

-- No entry is to be removed at stage i: it is none of 15, 16, 17.
abbrev pub unmaps_none : ℕ → Bool
unmaps_none i = not (unmapping i || eqb i 15)

pub unmaps_none_lem : (i : ℕ) → T (unmaps_none i) → (T (unmapping i) → ⊥) × (i ≢ 15)
unmaps_none_lem i t = let a = or_parts (unmapping i) (eqb i 15) t in (T_not (unmapping i) a.0, differ i 15 a.1)

-- a stage of the sweep at which a busy visit may end it
pub record MayRefuse (i : ℕ) : Type 0 where
  pub is_unplaced : T (unplaced i)
  pub no_pin : pins_found i ≡ false
  pub no_fill : filling i ≡ false
  pub no_unmap : T (unmaps_none i)

-- ---- stages 12 to 15

pub examining_cases : (s : ℕ) → T (examining s) → (s ≡ 12) ⊎ ((s ≡ 13) ⊎ ((s ≡ 14) ⊎ (s ≡ 15)))
examining_cases s h = go (ℕ_discrete s 12) (ℕ_discrete s 13) (ℕ_discrete s 14)
  where
    ends : (12 ≤ s) × (s ≤ 15)
    ends = let a = and_parts (leb 12 s) (leb s 15) h in (at_most 12 s a.0, at_most s 15 a.1)

    go : Dec (s ≡ 12) → Dec (s ≡ 13) → Dec (s ≡ 14) → (s ≡ 12) ⊎ ((s ≡ 13) ⊎ ((s ≡ 14) ⊎ (s ≡ 15)))
    go (yes e) _ _ = inl e
    go (no _) (yes e) _ = inr (inl e)
    go (no _) (no _) (yes e) = inr (inr (inl e))
    go (no x) (no y) (no z) = inr (inr (inr (omega (arith, ends.0, ends.1))))

pub examining_unplaced : (s : ℕ) → T (examining s) → T (unplaced s)
examining_unplaced s h = go (examining_cases s h)
  where
    go : (s ≡ 12) ⊎ ((s ≡ 13) ⊎ ((s ≡ 14) ⊎ (s ≡ 15))) → T (unplaced s)
    go (inl e) = rw e tt
    go (inr (inl e)) = rw e tt
    go (inr (inr (inl e))) = rw e tt
    go (inr (inr (inr e))) = rw e tt
