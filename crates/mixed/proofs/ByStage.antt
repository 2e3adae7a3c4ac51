-- What a call of the pool that is not refused does to memory and store, by its client's stage, of every state that passed the checks. At 17 the test of
-- the page that the definition makes before it writes back is never false: check 8 has been passed. Assumes nothing.
use mathlib.Core.Path.{◌≡◌, refl, sym, ap, subst, ◌∙◌}
use mathlib.Core.Logic.{◌≢◌}
use mathlib.Core.Bool.{Bool, true, false, true≢false}
use mathlib.Core.List.{List}
use Prim.Native.Nat.{ℕ, ◌<◌}
use native.Mathlib.Omega.{arith}
use lib.Dec.{T, eqb, ltb}
use borrow.Author.Tests.{ne_eqb, lt-ltb}
use Rattle.pool.specs.Choose.{choose, both}
use Rattle.pool.specs.State.{none, number_of_clients, total, page, client}
use Rattle.pool.specs.Table.{lookup}
use Rattle.pool.specs.Calls.{caller, release_move, move_of, call_of}
use Rattle.pool.specs.declared.Pool.{Pool}
use Rattle.pool.specs.declared.Client.{Client}
use Rattle.pool.specs.declared.Move.{Move}
use Rattle.pool.specs.declared.Call.{Call}
use Rattle.pool.specs.declared.Call.TheVariants.{Begin, Step, Release}
use Rattle.pool.specs.declared.Outcome.{Outcome}
use Rattle.pool.specs.declared.Write.{Write}
use Rattle.laws.specs.Choices.{by_test, passed as past}
use Rattle.ranges.specs.Ranges.{ClientRanged, ranged, total_in}
use Rattle.invariant.proofs.StageTests.{differ}
use Rattle.invariant.proofs.Allowed.{Allowed, allowed}
use Rattle.guarantee.proofs.TurnedDown.{turned, one_move, turned_or_move}
use Rattle.memory.specs.Memory.{is_changed, copied_page, moved, memory_after, written_back, store_after}
use Rattle.memory.specs.Requests.{Asks, State, Result, refusal_on, refused, write_of, action_on, call_on}
use Rattle.memory.specs.declared.Memory.{Memory}
use Rattle.contents.proofs.Frames.{none_off, none_moves, moves_to_none}
use Rattle.contents.proofs.Ways.{apart, apart_means}
use Rattle.contents.proofs.Passed.{asks_passed, call_acts}
use Rattle.mixed.specs.Mixed.{ByStage, takes, writes_back, moves_bytes, otherwise, ClaimByStage}
use Rattle.mixed.proofs.Passes.{Passed, passed}
use Rattle.mixed.proofs.StageWrites.{Puts, refuses, keeps, removes, admits, remaps, stage_does}
use Rattle.mixed.proofs.StageWrites.{takes as takes_frame}

-- ---- what is written back

no_both : (a b : Bool) → a ≡ false → both a b ≡ false
unfolding both
no_both a b e = past _ _ _ e

both_no : (a b : Bool) → b ≡ false → both a b ≡ false
unfolding both choose
both_no true b e = e
both_no false b e = refl

-- nothing is written back from none, nor where a frame takes the entry
from_none : (m : Memory) (s : List ℕ) (g f : ℕ) → written_back m s g none f ≡ s
unfolding written_back
from_none m s g f = past _ _ _ (both_no _ _ (no_both _ _ (none_off m).changed))

to_frame : (m : Memory) (s : List ℕ) (g e f : ℕ) → f ≢ none → written_back m s g e f ≡ s
unfolding written_back
to_frame m s g e f z = past _ _ _ (no_both _ _ (ne_eqb f none z))

-- where the mark is on, the page passes its test
to_none : (m : Memory) (s : List ℕ) (g e : ℕ) → (is_changed m e ≡ true → g < m.pages)
    → written_back m s g e none ≡ choose (is_changed m e) (copied_page s g m.bytes e) s
unfolding written_back both choose
to_none m s g e h = go (is_changed m e) h
  where
    go : (t : Bool) → (t ≡ true → g < m.pages)
        → choose (choose (eqb none none) (choose t (ltb g m.pages) false) false) (copied_page s g m.bytes e) s
        ≡ choose t (copied_page s g m.bytes e) s
    go true l = rw (lt-ltb g m.pages (l refl)) refl
    go false l = refl

-- ---- a call that is not refused makes its move

module _ (x : State) (call : Call) (ok : refusal_on x (Asks call) ≡ 0) (done : refused (call_on x (Asks call)).answer ≡ false) where
  abbrev p : Pool
  p = x.pool

  abbrev m : Memory
  m = x.memory

  abbrev s : List ℕ
  s = x.store

  abbrev w : Write
  w = (move_of p call).write

  abbrev y : State
  y = (call_on x (Asks call)).state

  pool_done : refused (call_of p call).answer ≡ false
  unfolding action_on
  pool_done = ap (λ (o : Result). refused o.answer) (sym (call_acts x (Asks call) ok)) ∙ done

  writes : write_of p call ≡ w
  unfolding write_of
  writes = past _ _ _ pool_done

  memory_is : y.memory ≡ memory_after p m w
  unfolding action_on
  memory_is = ap (λ (o : Result). o.state.memory) (call_acts x (Asks call) ok) ∙ ap (memory_after p m) writes

  store_is : y.store ≡ store_after p m s w
  unfolding action_on
  store_is = ap (λ (o : Result). o.state.store) (call_acts x (Asks call) ok) ∙ ap (store_after p m s) writes

  not_refused : refused (move_of p call).answer ≢ true
  unfolding refused
  not_refused z =
      elim (turned_or_move p call) [
        | turned n _ e ↦ true≢false (sym (ap (λ (o : Outcome). refused o.answer) e) ∙ pool_done)
        | one_move _ _ e ↦ true≢false (sym (ap (λ (o : Outcome). refused o.answer) e ∙ z) ∙ pool_done)
      ]

  h : Passed x
  h = passed x (Asks call) ok

  may : Allowed p call
  may = allowed p call (asks_passed x call ok).0

  unseen : T (apart w) → (y.memory ≡ m) × (y.store ≡ s)
  unseen t = let a = apart_means p w t in (memory_is ∙ a.memory m, store_is ∙ a.store m s)

  -- ---- by the stage

  module _ (c : ℕ) (here : c < number_of_clients p) where
    abbrev k : Client
    k = client p c

    r : ClientRanged p c
    r = (ranged p may.ok).client c here

    low : {f : ℕ} → f < total p → f ≢ none
    low l z = let b : ⊥ = omega (arith, total_in p (ranged p may.ok).numbers) in b

    -- a changed frame of the pool has a page of the store
    written_page : (f : ℕ) → f < total p → is_changed m f ≡ true → page p f < m.pages
    written_page f l t =
        h.inside.frames f (λ z. true≢false (sym t ∙ (h.unmarked z f l).changed))

    by_puts : Puts p k (move_of p call) → ByStage x k y.memory y.store
    unfolding memory_after store_after lookup
    by_puts (refuses z _) = absurd (not_refused z)
    by_puts (keeps t e) =
        otherwise e.not_4 (λ a. e.not_17 a.0 a.1) (λ a. e.not_22 a.0 a.1) (unseen t).0 (unseen t).1
    by_puts (takes_frame a e) = takes a (memory_is ∙ ap (memory_after p m) e) (store_is ∙ ap (store_after p m s) e)
    by_puts (removes a b e) =
        writes_back (a, b) (memory_is ∙ ap (memory_after p m) e ∙ moves_to_none m _)
        (store_is ∙ ap (store_after p m s) e ∙ ap (λ (f : ℕ). written_back m s (page p k.victim) f none) b
        ∙ to_none m s (page p k.victim) k.victim (written_page k.victim (r.victim.there (rw a refl))))
    by_puts (admits a i b e) =
        otherwise (λ v. differ 18 4 tt (sym a ∙ v)) (λ v. differ 18 17 tt (sym a ∙ v.0)) (λ v. differ 18 22 tt (sym a ∙ v.0))
        (memory_is ∙ ap (memory_after p m) e ∙ ap (λ (f : ℕ). moved m f k.own) b ∙ none_moves m k.own)
        (store_is ∙ ap (store_after p m s) e ∙ ap (λ (f : ℕ). written_back m s k.page f k.own) b ∙ from_none m s k.page k.own)
    by_puts (remaps a b e) =
        moves_bytes (a, b) (memory_is ∙ ap (memory_after p m) e ∙ ap (λ (f : ℕ). moved m f k.own) b)
        (store_is ∙ ap (store_after p m s) e ∙ to_frame m s k.page _ k.own (low (r.own.there (rw a refl))))

-- ---- the claim

step_puts : (p : Pool) (c : ℕ) → Puts p (client p c) (move_of p (Step c))
unfolding move_of
step_puts p c = (stage_does p (client p c)).puts

-- a begin or release writes at most pins
apart_else : (p : Pool) (call : Call) → ((c : ℕ) → call ≢ Step c) → T (apart (move_of p call).write)
unfolding move_of release_move apart
apart_else p (Begin c g) z = tt
apart_else p (Step c) z = absurd (z c refl)
apart_else p (Release c g) z = by_test (λ (m : Move). T (apart m.write)) (λ _. tt) (λ _. tt)

by_step : (x : State) (c : ℕ) → refusal_on x (Asks (Step c)) ≡ 0 → refused (call_on x (Asks (Step c))).answer ≡ false
    → ByStage x (client x.pool c) (call_on x (Asks (Step c))).state.memory (call_on x (Asks (Step c))).state.store
unfolding caller
by_step x c ok done = by_puts x (Step c) ok done c (may x (Step c) ok done).here (step_puts x.pool c)

pub by_stage : ClaimByStage
by_stage x call ok done = (
  (λ c e. subst (λ (y : Call). refusal_on x (Asks y) ≡ 0 → refused (call_on x (Asks y)).answer ≡ false
      → ByStage x (client x.pool c) (call_on x (Asks y)).state.memory (call_on x (Asks y)).state.store) (sym e) (by_step x c) ok done),
  (λ z. unseen x call ok done (apart_else x.pool call z)),
)
