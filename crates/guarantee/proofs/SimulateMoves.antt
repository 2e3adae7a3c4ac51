-- Each move of a working client is a step of the sequential pool: the moves are those of the invariant's `Edges`, none of them stuck, and each is one
-- of `Simulate`'s six kinds. Most only continue, and what they write is not in the view: a taken frame stands in no slot, a frame that is put into a slot is
-- in no entry yet, and the entry that 17 removes is an evicted frame's. Assumes nothing.
use mathlib.Core.Path.{◌≡◌, refl, sym, ap, ◌∙◌}
use mathlib.Core.Logic.{◌≢◌, inr}
use Prim.Native.Nat.{ℕ, ◌<◌}
use native.Mathlib.Omega.{arith}
use lib.Dec.{T}
use Rattle.pool.specs.Limits.{max_held}
use Rattle.pool.specs.State.{none, evicted, pinned, page, pins, client}
use Rattle.pool.specs.Table.{entry_of, unused_entry}
use Rattle.pool.specs.Frames.{free_frame}
use Rattle.pool.specs.Moves.{with_own, works}
use Rattle.pool.specs.declared.Pool.{Pool}
use Rattle.pool.specs.declared.Move.{Move}
use Rattle.pool.specs.declared.Answer.TheVariants.{Working}
use Rattle.pool.specs.declared.GrantChange.TheVariants.{Same}
use Rattle.pool.specs.declared.Write.TheVariants.{PutPins}
use Rattle.invariant.proofs.Reached.{Reached}
use Rattle.invariant.proofs.Searches.{lookup_found, unused_found, free_found, unreferenced_means, none_evicted}
use Rattle.invariant.proofs.Table.{mapped_lookup}
use Rattle.invariant.proofs.NeverFails.{mover}
use Rattle.invariant.proofs.Edges.{Edge, moves_on, found1, found18, forgets2, forgets22, pins2, pins19, gets3, gets21, takes, fills, replaces, refuses, evicts14}
use Rattle.invariant.proofs.Edges.{removes, admits, revives, evicts20, evicts23, begins, releases}
use Rattle.invariant.proofs.Effects.{counters_test}
use Rattle.guarantee.specs.Sequential.{Sequential}
use Rattle.guarantee.proofs.SeqClients.{working_move, observable, continuing, continuing_means, onward_continuing}
use Rattle.guarantee.proofs.ViewAfter.{SameView, counters_view, pins_view, take_view, slot_view, remove_view}
use Rattle.guarantee.proofs.Simulate.{Simulates, Acting, continues_one, adds_one, answers_one, admits_one, refuses_one, evicts_one}

module _ {p : Pool} {c : ℕ} {q : Sequential} (acting : Acting p c q) (busy : (client p c).stage ≢ 0) where
  r : Reached p
  r = acting.reached

  open mover p r c use {me as k, known}

  room : k.held < max_held
  room = omega (arith, r.ranges.working_held c busy)

  continues_at : (i j : ℕ) → k.stage ≡ i → {m : Move} → observable m ≡ working_move k j → T (continuing i j) → SameView p c m → Simulates p c q m
  continues_at i j e o t = continues_one acting busy i j e o (continuing_means i j t)

  -- the own frame is in no entry
  evicts : (i j : ℕ) → k.stage ≡ i → T (continuing i j) → k.own ≢ none → Simulates p c q (works (with_own k none) j (PutPins k.own evicted))
  evicts i j e t z = continues_at i j e refl t (pins_view p c _ r k.own evicted refl (r.ranges.own_ok c z) (inr (r.private.own_unmapped c z)))

  pub simulated : {m : Move} → Edge p c m → Simulates p c q m
  simulated {m} (moves_on n j w h) =
      continues_one acting busy k.stage j refl
      (λ i. record { answer = Working j; grants = Same; stage = j; page = h.same.page i; held = h.same.held i })
      (onward_continuing h.stages) (counters_view p c m r (counters_test h.counters_only))
  simulated {m} (found1 e _) = continues_at 1 2 e refl tt (counters_view p c m r tt)
  simulated {m} (found18 e _) = continues_at 18 19 e refl tt (counters_view p c m r tt)
  simulated {m} (forgets2 e _) = continues_at 2 4 e refl tt (counters_view p c m r tt)
  simulated {m} (forgets22 e _) = continues_at 22 23 e refl tt (counters_view p c m r tt)
  simulated (pins2 e l) = adds_one acting busy 2 3 e tt refl refl (known 2 e) l refl refl
  simulated (pins19 e l) = adds_one acting busy 19 20 e tt refl refl (known 19 e).1 l refl refl
  simulated (gets3 e) = answers_one acting busy 3 e tt refl (known 3 e) room refl tt
  simulated (gets21 e) = answers_one acting busy 21 e tt refl (known 21 e) room refl tt
  simulated (takes e z) =
      continues_at 4 5 e refl tt
      (take_view p c _ r (free_frame p) k.page (pinned 1) _ refl (unreferenced_means p (free_frame p) z (free_found p r.shape z).1).no_slot)
  simulated (fills e s) =
      continues_at 8 9 e refl tt
      (slot_view p c _ r k.place k.own refl (r.ranges.place_ok c) (r.private.own_unmapped c (known 8 e)) (ap (pins p) s ∙ none_evicted p r.shape))
  simulated (replaces e s) =
      continues_at 15 16 e refl tt
      (slot_view p c _ r k.place k.own refl (r.ranges.place_ok c) (r.private.own_unmapped c (known 15 e).0) (ap (pins p) s ∙ (known 15 e).1.1))
  simulated (refuses v _) = refuses_one acting busy k.stage refl v.no_pin refl tt
  simulated (evicts14 e h) = evicts_one acting busy e (known 14 e).1.0 h ((known 14 e).1.1 (λ z. omega arith)) refl refl
  simulated (removes e h) =
      let g : ℕ = page p k.victim in
      let f = lookup_found p r.shape g (λ z. (known 17 e).1.0 (sym h ∙ z)) in
      continues_at 17 18 e refl tt (remove_view p c _ r (entry_of p g) g none refl f.inside (ap (pins p) (f.entry_frame ∙ h) ∙ (known 17 e).1.1) refl)
  simulated (admits e l u) =
      let free = unused_found p r.shape u in
      admits_one acting busy 18 e tt refl (known 18 e) room
      (λ f z n. absurd (z (sym (mapped_lookup p r.shape r.mapping.pages_distinct f k.page z n).1 ∙ l)))
      (unused_entry p) free.0 (ap (pins p) free.1 ∙ none_evicted p r.shape) refl refl
  simulated (revives e l) =
      let f = lookup_found p r.shape k.page (λ z. (known 22 e).1.0 (sym l ∙ z)) in
      admits_one acting busy 22 e tt refl (known 22 e).0 room
      (λ f z n. ap (pins p) (sym (mapped_lookup p r.shape r.mapping.pages_distinct f k.page z n).1 ∙ l) ∙ (known 22 e).1.1)
      (entry_of p k.page) f.inside (ap (pins p) (f.entry_frame ∙ l) ∙ (known 22 e).1.1) refl refl
  simulated (evicts20 e) = evicts 20 21 e tt (known 20 e).0.0
  simulated (evicts23 e) = evicts 23 4 e tt (known 23 e).0
  simulated (begins _ e _ _) = absurd (busy e)
  simulated (releases _ e _) = absurd (busy e)
