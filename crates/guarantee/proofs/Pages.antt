-- The sequential pool has the resident pages and no others, each with the frame that the table has for it: a slot of it shows a slot's frame if that
-- is resident, and every resident frame stands in a slot. Assumes nothing.
use mathlib.Core.Path.{◌≡◌, refl, sym, ap, ◌∙◌}
use mathlib.Core.Logic.{◌≢◌}
use Prim.Native.Nat.{ℕ, suc}
use native.Mathlib.Omega.{arith}
use borrow.Author.Tests.{eqb-false, ne_eqb, not-true}
use Rattle.pool.specs.State.{none, evicted, slot, pins}
use Rattle.pool.specs.Table.{lookup, resident}
use Rattle.pool.specs.declared.Pool.{Pool}
use Rattle.invariant.proofs.Reached.{Reached, mapped}
use Rattle.invariant.proofs.Table.{suc_not, lookup_mapped, mapped_lookup}
use Rattle.invariant.proofs.Searches.{pins_named}
use Rattle.guarantee.specs.Sequential.{Sequential, Keeps}
use Rattle.guarantee.specs.Claims.{ResidentIn, SamePages}
use Rattle.guarantee.proofs.SimulationRelation.{view_frame, view_mapped, ResidentFrame, view_resident, SimulationRelation}

module _ {p : Pool} {q : Sequential} (r : Reached p) (related : SimulationRelation p q) where
  -- a resident frame's page is there
  pub page_there : {f g : ℕ} → f ≢ none → pins p f ≢ evicted → mapped p f ≡ suc g → Keeps q g f
  page_there {f} {g} z live e =
      let s = r.mapping.resident_in_slot f z live (suc_not e) in
      (s.0, related.slots s.0 ∙ (ap (view_frame p) s.1 ∙ view_mapped p f live e))

  -- a page that is there is a resident frame's
  pub page_resident : {g f : ℕ} → (h : Keeps q g f) → ResidentFrame p (slot p h.0) g f
  page_resident h = view_resident p (slot p h.0) (sym (related.slots h.0) ∙ h.1)

  pub same_pages : SamePages p q
  unfolding resident
  same_pages g f = (to, back)
    where
      to : Keeps q g f → ResidentIn p g f
      to h =
          let v = page_resident h in
          let s : ℕ = slot p h.0 in
          let e : lookup p g ≡ s = (mapped_lookup p r.shape r.mapping.pages_distinct s g (pins_named p r.shape s v.not_evicted) v.entry).1 in
          (rw (e, ne_eqb (pins p s) evicted v.not_evicted) refl, omega (arith, e, v.frame))

      back : ResidentIn p g f → Keeps q g f
      back (h, e) =
          let live : pins p (lookup p g) ≢ evicted = eqb-false _ _ (not-true _ h) in
          let z = pins_named p r.shape (lookup p g) live in
          let same : lookup p g ≡ f = omega (arith, e) in
          rw same at (page_there z live (lookup_mapped p r.shape r.mapping.entries_distinct g z))
