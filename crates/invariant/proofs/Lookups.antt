-- What the look-up of each page finds after an entry is put, where the place was the page's own or an unused one: the page gets the entry's frame, every
-- other page keeps its own. Assumes nothing.
use mathlib.Core.Path.{◌≡◌, refl, sym, ap, ◌∙◌}
use mathlib.Core.Logic.{◌≢◌}
use Prim.Native.Nat.{ℕ, suc, ◌<◌}
use native.Mathlib.Omega.{arith}
use native.Mathlib.Decide.{ℕ_discrete}
use Rattle.pool.specs.Limits.{max_frames}
use Rattle.pool.specs.State.{none, total, entry_page, entry_frame, client}
use Rattle.pool.specs.Table.{entry_of, lookup}
use Rattle.pool.specs.Apply.{apply}
use Rattle.pool.specs.declared.Pool.{Pool}
use Rattle.pool.specs.declared.Move.{Move}
use Rattle.pool.specs.declared.Write.TheVariants.{PutEntry}
use Rattle.invariant.proofs.Reached.{Reached, mapped}
use Rattle.invariant.proofs.After.{few_frames}
use Rattle.invariant.proofs.Searches.{lookup_found, lookup_none, lookup_is}
use Rattle.invariant.proofs.Table.{suc_not, lookup_mapped, put_frame, put_page, else_frame, else_page}

module _ (p : Pool) (r : Reached p) where
  pub low_frame : (f : ℕ) → f < total p → f < max_frames
  low_frame f h = omega (arith, few_frames p r.shape)

  pub lookup_low : (g : ℕ) → lookup p g ≢ none → lookup p g < max_frames
  lookup_low g z =
      let f = lookup_found p r.shape g z in
      low_frame (lookup p g) (rw f.entry_frame at (r.ranges.entry_ok _ (λ y. z (sym f.entry_frame ∙ y))))

  lookup_entry : (i : ℕ) → entry_frame p i ≢ none → lookup p (entry_page p i) ≡ entry_frame p i
  lookup_entry i z = (lookup_is p r.shape (entry_page p i) i (λ j y e. r.mapping.pages_distinct j i y z e) z refl).1

  is_mapped : (g : ℕ) → lookup p g ≢ none → mapped p (lookup p g) ≡ suc g
  is_mapped g z = lookup_mapped p r.shape r.mapping.entries_distinct g z

  -- two pages have two frames
  pub lookup_apart : (g h : ℕ) → lookup p g ≢ none → lookup p g ≡ lookup p h → g ≡ h
  lookup_apart g h z e =
      let w : suc g ≡ suc h = sym (is_mapped g z) ∙ ap (mapped p) e ∙ is_mapped h (λ y. z (e ∙ y)) in
      omega arith

  -- and none has a frame that a client has taken and not mapped yet
  pub lookup_not_own : (g c : ℕ) → (client p c).own ≢ none → lookup p g ≢ (client p c).own
  lookup_not_own g c z e =
      suc_not (is_mapped g (λ y. z (sym e ∙ y))) (ap (mapped p) e ∙ r.private.own_unmapped c z)

-- entry i, of page g or unused, gets page g and frame f
module _ (p : Pool) (c : ℕ) (m : Move) (r : Reached p) (rq : Reached (apply p c m)) (i g f : ℕ) (e : m.write ≡ PutEntry i g f) (here : i < total p)
    (was : lookup p g ≡ entry_frame p i) where
  abbrev q : Pool
  q = apply p c m

  same_frame : (j : ℕ) → j ≢ i → entry_frame q j ≡ entry_frame p j
  same_frame = else_frame p c m r.shape i g f e here

  same_page : (j : ℕ) → j ≢ i → entry_page q j ≡ entry_page p j
  same_page = else_page p c m r.shape i g f e here

  -- an entry that is found now at another place was found before
  found_before : (h : ℕ) → lookup q h ≢ none → entry_of q h ≢ i → lookup p h ≡ lookup q h
  found_before h z o =
      let j : ℕ = entry_of q h in
      let n = lookup_found q rq.shape h z in
      let a : entry_frame p j ≡ lookup q h = sym (same_frame j o) ∙ n.entry_frame in
      ap (lookup p) (sym n.entry_page ∙ same_page j o) ∙ lookup_entry p r j (λ y. z (sym a ∙ y)) ∙ a

  pub put_lookup : lookup q g ≡ f
  put_lookup = go (ℕ_discrete f none) (ℕ_discrete (lookup q g) none)
    where
      at_i : entry_frame q i ≡ f
      at_i = put_frame p c m r.shape i g f e here

      go : Dec (f ≡ none) → Dec (lookup q g ≡ none) → lookup q g ≡ f
      go (no z) _ = ap (lookup q) (sym (put_page p c m r.shape i g f e here)) ∙ lookup_entry q rq i (λ y. z (sym at_i ∙ y)) ∙ at_i
      go (yes y) (yes z) = z ∙ sym y
      go (yes y) (no z) =
          let j : ℕ = entry_of q g in
          let n = lookup_found q rq.shape g z in
          let o : j ≢ i = λ w. z (sym n.entry_frame ∙ ap (entry_frame q) w ∙ at_i ∙ y) in
          let a : entry_frame p j ≡ lookup q g = sym (same_frame j o) ∙ n.entry_frame in
          absurd (o (r.mapping.entries_distinct j i (λ w. z (sym a ∙ w)) (a ∙ sym (found_before g z o) ∙ was)))

  pub put_lookup_else : (h : ℕ) → h ≢ g → lookup q h ≡ lookup p h
  put_lookup_else h apart = go (ℕ_discrete (lookup q h) none) (ℕ_discrete (lookup p h) none)
    where
      go : Dec (lookup q h ≡ none) → Dec (lookup p h ≡ none) → lookup q h ≡ lookup p h
      go (yes y) (yes z) = y ∙ sym z
      go (no z) _ =
          sym (found_before h z
          (λ w. apart (sym (lookup_found q rq.shape h z).entry_page ∙ ap (entry_page q) w ∙ put_page p c m r.shape i g f e here)))
      go (yes y) (no z) =
          let j : ℕ = entry_of p h in
          let n = lookup_found p r.shape h z in
          let o : j ≢ i = λ w. apart (lookup_apart p r h g z (sym n.entry_frame ∙ ap (entry_frame p) w ∙ sym was)) in
          absurd (lookup_none q rq.shape h y j (λ w. z (sym n.entry_frame ∙ sym (same_frame j o) ∙ w)) (same_page j o ∙ n.entry_page))
