-- What a 17 does where it removes an entry: the page is not found any more, and every other page is found as before. So whoever wants the page weighs one
-- start anew less, and at most one more, if it stood at 19 or 22 with that entry's frame: it will go to 23. Assumes nothing.
use mathlib.Core.Path.{◌≡◌, sym, ap, ◌∙◌}
use mathlib.Core.Logic.{◌≢◌}
use mathlib.Core.Bool.{not, ◌&&◌, ◌||◌}
use Prim.Native.Nat.{ℕ, ◌+◌, ◌≤◌}
use native.Mathlib.Omega.{arith}
use native.Mathlib.Decide.{ℕ_discrete}
use lib.Dec.{eqb}
use borrow.Author.Tests.{eq-eqb, ne_eqb}
use Rattle.pool.specs.State.{none, number_of_clients}
use Rattle.pool.specs.Table.{entry_of, lookup}
use Rattle.pool.specs.Apply.{apply}
use Rattle.pool.specs.declared.Pool.{Pool}
use Rattle.pool.specs.declared.Client.{Client}
use Rattle.pool.specs.declared.Move.{Move}
use Rattle.pool.specs.declared.Write.TheVariants.{PutEntry}
use Rattle.invariant.proofs.Reached.{Reached}
use Rattle.invariant.proofs.Searches.{Found, lookup_found}
use Rattle.invariant.proofs.Lookups.{put_lookup, put_lookup_else}
use Rattle.progress.proofs.Rank.{weigh, anew}
use Rattle.progress.proofs.Clients.{TableTerms}
use Rattle.progress.proofs.Weights.{weigh_at_most}

-- what a client at stage i, which found frame f, weighs by a look-up that gives x
abbrev looks : ℕ → ℕ → ℕ → ℕ → ℕ
looks i f n x = weigh (eqb i 0 || not (eqb x none)) n + weigh ((eqb i 19 || eqb i 22) && not (eqb x f)) n

-- where it gave x and gives none now
turns : (i f n x y : ℕ) → x ≢ none → y ≡ none → looks i f n y ≤ looks i f n x
turns i f n x y z e =
    elim (ℕ_discrete i 0) [
      | yes w ↦ rw w (omega arith)
      | no w ↦ rw (ne_eqb i 0 w, eq-eqb y none e, ne_eqb x none z) (omega (arith, weigh_at_most ((eqb i 19 || eqb i 22) && not (eqb y f)) n))
    ]

module _ (p : Pool) (c : ℕ) (m : Move) (r : Reached p) (next : Reached (apply p c m)) (g : ℕ) (e : m.write ≡ PutEntry (entry_of p g) g none)
    (some : lookup p g ≢ none) where
  abbrev q : Pool
  q = apply p c m

  entry : Found p r.shape g (entry_of p g) (lookup p g)
  entry = lookup_found p r.shape g some

  gone : lookup q g ≡ none
  gone = put_lookup p c m r next (entry_of p g) g none e entry.inside (sym entry.entry_frame)

  others : (h : ℕ) → h ≢ g → lookup q h ≡ lookup p h
  others = put_lookup_else p c m r next (entry_of p g) g none e entry.inside (sym entry.entry_frame)

  pub removed : (i : ℕ) (k : Client) → TableTerms p.size (number_of_clients p) p q i k
  removed i k =
      elim (ℕ_discrete k.page g) [
        | yes w ↦
            turns i k.found (anew p.size (number_of_clients p)) _ _ (λ z. some (ap (lookup p) (sym w) ∙ z)) (ap (lookup q) w ∙ gone)
        | no w ↦ rw (others k.page w) (omega arith)
      ]
