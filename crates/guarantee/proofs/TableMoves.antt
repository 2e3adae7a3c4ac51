-- What each kind of move does to the table, beside what it counts. A move puts one entry or none: 18 puts the own frame where none stood, 17 puts none
-- where the victim stood, and 22 puts one frame in the place of another. The proofs of `Point3` read no count, so who changes what is counted mends the
-- moves in `Edges` and this file; `Sum` and `Drops` follow from the equations of `keeps` and `puts`. Assumes nothing.
use mathlib.Core.Path.{◌≡◌, refl, sym, ◌∙◌}
use mathlib.Core.Logic.{◌≢◌}
use mathlib.Core.Bool.{not}
use mathlib.Core.List.{[]}
use Prim.Native.Nat.{ℕ, ◌+◌, ◌<◌}
use native.Mathlib.Omega.{arith}
use lib.Dec.{T, eqb}
use borrow.Author.Tests.{ne_eqb}
use Rattle.pool.specs.Choose.{choose}
use Rattle.pool.specs.State.{none, total, page, entry_frame}
use Rattle.pool.specs.Table.{lookup}
use Rattle.pool.specs.Tallies.{up, zero_tally, tallied}
use Rattle.pool.specs.declared.Pool.{Pool}
use Rattle.pool.specs.declared.Move.{Move}
use Rattle.pool.specs.declared.Counted.{Counted}
use Rattle.pool.specs.declared.Write.TheVariants.{PutEntry}
use Rattle.invariant.proofs.Reached.{Reached, one}
use Rattle.invariant.proofs.Writes.{keeps_table, untouched}
use Rattle.invariant.proofs.Searches.{lookup_found, unused_found}
use Rattle.invariant.proofs.NeverFails.{mover}
use Rattle.invariant.proofs.Edges.{Edge, moves_on, found1, found18, forgets2, forgets22, pins2, pins19, gets3, gets21, takes, fills, replaces, refuses, evicts14}
use Rattle.invariant.proofs.Edges.{removes, admits, revives, evicts20, evicts23, begins, releases}
use Rattle.invariant.proofs.Effects.{counters_test}

-- what a count adds to drops and to admitted, of a tally that counted nothing yet
abbrev pub lost : Counted → ℕ
lost u = (tallied u zero_tally).drops

abbrev pub gained : Counted → ℕ
gained u = (tallied u zero_tally).admitted

-- 1 for a frame, 0 for none
abbrev pub there : ℕ → ℕ
there f = one (not (eqb f none))

pub is_there : (f : ℕ) → f ≢ none → there f ≡ 1
is_there f z = rw (ne_eqb f none z) refl

pub data TableMove (p : Pool) (m : Move) : Type 0 where
  keeps : T (keeps_table m.write) → lost m.counted ≡ gained m.counted → TableMove p m
  -- the entry of page g, or an unused place, gets frame f, or none
  puts : (j g f : ℕ) → m.write ≡ PutEntry j g f → j < total p → lookup p g ≡ entry_frame p j
      → there f + lost m.counted ≡ there (entry_frame p j) + gained m.counted → TableMove p m

module _ (p : Pool) (c : ℕ) (r : Reached p) where
  open mover p r c use {me as k, known}

  pub table_move : {m : Move} → Edge p c m → TableMove p m
  unfolding tallied up choose
  table_move {m} (moves_on _ _ _ h) = keeps (untouched 0 [] m.write (counters_test h.counters_only)).table refl
  table_move (found1 _ _) = keeps tt refl
  table_move (found18 _ _) = keeps tt refl
  table_move (forgets2 _ _) = keeps tt refl
  table_move (forgets22 _ _) = keeps tt refl
  table_move (pins2 _ _) = keeps tt refl
  table_move (pins19 _ _) = keeps tt refl
  table_move (gets3 _) = keeps tt refl
  table_move (gets21 _) = keeps tt refl
  table_move (takes _ _) = keeps tt refl
  table_move (fills _ _) = keeps tt refl
  table_move (replaces _ _) = keeps tt refl
  table_move (refuses _ _) = keeps tt refl
  table_move (evicts14 _ _) = keeps tt refl
  table_move (removes e h) =
      let v = (known 17 e).1.0 in
      let f = lookup_found p r.shape (page p k.victim) (λ z. v (sym h ∙ z)) in
      let gone = is_there _ (λ z. v (sym h ∙ sym f.entry_frame ∙ z)) in
      puts _ _ none refl f.inside (sym f.entry_frame) (omega arith)
  table_move (admits e l u) =
      let f = unused_found p r.shape u in
      let own = is_there k.own (known 18 e).0 in
      puts _ _ k.own refl f.0 (l ∙ sym f.1) (rw f.1 (omega arith))
  table_move (revives e l) =
      let n = known 22 e in
      let f = lookup_found p r.shape k.page (λ z. n.1.0 (sym l ∙ z)) in
      let own = is_there k.own n.0.0 in
      let found = is_there _ (λ z. n.1.0 (sym l ∙ sym f.entry_frame ∙ z)) in
      puts _ _ k.own refl f.inside (sym f.entry_frame) (omega arith)
  table_move (evicts20 _) = keeps tt refl
  table_move (evicts23 _) = keeps tt refl
  table_move (begins _ _ _ _) = keeps tt refl
  table_move (releases _ _ _) = keeps tt refl
