-- The acting client of the sequential pool after a move. Of the move only what can be observed matters: answer, change of grants, stage, page and
-- number of grants. The sequential client has its page among its grants from the step that pins it on, so an answer at 3 or 21 adds nothing there, and
-- one at 18 or 22 does. Assumes nothing.
use mathlib.Core.Path.{◌≡◌, refl, sym, ◌∙◌}
use mathlib.Core.Logic.{◌≢◌}
use mathlib.Core.Bool.{Bool, true, false, not, ◌&&◌, ◌||◌}
use mathlib.Core.List.{List, ◌∷◌}
use Prim.Native.Nat.{ℕ, ◌+◌, ◌≤◌}
use native.Mathlib.Omega.{arith}
use lib.Dec.{T, eqb, leb}
use lib.ListN.{length}
use Rattle.pool.specs.declared.Client.{Client}
use Rattle.pool.specs.declared.Move.{Move}
use Rattle.pool.specs.declared.Answer.{Answer}
use Rattle.pool.specs.declared.Answer.TheVariants.{Working, Granted, Refused}
use Rattle.pool.specs.declared.GrantChange.{GrantChange}
use Rattle.pool.specs.declared.GrantChange.TheVariants.{Same, Open}
use Rattle.invariant.proofs.Reached.{one, pins_found}
use Rattle.laws.specs.Scans.{and_parts}
use Rattle.invariant.proofs.StageTests.{at_most, iff, iff_same, Onward}
use Rattle.guarantee.specs.Sequential.{SeqClient, seq_resting, adding, evicting}
use Rattle.guarantee.proofs.SimulationRelation.{times, ClientRelation, open_many, open_grants}

-- ---- what can be observed of a move

pub record Observable : Type 0 where
  pub answer : Answer
  pub grants : GrantChange
  pub stage : ℕ
  pub page : ℕ
  pub held : ℕ

abbrev pub observable : Move → Observable
observable m = record { answer = m.answer; grants = m.grants; stage = m.next.stage; page = m.next.page; held = m.next.held }

-- the client goes on to stage j; it is granted frame f; it is refused
abbrev pub working_move : Client → ℕ → Observable
working_move k j = record { answer = Working j; grants = Same; stage = j; page = k.page; held = k.held }

abbrev pub granted_move : Client → ℕ → Observable
granted_move k f = record { answer = Granted f; grants = Open k.held k.page f; stage = 0; page = 0; held = k.held + 1 }

abbrev pub refused_move : Client → Observable
refused_move k = record { answer = Refused 15; grants = Same; stage = 0; page = 0; held = k.held }

-- ---- the steps that move no page and add no grant

abbrev pub continuing : ℕ → ℕ → Bool
continuing i j = not (adding i j || evicting i j) && (leb 1 j && (leb j 23 && iff (pins_found j) (pins_found i)))

pub record Continuing (i j : ℕ) : Type 0 where
  pub plain_step : T (not (adding i j || evicting i j))
  pub low : 1 ≤ j
  pub high : j ≤ 23
  pub pins_alike : pins_found j ≡ pins_found i

pub continuing_means : (i j : ℕ) → T (continuing i j) → Continuing i j
continuing_means i j h =
    let a = and_parts (not (adding i j || evicting i j)) _ h in
    let b = and_parts (leb 1 j) _ a.1 in
    let d = and_parts (leb j 23) _ b.1 in
    record { plain_step = a.0; low = at_most 1 j b.0; high = at_most j 23 d.0; pins_alike = iff_same (pins_found j) (pins_found i) d.1 }

pub onward_continuing : {i j : ℕ} → Onward i j → Continuing i j
onward_continuing h = record { plain_step = h.plain_step; low = h.starts; high = h.stage_ok; pins_alike = h.pins_alike }

-- ---- a client n that was k, of which x and y say how many open grants it had and has on each page

pub record WorksOn (k n : Client) (x y : ℕ → ℕ) (j : ℕ) : Type 0 where
  pub works : k.stage ≢ 0
  pub at_stage : n.stage ≡ j
  pub same_page : n.page ≡ k.page
  pub same_held : n.held ≡ k.held
  pub same_grants : (g : ℕ) → y g ≡ x g

pub record IsGranted (k n : Client) (x y : ℕ → ℕ) : Type 0 where
  pub at_rest : n.stage ≡ 0
  pub more_held : n.held ≡ k.held + 1
  pub more_grants : (g : ℕ) → y g ≡ x g + one (eqb k.page g)

-- at rest, with these grants
pub related_resting : {n : Client} {y : ℕ → ℕ} {l : List ℕ} → n.stage ≡ 0 → length l ≡ n.held → ((g : ℕ) → times g l ≡ y g)
    → ClientRelation n y (seq_resting l)
related_resting s a e = record { stage = sym s; wants = λ z. absurd (z s); many = rw s (omega (arith, a)); grants = λ g. rw s (omega (arith, e g)) }

module _ {k n : Client} {x y : ℕ → ℕ} {t : SeqClient} (old : ClientRelation k x t) where
  -- at stage j, with the grants it had
  pub related_working : {j : ℕ} → WorksOn k n x y j → pins_found j ≡ pins_found k.stage
      → ClientRelation n y (record { stage = j; wants = t.wants; grants = t.grants })
  related_working h pf =
      record {
        stage = sym h.at_stage;
        wants = λ _. old.wants h.works ∙ sym h.same_page;
        many = rw (h.at_stage, pf, h.same_held) old.many;
        grants = λ g. rw (h.at_stage, pf, h.same_page, h.same_grants g) (old.grants g);
      }

  -- at stage j, with its page pinned
  pub related_pinned : {j : ℕ} → WorksOn k n x y j → pins_found j ≡ true → pins_found k.stage ≡ false
      → ClientRelation n y (record { stage = j; wants = t.wants; grants = t.wants ∷ t.grants })
  unfolding times
  related_pinned h pj pk =
      record {
        stage = sym h.at_stage;
        wants = λ _. old.wants h.works ∙ sym h.same_page;
        many = rw (h.at_stage, pj, h.same_held) (omega (arith, open_many old pk));
        grants = λ g. rw (h.at_stage, pj, h.same_page, h.same_grants g, old.wants h.works) (omega (arith, open_grants old pk g));
      }

  -- granted: the page was pinned for it already; it was not
  pub related_answered : IsGranted k n x y → pins_found k.stage ≡ true → ClientRelation n y (seq_resting t.grants)
  related_answered h pk = related_resting h.at_rest (old.many ∙ rw (pk, h.more_held) refl) (λ g. old.grants g ∙ rw (pk, h.more_grants g) refl)

  pub related_admitted : IsGranted k n x y → k.stage ≢ 0 → pins_found k.stage ≡ false → ClientRelation n y (seq_resting (t.wants ∷ t.grants))
  unfolding times
  related_admitted h busy pk =
      related_resting h.at_rest (omega (arith, open_many old pk, h.more_held))
      (λ g. rw (h.more_grants g, old.wants busy) (omega (arith, open_grants old pk g)))
