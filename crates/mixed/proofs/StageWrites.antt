-- What the move of each stage writes that bytes, marks or page numbers hang on, of every pool, a handed one too: a line for each of the 23. Only 4 takes
-- a frame; only 17, 18 and 22 put an entry, and of these only 17 where it finds its victim's and 22 where it finds the one it found before. Assumes
-- nothing.
use mathlib.Core.Path.{◌≡◌, refl, sym, subst, ◌∙◌}
use mathlib.Core.Logic.{◌≢◌}
use mathlib.Core.Bool.{Bool, true, not, ◌||◌}
use Prim.Native.Nat.{ℕ, ◌+◌, ◌<◌}
use lib.Dec.{T, eqb}
use borrow.Author.Tests.{eqb-true, eqb-false, ltb-true}
use Rattle.pool.specs.Limits.{max_held}
use Rattle.pool.specs.Choose.{choose}
use Rattle.pool.specs.State.{none, pinned, total, page, entry_frame}
use Rattle.pool.specs.Table.{entry_of, lookup, unused_entry}
use Rattle.pool.specs.Frames.{free_frame}
use Rattle.pool.specs.Moves.{granted, stuck}
use Rattle.pool.specs.Stages.{busy_visit, evict_own, Stage, stages, no_stage, stage_move, stage1, stage2, stage3, stage4, stage5, stage6, stage7, stage8, stage9}
use Rattle.pool.specs.Stages.{stage10, stage11, stage12, stage13, stage14, stage15, stage16, stage17, stage18, stage19, stage20, stage21, stage22, stage23}
use Rattle.pool.specs.declared.Pool.{Pool}
use Rattle.pool.specs.declared.Client.{Client}
use Rattle.pool.specs.declared.Move.{Move}
use Rattle.pool.specs.declared.Counted.{Counted}
use Rattle.pool.specs.declared.GrantChange.TheVariants.{Same, Open}
use Rattle.pool.specs.declared.Write.{Write}
use Rattle.pool.specs.declared.Write.TheVariants.{Keep, PutCount, TakeFrame, PutEntry}
use Rattle.laws.specs.Choices.{by_test}
use Rattle.laws.specs.Scans.{first_found}
use Rattle.laws.specs.Each.{Each, fin, ◌also◌, each_at}
use Rattle.invariant.proofs.StageTests.{differ}
use Rattle.memory.specs.Requests.{refused}
use Rattle.contents.proofs.Ways.{apart}

module _ (p : Pool) (k : Client) where
  -- the client is not where a frame is taken, an entry removed or replaced
  pub record Elsewhere : Type 0 where
    pub not_4 : k.stage ≢ 4
    pub not_17 : k.stage ≡ 17 → lookup p (page p k.victim) ≢ k.victim
    pub not_22 : k.stage ≡ 22 → lookup p k.page ≢ k.found

  pub data Puts (m : Move) : Type 0 where
    refuses : refused m.answer ≡ true → m.write ≡ Keep → Puts m
    keeps : T (apart m.write) → Elsewhere → Puts m
    takes : {n : ℕ} → k.stage ≡ 4 → m.write ≡ TakeFrame (free_frame p) k.page (pinned 1) n → Puts m
    removes : k.stage ≡ 17 → lookup p (page p k.victim) ≡ k.victim
        → m.write ≡ PutEntry (entry_of p (page p k.victim)) (page p k.victim) none → Puts m
    admits : k.stage ≡ 18 → (i : ℕ) → entry_frame p i ≡ none → m.write ≡ PutEntry i k.page k.own → Puts m
    remaps : k.stage ≡ 22 → lookup p k.page ≡ k.found → m.write ≡ PutEntry (entry_of p k.page) k.page k.own → Puts m

  pub data Grants (m : Move) : Type 0 where
    stay : m.grants ≡ Same → m.next.held ≡ k.held → Grants m
    opens : (f : ℕ) → m.grants ≡ Open k.held k.page f → m.next.held ≡ k.held + 1 → k.held < max_held → Grants m

  pub record Does (m : Move) : Type 0 where
    pub puts : Puts m
    pub wants : m.next.stage ≢ 0 → m.next.page ≡ k.page
    pub grants : Grants m

  fork : (t : Bool) {x y : Move} → Does x → Does y → Does (choose t x y)
  fork t a b = by_test Does (λ _. a) (λ _. b)

  -- the client goes on, with no grant more
  on : (m : Move) → Puts m → m.next.page ≡ k.page → m.grants ≡ Same → m.next.held ≡ k.held → Does m
  on m w e g h = record { puts = w; wants = λ _. e; grants = stay g h }

  sticks : Does (stuck k)
  unfolding refused
  sticks = on (stuck k) (refuses refl refl) refl refl refl

  -- it is granted a frame
  gives : (f : ℕ) (w : Write) (u : Counted) → ((m : Move) → m.write ≡ w → Puts m) → Does (granted k f w u)
  unfolding granted
  gives f w u h =
      by_test Does (λ t. record { puts = h _ refl; wants = λ z. absurd (z refl); grants = opens f refl refl (ltb-true _ _ t) }) (λ _. sticks)

  at_17 : k.stage ≡ 17 → lookup p (page p k.victim) ≢ k.victim → Elsewhere
  at_17 e z =
      record { not_4 = λ w. differ 17 4 tt (sym e ∙ w); not_17 = λ _. z; not_22 = λ w. absurd (differ 17 22 tt (sym e ∙ w)) }

  at_22 : k.stage ≡ 22 → lookup p k.page ≢ k.found → Elsewhere
  at_22 e z =
      record { not_4 = λ w. differ 22 4 tt (sym e ∙ w); not_17 = λ w. absurd (differ 22 17 tt (sym e ∙ w)); not_22 = λ _. z }

  unused_none : unused_entry p ≢ none → entry_frame p (unused_entry p) ≡ none
  unfolding unused_entry
  unused_none z = eqb-true _ _ (first_found (λ i. eqb (entry_frame p i) none) (total p) z).1

  abbrev special : ℕ → Bool
  special i = eqb i 4 || (eqb i 17 || eqb i 22)

  module _ {i : ℕ} (e : k.stage ≡ i) (t : T (not (special i))) where
    elsewhere : Elsewhere
    elsewhere =
        record {
          not_4 = λ w. subst (λ (j : ℕ). T (not (special j))) (sym e ∙ w) t;
          not_17 = λ w. absurd (subst (λ (j : ℕ). T (not (special j))) (sym e ∙ w) t);
          not_22 = λ w. absurd (subst (λ (j : ℕ). T (not (special j))) (sym e ∙ w) t);
        }

    quiet : (m : Move) → T (apart m.write) → m.next.page ≡ k.page → m.grants ≡ Same → m.next.held ≡ k.held → Does m
    quiet m a = on m (keeps a elsewhere)

    counts : (f x h : ℕ) (u : Counted) → Does (granted k f (PutCount h x) u)
    unfolding apart
    counts f x h u = gives f _ u (λ m w. keeps (rw w tt) elsewhere)

    busy : (size : ℕ) → Does (busy_visit k size)
    unfolding busy_visit apart refused
    busy size =
        by_test Does (λ _. record { puts = refuses refl refl; wants = λ z. absurd (z refl); grants = stay refl refl })
        (λ _. quiet _ tt refl refl refl)

    evicts : (n j : ℕ) → Does (evict_own k n j)
    unfolding evict_own apart
    evicts n j = by_test Does (λ _. quiet _ tt refl refl refl) (λ _. quiet _ tt refl refl refl)

abbrev DoesAt : ℕ → Stage → Type 0
DoesAt i f = (p : Pool) (k : Client) → k.stage ≡ i → Does p k (f p k)

each_stage : Each DoesAt 0 stages
unfolding stage1 stage2 stage3 stage4 stage5 stage6 stage7 stage8 stage9 stage10 stage11 stage12 stage13
    stage14 stage15 stage16 stage17 stage18 stage19 stage20 stage21 stage22 stage23 apart
each_stage =
    (λ p k e. sticks p k)
    also (λ p k e. fork p k _ (quiet p k e tt _ tt refl refl refl) (quiet p k e tt _ tt refl refl refl))
    also (λ p k e. fork p k _ (quiet p k e tt _ tt refl refl refl) (quiet p k e tt _ tt refl refl refl))
    also (λ p k e. counts p k e tt _ _ _ _)
    also (λ p k e. fork p k _ (sticks p k) (on p k _ (takes e refl) refl refl refl))
    also (λ p k e. fork p k _ (quiet p k e tt _ tt refl refl refl) (quiet p k e tt _ tt refl refl refl))
    also (λ p k e. fork p k _ (fork p k _ (sticks p k) (quiet p k e tt _ tt refl refl refl)) (quiet p k e tt _ tt refl refl refl))
    also (λ p k e. quiet p k e tt _ tt refl refl refl)
    also (λ p k e. fork p k _ (quiet p k e tt _ tt refl refl refl) (quiet p k e tt _ tt refl refl refl))
    also (λ p k e. quiet p k e tt _ tt refl refl refl)
    also (λ p k e. quiet p k e tt _ tt refl refl refl)
    also (λ p k e. fork p k _ (busy p k e tt _) (quiet p k e tt _ tt refl refl refl))
    also (λ p k e. fork p k _ (quiet p k e tt _ tt refl refl refl) (fork p k _ (quiet p k e tt _ tt refl refl refl) (busy p k e tt _)))
    also (λ p k e. fork p k _ (quiet p k e tt _ tt refl refl refl) (quiet p k e tt _ tt refl refl refl))
    also (λ p k e. fork p k _ (quiet p k e tt _ tt refl refl refl) (quiet p k e tt _ tt refl refl refl))
    also (λ p k e. fork p k _ (quiet p k e tt _ tt refl refl refl) (quiet p k e tt _ tt refl refl refl))
    also (λ p k e. quiet p k e tt _ tt refl refl refl)
    also (λ p k e.
    by_test (Does p k) (λ t. on p k _ (removes e (eqb-true _ _ t) refl) refl refl refl)
    (λ t. on p k _ (keeps tt (at_17 p k e (eqb-false _ _ t))) refl refl refl))
    also (λ p k e.
    fork p k _
    (by_test (Does p k) (λ _. sticks p k) (λ t. gives p k _ _ _ (λ m w. admits e _ (unused_none p k (eqb-false _ _ t)) w)))
    (quiet p k e tt _ tt refl refl refl))
    also (λ p k e. fork p k _ (quiet p k e tt _ tt refl refl refl) (quiet p k e tt _ tt refl refl refl))
    also (λ p k e. evicts p k e tt _ 21)
    also (λ p k e. counts p k e tt _ _ _ _)
    also (λ p k e.
    by_test (Does p k) (λ t. gives p k _ _ _ (λ m w. remaps e (eqb-true _ _ t) w))
    (λ t. on p k _ (keeps tt (at_22 p k e (eqb-false _ _ t))) refl refl refl))
    also (λ p k e. evicts p k e tt _ 4)
    also fin

pub stage_does : (p : Pool) (k : Client) → Does p k (stage_move p k)
unfolding stage_move
stage_does p k = each_at DoesAt no_stage (λ _ p k _. sticks p k) stages each_stage k.stage p k refl
