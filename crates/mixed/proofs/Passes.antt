-- Check 8 of the bytes. A state from setup and calls passes it: its page numbers are inside the store, no mark is on without one, and the store is as
-- long as at setup; so a call is turned down by what turns it down of the pool alone, or by 16 or 17. And what any state has that passed it. Assumes
-- nothing.
use mathlib.Core.Path.{◌≡◌, refl, ap}
use mathlib.Core.Logic.{◌≢◌, inl, inr}
use mathlib.Core.Bool.{Bool, true, false, not}
use mathlib.Core.List.{List}
use Prim.Native.Nat.{ℕ, ◌≤◌, ◌<◌}
use native.Mathlib.Omega.{arith}
use native.Mathlib.Decide.{ℕ_discrete, dec_lt}
use lib.Dec.{eqb, leb}
use borrow.Author.Tests.{eqb-true, eqb-false, eq-eqb, ne_eqb, lt-ltb, leb-true, le-leb, not-true}
use Rattle.pool.specs.Choose.{choose, either, every}
use Rattle.pool.specs.State.{number_of_clients, total, page, client, grant_page}
use Rattle.pool.specs.Holdings.{holdings_of}
use Rattle.pool.specs.declared.Pool.{Pool}
use Rattle.pool.specs.declared.Row.{Row}
use Rattle.laws.specs.Choices.{by_test, chosen}
use Rattle.laws.specs.Scans.{both_true, both_first, both_second, both_yes, either_true, every_at, every_yes}
use Rattle.invariant.proofs.After.{within_past, entry_in, client_here}
use Rattle.invariant.proofs.StageTests.{differ}
use Rattle.memory.specs.Memory.{max_pages}
use Rattle.memory.specs.Requests.{Request, State, inside, entry_inside, client_inside, pages_inside, unmarked_at, marks_ok, bytes_ok, store_ok}
use Rattle.memory.specs.Requests.{turned_away_by, refusal_on, buffer_pool, holdings_on}
use Rattle.memory.specs.declared.Memory.{Memory}
use Rattle.contents.proofs.Frames.{Off}
use Rattle.contents.proofs.Passed.{inside_means}
use Rattle.contents.proofs.Kept.{Inside, PagesInside, Kept}
use Rattle.mixed.specs.Mixed.{SoundBytes, ClaimCheck8}

-- ---- put together, from what is tested

either_left : (a b : Bool) → a ≡ true → either a b ≡ true
unfolding either choose
either_left a b e = rw e refl

either_right : (a b : Bool) → b ≡ true → either a b ≡ true
unfolding either choose
either_right true b e = refl
either_right false b e = e

-- nothing is asked where the first test passes
unless : (m n : ℕ) (b : Bool) → (m ≢ n → b ≡ true) → either (eqb m n) b ≡ true
unless m n b h = elim (ℕ_discrete m n) [ yes e ↦ either_left _ _ (eq-eqb m n e) | no z ↦ either_right _ _ (h z) ]

inside_yes : (n g : ℕ) → Inside n g → inside n g ≡ true
unfolding inside
inside_yes n g h = unless n 0 _ (λ z. lt-ltb g n (h z))

pages_yes : (n : ℕ) (p : Pool) → PagesInside n p → pages_inside p n ≡ true
unfolding pages_inside entry_inside client_inside
pages_yes n p i =
    both_yes _ _ (every_yes (λ f. inside n (page p f)) _ (λ f _. inside_yes n _ (i.frames f)))
    (both_yes _ _ (every_yes (entry_inside p n) _ (λ j _. unless _ _ _ (λ z. inside_yes n _ (i.entries j z))))
    (every_yes (client_inside p n) _
    (λ c _. both_yes _ _ (unless _ _ _ (λ z. inside_yes n _ (i.wanted c z)))
    (every_yes (λ j. inside n (grant_page p c j)) _ (λ j l. inside_yes n _ (i.grants c j l))))))

pub bytes_from : (p : Pool) (m : Memory) → leb m.pages max_pages ≡ true → PagesInside m.pages p
    → (m.pages ≡ 0 → (f : ℕ) → f < total p → Off m f) → bytes_ok p m ≡ true
unfolding bytes_ok marks_ok unmarked_at
bytes_from p m few i off = both_yes _ _ few (both_yes _ _ (pages_yes _ p i) (go (ℕ_discrete m.pages 0)))
  where
    go : Dec (m.pages ≡ 0) → either (not (eqb m.pages 0)) (every (unmarked_at m) (total p)) ≡ true
    go (yes e) = either_right _ _ (every_yes (unmarked_at m) (total p) (λ f l. let o = off e f l in both_yes _ _ (ap not o.filled) (ap not o.changed)))
    go (no z) = either_left _ _ (ap not (ne_eqb m.pages 0 z))

module _ (x : State) (k : Kept x) where
  pub bytes_yes : bytes_ok x.pool x.memory ≡ true
  bytes_yes =
      bytes_from x.pool x.memory (le-leb _ _ k.few) k.inside (λ e f _. k.marks.no_store e f)

  pub store_yes : (r : Request) → store_ok x r ≡ true
  unfolding store_ok
  store_yes r = either_right _ _ (eq-eqb _ _ k.marks.store_long)

  -- so a request is turned down by what comes after check 8
  pub turned_away : (r : Request) → refusal_on x r ≡ turned_away_by x r
  unfolding refusal_on
  turned_away r = chosen _ _ _ (both_yes _ _ bytes_yes (store_yes r))

  pub holdings_same : (c : ℕ) (rows : List Row) → holdings_on (buffer_pool x) c rows ≡ holdings_of x.pool c rows
  unfolding holdings_on
  holdings_same c rows = chosen _ _ _ bytes_yes

-- ---- taken apart: what a state has of which a request was not turned down

pub record Passed (x : State) : Type 0 where
  pub few : leb x.memory.pages max_pages ≡ true
  pub inside : PagesInside x.memory.pages x.pool
  -- without a store no frame of the pool has a mark
  pub unmarked : x.memory.pages ≡ 0 → (f : ℕ) → f < total x.pool → Off x.memory f

-- page 0 is inside every store
pub zero_inside : (n : ℕ) → Inside n 0
zero_inside n z = omega arith

page_past : (p : Pool) (f : ℕ) → total p ≤ f → page p f ≡ 0
unfolding page
page_past p f l = within_past p.pages (total p) 0 f l

pages_mean : (n : ℕ) (p : Pool) → pages_inside p n ≡ true → PagesInside n p
unfolding pages_inside entry_inside client_inside
pages_mean n p h =
    let a = both_true _ _ h in
    let b = both_true _ _ a.1 in
    record {
      frames = λ f. elim (dec_lt f (total p)) [
        | yes l ↦ inside_means n _ (every_at (λ f. inside n (page p f)) (total p) a.0 f l)
        | no l ↦ rw (page_past p f (omega arith)) (zero_inside n)
      ];
      entries = λ i z.
          elim (either_true _ _ (every_at (entry_inside p n) (total p) b.0 i (entry_in p i z))) [
            | inl e ↦ absurd (z (eqb-true _ _ e))
            | inr e ↦ inside_means n _ e
          ];
      wanted = λ c z.
          elim (either_true _ _ (both_first _ _ (of_client b.1 c (client_here p (λ k. k.stage ≢ 0) c z (λ w. w refl))))) [
            | inl e ↦ absurd (z (eqb-true _ _ e))
            | inr e ↦ inside_means n _ e
          ];
      grants = λ c i l.
          inside_means n _ (every_at (λ j. inside n (grant_page p c j)) (client p c).held
          (both_second _ _ (of_client b.1 c (client_here p (λ k. i < k.held) c l (λ w. let y : ⊥ = omega arith in y)))) i l);
    }
  where
    of_client : every (client_inside p n) (number_of_clients p) ≡ true → (c : ℕ) → c < number_of_clients p → client_inside p n c ≡ true
    of_client e c l = every_at (client_inside p n) (number_of_clients p) e c l

marks_mean : (p : Pool) (m : Memory) → marks_ok p m ≡ true → m.pages ≡ 0 → (f : ℕ) → f < total p → Off m f
unfolding marks_ok unmarked_at
marks_mean p m h e f l =
    elim (either_true _ _ h) [
      | inl t ↦ absurd (eqb-false m.pages 0 (not-true _ t) e)
      | inr t ↦ let a = both_true _ _ (every_at (unmarked_at m) (total p) t f l) in record { filled = not-true _ a.0; changed = not-true _ a.1 }
    ]

bytes_mean : (p : Pool) (m : Memory) → bytes_ok p m ≡ true
    → (leb m.pages max_pages ≡ true) × PagesInside m.pages p × (m.pages ≡ 0 → (f : ℕ) → f < total p → Off m f)
unfolding bytes_ok
bytes_mean p m e =
    let a = both_true _ _ e in
    let b = both_true _ _ a.1 in
    (a.0, pages_mean _ p b.0, marks_mean p m b.1)

pub passed : (x : State) (r : Request) → refusal_on x r ≡ 0 → Passed x
unfolding refusal_on
passed x r =
    by_test (λ (n : ℕ). n ≡ 0 → Passed x)
    (λ t _. let a = bytes_mean x.pool x.memory (both_first _ _ t) in record { few = a.0; inside = a.1; unmarked = a.2 })
    (λ _ e. absurd (differ 8 0 tt e))

-- ---- both ways, as the claim has it

sound_means : (p : Pool) (m : Memory) → bytes_ok p m ≡ true → SoundBytes p m
sound_means p m e =
    let a = bytes_mean p m e in
    let i = a.1 in
    let few : m.pages ≤ max_pages = leb-true _ _ a.0 in
    record {
      few = omega (arith, few);
      frames = λ z f _. i.frames f z;
      entries = λ z j w. i.entries j w z;
      wanted = λ z c w. i.wanted c w z;
      grants = λ z c j l. i.grants c j l z;
      unmarked = λ z f l. let o = a.2 z f l in (o.filled, o.changed);
    }

sound_yes : (p : Pool) (m : Memory) → SoundBytes p m → bytes_ok p m ≡ true
sound_yes p m s =
    bytes_from p m (le-leb m.pages max_pages (omega (arith, s.few)))
    (record {
      frames = λ f z. elim (dec_lt f (total p)) [
        | yes l ↦ s.frames z f l
        | no l ↦ rw (page_past p f (omega arith)) (zero_inside _ z)
      ];
      entries = λ j w z. s.entries z j w;
      wanted = λ c w z. s.wanted z c w;
      grants = λ c j l z. s.grants z c j l;
    })
    (λ z f l. let o = s.unmarked z f l in record { filled = o.0; changed = o.1 })

pub check_8 : ClaimCheck8
check_8 p m = (sound_means p m, sound_yes p m)
