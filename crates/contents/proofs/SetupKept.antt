-- A state that is set up has the invariant of the bytes, and each page holds what the store has. Its pool is the one that the same numbers set up without
-- a store. Assumes nothing.
use mathlib.Core.Path.{◌≡◌, refl, sym, ap, subst, ◌∙◌}
use mathlib.Core.Logic.{◌≢◌}
use mathlib.Core.Bool.{Bool, true, false, not, true≢false}
use mathlib.Core.List.{List}
use Prim.Native.Nat.{ℕ, ◌+◌, ◌*◌, ◌/◌, ◌%◌, ◌≤◌, ◌<◌}
use native.Mathlib.Nat.{div-add-mod}
use native.Mathlib.Omega.{arith}
use native.Mathlib.Decide.{ℕ_discrete}
use lib.Dec.{eqb}
use lib.ListN.{length, replicate, get_or-replicate, length-replicate}
use borrow.Author.Tests.{eqb-true, leb-true, ltb-true}
use Rattle.pool.specs.Limits.{max_frames}
use Rattle.pool.specs.State.{none, total, page}
use Rattle.pool.specs.Table.{lookup}
use Rattle.pool.specs.Valid.{numbers_ok}
use Rattle.pool.specs.Calls.{fresh, setup_of, SetUp}
use Rattle.pool.specs.declared.Pool.{Pool}
use Rattle.pool.specs.declared.Client.{Client}
use Rattle.pool.specs.declared.Outcome.{Outcome}
use Rattle.pool.specs.declared.Answer.TheVariants.{Done}
use Rattle.laws.specs.Choices.{by_test, chosen}
use Rattle.laws.specs.Scans.{both_true}
use Rattle.invariant.proofs.Reached.{Reached}
use Rattle.invariant.proofs.After.{few_frames}
use Rattle.invariant.proofs.Searches.{lookup_found}
use Rattle.invariant.proofs.Setup.{within_same, entry_none, setup_rests, reached_setup}
use Rattle.memory.specs.Memory.{page_bytes, max_pages, is_frame, mark, is_filled, is_changed, store_byte, blank}
use Rattle.memory.specs.Requests.{State, Result, length_ok, setup_on}
use Rattle.memory.specs.Happenings.{SetUpOn}
use Rattle.contents.specs.Contents.{content_of}
use Rattle.contents.proofs.Frames.{Off}
use Rattle.contents.proofs.Kept.{Kept, content_unmapped}
use Rattle.contents.proofs.Passed.{refused_not_done}

blank_off : (n f : ℕ) → Off (blank n) f
unfolding mark is_filled is_changed is_frame
blank_off n f = record { filled = off; changed = off }
  where
    off : mark (replicate max_frames 0) f ≡ false
    off = by_test (λ (b : Bool). b ≡ false) (λ t. ap (λ (y : ℕ). not (eqb y 0)) (get_or-replicate max_frames f 0 0 (ltb-true f max_frames t))) (λ _. refl)

-- a length that is accepted is that of whole pages, and of 256 at most
lengths : (n : ℕ) → length_ok n ≡ true → (n ≡ page_bytes * (n / page_bytes)) × (n / page_bytes ≤ max_pages)
unfolding length_ok
lengths n e =
    let a = both_true _ _ e in
    let z : n % 64 ≡ 0 = eqb-true _ _ a.0 in
    let l : n ≤ 16384 = leb-true _ _ a.1 in
    let d : 64 * (n / 64) + n % 64 ≡ n = div-add-mod n 64 in
    (omega (arith, d, z), omega (arith, d, z, l))

module _ (s t c h : ℕ) (store : List ℕ) (ok : numbers_ok s t c ≡ true) (len : length_ok (length store) ≡ true) where
  abbrev p : Pool
  p = fresh s t c h

  r : Reached p
  r = reached_setup s t c h ok

  page_zero : (f : ℕ) → page p f ≡ 0
  unfolding page
  page_zero f = within_same max_frames (total p) 0 f (few_frames p r.shape)

  absent : (g : ℕ) → lookup p g ≡ none
  absent g = go (ℕ_discrete (lookup p g) none)
    where
      go : Dec (lookup p g ≡ none) → lookup p g ≡ none
      go (yes e) = e
      go (no z) = sym (lookup_found p r.shape g z).entry_frame ∙ entry_none s t c h ok _

  positive : (n : ℕ) → n ≢ 0 → 0 < n
  positive n z = omega arith

  fresh_kept : Kept (record { pool = p; memory = blank (length store / page_bytes); store = store })
  fresh_kept =
      let l = lengths (length store) len in
      record {
        reached = r;
        few = l.1;
        inside = record {
          frames = λ f z. rw (page_zero f) (positive _ z);
          entries = λ i z. absurd (z (entry_none s t c h ok i));
          wanted = λ d z. absurd (z (ap (λ (a : Client). a.stage) (setup_rests s t c h ok d)));
          grants = λ d i low. absurd (let w = ap (λ (a : Client). a.held) (setup_rests s t c h ok d) in let y : ⊥ = omega arith in y);
        };
        marks = record {
          long = record { bytes = length-replicate {A = ℕ} _ 0; filled = length-replicate {A = ℕ} _ 0; changed = length-replicate {A = ℕ} _ 0 };
          store_long = l.0;
          no_store = λ _ f. blank_off _ f;
          own_off = λ d. blank_off _ _;
          each = λ g. record {
            changed_filled = λ y. absurd (true≢false (sym y ∙ (blank_off _ _).changed));
            clean = λ _ o _. content_unmapped p _ store g o (absent g);
          };
        };
      }

  fresh_set_up : SetUp p
  unfolding setup_of
  fresh_set_up =
      let e = chosen _ _ _ ok in
      record {
        size = s;
        clients = t;
        cap = c;
        hand = h;
        done = ap (λ (o : Outcome). o.answer) e;
        made = ap (λ (o : Outcome). o.pool) e;
      }

-- what holds of every state that accepted numbers and an accepted store set up
of_setup : (P : State → Type 0)
    → ((s t c h : ℕ) (store : List ℕ) → numbers_ok s t c ≡ true → length_ok (length store) ≡ true
    → P (record { pool = fresh s t c h; memory = blank (length store / page_bytes); store = store })) → {x : State} → SetUpOn x → P x
unfolding setup_on
of_setup P each {x} u = subst P u.made (go u.done)
  where
    go : (setup_on u.size u.clients u.cap u.hand x.store).answer ≡ Done u.size
        → P (setup_on u.size u.clients u.cap u.hand x.store).state
    go =
        by_test (λ (o : Result). o.answer ≡ Done u.size → P o.state)
        (λ ok _. let a = both_true _ _ ok in each u.size u.clients u.cap u.hand x.store a.0 a.1)
        (λ _ e. refused_not_done e)

pub kept_setup : {x : State} → SetUpOn x → Kept x
kept_setup = of_setup Kept fresh_kept

pub content_setup : {x : State} → SetUpOn x → (g o : ℕ) → content_of x g o ≡ store_byte x.store g o
content_setup =
    of_setup (λ (x : State). (g o : ℕ) → content_of x g o ≡ store_byte x.store g o)
    (λ s t c h store ok len g o. content_unmapped (fresh s t c h) _ store g o (absent s t c h store ok len g))

pub pool_setup : {x : State} → SetUpOn x → SetUp x.pool
pool_setup = of_setup (λ (x : State). SetUp x.pool) fresh_set_up

-- and with the numbers that were asked
pub pool_fresh : {x : State} (u : SetUpOn x) → x.pool ≡ fresh u.size u.clients u.cap u.hand
unfolding setup_on
pool_fresh {x} u = ap (λ (y : State). y.pool) (sym u.made) ∙ go u.done
  where
    go : (setup_on u.size u.clients u.cap u.hand x.store).answer ≡ Done u.size
        → (setup_on u.size u.clients u.cap u.hand x.store).state.pool ≡ fresh u.size u.clients u.cap u.hand
    go =
        by_test (λ (o : Result). o.answer ≡ Done u.size → o.state.pool ≡ fresh u.size u.clients u.cap u.hand)
        (λ _ _. refl) (λ _ e. refused_not_done e)
