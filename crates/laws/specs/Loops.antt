-- How a loop that tests every number below n gives `every`, whether it stops at the first that fails or goes on to the end; the same for a loop
-- that looks for the first number that passes. Assumes nothing.
use Rattle.std.specs.Prelude.{◌≡◌, refl, Bool, true, false, not, ℕ, zero, suc, ◌+◌, ◌-◌, ◌<◌, ◌≤◌}
use Rattle.std.proofs.Common.{◌∙◌, sym, ap, add-one, arith}
use Rattle.std.proofs.Math.Decide.{ℕ_discrete}
use borrow.Author.Tests.{not-true, not-false}
use Rattle.pool.specs.Choose.{choose, both, scan, every}
use Rattle.laws.specs.Choices.{both_are, scan_hit, scan_miss, scan_end, scan_start}
use Rattle.laws.specs.Scans.{both_first, both_second, both_yes, every_at, every_yes}

-- The loop's invariant: what is left of the search from i on is all of it.
pub record Left {A : Type 0} (test : ℕ → Bool) (found : ℕ → A) (missing : A) (n i : ℕ) : Type 0 where
  pub within : i ≤ n
  pub rest : scan test found missing i (n - i) ≡ scan test found missing 0 n

module _ {A : Type 0} (test : ℕ → Bool) (found : ℕ → A) (missing : A) (n : ℕ) where
  pub begins : Left test found missing n 0
  begins = record { within = omega arith; rest = scan_start test found missing n }

module _ {A : Type 0} {test : ℕ → Bool} {found : ℕ → A} {missing : A} {n i : ℕ} (l : Left test found missing n i) where
  -- number i passes, by a test b that the code made
  pub hit : {b : Bool} → i < n → b ≡ test i → b ≡ true → found i ≡ scan test found missing 0 n
  hit h e t = sym (scan_hit test found missing i n h (sym e ∙ t)) ∙ l.rest

  pub misses : {b : Bool} → i < n → b ≡ test i → b ≡ false → Left test found missing n (i + 1)
  misses h e f = record { within = omega arith; rest = sym (scan_miss test found missing i n h (sym e ∙ f)) ∙ l.rest }

  pub ends : n ≤ i → missing ≡ scan test found missing 0 n
  ends h = sym (scan_end test found missing i n h) ∙ l.rest

-- The invariant of a loop that tests every number below n, and whose turn makes the test of number i as b and returns false where it fails.
pub record Passing (test : ℕ → Bool) (n i : ℕ) : Type 0 where
  pub left : Left (λ x. not (test x)) (λ _. false) true n i

pub starts : (test : ℕ → Bool) (n : ℕ) → Passing test n 0
starts test n = record { left = begins _ _ _ n }

module _ {test : ℕ → Bool} {n i : ℕ} (l : Passing test n i) where
  pub fails : {b : Bool} → i < n → b ≡ test i → not b ≡ true → false ≡ every test n
  fails h e t = hit l.left h (ap not e) t

  pub passes : {b : Bool} → i < n → b ≡ test i → not b ≡ false → Passing test n (i + 1)
  passes h e f = record { left = misses l.left h (ap not e) f }

  pub all_pass : n ≤ i → true ≡ every test n
  all_pass h = ends l.left h

-- The invariant of a loop that tests every number below n to the end, without a way out, which a compiler turns into vector instructions: `ok` is
-- whether all before i passed.
pub record Tested (test : ℕ → Bool) (n i : ℕ) (ok : Bool) : Type 0 where
  pub within : i ≤ n
  pub so_far : ok ≡ every test i

same_truth : (a b : Bool) → (a ≡ true → b ≡ true) → (b ≡ true → a ≡ true) → a ≡ b
same_truth true b f g = sym (f refl)
same_truth false true f g = g refl
same_truth false false f g = refl

every_next : (test : ℕ → Bool) (i : ℕ) → every test (i + 1) ≡ both (every test i) (test i)
every_next test i =
    same_truth _ _ (λ e. both_yes _ _ (every_yes test i (λ k h. every_at test (i + 1) e k (omega arith))) (every_at test (i + 1) e i (omega arith)))
    (λ e. every_yes test (i + 1) (λ k h. at (both_first _ _ e) (both_second _ _ e) k h (ℕ_discrete k i)))
  where
    at : every test i ≡ true → test i ≡ true → (k : ℕ) → k < i + 1 → Dec (k ≡ i) → test k ≡ true
    at before here k h (yes d) = rw d here
    at before here k h (no d) = every_at test i before k (omega arith)

pub untested : (test : ℕ → Bool) (n : ℕ) → Tested test n 0 true
unfolding scan
untested test n = record { within = omega arith; so_far = refl }

module _ {test : ℕ → Bool} {n i : ℕ} {ok : Bool} (t : Tested test n i ok) where
  -- number i is tested as b, and that put to what was so far
  pub tests_next : {b r : Bool} → i < n → b ≡ test i → r ≡ both ok b → Tested test n (i + 1) r
  tests_next h e f = record { within = omega arith; so_far = both_are f t.so_far e ∙ sym (every_next test i) }

  pub tested_all : n ≤ i → ok ≡ every test n
  tested_all h = let e : i ≡ n = omega (arith, t.within, h) in t.so_far ∙ ap (every test) e

-- a guard in front of the rest: code that makes the test a as b, and returns false where it fails
module _ {a b : Bool} (rest : Bool) (e : b ≡ a) where
  pub stops : not b ≡ true → false ≡ both a rest
  unfolding both choose
  stops t = rw (← e, not-true b t)

  pub goes : not b ≡ false → rest ≡ both a rest
  unfolding both choose
  goes f = rw (← e, not-false b f)

-- where no number before i passes, the search comes to i, and finds it if it passes
pub comes : {A : Type 0} (test : ℕ → Bool) (found : ℕ → A) (missing : A) (n i : ℕ) → i ≤ n → ((j : ℕ) → j < i → test j ≡ false) →
    Left test found missing n i
comes test found missing n zero h f = begins test found missing n
comes test found missing n (suc i) h f =
    rw (← add-one i) (misses (comes test found missing n i (omega arith) (λ j b. f j (omega arith))) (omega arith) refl (f i (omega arith)))

pub found_at : (test : ℕ → Bool) (missing n i : ℕ) → i < n → ((j : ℕ) → j < i → test j ≡ false) → test i ≡ true → scan test (λ x. x) missing 0 n ≡ i
found_at test missing n i h f t = sym (hit (comes test (λ x. x) missing n i (omega arith) f) h refl t)
