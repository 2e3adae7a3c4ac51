-- What a call has passed that is not turned down, and that a call acts or is turned down. Of every state, a handed one too. Assumes nothing.
use mathlib.Core.Path.{◌≡◌, sym, ap, ◌∙◌}
use mathlib.Core.Logic.{◌≢◌, ◌⊎◌, inl, inr}
use mathlib.Core.Bool.{true}
use Prim.Native.Nat.{ℕ, ◌<◌}
use native.Mathlib.Omega.{arith}
use native.Mathlib.Decide.{ℕ_discrete}
use lib.Dec.{eqb, ltb}
use borrow.Author.Tests.{eqb-true, ltb-true, eq-eqb, ne_eqb}
use Rattle.pool.specs.Calls.{refusal}
use Rattle.pool.specs.declared.Call.{Call}
use Rattle.pool.specs.declared.Call.TheVariants.{Begin, Release}
use Rattle.pool.specs.declared.Answer.TheVariants.{Done, Refused}
use Rattle.laws.specs.Choices.{by_test, chosen, passed}
use Rattle.laws.specs.Scans.{either_true}
use Rattle.memory.specs.Memory.{page_bytes}
use Rattle.memory.specs.Orders.{first_none, order_none}
use Rattle.memory.specs.Requests.{Request, Asks, ReadByte, WriteByte, State, Result, turned_back, inside, outside_at, byte_refusal, first_of, turned_away_by}
use Rattle.memory.specs.Requests.{refusal_on, action_on, call_on}
use Rattle.contents.proofs.Kept.{Inside}

not_zero : {A : Type 0} {n : ℕ} → n ≡ 0 → 0 < n → A
not_zero e l = absurd (let y : ⊥ = omega arith in y)

pub refused_not_done : {A : Type 0} {n b : ℕ} → Refused n ≡ Done b → A
refused_not_done e = let z : ◌≡◌ {A = ℕ} 0 1 = cc in absurd (let y : ⊥ = omega arith in y)

pub inside_means : (n g : ℕ) → inside n g ≡ true → Inside n g
unfolding inside
inside_means n g e z = go (either_true _ _ e)
  where
    go : (eqb n 0 ≡ true) ⊎ (ltb g n ≡ true) → g < n
    go (inl t) = absurd (z (eqb-true n 0 t))
    go (inr t) = ltb-true g n t

pub outside_begin : (n c g : ℕ) → outside_at n (Begin c g) ≡ 0 → Inside n g
unfolding outside_at
outside_begin n c g = by_test (λ (y : ℕ). y ≡ 0 → Inside n g) (λ t _. inside_means n g t) (λ _ e. not_zero e (omega arith))

byte_passed : (n g o : ℕ) → byte_refusal n g o ≡ 0 → (g < n) × (o < page_bytes)
unfolding byte_refusal
byte_passed n g o =
    by_test (λ (y : ℕ). y ≡ 0 → (g < n) × (o < page_bytes))
    (λ t. by_test (λ (y : ℕ). y ≡ 0 → (g < n) × (o < page_bytes)) (λ u _. (ltb-true _ _ t, ltb-true _ _ u)) (λ _ e. not_zero e (omega arith)))
    (λ _ e. not_zero e (omega arith))

module _ (x : State) where
  past_8 : (r : Request) → refusal_on x r ≡ 0 → turned_away_by x r ≡ 0
  unfolding refusal_on
  past_8 r = by_test (λ (y : ℕ). y ≡ 0 → turned_away_by x r ≡ 0) (λ _ e. e) (λ _ e. not_zero e (omega arith))

  pub asks_passed : (call : Call) → refusal_on x (Asks call) ≡ 0 → (refusal x.pool call ≡ 0) × (outside_at x.memory.pages call ≡ 0)
  unfolding turned_away_by
  asks_passed call e = order_none _ _ (past_8 (Asks call) e)

  -- client c may release the page, which is inside the store, and the offset is below 64
  pub record Holds (c g o : ℕ) : Type 0 where
    pub may : refusal x.pool (Release c g) ≡ 0
    pub inside : g < x.memory.pages
    pub offset : o < page_bytes

  holds : (c g o : ℕ) → first_of (refusal x.pool (Release c g)) (byte_refusal x.memory.pages g o) ≡ 0 → Holds c g o
  holds c g o e =
      let a = first_none _ _ e in
      let b = byte_passed x.memory.pages g o a.1 in
      record { may = a.0; inside = b.0; offset = b.1 }

  pub read_holds : (c g o : ℕ) → refusal_on x (ReadByte c g o) ≡ 0 → Holds c g o
  unfolding turned_away_by
  read_holds c g o e = holds c g o (past_8 (ReadByte c g o) e)

  pub write_holds : (c g o v : ℕ) → refusal_on x (WriteByte c g o v) ≡ 0 → Holds c g o
  unfolding turned_away_by
  write_holds c g o v e = holds c g o (past_8 (WriteByte c g o v) e)

  module _ (r : Request) where
    pub call_acts : refusal_on x r ≡ 0 → call_on x r ≡ action_on x r
    unfolding call_on
    call_acts e = chosen _ _ _ (eq-eqb _ _ e)

    pub call_turned : refusal_on x r ≢ 0 → call_on x r ≡ turned_back (refusal_on x r) x
    unfolding call_on
    call_turned z = passed _ _ _ (ne_eqb _ _ z)

    -- a call that is answered by done acts
    pub done_acts : (b : ℕ) → (call_on x r).answer ≡ Done b → refusal_on x r ≡ 0
    done_acts b a = go (ℕ_discrete (refusal_on x r) 0)
      where
        go : Dec (refusal_on x r ≡ 0) → refusal_on x r ≡ 0
        go (yes e) = e
        go (no z) =
            refused_not_done (ap (λ (o : Result). o.answer) (sym (call_turned z)) ∙ a)
