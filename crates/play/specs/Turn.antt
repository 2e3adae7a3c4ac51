-- One call's turn: its move, or where the call is turned down one that changes nothing. Assumes nothing.
use Rattle.std.specs.Prelude.{◌≡◌, refl, ◌≢◌, ℕ, ◌<◌, eqb, ltb}
use Rattle.std.proofs.Common.{sym, ap, ◌∙◌, arith, lt-ltb, ltb-true, eq-eqb, ne_eqb}
use Rattle.pool.specs.Choose.{choose}
use Rattle.pool.specs.State.{number_of_clients, client}
use Rattle.pool.specs.Frames.{free_frame}
use Rattle.pool.specs.Moves.{still}
use Rattle.pool.specs.Apply.{apply}
use Rattle.pool.specs.Calls.{caller, turned_by, move_of}
use Rattle.pool.specs.declared.Call.{Call}
use Rattle.pool.specs.declared.Client.{Client}
use Rattle.pool.specs.declared.Move.{Move}
use Rattle.pool.specs.declared.Outcome.{Outcome}
use Rattle.pool.specs.declared.Pool.{Pool}
use Rattle.laws.specs.Choices.{by_test, chosen, passed}
use Rattle.play.specs.Caller.{Caller}

-- the client whose record is put back: of n clients the one with number c, the first where there is none
unfoldable pub client_or_first : ℕ → ℕ → ℕ
client_or_first n c = choose (ltb c n) c 0

unfoldable pub turn : Pool → Call → Move
turn p call =
    let n = turned_by p call in
    choose (eqb n 0) (move_of p call) (still (client p (client_or_first (number_of_clients p) (caller call))) n)

-- what the turn answers and counts, and the pool after it
abbrev pub played : Pool → Call → Outcome
played p call =
    let m = turn p call in
    record { answer = m.answer; counted = m.counted; pool = apply p (client_or_first (number_of_clients p) (caller call)) m }

pub as_played : (p : Pool) (call : Call) {c : ℕ} {m : Move} {q : Pool} → c ≡ client_or_first (number_of_clients p) (caller call) → m ≡ turn p call →
    q ≡ apply p c m → record { answer = m.answer; counted = m.counted; pool = q } ≡ played p call
as_played p call e t a = simp (a, t, e)

-- what is told of pool p for a call: the number of the client whose record is put back, the record, and the frame to take where the client
-- stands at stage 4
pub record Turns (p : Pool) (call : Call) (c : ℕ) (k : Client) (taken : ℕ) : Type 0 where
  pub number : client_or_first (number_of_clients p) (caller call) ≡ c
  pub client : client p c ≡ k
  pub fresh : k.stage ≡ 4 → taken ≡ free_frame p

pub its_number : (n c : ℕ) → c < n → client_or_first n c ≡ c
unfolding client_or_first
its_number n c h = chosen _ _ _ (lt-ltb c n h)

pub number_in : (n c : ℕ) → 0 < n → client_or_first n c < n
unfolding client_or_first
number_in n c h = by_test (λ (i : ℕ). i < n) (λ e. ltb-true _ _ e) (λ _. h)

module _ (p : Pool) (call : Call) where
  -- a call that is not turned down is not turned down by 9
  pub is_client : turned_by p call ≡ 0 → caller call < number_of_clients p
  is_client =
      by_test (λ (n : ℕ). n ≡ 0 → caller call < number_of_clients p) (λ e _. ltb-true _ _ e) (λ _ e. let z : ⊥ = omega arith in absurd z)

  pub moves : turned_by p call ≡ 0 → turn p call ≡ move_of p call
  unfolding turn
  moves e = chosen _ _ _ (eq-eqb _ _ e)

  pub stays : turned_by p call ≢ 0 → turn p call ≡ still (client p (client_or_first (number_of_clients p) (caller call))) (turned_by p call)
  unfolding turn
  stays e = passed _ _ _ (ne_eqb _ _ e)

-- ---- the turn, as it is told

module _ {p : Pool} {call : Call} {c : ℕ} {k : Client} {taken : ℕ} (t : Turns p call c k taken) where
  here : client p (client_or_first (number_of_clients p) (caller call)) ≡ k
  here = ap (client p) t.number ∙ t.client

  pub its_client : caller call < number_of_clients p → client p (caller call) ≡ k
  its_client h = ap (client p) (sym (its_number (number_of_clients p) (caller call) h)) ∙ here

  pub calls : Caller p call (number_of_clients p) k p.grant_pages
  calls = record { count = refl; client = its_client; grant_pages = refl }

  module _ (r : ℕ) (e : turned_by p call ≡ r) where
    pub turned_down : r ≢ 0 → still k r ≡ turn p call
    turned_down z = sym (stays p call (λ w. z (sym e ∙ w)) ∙ rw (here, e) refl)
