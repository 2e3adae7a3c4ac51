-- What holds of every reached pool holds along a run that starts from one: each call hands on a reached pool, so one induction over the calls serves
-- every claim that speaks of one pool or of one event. Assumes nothing.
use mathlib.Core.List.{List, [], ◌∷◌}
use Prim.Native.Nat.{ℕ, zero, suc, ◌≤◌}
use native.Mathlib.Omega.{arith}
use Rattle.pool.specs.Calls.{call_of}
use Rattle.pool.specs.declared.Pool.{Pool}
use Rattle.pool.specs.declared.Call.{Call}
use Rattle.invariant.proofs.Reached.{Reached}
use Rattle.invariant.proofs.Calls.{reached_call}
use Rattle.guarantee.specs.Runs.{Event, event_of, events, At, along, IsCall, Throughout}

-- of every pool of the run
pub throughout : (P : Pool → Type 0) → ((p : Pool) → Reached p → P p) → (p : Pool) (calls : List Call) → Reached p → Throughout P p calls
unfolding Throughout
throughout P h p [] r = h p r
throughout P h p (x ∷ calls) r = (h p r, throughout P h (call_of p x).pool calls (reached_call p x r))

-- of an event: what follows from it, and another property of it
pub at_some : (P : Event → Type 0) (C : Type 0) → ((p : Pool) (x : Call) → Reached p → P (event_of p x) → C)
    → (p : Pool) (calls : List Call) → Reached p → (n : ℕ) → At P (events p calls) n → C
unfolding events At
at_some P C h p [] r n a = absurd a
at_some P C h p (x ∷ calls) r zero a = h p x r a
at_some P C h p (x ∷ calls) r (suc n) a = at_some P C h (call_of p x).pool calls (reached_call p x r) n a

pub at_each : (P Q : Event → Type 0) → ((p : Pool) (x : Call) → Reached p → P (event_of p x) → Q (event_of p x))
    → (p : Pool) (calls : List Call) → Reached p → (n : ℕ) → At P (events p calls) n → At Q (events p calls) n
unfolding events At
at_each P Q h p [] r n a = a
at_each P Q h p (x ∷ calls) r zero a = h p x r a
at_each P Q h p (x ∷ calls) r (suc n) a = at_each P Q h (call_of p x).pool calls (reached_call p x r) n a

-- two properties of one event
pub at_both : (P Q : Event → Type 0) (es : List Event) (n : ℕ) → At P es n → At Q es n → At (λ e. P e × Q e) es n
unfolding At
at_both P Q [] n a b = a
at_both P Q (e ∷ es) zero a b = (a, b)
at_both P Q (e ∷ es) (suc n) a b = at_both P Q es n a b

-- a list that has event n has the events before it
pub at_before : (P : Event → Type 0) (es : List Event) (m n : ℕ) → m ≤ n → At P es n → IsCall (along es) m
unfolding At
at_before P [] m n h a = absurd a
at_before P (e ∷ es) zero n h a = tt
at_before P (e ∷ es) (suc m) zero h a = absurd (let y : ⊥ = omega arith in y)
at_before P (e ∷ es) (suc m) (suc n) h a = at_before P es m n (omega arith) a
