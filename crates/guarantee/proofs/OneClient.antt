-- A call as one client sees it: nothing of it changes, or the call is its own and one move. So a client at rest rests until it begins, and is not
-- answered before. Assumes nothing.
use mathlib.Core.Path.{◌≡◌, sym, ap, ◌∙◌}
use mathlib.Core.Logic.{◌⊎◌, inl, inr}
use mathlib.Core.List.{List, [], ◌∷◌}
use Prim.Native.Nat.{ℕ, zero, suc, ◌<◌}
use native.Mathlib.Decide.{ℕ_discrete}
use native.Mathlib.Omega.{arith}
use Rattle.pool.specs.State.{client}
use Rattle.pool.specs.Answers.{refusal_of}
use Rattle.pool.specs.Calls.{caller, move_of, call_of}
use Rattle.pool.specs.declared.Pool.{Pool}
use Rattle.pool.specs.declared.Move.{Move}
use Rattle.pool.specs.declared.Outcome.{Outcome}
use Rattle.pool.specs.declared.Call.{Call}
use Rattle.pool.specs.declared.Call.TheVariants.{Begin, Step, Release}
use Rattle.pool.specs.declared.Answer.TheVariants.{Working, Refused}
use Rattle.invariant.proofs.Reached.{Shape, Reached}
use Rattle.invariant.proofs.After.{client_same, client_other}
use Rattle.invariant.proofs.Allowed.{Allowed, allowed, may_step}
use Rattle.invariant.proofs.Calls.{reached_call}
use Rattle.guarantee.specs.Runs.{Event, event_of, events, At, Begins, AnswersTo, TurnedDown}
use Rattle.guarantee.proofs.TurnedDown.{same_answer, same_stage, other_answer, other_call, moved, TurnedOrMove, turned, one_move, turned_or_move}
use Rattle.guarantee.proofs.TurnedDown.{turned_down_not_15, is_done, is_stuck, done_or_stuck}

refused_same : {m n : ℕ} → Refused m ≡ Refused n → m ≡ n
unfolding refusal_of
refused_same e = ap refusal_of e

-- ---- the client after a call

pub data ClientAfter (p : Pool) (x : Call) (c : ℕ) : Type 0 where
  same : client (call_of p x).pool c ≡ client p c → (caller x ≡ c → TurnedDown (event_of p x)) → ClientAfter p x c
  mine : caller x ≡ c → Allowed p x → call_of p x ≡ moved p x → client (call_of p x).pool c ≡ (move_of p x).next → ClientAfter p x c

pub client_after : (p : Pool) (x : Call) (c : ℕ) → Shape p → ClientAfter p x c
client_after p x c s = go (turned_or_move p x) (ℕ_discrete c (caller x))
  where
    go : TurnedOrMove p x (call_of p x) → Dec (c ≡ caller x) → ClientAfter p x c
    go (turned n z e) _ = same (ap (λ (o : Outcome). client o.pool c) e) (λ _. (n, same_answer e, turned_down_not_15 p x n z))
    go (one_move r _ e) (no q) = same (ap (λ (o : Outcome). client o.pool c) e ∙ client_other p (caller x) (move_of p x) c q) (λ w. absurd (q (sym w)))
    go (one_move r _ e) (yes q) =
        let a = allowed p x r in
        mine (sym q) a e (ap (λ (o : Outcome). client o.pool c) e ∙ (ap (client (moved p x).pool) q ∙ client_same p (caller x) (move_of p x) s a.here))

-- whether the call is a begin of this client that is done
pub begins_or_not : (p : Pool) (x : Call) (c : ℕ) → Shape p → Dec (Begins c (event_of p x))
unfolding caller move_of
begins_or_not p x c s = go x (client_after p x c s)
  where
    go : (x : Call) → ClientAfter p x c → Dec (Begins c (event_of p x))
    go x (same e d) = no (λ b. other_answer (sym (d (ap caller b.1)).1 ∙ b.2) tt)
    go (Begin d g) (mine e a o n) = yes (g, ap (λ (i : ℕ). Begin i g) e, same_answer o)
    go (Step d) (mine e a o n) = no (λ b. other_call b.1 tt)
    go (Release d g) (mine e a o n) = no (λ b. other_call b.1 tt)

-- ---- what answers no request

-- a call that is turned down
pub turned_unanswered : {c : ℕ} (e : Event) → TurnedDown e → AnswersTo c e → ⊥
turned_unanswered e t (_, inl g) = other_answer (sym t.1 ∙ g.1) tt
turned_unanswered e t (_, inr g) = t.2 (refused_same (sym t.1 ∙ g))

-- a step that leads on to a stage
pub working_unanswered : {c j : ℕ} (e : Event) → e.answer ≡ Working j → AnswersTo c e → ⊥
working_unanswered e w (_, inl g) = other_answer (sym w ∙ g.1) tt
working_unanswered e w (_, inr g) = other_answer (sym w ∙ g) tt

-- ---- a resting client: it rests on, or its begin is done; its steps are turned down

abbrev RestsOrBegins : Pool → Call → ℕ → Type 0
RestsOrBegins p x c = (((client (call_of p x).pool c).stage ≡ 0) × (x ≡ Step c → TurnedDown (event_of p x))) ⊎ Begins c (event_of p x)

rests_or_begins : (p : Pool) (x : Call) (c : ℕ) → Shape p → (client p c).stage ≡ 0 → RestsOrBegins p x c
unfolding caller move_of
rests_or_begins p x c s z = go x (client_after p x c s)
  where
    go : (x : Call) → ClientAfter p x c → RestsOrBegins p x c
    go x (same e d) = inl (same_stage e ∙ z, λ q. d (ap caller q))
    go (Begin d g) (mine e a o n) = inr (g, ap (λ (i : ℕ). Begin i g) e, same_answer o)
    go (Step d) (mine e a o n) = absurd (may_step p (client p d) d a.may (ap (λ (i : ℕ). (client p i).stage) e ∙ z))
    go (Release d g) (mine e a o n) =
        inl (same_stage n ∙ (elim (done_or_stuck p d g) [ is_done _ q ↦ q ∙ zd | is_stuck q ↦ ap (λ (m : Move). m.next.stage) q ∙ zd ]), λ q. other_call q tt)
      where
        zd : (client p d).stage ≡ 0
        zd = ap (λ (i : ℕ). (client p i).stage) e ∙ z

-- so it is not answered before it begins
pub rest_unanswered : (p : Pool) (calls : List Call) → Reached p → (c n : ℕ) → (client p c).stage ≡ 0 → ((m : ℕ) → m < n → At (Begins c) (events p calls) m → ⊥)
    → At (AnswersTo c) (events p calls) n → ⊥
unfolding events At
rest_unanswered p [] r c n z nb a = a
rest_unanswered p (x ∷ calls) r c zero z nb a =
    elim (rests_or_begins p x c r.shape z) [ inl w ↦ turned_unanswered (event_of p x) (w.1 a.0) a | inr b ↦ other_call (sym b.1 ∙ a.0) tt ]
rest_unanswered p (x ∷ calls) r c (suc n) z nb a =
    let ih = rest_unanswered (call_of p x).pool calls (reached_call p x r) c n in
    elim (rests_or_begins p x c r.shape z) [ inl w ↦ ih w.0 (λ m l. nb (suc m) (omega arith)) a | inr b ↦ nb 0 (omega arith) b ]
