-- A list of requests from a kept state: its calls of the pool, without begins that 16 turned down, are a list of calls that is embedded in it and leads
-- to the same pool; what holds of every kept state holds along it; and the sequential pool follows it. Assumes nothing.
use mathlib.Core.Path.{◌≡◌, refl, sym, ap, subst, ◌∙◌}
use mathlib.Core.Logic.{inl, inr}
use mathlib.Core.List.{List, [], ◌∷◌}
use Prim.Native.Nat.{ℕ, zero, suc}
use Rattle.pool.specs.Calls.{call_of, pool_after}
use Rattle.pool.specs.declared.Pool.{Pool}
use Rattle.pool.specs.declared.Call.{Call}
use Rattle.pool.specs.declared.Call.TheVariants.{Release}
use Rattle.pool.specs.declared.Outcome.{Outcome}
use Rattle.guarantee.specs.Runs.{events, At}
use Rattle.guarantee.specs.Sequential.{Sequential}
use Rattle.guarantee.proofs.TurnedDown.{same_pool}
use Rattle.guarantee.proofs.SimulationRelation.{SimulationRelation}
use Rattle.guarantee.proofs.Pages.{same_pages}
use Rattle.guarantee.proofs.Follow.{followed, refusal_alike}
use Rattle.memory.specs.Requests.{Request, Asks, ReadByte, WriteByte, State, Result, refusal_on, turned_away_by, action_on, call_on}
use Rattle.memory.specs.Happenings.{happening_of, happenings, state_after}
use Rattle.contents.proofs.Kept.{Kept}
use Rattle.contents.proofs.CallsNext.{kept_call}
use Rattle.mixed.specs.Mixed.{ThroughoutOn, seq_refusal_on, RuleOn, turns_down, asks, reads, writes, FollowsOn, at_end, at_call, IsByte, LeavesPool}
use Rattle.mixed.specs.Mixed.{outcome_on}
use Rattle.mixed.proofs.Passes.{turned_away}
use Rattle.mixed.proofs.Calls.{by_call, same, turned16, as_call, byte_leaves, same_length}
use Rattle.mixed.proofs.Embedded.{Skipped, Embedded, ends, skips, keeps}

-- ---- the calls among the requests

-- what is asked is a call of the pool as it always was, or something that the pool alone would not have seen
pub data Seen (x : State) (r : Request) : Type 0 where
  as_before : (call : Call) → r ≡ Asks call → outcome_on (call_on x r) ≡ call_of x.pool call → Seen x r
  unseen : Skipped (happening_of x r) → Seen x r

pub seen : (x : State) → Kept x → (r : Request) → Seen x r
unfolding IsByte
seen x k (Asks call) =
    elim (as_call x call (turned_away x k (Asks call))) [
      | same e ↦ as_before call refl e
      | turned16 c g w _ t ↦
          unseen (record {
            leaves = (ap (λ (o : Result). o.state.pool) t, ap (λ (o : Result). o.counted) t);
            kind = inr (c, g, ap Asks w, ap (λ (o : Result). o.answer) t);
          })
    ]
seen x k (ReadByte c g o) = unseen (record { leaves = byte_leaves x (ReadByte c g o) tt; kind = inl tt })
seen x k (WriteByte c g o v) = unseen (record { leaves = byte_leaves x (WriteByte c g o v) tt; kind = inl tt })

pub record Erased (x : State) (rs : List Request) : Type 0 where
  pub calls : List Call
  pub embedded : Embedded (happenings x rs) (events x.pool calls)
  pub after : (state_after x rs).pool ≡ pool_after x.pool calls

-- one request more in front
more : (x : State) (r : Request) (rs : List Request) → Seen x r → Erased (call_on x r).state rs → Erased x (r ∷ rs)
unfolding happenings events state_after pool_after
more x r rs (as_before call w o) e =
    let p : (call_on x r).state.pool ≡ (call_of x.pool call).pool = same_pool o in
    record {
      calls = call ∷ e.calls;
      embedded =
          keeps call w
          (ap (λ (y : Outcome). record { before = x.pool; asked = call; answer = y.answer; counted = y.counted; next = y.pool }) o)
          (subst (λ (q : Pool). Embedded (happenings (call_on x r).state rs) (events q e.calls)) p e.embedded);
      after = e.after ∙ ap (λ (q : Pool). pool_after q e.calls) p;
    }
more x r rs (unseen s) e =
    record {
      calls = e.calls;
      embedded = skips s (subst (λ (q : Pool). Embedded (happenings (call_on x r).state rs) (events q e.calls)) s.leaves.0 e.embedded);
      after = e.after ∙ ap (λ (q : Pool). pool_after q e.calls) s.leaves.0;
    }

pub erased : (x : State) → Kept x → (rs : List Request) → Erased x rs
unfolding happenings events state_after pool_after
erased x k [] = record { calls = []; embedded = ends; after = refl }
erased x k (r ∷ rs) = more x r rs (seen x k r) (erased (call_on x r).state (kept_call x k r) rs)

-- ---- each state, each request

pub throughout_on : (P : State → Type 0) → ((y : State) → Kept y → P y) → (x : State) → Kept x → (rs : List Request) → ThroughoutOn P x rs
unfolding ThroughoutOn
throughout_on P each x k [] = each x k
throughout_on P each x k (r ∷ rs) = (each x k, throughout_on P each (call_on x r).state (kept_call x k r) rs)

pub kept_after : (x : State) → Kept x → (rs : List Request) → Kept (state_after x rs)
unfolding state_after
kept_after x k [] = k
kept_after x k (r ∷ rs) = kept_after (call_on x r).state (kept_call x k r) rs

pub bytes_apart : (x : State) (rs : List Request) (n : ℕ) → At (λ h. IsByte h.asked) (happenings x rs) n → At LeavesPool (happenings x rs) n
unfolding happenings At
bytes_apart x [] n a = a
bytes_apart x (r ∷ rs) zero a = byte_leaves x r a
bytes_apart x (r ∷ rs) (suc n) a = bytes_apart (call_on x r).state rs n a

-- ---- the sequential pool

module _ (x : State) (k : Kept x) (q : Sequential) (related : SimulationRelation x.pool q) where
  abbrev n : ℕ
  n = x.memory.pages

  alike : (r : Request) → turned_away_by x r ≡ seq_refusal_on n q r
  unfolding turned_away_by seq_refusal_on
  alike (Asks call) = rw (refusal_alike k.reached related call) refl
  alike (ReadByte c g o) = rw (refusal_alike k.reached related (Release c g)) refl
  alike (WriteByte c g o v) = rw (refusal_alike k.reached related (Release c g)) refl

  turned_alike : (r : Request) → refusal_on x r ≡ seq_refusal_on n q r
  turned_alike r = turned_away x k r ∙ alike r

  record FollowedOn (r : Request) (o : Result) : Type 0 where
    state : Sequential
    rule : RuleOn n q r o.answer state
    next : SimulationRelation o.state.pool state

  acted : (r : Request) → refusal_on x r ≡ 0 → FollowedOn r (action_on x r)
  unfolding action_on
  acted (Asks call) e =
      let f = followed k.reached related call in
      record { state = f.state; rule = asks (sym (turned_alike (Asks call)) ∙ e) f.rule; next = f.related }
  acted (ReadByte c g o) e = record { state = q; rule = reads (sym (turned_alike (ReadByte c g o)) ∙ e); next = related }
  acted (WriteByte c g o v) e = record { state = q; rule = writes (sym (turned_alike (WriteByte c g o v)) ∙ e); next = related }

  followed_on : (r : Request) → FollowedOn r (call_on x r)
  followed_on r = by_call x r (FollowedOn r) (acted r) (λ z. record { state = q; rule = turns_down (sym (turned_alike r)) z; next = related })

pub follows_on : (x : State) → Kept x → (q : Sequential) → SimulationRelation x.pool q → (rs : List Request) → FollowsOn x.memory.pages x q rs
follows_on x k q related [] = at_end (same_pages k.reached related) (λ c. (related.clients c).stage)
follows_on x k q related (r ∷ rs) =
    let f = followed_on x k q related r in
    at_call (same_pages k.reached related) (λ c. (related.clients c).stage) f.rule
    (subst (λ (n : ℕ). FollowsOn n (call_on x r).state f.state rs) (same_length x r).0
    (follows_on (call_on x r).state (kept_call x k r) f.state f.next rs))
