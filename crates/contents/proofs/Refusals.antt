-- No refusal changes memory or store, of whatever state; nor does a setup the store. Assumes nothing.
use mathlib.Core.Path.{◌≡◌, refl, sym, ap, subst, ◌∙◌}
use mathlib.Core.List.{List}
use Prim.Native.Nat.{ℕ}
use native.Mathlib.Decide.{ℕ_discrete}
use Rattle.pool.specs.Calls.{call_of}
use Rattle.pool.specs.declared.Pool.{Pool}
use Rattle.pool.specs.declared.Call.{Call}
use Rattle.pool.specs.declared.Answer.TheVariants.{Refused}
use Rattle.pool.specs.declared.Write.TheVariants.{Keep}
use Rattle.laws.specs.Choices.{by_test, chosen}
use Rattle.memory.specs.Memory.{memory_after, store_after}
use Rattle.memory.specs.Requests.{Request, Asks, ReadByte, WriteByte, State, Result, setup_on, refusal_on, refused, write_of, action_on, call_on}
use Rattle.contents.specs.Contents.{ClaimRefusalsKeep}
use Rattle.contents.proofs.Passed.{refused_not_done, call_acts, call_turned}

-- what the claim says of a call that came to o
abbrev Unchanged : State → Result → Type 0
Unchanged x o = (o.state.memory ≡ x.memory) × (o.state.store ≡ x.store)

writes_nothing : (p : Pool) (call : Call) (n : ℕ) → (call_of p call).answer ≡ Refused n → write_of p call ≡ Keep
unfolding write_of refused
writes_nothing p call n e = chosen _ _ _ (ap refused e)

action_keeps : (x : State) (r : Request) (n : ℕ) → (action_on x r).answer ≡ Refused n → Unchanged x (action_on x r)
unfolding action_on memory_after store_after
action_keeps x (Asks call) n e = let w = writes_nothing x.pool call n e in (rw w refl, rw w refl)
action_keeps x (ReadByte c g o) n e = refused_not_done (sym e)
action_keeps x (WriteByte c g o v) n e = refused_not_done (sym e)

call_keeps : (x : State) (r : Request) (n : ℕ) → (call_on x r).answer ≡ Refused n → Unchanged x (call_on x r)
call_keeps x r n e = go (ℕ_discrete (refusal_on x r) 0)
  where
    go : Dec (refusal_on x r ≡ 0) → Unchanged x (call_on x r)
    go (no z) = subst (Unchanged x) (sym (call_turned x r z)) (refl, refl)
    go (yes z) =
        let a = call_acts x r z in
        subst (Unchanged x) (sym a) (action_keeps x r n (ap (λ (o : Result). o.answer) (sym a) ∙ e))

setup_keeps : (s t c h : ℕ) (store : List ℕ) → (setup_on s t c h store).state.store ≡ store
unfolding setup_on
setup_keeps s t c h store = by_test (λ (o : Result). o.state.store ≡ store) (λ _. refl) (λ _. refl)

pub refusals_keep : ClaimRefusalsKeep
refusals_keep = (call_keeps, λ s t c h store _ _. setup_keeps s t c h store)
