-- What is claimed of calls in place (SPECIFICATION, section 14), of every state: beside the specification's calls, of refusals, and of what a step tells
-- the owner of larger pages. Statements only. Assumes nothing.
use Rattle.std.specs.Prelude.{◌≡◌, ◌≢◌, true, false, ℕ}
use Rattle.pool.specs.State.{resting, page, client}
use Rattle.pool.specs.declared.Answer.TheVariants.{Refused}
use Rattle.pool.specs.declared.Client.{Client}
use Rattle.pool.specs.declared.Call.TheVariants.{Step}
use Rattle.pool.specs.declared.Counted.TheVariants.{Nothing, Refusal}
use Rattle.guarantee.specs.Claims.{with_client}
use Rattle.memory.specs.Requests.{Request, Asks, State, Result, refused, call_on}
use Rattle.mixed.specs.Mixed.{Removes, Remaps}
use Rattle.in_place.specs.Held.{held_on, duty_word, duty_on}

-- GUARANTEE 20, SPECIFICATION 14.9: wherever the whole check 8, made before and after the action, does not refuse the call, the call in place is the
-- specification's: answer, count, pool, bytes, marks and store
abbrev pub ClaimSame : Type 0
ClaimSame = (x : State) (r : Request) → (call_on x r).answer ≢ Refused 8 → held_on x r ≡ call_on x r

-- GUARANTEE 21, SPECIFICATION 14.4: refused by another number than 15, a call in place changes nothing and counts nothing
abbrev pub ClaimTurnedAway : Type 0
ClaimTurnedAway =
    (x : State) (r : Request) (n : ℕ) → (held_on x r).answer ≡ Refused n → n ≢ 15 → ((held_on x r).state ≡ x) × ((held_on x r).counted ≡ Nothing)

-- request r, which came to o, is a step: its client rests with its grants, a refusal is counted, and nothing else has changed
abbrev pub RestsBusy : State → Request → Result → Type 0
RestsBusy x r o =
    (c : ℕ) × (r ≡ Asks (Step c))
    × (o.state ≡ record { pool = with_client x.pool c (resting (client x.pool c).held); memory = x.memory; store = x.store })
    × (o.counted ≡ Refusal)

-- GUARANTEE 21, SPECIFICATION 14.4: so it is where a call is refused by 15
abbrev pub ClaimBusy : Type 0
ClaimBusy = (x : State) (r : Request) → (held_on x r).answer ≡ Refused 15 → RestsBusy x r (held_on x r)

-- what a step of client k tells, by its stage
pub record Tells (x : State) (k : Client) (duty : ℕ) : Type 0 where
  pub writes_back : Removes x k → duty ≡ duty_word 1 k.victim (page x.pool k.victim)
  pub moves : Remaps x k → duty ≡ duty_word 2 k.found k.own
  pub nothing : (Removes x k → ⊥) → (Remaps x k → ⊥) → duty ≡ 0

-- GUARANTEE 22, SPECIFICATION 14.7: exactly in the action of a 17 that removes its victim's entry the victim's content goes back, and exactly in that of a 22
-- that replaces an entry it moves, wherever the specification's step is not refused
abbrev pub ClaimDuty : Type 0
ClaimDuty =
    (x : State) (c : ℕ) → refused (call_on x (Asks (Step c))).answer ≡ false → Tells x (client x.pool c) (duty_on x c)

-- GUARANTEE 22, SPECIFICATION 14.7: a step that is refused, by whichever number, tells nothing
abbrev pub ClaimNoDuty : Type 0
ClaimNoDuty = (x : State) (c : ℕ) → refused (held_on x (Asks (Step c))).answer ≡ true → duty_on x c ≡ 0

pub record HeldClaims : Type 0 where
  pub same : ClaimSame
  pub turned_away : ClaimTurnedAway
  pub busy : ClaimBusy
  pub duty : ClaimDuty
  pub no_duty : ClaimNoDuty
