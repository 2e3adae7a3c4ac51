-- Lists of calls of a pool that has bytes: begins, steps, releases, reads and writes, each on the pool and the store that the one before it left
-- (SPECIFICATION 13.4). Assumes nothing.
use Rattle.std.specs.Prelude.{◌≡◌, List, [], ◌∷◌, ℕ}
use Rattle.pool.specs.declared.Answer.{Answer}
use Rattle.pool.specs.declared.Answer.TheVariants.{Done}
use Rattle.pool.specs.declared.Counted.{Counted}
use Rattle.memory.specs.Requests.{Request, State, setup_on, call_on}

-- one call: what it was handed, what was asked, answered and counted, and what it left
pub record Happening : Type 0 where
  pub before : State
  pub asked : Request
  pub answer : Answer
  pub counted : Counted
  pub next : State

abbrev pub happening_of : State → Request → Happening
happening_of x r = let o = call_on x r in record { before = x; asked = r; answer = o.answer; counted = o.counted; next = o.state }

-- SPECIFICATION 13.4, 13.14: the calls of a list, and what the last of them leaves
unfoldable pub happenings : State → List Request → List Happening
happenings x [] = []
happenings x (r ∷ rs) = happening_of x r ∷ happenings (call_on x r).state rs

unfoldable pub state_after : State → List Request → State
state_after x [] = x
state_after x (r ∷ rs) = state_after (call_on x r).state rs

-- SPECIFICATION 13.14: what a setup with some numbers and a store left, and that setup was done
pub record SetUpOn (x : State) : Type 0 where
  pub size : ℕ
  pub clients : ℕ
  pub cap : ℕ
  pub hand : ℕ
  pub done : (setup_on size clients cap hand x.store).answer ≡ Done size
  pub made : (setup_on size clients cap hand x.store).state ≡ x
