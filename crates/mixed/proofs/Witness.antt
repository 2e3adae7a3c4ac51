-- The claims are not empty: two lists of calls from accepted setups in which a read or write is refused by each number that is listed for it, a begin by
-- 16, and others between them are done. Computed. With a store no read meets 16: a page outside is not held, and 13 comes first. Assumes nothing.
use mathlib.Core.Path.{◌≡◌, refl}
use mathlib.Core.List.{List, [], ◌∷◌, map}
use lib.ListN.{replicate}
use Rattle.pool.specs.Cases.{admit}
use Rattle.pool.specs.declared.Call.TheVariants.{Begin}
use Rattle.pool.specs.declared.Answer.{Answer}
use Rattle.pool.specs.declared.Answer.TheVariants.{Done, Refused}
use Rattle.memory.specs.Requests.{Request, Asks, ReadByte, WriteByte, State, setup_on, call_on}
use Rattle.memory.specs.Happenings.{SetUpOn, state_after}
use Rattle.contents.proofs.Witness.{computing}

-- one slot, one client, and a store of two pages or none
abbrev stored : State
stored = (setup_on 1 1 3 0 (replicate 128 7)).state

abbrev storeless : State
storeless = (setup_on 1 1 3 0 []).state

pub stored_set_up : SetUpOn stored
unfolding computing
stored_set_up = record { size = 1; clients = 1; cap = 3; hand = 0; done = refl; made = refl }

pub storeless_set_up : SetUpOn storeless
unfolding computing
storeless_set_up = record { size = 1; clients = 1; cap = 3; hand = 0; done = refl; made = refl }

-- what each of some requests is answered by
abbrev answers : State → List Request → List Answer
answers x [] = []
answers x (r ∷ rs) = let o = call_on x r in o.answer ∷ answers o.state rs

pub begun : answers stored (Asks (Begin 0 2) ∷ Asks (Begin 0 1) ∷ ReadByte 0 1 0 ∷ []) ≡ Refused 16 ∷ Done 1 ∷ Refused 10 ∷ []
unfolding computing
begun = refl

-- page 1 is granted first
pub granted : answers (state_after stored (map Asks (admit 1)))
    (ReadByte 0 1 63 ∷ WriteByte 0 1 63 9 ∷ ReadByte 0 1 63 ∷ WriteByte 0 1 64 9 ∷ ReadByte 0 2 0 ∷ WriteByte 1 1 0 9 ∷ [])
    ≡ Done 7 ∷ Done 1 ∷ Done 9 ∷ Refused 17 ∷ Refused 13 ∷ Refused 9 ∷ []
unfolding computing state_after
granted = refl

pub outside : answers (state_after storeless (map Asks (admit 1))) (ReadByte 0 1 64 ∷ WriteByte 0 1 0 9 ∷ []) ≡ Refused 16 ∷ Refused 16 ∷ []
unfolding computing state_after
outside = refl
