-- What was asked and answered at a place of a list with reads and writes, of nothing but the two, beside the call of the pool there: the one tells the
-- other. The ties of pools that have bytes use it, with answers as they are or as numbers. Assumes nothing.
use mathlib.Core.Path.{◌≡◌, refl, sym, ap, subst}
use mathlib.Core.List.{List, [], ◌∷◌, map}
use Prim.Native.Nat.{ℕ, zero, suc}
use Rattle.pool.specs.declared.Answer.{Answer}
use Rattle.guarantee.specs.Runs.{At}
use Rattle.guarantee.specs.Progress.{StepWith, StepAnswered}
use Rattle.memory.specs.Requests.{Request, Asks, ReadByte, WriteByte, State, call_on}
use Rattle.memory.specs.Happenings.{Happening, happenings}
use Rattle.mixed.specs.Mixed.{of_call, OfCall, amid, asks_step}

abbrev given : {B : Type 0} → (Answer → B) → State → List Request → List B
given f x rs = map (λ (h : Happening). f h.answer) (happenings x rs)

-- where what is said of the answers as they are given, P, says Q of the answers
module _ {B : Type 0} (f : Answer → B) (P : B → Type 0) (Q : Answer → Type 0) (says : (a : Answer) → P (f a) → Q a) where
  there : (h : Happening) (c : ℕ) → h.asked ≡ asks_step c → Q h.answer → OfCall (StepWith Q) h
  unfolding of_call
  there h c e w = subst (of_call (StepWith Q) h) (sym e) (c, refl, w)

  pub steps_there : (x : State) (rs : List Request) (n : ℕ) → StepAnswered asks_step rs (given f x rs) P n → amid (happenings x rs) (StepWith Q) n
  unfolding happenings At
  steps_there x [] n w = absurd w.1
  steps_there x (r ∷ rs) zero (c, e, w) = there _ c e (says _ w)
  steps_there x (r ∷ rs) (suc n) w = steps_there (call_on x r).state rs n w

module _ (P : Answer → Type 0) where
  back : (h : Happening) (r : Request) → of_call (StepWith P) h r → (c : ℕ) × (r ≡ asks_step c) × P h.answer
  unfolding of_call
  back h (Asks call) (c, e, w) = (c, ap Asks e, w)
  back h (ReadByte c g o) w = absurd w
  back h (WriteByte c g o v) w = absurd w

  pub steps_back : (x : State) (rs : List Request) (n : ℕ) → amid (happenings x rs) (StepWith P) n → StepAnswered asks_step rs (given (λ a. a) x rs) P n
  unfolding happenings At
  steps_back x [] n w = absurd w
  steps_back x (r ∷ rs) zero w = back _ r w
  steps_back x (r ∷ rs) (suc n) w = steps_back (call_on x r).state rs n w
