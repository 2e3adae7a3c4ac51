-- The claim of refusal 15 in company is not empty: in a short run from a setup of two slots and two clients, which is computed, a client is refused by 15
-- while the other works. It has met one slot empty, which the other fills meanwhile, and one with a held frame. Assumes nothing.
use mathlib.Core.Path.{◌≡◌, refl, sym, ◌∙◌}
use mathlib.Core.List.{List, ◌∷◌, ◌++◌}
use Prim.Native.Nat.{ℕ, ◌<◌}
use native.Mathlib.Omega.{arith}
use Rattle.pool.specs.State.{pinned, slot}
use Rattle.pool.specs.Calls.{setup_of}
use Rattle.pool.specs.Cases.{steps, admit}
use Rattle.pool.specs.declared.Call.TheVariants.{Begin, Step}
use Rattle.guarantee.specs.Runs.{Event, events, At}
use Rattle.guarantee.specs.BusySweep.{MeetsBusy, finds_empty, finds_pinned, Refused15}
use Rattle.witnesses.proofs.Witness.{computing}

-- Page 9 is held in slot 0, and client 0 stands at 8, about to fill slot 1, when client 1 begins on page 7. It meets slot 1 empty at event 20, client 0
-- fills the slot at event 21, and client 1 meets slot 0 with its held frame and is refused at event 23.
abbrev pub company_run : List Event
company_run = events (setup_of 2 2 3 0).pool (admit 9 ++ Begin 0 5 ∷ steps 0 5 ++ Begin 1 7 ∷ steps 1 5 ++ Step 0 ∷ steps 1 2)

pub empty_met : At (MeetsBusy 1 1) company_run 20
unfolding computing
empty_met = finds_empty (refl, refl) refl refl

pub filled : At (λ e. (e.asked ≡ Step 0) × (slot e.next 1 ≡ 1)) company_run 21
unfolding computing
filled = (refl, refl)

-- both are number f; it is the pins of one grant
both_are : (f : ℕ) {a b : ℕ} → a ≡ f → b ≡ f → a ≡ b
both_are f x y = x ∙ sym y

one_pin : {n : ℕ} → n ≡ pinned 1 → pinned 0 < n
one_pin e = omega arith

pub pinned_met : At (MeetsBusy 1 0) company_run 23
unfolding computing
pinned_met = finds_pinned (refl, refl) refl (both_are 0 refl refl) (one_pin refl)

pub refused_in_company : At (Refused15 1) company_run 23
unfolding computing
refused_in_company = (refl, refl)
