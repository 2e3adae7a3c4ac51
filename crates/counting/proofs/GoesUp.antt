-- A number of an array of six that goes up, and none, are the tally's own count. Assumes nothing.
use Rattle.std.proofs.Common.{◌≡◌, refl, ℕ, ◌+◌, ◌<◌, ◌≤◌, List, length, get_or, set, min, arith}
use Rattle.std.proofs.lemmas.Grind.{common_steps}
use Rattle.pool.specs.Choose.{choose}
use Rattle.pool.specs.Tallies.{largest, up, tallied}
use Rattle.pool.specs.declared.Counted.{Counted}
use Rattle.pool.specs.declared.Counted.TheVariants.{Nothing, Hit, Join, Admitted, Revived, Drop, Refusal}
use Rattle.counting.specs.Counts.{counts, tally_from, place_of}

pub goes_up : (l : List ℕ) (k : Counted) (i n : ℕ) → length l ≡ counts → i ≡ place_of k → i < counts → n ≡ up (get_or l i 0)
    → tally_from (set l i n) ≡ tallied k (tally_from l)
unfolding place_of tallied
goes_up l Hit i n long e h f = rw (e, f) (grind (arith, common_steps))
goes_up l Join i n long e h f = grind (arith, common_steps)
goes_up l Admitted i n long e h f = grind (arith, common_steps)
goes_up l Revived i n long e h f = grind (arith, common_steps)
goes_up l Drop i n long e h f = grind (arith, common_steps)
goes_up l Refusal i n long e h f = grind (arith, common_steps)
goes_up l Nothing i n long e h f = absurd (let z : ⊥ = omega arith in z)

pub stays : (l : List ℕ) (k : Counted) {i : ℕ} → i ≡ place_of k → counts ≤ i → tally_from l ≡ tallied k (tally_from l)
unfolding place_of tallied
stays l Hit e h = absurd (let z : ⊥ = omega arith in z)
stays l Join e h = absurd (let z : ⊥ = omega arith in z)
stays l Admitted e h = absurd (let z : ⊥ = omega arith in z)
stays l Revived e h = absurd (let z : ⊥ = omega arith in z)
stays l Drop e h = absurd (let z : ⊥ = omega arith in z)
stays l Refusal e h = absurd (let z : ⊥ = omega arith in z)
stays l Nothing e h = refl

pub up_is : (n : ℕ) → n < 4294967296 → min (n + 1) largest ≡ up n
unfolding up choose
up_is n h = grind arith
