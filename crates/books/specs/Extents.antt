-- S, T and C in range, and as books have them. Assumes nothing.
use Rattle.std.specs.Prelude.{◌≡◌, true}
use Rattle.std.proofs.Common.{lt-ltb, le-leb}
use Rattle.pool.specs.Valid.{numbers_ok}
use Rattle.laws.specs.Scans.{both_yes}
use Rattle.books.specs.declared.numbers.Numbers.{Numbers}
use Rattle.books.specs.declared.extent.Extent.{Extent}

-- the same S, T and C
abbrev pub ExtentOf : Numbers → Extent → Type 0
ExtentOf n e = (e.size ≡ n.size) × (e.client_count ≡ n.client_count) × (e.cap ≡ n.cap)

-- `Numbers` are in range by their type
pub numbers_hold : (n : Numbers) → numbers_ok n.size n.client_count n.cap ≡ true
unfolding numbers_ok
numbers_hold n =
    both_yes _ _ (lt-ltb _ _ n.some_slot)
    (both_yes _ _ (le-leb _ _ n.few_slots)
    (both_yes _ _ (lt-ltb _ _ n.some_client)
    (both_yes _ _ (le-leb _ _ n.few_clients) (both_yes _ _ (lt-ltb _ _ n.some_cap) (le-leb _ _ n.low_cap)))))
