-- Who names a frame, and which one stage 4 takes. Assumes nothing.
use Rattle.std.specs.Prelude.{Bool, not, ℕ, ◌+◌, ◌%◌, eqb}
use Rattle.pool.specs.Choose.{choose, either, scan, some}
use Rattle.pool.specs.State.{none, number_of_clients, total, slot, entry_frame, client}
use Rattle.pool.specs.Grants.{holds}
use Rattle.pool.specs.declared.Pool.{Pool}

-- SPECIFICATION 2.6: whether client c names frame f. Its stage is not asked for: where a stage has no use for one of the three, check 8 sees to
-- it that this is none (`used_ok`).
unfoldable pub names : Pool → ℕ → ℕ → Bool
names p f c =
    let k = client p c in
    either (eqb k.own f) (either (eqb k.found f) (either (eqb k.victim f) (holds p f c)))

-- SPECIFICATION 2.7: whether a slot, an entry or a client names frame f
unfoldable pub referenced : Pool → ℕ → Bool
referenced p f =
    either (some (λ i. eqb (slot p i) f) p.size)
    (either (some (λ i. eqb (entry_frame p i) f) (total p))
    (some (names p f) (number_of_clients p)))

-- SPECIFICATION 2.8: the frame that the search tries first
unfoldable pub first_tried : Pool → ℕ
first_tried p = choose (eqb p.last none) 0 ((p.last + 1) % total p)

-- SPECIFICATION 2.8: the one that it tries after n others
abbrev pub tried : Pool → ℕ → ℕ
tried p n = (first_tried p + n) % total p

-- SPECIFICATION 2.8: the frame that is taken, or none
unfoldable pub free_frame : Pool → ℕ
free_frame p = scan (λ n. not (referenced p (tried p n))) (tried p) none 0 (total p)
