-- A list of which only the first rows are lent. Assumes nothing.
use Rattle.std.specs.Prelude.{◌≡◌, List, ◌++◌, ℕ, ◌≤◌, length, take, drop}
use Rattle.std.proofs.Common.{ap, append-nil, arith, drop_of_length-le, take_all}
use Rattle.pool.specs.Holdings.{listed, holdings_of}
use Rattle.pool.specs.declared.Pool.{Pool}
use Rattle.pool.specs.declared.Row.{Row}
use Rattle.pool.specs.declared.Listed.{Listed}

-- what is left of a list whose first `room` rows were lent: after those that the call left, its own
abbrev pub on_first : ℕ → List Row → Listed → Listed
on_first room start l = listed l.answer (l.rows ++ drop room start)

-- where that is all of it, it is left as the call leaves a list
pub all_lent : (p : Pool) (c n : ℕ) (start : List Row) → length start ≡ n → on_first n start (holdings_of p c (take n start)) ≡ holdings_of p c start
all_lent p c n start e =
    let long : length start ≤ n = omega arith in
    rw (take_all n start long, drop_of_length-le start long) (ap (λ (l : List Row). listed (holdings_of p c start).answer l) (append-nil _))
