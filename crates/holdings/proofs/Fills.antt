-- How what `collect` returns makes what holdings leaves. Assumes nothing.
use Rattle.std.proofs.Common.{◌≡◌, ℕ, List, ◌++◌, length, drop, Result, Ok, Err}
use Rattle.std.specs.Prelude.{IfOk}
use Rattle.pool.specs.Holdings.{rows_of, holdings_refusal, listed, holdings_of}
use Rattle.pool.specs.declared.Answer.TheVariants.{Done, Refused}
use Rattle.pool.specs.declared.Listed.{Listed}
use Rattle.pool.specs.declared.Pool.{Pool}
use Rattle.pool.specs.declared.Row.{Row}
use Rattle.answers.specs.Numbers.{refusal_number, refused_by}
use Rattle.answers.specs.declared.refusal.Refusal.{Refusal}
use Rattle.holdings.proofs.Ways.{lists, away}

-- what is left on a lent list: the rows that were collected, and after them its own
abbrev pub leaves : Result (List Row) Refusal → List Row → Listed
leaves (Ok rows) lent = listed (Done (length rows)) (rows ++ drop (length rows) lent)
leaves (Err r) lent = listed (Refused (refusal_number r)) lent

pub fills_list : (p : Pool) (c : ℕ) (lent : List Row) (r : Result (List Row) Refusal) → refused_by r ≡ holdings_refusal p c (length lent)
    → IfOk r (λ rows. rows ≡ rows_of p c) → leaves r lent ≡ holdings_of p c lent
fills_list p c lent (Ok rows) none all = lists p c lent none all
fills_list p c lent (Err r) e _ = away p c lent r e
