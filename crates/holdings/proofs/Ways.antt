-- The ways out of `collect` and of `holdings`: which refusal it is, or none, and what is left on the list. Assumes nothing.
use Rattle.std.proofs.Common.{◌≡◌, true, false, ℕ, ◌<◌, ◌≤◌, length, List, ◌++◌, drop, sym, subst, refl, ◌∙◌, lt-ltb, le-ltb, le-leb}
use Rattle.std.proofs.lemmas.Bool.{lt-leb}
use Rattle.pool.specs.Choose.{choose}
use Rattle.pool.specs.State.{number_of_clients}
use Rattle.pool.specs.Valid.{valid}
use Rattle.pool.specs.Holdings.{rows_of, holdings_refusal, listed, holdings_of}
use Rattle.pool.specs.Answers.{refusal_of}
use Rattle.pool.specs.declared.Answer.{Answer}
use Rattle.pool.specs.declared.Listed.{Listed}
use Rattle.pool.specs.declared.Answer.TheVariants.{Done, Refused}
use Rattle.pool.specs.declared.Pool.{Pool}
use Rattle.pool.specs.declared.Row.{Row}
use Rattle.answers.specs.Among.{Among}
use Rattle.answers.specs.Refusals.{by_holdings}
use Rattle.answers.specs.Numbers.{refusal_number}
use Rattle.answers.specs.declared.refusal.Refusal.{Refusal}
use Rattle.holdings.specs.Rows.{rows_at}
use Rattle.holdings.specs.Refusals.{numbered, holdings_refusals}
use Rattle.holdings.specs.ReadRows.{held_in, pages_in, same_rows}

-- ---- of `collect`

module _ (p : Pool) (c room : ℕ) where
  pub out_of_range : valid p ≡ false → 8 ≡ holdings_refusal p c room
  unfolding holdings_refusal choose
  out_of_range v = rw v refl

  pub no_such_client : valid p ≡ true → number_of_clients p ≤ c → 9 ≡ holdings_refusal p c room
  unfolding holdings_refusal choose
  no_such_client v h = rw (v, le-ltb _ _ h) refl

  module _ (v : valid p ≡ true) (h : c < number_of_clients p) {rows : List Row} (made : rows ≡ rows_at (pages_in p c) (held_in p c)) where
    pub gathered : rows ≡ rows_of p c
    gathered = made ∙ same_rows p c h

    pub few_rows : room < length rows → 14 ≡ holdings_refusal p c room
    unfolding holdings_refusal choose
    few_rows short = rw (v, lt-ltb _ _ h, lt-leb _ _ (rw gathered at short)) refl

    pub fits : length rows ≤ room → 0 ≡ holdings_refusal p c room
    unfolding holdings_refusal choose
    fits enough = rw (v, lt-ltb _ _ h, le-leb _ _ (rw gathered at enough)) refl

-- ---- of `holdings`

module _ (p : Pool) (c : ℕ) (lent : List Row) where
  pub lists : 0 ≡ holdings_refusal p c (length lent) → {rows : List Row} → rows ≡ rows_of p c → listed (Done (length rows)) (rows ++ drop (length rows) lent) ≡ holdings_of p c lent
  unfolding holdings_of choose
  lists none all = rw (← none, all) refl

  -- the refusal of a call that leaves what the definition leaves is among those listed
  pub left : {answer : Answer} {rows : List Row} → listed answer rows ≡ holdings_of p c lent
      → record { rows_after : listed answer rows ≡ holdings_of p c lent; among : Among by_holdings (refusal_of answer) }
  left e = record { rows_after = e; among = subst (λ (l : Listed). Among by_holdings (refusal_of l.answer)) (sym e) (holdings_refusals p c lent) }

  pub away : (r : Refusal) → refusal_number r ≡ holdings_refusal p c (length lent) → listed (Refused (refusal_number r)) lent ≡ holdings_of p c lent
  unfolding holdings_of choose
  away r e = rw (← e, numbered r) refl
