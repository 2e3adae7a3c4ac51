-- Holdings of a pool that passes check 8, its own and that of the bytes, are those of the pool within. One that does not is turned down by 8 and leaves
-- the list. Assumes nothing.
use Rattle.std.specs.Prelude.{Result, Ok, Err, IfErr}
use Rattle.std.proofs.Common.{◌≡◌, Bool, true, false, List, ℕ, refl, sym, true≢false}
use Rattle.pool.specs.Choose.{choose, both}
use Rattle.pool.specs.Holdings.{holdings_refusal, listed, holdings_of}
use Rattle.pool.specs.Valid.{valid}
use Rattle.pool.specs.declared.Answer.TheVariants.{Refused}
use Rattle.pool.specs.declared.Pool.{Pool}
use Rattle.pool.specs.declared.Row.{Row}
use Rattle.answers.specs.declared.refusal.Refusal.{Refusal}
use Rattle.laws.specs.Choices.{chosen}
use Rattle.laws.specs.Scans.{both_second}
use Rattle.memory.specs.Requests.{bytes_ok, holdings_on}
use Rattle.memory.specs.declared.BufferPool.{BufferPool}
use Rattle.byte_holdings.proofs.books.Goals as goal

-- the pool's own check 8
by_own : (p : Pool) (c : ℕ) (rows : List Row) → valid p ≡ false → holdings_of p c rows ≡ listed (Refused 8) rows
unfolding holdings_of holdings_refusal choose
by_own p c rows v = rw v refl

refused : (b : BufferPool) (c : ℕ) (rows : List Row) → both (valid b.pool) (bytes_ok b.pool b.memory) ≡ false
    → listed (Refused 8) rows ≡ holdings_on b c rows
unfolding both choose holdings_on
refused b c rows e = go (valid b.pool) (bytes_ok b.pool b.memory) refl e
  where
    go : (v t : Bool) → valid b.pool ≡ v → both v t ≡ false
        → listed (Refused 8) rows ≡ choose t (holdings_of b.pool c rows) (listed (Refused 8) rows)
    go true true _ f = absurd (true≢false f)
    go true false _ _ = refl
    go false true v _ = sym (by_own b.pool c rows v)
    go false false _ _ = refl

pub returns-clause-found : goal.returns-clause-found
unfolding holdings_on
returns-clause-found c = λ client rows. sym (chosen _ _ _ (both_second _ _ (c.in_ok-sound.ensures).1))

if_refused : {A : Type 0} {P : Type 0} (r : Result A Refusal) → P → IfErr r (λ _. P)
if_refused (Ok _) p = tt
if_refused (Err _) p = p

pub returns-in_err-sound-clause-refused : goal.returns-in_err-sound-clause-refused
returns-in_err-sound-clause-refused c =
    let b = c.args.pool in
    let all : (client : ℕ) (rows : List Row) → listed (Refused 8) rows ≡ holdings_on b client rows = λ client rows. refused b client rows c.in_err-sound.ensures.1 in
    if_refused _ all
