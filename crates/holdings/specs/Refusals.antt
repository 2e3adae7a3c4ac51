-- By which refusals (SPECIFICATION 8.3) holdings can be refused. Assumes nothing.
use Rattle.std.specs.Prelude.{◌≡◌, ◌<◌, refl, false, List, ℕ, eqb, length}
use Rattle.std.proofs.Common.{arith}
use Rattle.std.proofs.lemmas.Bool.{ne_eqb}
use Rattle.pool.specs.Answers.{refusal_of}
use Rattle.pool.specs.Holdings.{holdings_refusal, holdings_of}
use Rattle.pool.specs.declared.Pool.{Pool}
use Rattle.pool.specs.declared.Row.{Row}
use Rattle.pool.specs.declared.Listed.{Listed}
use Rattle.laws.specs.Choices.{by_test}
use Rattle.answers.specs.Among.{Among}
use Rattle.answers.specs.Numbers.{refusal_number, some_refusal}
use Rattle.answers.specs.Refusals.{by_holdings}
use Rattle.answers.specs.declared.refusal.Refusal.{Refusal}

-- no refusal has the number 0
pub numbered : (r : Refusal) → eqb (refusal_number r) 0 ≡ false
numbered r = let h : 0 < refusal_number r = some_refusal r in ne_eqb _ 0 (λ z. omega (arith, h, z))

refusal_listed : (p : Pool) (c room : ℕ) → Among by_holdings (holdings_refusal p c room)
unfolding holdings_refusal
refusal_listed p c room =
    by_test (Among by_holdings) (λ _. by_test (Among by_holdings) (λ _. by_test (Among by_holdings) (λ _. refl) (λ _. refl)) (λ _. refl)) (λ _. refl)

-- the answer's refusal number: 0 where the list is filled, else 8, 9 or 14
pub holdings_refusals : (p : Pool) (c : ℕ) (lent : List Row) → Among by_holdings (refusal_of (holdings_of p c lent).answer)
unfolding holdings_of refusal_of
holdings_refusals p c lent = by_test (λ (r : Listed). Among by_holdings (refusal_of r.answer)) (λ _. refl) (λ _. refusal_listed p c (length lent))
