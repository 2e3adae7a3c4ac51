-- What the contracts of the public calls say. They are named and not restated: of a contract that stands in the code the toolchain makes `Asked`,
-- what a caller has to show, and `Learnt`, what it learns of the result. A contract that says less makes these say less, and the proofs of what
-- `Ties.antt` claims fail. Of a function over something lent it is written here what its contract says, and `Kept` claims that it is the contract's
-- own clause. Statements only. Assumes nothing.
use Rattle.std.specs.Prelude.{◌≡◌, List, ℕ}
use base.Logic.{emp}
use contract.Lifetimes.{Lfts}
use contract.Monad.{fact}
use Rattle.std.specs.Borrow.{MutBor}
use denote.Triple.Both.{Both}
use borrow.Fn.World.{World}
use Rattle.walks.specs.Teaching.{Teaches}
use Rattle.pool.specs.Tallies.{tally_after}
use Rattle.pool.specs.Holdings.{listed, holdings_of}
use Rattle.pool.specs.declared.Pool.{Pool}
use Rattle.pool.specs.declared.Tally.{Tally}
use Rattle.pool.specs.declared.Row.{Row}
use Rattle.pool.specs.declared.Listed.{Listed}
use Rattle.pool.specs.declared.Answer.{Answer}
use Rattle.pool.specs.declared.Outcome.{Outcome}
use Rattle.calls.specs.declared.Stepped.{Stepped}
use Rattle.step.specs.Answers.{answered_of}
use Rattle.step.specs.declared.Answered.{Answered}
use Rattle.calls.proofs.setup.Reads as setup
use Rattle.calls.proofs.setup.Kinds as setup-kinds
use Rattle.calls.proofs.setup.Symbol as setup-code
use Rattle.calls.proofs.begin.Reads as begin
use Rattle.calls.proofs.begin.Kinds as begin-kinds
use Rattle.calls.proofs.begin.Symbol as begin-code
use Rattle.calls.proofs.release.Reads as release
use Rattle.calls.proofs.release.Kinds as release-kinds
use Rattle.calls.proofs.release.Symbol as release-code
use Rattle.calls.proofs.step_tallied.Reads as step_tallied
use Rattle.calls.proofs.step_tallied.Kinds as step-tallied-kinds
use Rattle.calls.proofs.step_tallied.Symbol as step-tallied-code
use Rattle.step.proofs.step_of.Reads as step_of
use Rattle.step.proofs.step_of.Kinds as step-of-kinds
use Rattle.step.proofs.step_of.Symbol as step-of-code
use Rattle.step.specs.contracts.step as step
use Rattle.step.proofs.step.Statement as step-stated
use Rattle.holdings.proofs.holdings_of.Reads as holdings_of_call
use Rattle.holdings.proofs.holdings_of.Kinds as holdings-of-kinds
use Rattle.holdings.proofs.holdings_of.Symbol as holdings-of-code
use Rattle.holdings.proofs.holdings_on.Reads as holdings_on
use Rattle.holdings.proofs.holdings_on.Kinds as holdings-on-kinds
use Rattle.holdings.proofs.holdings_on.Symbol as holdings-on-code
use Rattle.holdings.specs.contracts.holdings as holdings
use Rattle.holdings.proofs.holdings.Statement as holdings-stated

-- ---- what each says of its arguments and a result

abbrev pub SetupSays : (size clients cap hand : ℕ) → Outcome → Type 0
SetupSays s t c h r = setup.Learnt tt (s, (t, (c, (h, tt)))) r (s, (t, (c, (h, tt))))

abbrev pub BeginSays : Pool → (client page : ℕ) → Outcome → Type 0
BeginSays p c g r = begin.Learnt tt (p, (c, (g, tt))) r (p, (c, (g, tt)))

abbrev pub ReleaseSays : Pool → (client page : ℕ) → Outcome → Type 0
ReleaseSays p c g r = release.Learnt tt (p, (c, (g, tt))) r (p, (c, (g, tt)))

-- a step by value: `step_tallied` of crate `calls`, and `step_of` of crate `step`
abbrev pub StepTalliedSays : Pool → (client : ℕ) → Tally → Stepped → Type 0
StepTalliedSays p c t r = step_tallied.Learnt tt (p, (c, (t, tt))) r (p, (c, (t, tt)))

abbrev pub StepOfSays : Pool → (client : ℕ) → Tally → Stepped → Type 0
StepOfSays p c t r = step_of.Learnt tt (p, (c, (t, tt))) r (p, (c, (t, tt)))

-- a step over a lent tally, `step` of crate `step`: of the tally as it was lent, the result, and the tally as it was left
abbrev pub StepSays : Pool → (client : ℕ) → Tally → Answered → Tally → Type 0
StepSays p c t r u = (r ≡ answered_of p c) × (u ≡ tally_after p c t)

-- holdings by value, on a list and on one that says nothing; and over a lent list, of the list as it was lent, the answer, and the list as it was
-- left
abbrev pub HoldingsOnSays : Pool → (client : ℕ) → List Row → Listed → Type 0
HoldingsOnSays p c rows r = holdings_on.Learnt tt (p, (c, (rows, tt))) r (p, (c, (rows, tt)))

abbrev pub HoldingsOfSays : Pool → (client : ℕ) → Listed → Type 0
HoldingsOfSays p c r = holdings_of_call.Learnt tt (p, (c, tt)) r (p, (c, tt))

abbrev pub HoldingsSays : Pool → (client : ℕ) → List Row → Answer → List Row → Type 0
HoldingsSays p c lent a left = listed a left ≡ holdings_of p c lent

-- ---- no call asks anything of its caller

pub record Unasked : Type 2 where
  pub setup : (s t c h : ℕ) → setup.Asked tt (s, (t, (c, (h, tt))))
  pub begin : (p : Pool) (c g : ℕ) → begin.Asked tt (p, (c, (g, tt)))
  pub release : (p : Pool) (c g : ℕ) → release.Asked tt (p, (c, (g, tt)))
  pub step_tallied : (p : Pool) (c : ℕ) (t : Tally) → step_tallied.Asked tt (p, (c, (t, tt)))
  pub step_of : (p : Pool) (c : ℕ) (t : Tally) → step_of.Asked tt (p, (c, (t, tt)))
  pub step : (w : World) (κs : Lfts 1) (p : Pool) (c : ℕ) (tally : MutBor Tally)
      → (step.spec w.𝓛 w.𝓜.mem w.𝓡.returns κs (p, (c, (tally, tt)))).requires tt ≡ emp w.𝓤
  pub holdings_on : (p : Pool) (c : ℕ) (rows : List Row) → holdings_on.Asked tt (p, (c, (rows, tt)))
  pub holdings_of_call : (p : Pool) (c : ℕ) → holdings_of_call.Asked tt (p, (c, tt))
  pub holdings : (w : World) (κs : Lfts 1) (p : Pool) (c : ℕ) (rows : MutBor (List Row))
      → (holdings.spec w.𝓛 w.𝓜.mem w.𝓡.returns κs (p, (c, (rows, tt)))).requires tt ≡ emp w.𝓤

-- ---- the code keeps its contracts

pub record Kept : Type 2 where
  pub setup : Teaches 0 setup-kinds.ps setup-kinds.r setup.Asked setup.Learnt setup-code.code setup-code.name
  pub begin : Teaches 0 begin-kinds.ps begin-kinds.r begin.Asked begin.Learnt begin-code.code begin-code.name
  pub release : Teaches 0 release-kinds.ps release-kinds.r release.Asked release.Learnt release-code.code release-code.name
  pub step_tallied : Teaches 0 step-tallied-kinds.ps step-tallied-kinds.r step_tallied.Asked step_tallied.Learnt step-tallied-code.code step-tallied-code.name
  pub step_of : Teaches 0 step-of-kinds.ps step-of-kinds.r step_of.Asked step_of.Learnt step-of-code.code step-of-code.name
  pub holdings_on : Teaches 0 holdings-on-kinds.ps holdings-on-kinds.r holdings_on.Asked holdings_on.Learnt holdings-on-code.code holdings-on-code.name
  pub holdings_of_call : Teaches 0 holdings-of-kinds.ps holdings-of-kinds.r holdings_of_call.Asked holdings_of_call.Learnt holdings-of-code.code holdings-of-code.name
  -- of something lent, as it is at entry and at exit: what is said above is the first clause of the contract; and the function meets its contract
  pub step_says : (w : World) (κs : Lfts 1) (p : Pool) (c : ℕ) (lent : MutBor Tally) (pool : Both Pool Pool) (client : Both ℕ ℕ)
      (tally : Both (MutBor Tally) (MutBor Tally)) (r : Answered)
      → step.ensures-value w.𝓛 κs w.𝓜.mem w.𝓡.returns p c lent pool client tally r
      ≡ fact w.𝓤 (StepSays p c tally.entry.now r tally.exit.now)
  pub step : {M : Type 1} → step-stated.statement M
  pub holdings_says : (w : World) (κs : Lfts 1) (p : Pool) (c : ℕ) (lent : MutBor (List Row)) (pool : Both Pool Pool) (client : Both ℕ ℕ)
      (rows : Both (MutBor (List Row)) (MutBor (List Row))) (a : Answer)
      → holdings.ensures-rows_after w.𝓛 κs w.𝓜.mem w.𝓡.returns p c lent pool client rows a
      ≡ fact w.𝓤 (HoldingsSays p c rows.entry.now a rows.exit.now)
  pub holdings : {M : Type 1} → holdings-stated.statement M
