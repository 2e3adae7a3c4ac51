-- What the contracts of the calls of a pool that has bytes say. They are named and not restated, as in crate `tie`: of a contract the toolchain makes
-- `Asked`, what a caller has to show, and `Learnt`, what it learns of the result, also where a store is lent. A contract that says less makes these
-- say less, and the proofs of what `Ties.antt` claims fail. Of the step over a lent tally and of holdings over a lent list it is written here what the
-- contract says, and `Kept` claims that it is the contract's own clause. Statements only. Assumes nothing.
use Rattle.std.specs.Prelude.{◌≡◌, List, ℕ}
use base.Logic.{emp}
use Rattle.std.specs.Borrow.{GName, Bor, MutBor}
use contract.Lifetimes.{Lfts}
use contract.Monad.{fact}
use denote.Triple.Both.{Both}
use borrow.Fn.World.{World}
use Rattle.walks.specs.Teaching.{Teaches}
use Rattle.pool.specs.Holdings.{listed}
use Rattle.pool.specs.declared.Tally.{Tally}
use Rattle.pool.specs.declared.Row.{Row}
use Rattle.pool.specs.declared.Listed.{Listed}
use Rattle.pool.specs.declared.Answer.{Answer}
use Rattle.memory.specs.Requests.{holdings_on}
use Rattle.memory.specs.declared.BufferPool.{BufferPool}
use Rattle.memory.specs.declared.Reply.{Reply}
use Rattle.memory.specs.declared.Tallied.{Tallied}
use Rattle.buffered.proofs.setup.Reads as setup
use Rattle.buffered.proofs.setup.Kinds as setup-kinds
use Rattle.buffered.proofs.setup.Symbol as setup-code
use Rattle.buffered.proofs.begin.Reads as begin
use Rattle.buffered.proofs.begin.Kinds as begin-kinds
use Rattle.buffered.proofs.begin.Symbol as begin-code
use Rattle.buffered.proofs.release.Reads as release
use Rattle.buffered.proofs.release.Kinds as release-kinds
use Rattle.buffered.proofs.release.Symbol as release-code
use Rattle.byte_step.proofs.step_tallied.Reads as step_tallied
use Rattle.byte_step.proofs.step_tallied.Kinds as step-tallied-kinds
use Rattle.byte_step.proofs.step_tallied.Symbol as step-tallied-code
use Rattle.byte_lent.specs.Lent.{step_on, tally_on, store_on}
use Rattle.byte_lent.specs.contracts.step as step
use Rattle.byte_lent.proofs.step.Statement as step-stated
use Rattle.byte_calls.proofs.read.Reads as read
use Rattle.byte_calls.proofs.read.Kinds as read-kinds
use Rattle.byte_calls.proofs.read.Symbol as read-code
use Rattle.byte_calls.proofs.write.Reads as write
use Rattle.byte_calls.proofs.write.Kinds as write-kinds
use Rattle.byte_calls.proofs.write.Symbol as write-code
use Rattle.byte_holdings.proofs.holdings_on.Reads as holdings_on_call
use Rattle.byte_holdings.proofs.holdings_on.Kinds as holdings-on-kinds
use Rattle.byte_holdings.proofs.holdings_on.Symbol as holdings-on-code
use Rattle.byte_holdings.specs.contracts.holdings as holdings
use Rattle.byte_holdings.proofs.holdings.Statement as holdings-stated

-- ---- a store that is lent

-- how it is lent: for how long, where it lies, and by which name the logic knows it. No contract speaks of these.
pub record Loan : Type 0 where
  pub lifetimes : Lfts 1
  pub ptr : ℕ × ℕ
  pub name : GName

-- the reference, while the store has these bytes: where the call reads it, and where it may write it
abbrev pub lent : Loan → List ℕ → Bor (List ℕ)
lent l s = record { ref_ptr = l.ptr; now = s }

abbrev pub handed : Loan → List ℕ → MutBor (List ℕ)
handed l s = record { ref_ptr = l.ptr; ghost_name = l.name; now = s }

-- ---- what each says of its arguments and a result

abbrev pub SetupSays : Loan → (size clients cap hand : ℕ) → (store : List ℕ) → Reply → Type 0
SetupSays l s t c h store r = setup.Learnt l.lifetimes (s, (t, (c, (h, (lent l store, tt))))) r (s, (t, (c, (h, (lent l store, tt)))))

-- these two are lent no store
abbrev pub BeginSays : BufferPool → (client page : ℕ) → Reply → Type 0
BeginSays b c g r = begin.Learnt tt (b, (c, (g, tt))) r (b, (c, (g, tt)))

abbrev pub ReleaseSays : BufferPool → (client page : ℕ) → Reply → Type 0
ReleaseSays b c g r = release.Learnt tt (b, (c, (g, tt))) r (b, (c, (g, tt)))

-- a step with the tally by value: of the store as it was lent, the result, and the store as it was left
abbrev pub StepTalliedSays : Loan → BufferPool → (client : ℕ) → Tally → (store : List ℕ) → Tallied → (left : List ℕ) → Type 0
StepTalliedSays l b c t store r left =
    step_tallied.Learnt l.lifetimes (b, (c, (t, (handed l store, tt)))) r (b, (c, (t, (handed l left, tt))))

-- a step that is lent the tally, too: of tally and store as they were lent, the result, and both as they were left
abbrev pub StepSays : BufferPool → (client : ℕ) → Tally → (store : List ℕ) → Reply → Tally → (left : List ℕ) → Type 0
StepSays b c t s r u left = (r ≡ step_on b c s) × (u ≡ tally_on b c s t) × (left ≡ store_on b c s)

-- a read and a write of a byte, which leave the store
abbrev pub ReadSays : Loan → BufferPool → (client page offset : ℕ) → (store : List ℕ) → Reply → Type 0
ReadSays l b c g o store r = read.Learnt l.lifetimes (b, (c, (g, (o, (lent l store, tt))))) r (b, (c, (g, (o, (lent l store, tt)))))

abbrev pub WriteSays : Loan → BufferPool → (client page offset byte : ℕ) → (store : List ℕ) → Reply → Type 0
WriteSays l b c g o v store r =
    write.Learnt l.lifetimes (b, (c, (g, (o, (v, (lent l store, tt)))))) r (b, (c, (g, (o, (v, (lent l store, tt))))))

-- holdings by value; and over a lent list, of the list as it was lent, the answer, and the list as it was left
abbrev pub HoldingsOnSays : BufferPool → (client : ℕ) → List Row → Listed → Type 0
HoldingsOnSays b c rows r = holdings_on_call.Learnt tt (b, (c, (rows, tt))) r (b, (c, (rows, tt)))

abbrev pub HoldingsSays : BufferPool → (client : ℕ) → List Row → Answer → List Row → Type 0
HoldingsSays b c rows a left = listed a left ≡ holdings_on b c rows

-- ---- no call asks anything of its caller

pub record Unasked : Type 2 where
  pub setup : (l : Loan) (s t c h : ℕ) (store : List ℕ) → setup.Asked l.lifetimes (s, (t, (c, (h, (lent l store, tt)))))
  pub begin : (b : BufferPool) (c g : ℕ) → begin.Asked tt (b, (c, (g, tt)))
  pub release : (b : BufferPool) (c g : ℕ) → release.Asked tt (b, (c, (g, tt)))
  pub step_tallied : (l : Loan) (b : BufferPool) (c : ℕ) (t : Tally) (store : List ℕ)
      → step_tallied.Asked l.lifetimes (b, (c, (t, (handed l store, tt))))
  pub step : (w : World) (κs : Lfts 2) (b : BufferPool) (c : ℕ) (tally : MutBor Tally) (store : MutBor (List ℕ))
      → (step.spec w.𝓛 w.𝓜.mem w.𝓡.returns κs (b, (c, (tally, (store, tt))))).requires tt ≡ emp w.𝓤
  pub read : (l : Loan) (b : BufferPool) (c g o : ℕ) (store : List ℕ) → read.Asked l.lifetimes (b, (c, (g, (o, (lent l store, tt)))))
  pub write : (l : Loan) (b : BufferPool) (c g o v : ℕ) (store : List ℕ)
      → write.Asked l.lifetimes (b, (c, (g, (o, (v, (lent l store, tt))))))
  pub holdings_on_call : (b : BufferPool) (c : ℕ) (rows : List Row) → holdings_on_call.Asked tt (b, (c, (rows, tt)))
  pub holdings : (w : World) (κs : Lfts 1) (b : BufferPool) (c : ℕ) (rows : MutBor (List Row))
      → (holdings.spec w.𝓛 w.𝓜.mem w.𝓡.returns κs (b, (c, (rows, tt)))).requires tt ≡ emp w.𝓤

-- ---- the code keeps its contracts

pub record Kept : Type 2 where
  pub setup : Teaches 1 setup-kinds.ps setup-kinds.r setup.Asked setup.Learnt setup-code.code setup-code.name
  pub begin : Teaches 0 begin-kinds.ps begin-kinds.r begin.Asked begin.Learnt begin-code.code begin-code.name
  pub release : Teaches 0 release-kinds.ps release-kinds.r release.Asked release.Learnt release-code.code release-code.name
  pub step_tallied : Teaches 1 step-tallied-kinds.ps step-tallied-kinds.r step_tallied.Asked step_tallied.Learnt step-tallied-code.code step-tallied-code.name
  -- of what is lent, as it is at entry and at exit: what is said above is the first clause of the contract; and the function meets its contract
  pub step_says : (w : World) (κs : Lfts 2) (b : BufferPool) (c : ℕ) (t : MutBor Tally) (s : MutBor (List ℕ)) (pool : Both BufferPool BufferPool)
      (client : Both ℕ ℕ) (tally : Both (MutBor Tally) (MutBor Tally)) (store : Both (MutBor (List ℕ)) (MutBor (List ℕ))) (r : Reply)
      → step.ensures-value w.𝓛 κs w.𝓜.mem w.𝓡.returns b c t s pool client tally store r
      ≡ fact w.𝓤 (StepSays b c tally.entry.now store.entry.now r tally.exit.now store.exit.now)
  pub step : {M : Type 1} → step-stated.statement M
  pub read : Teaches 1 read-kinds.ps read-kinds.r read.Asked read.Learnt read-code.code read-code.name
  pub write : Teaches 1 write-kinds.ps write-kinds.r write.Asked write.Learnt write-code.code write-code.name
  pub holdings_on_call : Teaches 0 holdings-on-kinds.ps holdings-on-kinds.r holdings_on_call.Asked holdings_on_call.Learnt holdings-on-code.code holdings-on-code.name
  -- of a lent list, as of what a step is lent
  pub holdings_says : (w : World) (κs : Lfts 1) (b : BufferPool) (c : ℕ) (l : MutBor (List Row)) (pool : Both BufferPool BufferPool) (client : Both ℕ ℕ)
      (rows : Both (MutBor (List Row)) (MutBor (List Row))) (a : Answer)
      → holdings.ensures-rows_after w.𝓛 κs w.𝓜.mem w.𝓡.returns b c l pool client rows a
      ≡ fact w.𝓤 (HoldingsSays b c rows.entry.now a rows.exit.now)
  pub holdings : {M : Type 1} → holdings-stated.statement M
