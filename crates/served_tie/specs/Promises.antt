-- What the contracts of the functions for other languages say. They are named and not restated, as in crate `tie`: of a contract the toolchain makes
-- `Asked`, what a caller has to show, and `Learnt`, what it learns of the result and of everything lent. A contract that says less makes these say less,
-- and the proofs of what `Serving.antt` claims fail. Statements only. Assumes nothing.
use Rattle.std.specs.Prelude.{List, ℕ}
use Rattle.std.specs.Borrow.{GName, Bor, MutBor}
use contract.Lifetimes.{Lfts}
use borrow.Fn.Kinds.{Dens}
use Rattle.walks.specs.Teaching.{Teaches}
use Rattle.pool.specs.declared.Pool.{Pool}
use Rattle.memory.specs.Requests.{State}
use Rattle.in_place.specs.Held.{pool_from, state_from}
use Rattle.served.proofs.foqheran_parts_setup.Reads as setup
use Rattle.served.proofs.foqheran_parts_setup.Kinds as setup-kinds
use Rattle.served.proofs.foqheran_parts_setup.Symbol as setup-code
use Rattle.served.proofs.foqheran_parts_begin.Reads as begin
use Rattle.served.proofs.foqheran_parts_begin.Kinds as begin-kinds
use Rattle.served.proofs.foqheran_parts_begin.Symbol as begin-code
use Rattle.served.proofs.foqheran_parts_release.Reads as release
use Rattle.served.proofs.foqheran_parts_release.Kinds as release-kinds
use Rattle.served.proofs.foqheran_parts_release.Symbol as release-code
use Rattle.served.proofs.foqheran_parts_step.Reads as step
use Rattle.served.proofs.foqheran_parts_step.Kinds as step-kinds
use Rattle.served.proofs.foqheran_parts_step.Symbol as step-code
use Rattle.served.proofs.foqheran_parts_read.Reads as read
use Rattle.served.proofs.foqheran_parts_read.Kinds as read-kinds
use Rattle.served.proofs.foqheran_parts_read.Symbol as read-code
use Rattle.served.proofs.foqheran_parts_write.Reads as write
use Rattle.served.proofs.foqheran_parts_write.Kinds as write-kinds
use Rattle.served.proofs.foqheran_parts_write.Symbol as write-code
use Rattle.served.proofs.foqheran_parts_holdings.Reads as holdings
use Rattle.served.proofs.foqheran_parts_holdings.Kinds as holdings-kinds
use Rattle.served.proofs.foqheran_parts_holdings.Symbol as holdings-code
use Rattle.served.proofs.foqheran_parts_check.Reads as check
use Rattle.served.proofs.foqheran_parts_check.Kinds as check-kinds
use Rattle.served.proofs.foqheran_parts_check.Symbol as check-code

-- ---- what a program keeps

-- the parts of a pool that its calls change
pub record Books : Type 0 where
  pub hand : ℕ
  pub free : ℕ
  pub last : ℕ
  pub slots : List ℕ
  pub pages : List ℕ
  pub pins : List ℕ
  pub counts : List ℕ
  pub table_pages : List ℕ
  pub table_frames : List ℕ
  pub client_bytes : List ℕ
  pub client_words : List ℕ
  pub grant_pages : List ℕ
  pub grant_frames : List ℕ

-- the frames' bytes and marks
pub record Frames : Type 0 where
  pub bytes : List ℕ
  pub filled : List ℕ
  pub changed : List ℕ

-- all of it: S, T, C, how many pages the store has, and the store
pub record Server : Type 0 where
  pub size : ℕ
  pub clients : ℕ
  pub cap : ℕ
  pub pages : ℕ
  pub books : Books
  pub frames : Frames
  pub store : List ℕ

abbrev pub pool_in : Server → Pool
pool_in x =
    let b = x.books in
    pool_from x.size x.clients x.cap b.hand b.free b.last b.slots b.pages b.pins b.counts b.table_pages b.table_frames b.client_bytes b.client_words b.grant_pages b.grant_frames

abbrev pub state_in : Server → State
state_in x = state_from (pool_in x) x.pages x.frames.bytes x.frames.filled x.frames.changed x.store

-- another hand; other bytes
abbrev pub with_hand : Books → ℕ → Books
with_hand b h =
    record {
      hand = h;
      free = b.free;
      last = b.last;
      slots = b.slots;
      pages = b.pages;
      pins = b.pins;
      counts = b.counts;
      table_pages = b.table_pages;
      table_frames = b.table_frames;
      client_bytes = b.client_bytes;
      client_words = b.client_words;
      grant_pages = b.grant_pages;
      grant_frames = b.grant_frames;
    }

abbrev pub with_bytes : Frames → List ℕ → Frames
with_bytes f bytes = record { bytes = bytes; filled = f.filled; changed = f.changed }

-- other books; other books, frames and store; other frames
abbrev pub with_books : Server → Books → Server
with_books x b = record { size = x.size; clients = x.clients; cap = x.cap; pages = x.pages; books = b; frames = x.frames; store = x.store }

abbrev pub with_all : Server → Books → Frames → List ℕ → Server
with_all x b f s = record { size = x.size; clients = x.clients; cap = x.cap; pages = x.pages; books = b; frames = f; store = s }

abbrev pub with_frames : Server → Frames → Server
with_frames x f = record { size = x.size; clients = x.clients; cap = x.cap; pages = x.pages; books = x.books; frames = f; store = x.store }

-- ---- how it is lent

-- where each thing lies, and by which name the logic knows it; the lifetimes are each function's own. No contract speaks of these.
pub record Loans : Type 0 where
  pub ptr : ℕ → ℕ × ℕ
  pub name : ℕ → GName

-- What a function reads, and what it may write.
abbrev lent : {A : Type 0} → Loans → ℕ → A → Bor A
lent l i v = record { ref_ptr = l.ptr i; now = v }

abbrev handed : {A : Type 0} → Loans → ℕ → A → MutBor A
handed l i v = record { ref_ptr = l.ptr i; ghost_name = l.name i; now = v }

-- one argument of a function, and those after it
infixr 30 ◌&◌
abbrev ◌&◌ : {A B : Type 0} → A → B → A × B
a & b = (a, b)

-- the books, each part by a reference, before what else is lent
abbrev LentBooks : Type 0 → Type 0
LentBooks A = MutBor ℕ × (MutBor ℕ × (MutBor ℕ × (MutBor (List ℕ) × (MutBor (List ℕ) × (MutBor (List ℕ) × (MutBor (List ℕ) × (MutBor (List ℕ) × (MutBor (List ℕ) × (MutBor (List ℕ) × (MutBor (List ℕ) × (MutBor (List ℕ) × (MutBor (List ℕ) × A))))))))))))

abbrev lent_books : {A : Type 0} → Loans → Books → A → LentBooks A
lent_books l b rest =
    handed l 0 b.hand & handed l 1 b.free & handed l 2 b.last & handed l 3 b.slots & handed l 4 b.pages & handed l 5 b.pins & handed l 6 b.counts &
    handed l 7 b.table_pages & handed l 8 b.table_frames & handed l 9 b.client_bytes & handed l 10 b.client_words & handed l 11 b.grant_pages &
    handed l 12 b.grant_frames & rest

-- the frames' bytes and marks
abbrev lent_frames : Loans → Frames → MutBor (List ℕ) × (MutBor (List ℕ) × (MutBor (List ℕ) × Unit {0}))
lent_frames l f = handed l 13 f.bytes & handed l 14 f.filled & handed l 15 f.changed & tt

-- how many clients there are, their records and grants, for those that only read them
abbrev lent_grants : Loans → Server → ℕ × (Bor (List ℕ) × (Bor (List ℕ) × (Bor (List ℕ) × (Bor (List ℕ) × Unit {0}))))
lent_grants l x =
    let b = x.books in
    x.clients & lent l 9 b.client_bytes & lent l 10 b.client_words & lent l 11 b.grant_pages & lent l 12 b.grant_frames & tt

-- ---- what each says of its arguments, its result and what is left

-- Each is told of what it is given as it stands before the call and after it: `given` says both.

-- a setup that finds these things there; the store it only reads
abbrev pub SetupSays : Lfts 21 → Loans → (s t c h : ℕ) → Server → (r : ℕ) → Server → Type 0
SetupSays κs l s t c h x r y =
    let given : (Server → Dens κs setup-kinds.ps) = λ z.
    s & t & c & h & lent l 20 x.store & handed l 21 z.size & handed l 22 z.clients & handed l 23 z.cap & handed l 24 z.pages &
    lent_books l z.books (lent_frames l z.frames) in
    setup.Learnt κs (given x) r (given y)

abbrev pub BeginSays : Lfts 13 → Loans → (c g : ℕ) → Server → (r : ℕ) → Books → Type 0
BeginSays κs l c g x r b =
    let given : (Books → Dens κs begin-kinds.ps) = λ z. c & g & x.pages & x.size & x.clients & x.cap & lent_books l z tt in
    begin.Learnt κs (given x.books) r (given b)

abbrev pub ReleaseSays : Lfts 13 → Loans → (c g : ℕ) → Server → (r : ℕ) → Books → Type 0
ReleaseSays κs l c g x r b =
    let given : (Books → Dens κs release-kinds.ps) = λ z. c & g & x.size & x.clients & x.cap & lent_books l z tt in
    release.Learnt κs (given x.books) r (given b)

-- a step, lent a tally in the numbers t and a place for the duty where e stands; it leaves books, frames, store, numbers u and duty d
abbrev pub StepSays : Lfts 19 → Loans → (c : ℕ) → Server → (t : List ℕ) → (e r : ℕ) → Books → Frames → List ℕ → (u : List ℕ) → (d : ℕ) → Type 0
StepSays κs l c x t e r b f s u d =
    let given : (List ℕ → ℕ → List ℕ → Frames → Books → Dens κs step-kinds.ps) = λ n k store z w.
    c & handed l 30 n & handed l 31 k & handed l 20 store & x.pages & handed l 13 z.bytes & handed l 14 z.filled & handed l 15 z.changed &
    x.size & x.clients & x.cap & lent_books l w tt in
    step.Learnt κs (given t e x.store x.frames x.books) r (given u d s f b)

-- a read leaves bytes and filled marks, a write also changed marks; clients, grants and the store they only read
abbrev pub ReadSays : Lfts 4 → Loans → (c g o : ℕ) → Server → (r : ℕ) → (bytes filled : List ℕ) → Type 0
ReadSays κs l c g o x r bytes filled =
    let given : (List ℕ → List ℕ → Dens κs read-kinds.ps) = λ b m.
    c & g & o & lent l 20 x.store & x.pages & handed l 13 b & handed l 14 m & lent_grants l x in
    read.Learnt κs (given x.frames.bytes x.frames.filled) r (given bytes filled)

abbrev pub WriteSays : Lfts 5 → Loans → (c g o v : ℕ) → Server → (r : ℕ) → Frames → Type 0
WriteSays κs l c g o v x r f =
    let given : (Frames → Dens κs write-kinds.ps) = λ z.
    c & g & o & v & lent l 20 x.store & x.pages & handed l 13 z.bytes & handed l 14 z.filled & handed l 15 z.changed & lent_grants l x in
    write.Learnt κs (given x.frames) r (given f)

-- holdings, lent the numbers t, which leave u
abbrev pub HoldingsSays : Lfts 2 → Loans → (c : ℕ) → Server → (t : List ℕ) → (r : ℕ) → (u : List ℕ) → Type 0
HoldingsSays κs l c x t r u =
    let b = x.books in
    let given : (List ℕ → Dens κs holdings-kinds.ps) = λ n.
    c & handed l 30 n & x.clients & lent l 9 b.client_bytes & lent l 10 b.client_words & lent l 11 b.grant_pages & tt in
    holdings.Learnt κs (given t) r (given u)

-- check, which only reads
abbrev pub CheckSays : Lfts 1 → Loans → Server → (r : ℕ) → Type 0
CheckSays κs l x r =
    let b = x.books in
    let given : Dens κs check-kinds.ps =
    lent l 20 x.store & x.pages & lent l 14 x.frames.filled & lent l 15 x.frames.changed & x.size & x.clients & x.cap & b.free & b.last &
    lent l 3 b.slots & lent l 4 b.pages & lent l 5 b.pins & lent l 6 b.counts & lent l 7 b.table_pages & lent l 8 b.table_frames &
    lent l 9 b.client_bytes & lent l 10 b.client_words & lent l 11 b.grant_pages & lent l 12 b.grant_frames & tt in
    check.Learnt κs given r given

-- ---- the code keeps its contracts

pub record Kept : Type 2 where
  pub setup : Teaches 21 setup-kinds.ps setup-kinds.r setup.Asked setup.Learnt setup-code.code setup-code.name
  pub begin : Teaches 13 begin-kinds.ps begin-kinds.r begin.Asked begin.Learnt begin-code.code begin-code.name
  pub release : Teaches 13 release-kinds.ps release-kinds.r release.Asked release.Learnt release-code.code release-code.name
  pub step : Teaches 19 step-kinds.ps step-kinds.r step.Asked step.Learnt step-code.code step-code.name
  pub read : Teaches 4 read-kinds.ps read-kinds.r read.Asked read.Learnt read-code.code read-code.name
  pub write : Teaches 5 write-kinds.ps write-kinds.r write.Asked write.Learnt write-code.code write-code.name
  pub holdings : Teaches 2 holdings-kinds.ps holdings-kinds.r holdings.Asked holdings.Learnt holdings-code.code holdings-code.name
  pub check : Teaches 1 check-kinds.ps check-kinds.r check.Asked check.Learnt check-code.code check-code.name

-- and asks nothing, of whatever it is lent
pub record Unasked : Type 2 where
  pub setup : (κs : Lfts 21) (a : Dens κs setup-kinds.ps) → setup.Asked κs a
  pub begin : (κs : Lfts 13) (a : Dens κs begin-kinds.ps) → begin.Asked κs a
  pub release : (κs : Lfts 13) (a : Dens κs release-kinds.ps) → release.Asked κs a
  pub step : (κs : Lfts 19) (a : Dens κs step-kinds.ps) → step.Asked κs a
  pub read : (κs : Lfts 4) (a : Dens κs read-kinds.ps) → read.Asked κs a
  pub write : (κs : Lfts 5) (a : Dens κs write-kinds.ps) → write.Asked κs a
  pub holdings : (κs : Lfts 2) (a : Dens κs holdings-kinds.ps) → holdings.Asked κs a
  pub check : (κs : Lfts 1) (a : Dens κs check-kinds.ps) → check.Asked κs a
