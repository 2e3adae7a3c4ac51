-- The tie between the functions for other languages and the specification's calls: whatever their contracts allow, on whatever memory, is the call in
-- place; and from an accepted setup on it goes through the very pools, bytes, stores, answers and tallies of the specification's calls, of which crates
-- `contents` and `mixed` claim what docs/GUARANTEE.md says. Statements only. Assumes nothing.
use Rattle.std.specs.Prelude.{◌≡◌, ◌≢◌, ◌⊎◌, true, false, List, [], ◌∷◌, map, ℕ, ◌+◌, ◌*◌, ◌<◌, length}
use contract.Lifetimes.{Lfts}
use Rattle.pool.specs.State.{number_of_clients, client}
use Rattle.pool.specs.Grants.{held}
use Rattle.pool.specs.Holdings.{holdings_of}
use Rattle.pool.specs.Valid.{numbers_ok, valid}
use Rattle.pool.specs.Answers.{value_of}
use Rattle.pool.specs.Tallies.{zero_tally, tallied}
use Rattle.pool.specs.declared.Answer.{Answer}
use Rattle.pool.specs.declared.Answer.TheVariants.{Done, Refused}
use Rattle.pool.specs.declared.Client.{Client}
use Rattle.pool.specs.declared.Pool.{Pool}
use Rattle.pool.specs.declared.Row.{Row}
use Rattle.pool.specs.declared.Call.TheVariants.{Begin, Step, Release}
use Rattle.guarantee.specs.Claims.{AddsUp}
use Rattle.guarantee.specs.Progress.{GetsThrough, StepAnswered}
use Rattle.memory.specs.Requests.{Request, Asks, ReadByte, WriteByte, State, refused, length_ok, setup_on, call_on}
use Rattle.memory.specs.Happenings.{Happening, happenings, state_after, SetUpOn}
use Rattle.mixed.specs.Mixed.{tally_on, Point3On, Passes8, Removes, Remaps, asks_step}
use Rattle.contents.specs.Contents.{ReadsLast}
use Rattle.counting.specs.Counts.{tally_from}
use Rattle.client_arrays.specs.Arrays.{bytes_long, words_long, clients_from}
use Rattle.holding.specs.Holds.{Keeps}
use Rattle.listing.specs.Listed.{row_numbers, held_listing}
use Rattle.in_place.specs.Held.{held_of, held_on, duty_on, state_from}
use Rattle.served.specs.Words.{word_of}
use Rattle.served.specs.Served.{SetsUp, CallsTo, StepsTo, BytesTo, ListsTo, checked_state}
use Rattle.held_claims.specs.HeldClaims.{Tells, HeldClaims}
use Rattle.served_tie.specs.Promises.{Books, Frames, Server, pool_in, state_in, with_hand, with_bytes, with_books, with_all, with_frames, Loans, SetupSays, BeginSays}
use Rattle.served_tie.specs.Promises.{ReleaseSays, StepSays, ReadSays, WriteSays, HoldingsSays, CheckSays, Kept, Unasked}

-- ---- what the contracts allow

-- One request of a program that keeps x, its answer as a number, and what the program keeps then, as the contract of the function that it calls allows. A
-- step is lent a tally in the numbers t and leaves them as the numbers u; a part that a function is not lent stays.
pub data Serves (x : Server) (t : List ℕ) : Request → ℕ → Server → List ℕ → Type 0 where
  begin : {c g r : ℕ} (κs : Lfts 13) (l : Loans) (b : Books) → BeginSays κs l c g x r b → Serves x t (Asks (Begin c g)) r (with_books x b) t
  release : {c g r : ℕ} (κs : Lfts 13) (l : Loans) (b : Books) → ReleaseSays κs l c g x r b → Serves x t (Asks (Release c g)) r (with_books x b) t
  step : {c r : ℕ} {u : List ℕ} (κs : Lfts 19) (l : Loans) (b : Books) (f : Frames) (s : List ℕ) (e d : ℕ) → StepSays κs l c x t e r b f s u d
      → Serves x t (Asks (Step c)) r (with_all x b f s) u
  read : {c g o r : ℕ} (κs : Lfts 4) (l : Loans) (bytes filled : List ℕ) → ReadSays κs l c g o x r bytes filled
      → Serves x t (ReadByte c g o) r (with_frames x (record { bytes = bytes; filled = filled; changed = x.frames.changed })) t
  write : {c g o v r : ℕ} (κs : Lfts 5) (l : Loans) (f : Frames) → WriteSays κs l c g o v x r f → Serves x t (WriteByte c g o v) r (with_frames x f) t

-- the tally that a request is lent, t, is the one u that the request before it left; or it is whichever its caller has
abbrev pub OneTally : (u t : List ℕ) → Type 0
OneTally u t = u ≡ t

abbrev pub AnyTally : (u t : List ℕ) → Type 0
AnyTally u t = Unit {0}

-- A list of requests, the answers, and what is kept after the last. Each finds the pool, bytes, marks and store that the last one left, in whatever memory
-- by then: so there may be holdings and checks between two of them, or a setup that was refused. A step finds a tally as Lends says.
pub data ServesAll (Lends : List ℕ → List ℕ → Type 0) : Server → List ℕ → List Request → List ℕ → Server → List ℕ → Type 0 where
  at_end : {x : Server} {t : List ℕ} → ServesAll Lends x t [] [] x t
  at_request : {w x y z : Server} {t u v o : List ℕ} {q : Request} {r : ℕ} {qs : List Request} {rs : List ℕ}
      → state_in w ≡ state_in x → Serves x t q r y u → Lends u v → ServesAll Lends y v qs rs z o → ServesAll Lends w t (q ∷ qs) (r ∷ rs) z o

-- an answer that is done: its code is 0
abbrev pub IsDone : ℕ → Type 0
IsDone r = r < 4294967296

-- a setup as its contract allows, from whatever memory x, that is done and leaves y
pub record Accepted (x y : Server) : Type 0 where
  pub lifetimes : Lfts 21
  pub loans : Loans
  pub size : ℕ
  pub clients : ℕ
  pub cap : ℕ
  pub hand : ℕ
  pub answer : ℕ
  pub says : SetupSays lifetimes loans size clients cap hand x answer y
  pub done : IsDone answer
  -- the store is only read
  pub store : y.store ≡ x.store

-- ---- of every memory

-- GUARANTEE 20, SPECIFICATION 14.5, 14.6: whatever is kept there, a request is the call in place: answer, all that is kept, tally
abbrev pub ClaimRequest : Type 0
ClaimRequest =
    (x y : Server) (t u : List ℕ) (q : Request) (r : ℕ) → Serves x t q r y u
    → let h = held_on (state_in x) q in
    (r ≡ word_of h.answer) × (state_in y ≡ h.state) × (tally_from u ≡ tallied h.counted (tally_from t))

-- GUARANTEE 22, SPECIFICATION 14.7: a step tells its duty
abbrev pub ClaimTells : Type 0
ClaimTells =
    (x : Server) (c : ℕ) (κs : Lfts 19) (l : Loans) (t : List ℕ) (e r : ℕ) (b : Books) (f : Frames) (s u : List ℕ) (d : ℕ)
    → StepSays κs l c x t e r b f s u d → d ≡ duty_on (state_in x) c

-- GUARANTEE 21, SPECIFICATION 14.5: a setup answers as the specification's, done or refused by 8; done, it leaves what that does, and refused everything as it was
abbrev pub ClaimSetup : Type 0
ClaimSetup =
    (κs : Lfts 21) (l : Loans) (s t c h : ℕ) (x y : Server) (r : ℕ) → SetupSays κs l s t c h x r y → y.store ≡ x.store
    → let o = setup_on s t c h x.store in
    (r ≡ word_of o.answer)
    × (((o.answer ≡ Done s) × (state_in y ≡ o.state)) ⊎ ((o.answer ≡ Refused 8) × (state_in y ≡ state_in x)))

-- GUARANTEE 21, SPECIFICATION 14.6: holdings on these numbers
abbrev pub ClaimLists : Type 0
ClaimLists =
    (κs : Lfts 2) (l : Loans) (c : ℕ) (x : Server) (t u : List ℕ) (r : ℕ) → HoldingsSays κs l c x t r u
    → let h = held_listing (pool_in x) c t in (r ≡ word_of h.answer) × (u ≡ h.numbers)

-- SPECIFICATION 14.9: on a valid pool that is holdings on a list of rows
abbrev pub ClaimSameHoldings : Type 0
ClaimSameHoldings =
    (p : Pool) → valid p ≡ true → (c : ℕ) (rows : List Row)
    → let h = held_listing p c (row_numbers rows) in
    (h.answer ≡ (holdings_of p c rows).answer) × (h.numbers ≡ row_numbers (holdings_of p c rows).rows)

-- SPECIFICATION 14.8: check is done exactly where the whole check 8 passes
abbrev pub ClaimCheck : Type 0
ClaimCheck =
    (κs : Lfts 1) (l : Loans) (x : Server) (r : ℕ) → CheckSays κs l x r
    → (Passes8 (state_in x) → r ≡ word_of (Done x.size)) × ((Passes8 (state_in x) → ⊥) → r ≡ word_of (Refused 8))

-- SPECIFICATION 14.3: answers whose values have 32 bits can be told apart by their numbers
abbrev pub ClaimToldApart : Type 0
ClaimToldApart =
    (a b : Answer) → value_of a < 4294967296 → value_of b < 4294967296 → word_of a ≡ word_of b → a ≡ b

-- ---- from an accepted setup on

-- what an accepted setup leaves was set up in the sense of the claims: so each claim of crates `contents` and `mixed` about such a state and every list
-- holds of it, and by `ClaimList` what they speak of is what the functions do. Two of them are named here.
abbrev pub ClaimIsSetUp : Type 0
ClaimIsSetUp = (x y : Server) → Accepted x y → SetUpOn (state_in y)

abbrev pub ClaimPoint3 : Type 0
ClaimPoint3 = (x y : Server) → Accepted x y → (qs : List Request) → Point3On (state_in y) qs × ReadsLast y.store (happenings (state_in y) qs)

-- GUARANTEE 20, SPECIFICATION 14.9: whatever a program does with a pool that was set up, its answers and all that it keeps are exactly the
-- specification's, whichever tallies it lends; and one that it lends throughout is counted up as the specification says
abbrev pub ClaimList : Type 0
ClaimList =
    (x y z : Server) → Accepted x y → (t u : List ℕ) (qs : List Request) (rs : List ℕ) → ServesAll AnyTally y t qs rs z u
    → (rs ≡ map (λ (h : Happening). word_of h.answer) (happenings (state_in y) qs)) × (state_in z ≡ state_after (state_in y) qs)

abbrev pub ClaimTally : Type 0
ClaimTally =
    (x y z : Server) → Accepted x y → (t u : List ℕ) (qs : List Request) (rs : List ℕ) → ServesAll OneTally y t qs rs z u
    → tally_from u ≡ tally_on (tally_from t) (happenings (state_in y) qs)

-- GUARANTEE 22: and so is what a step tells then
abbrev pub ClaimDuties : Type 0
ClaimDuties =
    (x y z : Server) → Accepted x y → (t u : List ℕ) (qs : List Request) (rs : List ℕ) → ServesAll AnyTally y t qs rs z u
    → (c : ℕ) (κs : Lfts 19) (l : Loans) (v : List ℕ) (e r : ℕ) (b : Books) (f : Frames) (s w : List ℕ) (d : ℕ) → StepSays κs l c z v e r b f s w d
    → let now = state_after (state_in y) qs in
    (refused (call_on now (Asks (Step c))).answer ≡ false → Tells now (client now.pool c) d)
    × (refused (call_on now (Asks (Step c))).answer ≡ true → d ≡ 0)

-- GUARANTEE 22: as a step is made, nobody holds a frame whose content goes back or moves, nor the one that it moves to
abbrev pub Spares : State → Client → Type 0
Spares x k =
    (Removes x k → held x.pool k.victim ≢ true) × (Remaps x k → (held x.pool k.found ≢ true) × (held x.pool k.own ≢ true))

abbrev pub ClaimSpared : Type 0
ClaimSpared =
    (x y z : Server) → Accepted x y → (t u : List ℕ) (qs : List Request) (rs : List ℕ) → ServesAll AnyTally y t qs rs z u
    → (c : ℕ) → Spares (state_in z) (client (pool_in z) c)

-- GUARANTEE 12, SPECIFICATION 7.4: the tally's sum, of one tally
abbrev pub ClaimSum : Type 0
ClaimSum =
    (x y z : Server) → Accepted x y → (t u : List ℕ) → tally_from t ≡ zero_tally → (qs : List Request) (rs : List ℕ) → ServesAll OneTally y t qs rs z u
    → AddsUp (pool_in z) (tally_from u)

-- SPECIFICATION 14.3: an answer of this code, with a value of 32 bits
abbrev pub Coded : ℕ → ℕ → Type 0
Coded n r = (v : ℕ) × (v < 4294967296) × (r ≡ 4294967296 * n + v)

-- a request is answered: granted, or refused by 15; and a step that is accepted is that, or at work
abbrev pub IsAnswer : ℕ → Type 0
IsAnswer r = Coded 2 r ⊎ Coded 115 r

abbrev pub IsAccepted : ℕ → Type 0
IsAccepted r = Coded 1 r ⊎ IsAnswer r

-- GUARANTEE 24: of so many accepted steps one is an answer, by what was asked and answered alone; S, T and C are those of the setup
abbrev pub ClaimProgress : Type 0
ClaimProgress =
    (x y z : Server) (a : Accepted x y) (t u : List ℕ) (qs : List Request) (rs : List ℕ) → ServesAll AnyTally y t qs rs z u
    → GetsThrough a.size a.clients a.cap (StepAnswered asks_step qs rs IsAccepted) (StepAnswered asks_step qs rs IsAnswer)

-- SPECIFICATION 14.6: so are its holdings, on a list of rows in numbers; and the whole check passes
abbrev pub ClaimHoldings : Type 0
ClaimHoldings =
    (x y z : Server) → Accepted x y → (t u : List ℕ) (qs : List Request) (rs : List ℕ) → ServesAll AnyTally y t qs rs z u
    → (κs : Lfts 2) (l : Loans) (c : ℕ) (rows : List Row) (r : ℕ) (left : List ℕ) → HoldingsSays κs l c z (row_numbers rows) r left
    → let o = holdings_of (state_after (state_in y) qs).pool c rows in
    (r ≡ word_of o.answer) × (left ≡ row_numbers o.rows)

abbrev pub ClaimPasses : Type 0
ClaimPasses =
    (x y z : Server) → Accepted x y → (t u : List ℕ) (qs : List Request) (rs : List ℕ) → ServesAll AnyTally y t qs rs z u
    → (κs : Lfts 1) (l : Loans) (r : ℕ) → CheckSays κs l z r → r ≡ word_of (Done z.size)

-- ---- none of this is empty

-- the clients and grants of pool p are those that a program keeps
abbrev pub KeptBy : Pool → Server → Type 0
KeptBy p x = let b = x.books in Keeps p x.clients b.client_bytes b.client_words b.grant_pages b.grant_frames

-- what each contract says is this and no more
pub record Readings : Type 1 where
  pub setup : (κs : Lfts 21) (l : Loans) (s t c h : ℕ) (x : Server) (r : ℕ) (y : Server)
      → SetupSays κs l s t c h x r y ≡ SetsUp s t c h x.store r (state_in x) (state_in (with_all y y.books y.frames x.store))
  pub begin : (κs : Lfts 13) (l : Loans) (c g : ℕ) (x : Server) (r : ℕ) (b : Books)
      → BeginSays κs l c g x r b ≡ CallsTo (held_of (pool_in x) x.pages (Begin c g)) r (pool_in (with_books x b))
  pub release : (κs : Lfts 13) (l : Loans) (c g : ℕ) (x : Server) (r : ℕ) (b : Books)
      → ReleaseSays κs l c g x r b ≡ CallsTo (held_of (pool_in x) 0 (Release c g)) r (pool_in (with_books x b))
  pub step : (κs : Lfts 19) (l : Loans) (c : ℕ) (x : Server) (t : List ℕ) (e r : ℕ) (b : Books) (f : Frames) (s u : List ℕ) (d : ℕ)
      → StepSays κs l c x t e r b f s u d ≡ StepsTo c r (tally_from t) (tally_from u) d (state_in x) (state_in (with_all x b f s))
  pub read : (κs : Lfts 4) (l : Loans) (c g o : ℕ) (x : Server) (r : ℕ) (bytes filled : List ℕ)
      → ReadSays κs l c g o x r bytes filled
      ≡ ((p : Pool) (changed : List ℕ) → KeptBy p x → BytesTo (ReadByte c g o) r
      (state_from p x.pages x.frames.bytes x.frames.filled changed x.store) (state_from p x.pages bytes filled changed x.store))
  pub write : (κs : Lfts 5) (l : Loans) (c g o v : ℕ) (x : Server) (r : ℕ) (f : Frames)
      → WriteSays κs l c g o v x r f
      ≡ ((p : Pool) → KeptBy p x → BytesTo (WriteByte c g o v) r
      (state_from p x.pages x.frames.bytes x.frames.filled x.frames.changed x.store)
      (state_from p x.pages f.bytes f.filled f.changed x.store))
  pub holdings : (κs : Lfts 2) (l : Loans) (c : ℕ) (x : Server) (t u : List ℕ) (r : ℕ)
      → HoldingsSays κs l c x t r u
      ≡ ((p : Pool) → number_of_clients p ≡ x.clients → p.clients ≡ clients_from x.books.client_bytes x.books.client_words
      → p.grant_pages ≡ x.books.grant_pages → ListsTo (held_listing p c t) r u)
  pub check : (κs : Lfts 1) (l : Loans) (x : Server) (r : ℕ)
      → CheckSays κs l x r
      ≡ ((hand : ℕ) (bytes : List ℕ) → r ≡ word_of (checked_state (state_in (with_frames (with_books x (with_hand x.books hand)) (with_bytes x.frames bytes)))))

-- the clients' arrays are as long as their types say
abbrev pub Long : Server → Type 0
Long x = (length x.books.client_bytes ≡ bytes_long) × (length x.books.client_words ≡ words_long)

-- the lifetimes that the functions of requests are called at
pub record Spans : Type 0 where
  pub calls : Lfts 13
  pub steps : Lfts 19
  pub reads : Lfts 4
  pub writes : Lfts 5

-- every setup and every list of requests, on any memory, has answers that the contracts allow, and leaves as much memory; and a setup within the ranges is
-- accepted
pub record Answerable : Type 0 where
  pub setup : (κs : Lfts 21) (l : Loans) (s t c h : ℕ) (x : Server) → Long x
      → (r : ℕ) × (y : Server) × SetupSays κs l s t c h x r y × (y.store ≡ x.store) × Long y
  pub accepted : (κs : Lfts 21) (l : Loans) (s t c h : ℕ) (x : Server) → numbers_ok s t c ≡ true → length_ok (length x.store) ≡ true
      → (y : Server) × Accepted x y × Long y
  pub list : Spans → Loans → (x : Server) → Long x → (t : List ℕ) (qs : List Request)
      → (rs : List ℕ) × (z : Server) × (u : List ℕ) × ServesAll OneTally x t qs rs z u × Long z

pub record ServedTied : Type 2 where
  pub unasked : Unasked
  pub kept : Kept
  pub held : HeldClaims
  pub request : ClaimRequest
  pub tells : ClaimTells
  pub setup : ClaimSetup
  pub lists : ClaimLists
  pub same_holdings : ClaimSameHoldings
  pub check : ClaimCheck
  pub told_apart : ClaimToldApart
  pub set_up : ClaimIsSetUp
  pub point3 : ClaimPoint3
  pub list : ClaimList
  pub tally : ClaimTally
  pub duties : ClaimDuties
  pub spared : ClaimSpared
  pub sum : ClaimSum
  pub progress : ClaimProgress
  pub holdings : ClaimHoldings
  pub passes : ClaimPasses
  pub readings : Readings
  pub answerable : Answerable
