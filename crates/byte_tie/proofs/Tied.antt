-- Each contract says that the call is the definition's. A request that is no step leaves the store and counts nothing, so that the store that it is not
-- lent, or only reads, is the definition's, and leaving the tally alone is tallying it. A list is a recursion over that; the answers of a play are
-- those of the happenings at the same places, so that what crates `contents` and `mixed` claim of these is claimed of the code. Holdings are those of the
-- pool, once the bytes have passed check 8. Assumes nothing.
use mathlib.Core.Path.{◌≡◌, refl, sym, ap, subst, ◌∙◌}
use mathlib.Core.Logic.{◌≢◌}
use mathlib.Core.Bool.{Bool, true, false, true≢false}
use mathlib.Core.List.{List, [], ◌∷◌, map}
use Prim.Native.Nat.{ℕ, zero, suc}
use native.Mathlib.Omega.{arith}
use Rattle.pool.specs.Choose.{choose, either}
use Rattle.pool.specs.Answers.{refusal_of}
use Rattle.pool.specs.Calls.{release_move, move_of, finished, call_of}
use Rattle.pool.specs.Tallies.{zero_tally, tallied}
use Rattle.pool.specs.Holdings.{listed}
use Rattle.pool.specs.declared.Pool.{Pool}
use Rattle.pool.specs.declared.Tally.{Tally}
use Rattle.pool.specs.declared.Move.{Move}
use Rattle.pool.specs.declared.Outcome.{Outcome}
use Rattle.pool.specs.declared.Write.{Write}
use Rattle.pool.specs.declared.Counted.{Counted}
use Rattle.pool.specs.declared.Call.{Call}
use Rattle.pool.specs.declared.Call.TheVariants.{Begin, Step, Release}
use Rattle.pool.specs.declared.Answer.{Answer}
use Rattle.pool.specs.declared.Answer.TheVariants.{Done, Refused}
use Rattle.pool.specs.declared.Row.{Row}
use Rattle.pool.specs.declared.Listed.{Listed}
use Rattle.pool.specs.declared.Counted.TheVariants.{Nothing}
use Rattle.laws.specs.Choices.{by_test, chosen, passed}
use Rattle.guarantee.specs.Runs.{At, EndsRequest}
use Rattle.guarantee.specs.Progress.{Accepting, GetsThrough, StepAnswered}
use Rattle.guarantee.proofs.Progress.{same_places, of_numbers}
use Rattle.memory.specs.Memory.{store_after}
use Rattle.memory.specs.Requests.{Request, Asks, ReadByte, WriteByte, State, Result, setup_on, store_ok, turned_away_by, refusal_on, write_of, action_on, call_on}
use Rattle.memory.specs.Requests.{refused, state_of, buffer_pool, reply, tallying, holdings_on}
use Rattle.memory.specs.Requests.{lent as is-lent}
use Rattle.memory.specs.Happenings.{Happening, happenings, state_after}
use Rattle.memory.specs.declared.BufferPool.{BufferPool}
use Rattle.memory.specs.declared.Memory.{Memory}
use Rattle.memory.specs.declared.Reply.{Reply}
use Rattle.memory.specs.declared.Tallied.{Tallied}
use Rattle.contents.specs.Contents.{Reads, Writes, WritesSome, ReadsLast}
use Rattle.contents.proofs.LastWritten.{reads_last}
use Rattle.contents.proofs.SetupKept.{pool_fresh}
use Rattle.mixed.specs.Mixed.{tally_on, asks_step}
use Rattle.mixed.proofs.StepPlaces.{steps_there, steps_back}
use Rattle.mixed.proofs.Calls.{by_call}
use Rattle.mixed.proofs.Guaranteed.{guarantee_on}
use Rattle.buffered.specs.Refusals.{setup_refusals, begin_refusals, step_refusals, release_refusals, read_refusals, write_refusals}
use Rattle.tie.specs.Ties.{Fills, Leaves}
use Rattle.tie.proofs.Tied.{all_tied as storeless}
use Rattle.byte_tie.specs.Promises.{Loan, HoldingsSays}
use Rattle.byte_tie.specs.Ties.{Makes, begin, release, step_tallied, step, read, write, Plays, at_end, at_request}
use Rattle.byte_tie.specs.Ties.{ClaimSetup, ClaimRequest, ClaimStoreStays, ClaimList, Answerable, ClaimAnyTally, ClaimIsSetUp}
use Rattle.byte_tie.specs.Ties.{ClaimPoint3, ClaimSum, ClaimProgress, ReadsAt, WritesAt, LastByte, ClaimReads, holdings_refusal_on, ListsHoldings, Tied}
use Rattle.byte_tie.proofs.Kept.{unasked, kept}

-- ---- a request that is no step

-- what it leaves has the store, and nothing is counted
abbrev Stays : State → Result → Type 0
Stays x o = (o.state.store ≡ x.store) × (o.counted ≡ Nothing)

module _ (p : Pool) (m : Memory) (s : List ℕ) where
  begin_store : (c g : ℕ) → store_after p m s (write_of p (Begin c g)) ≡ s
  unfolding write_of move_of store_after
  begin_store c g = by_test (λ (w : Write). store_after p m s w ≡ s) (λ _. refl) (λ _. refl)

  release_store : (c g : ℕ) → store_after p m s (write_of p (Release c g)) ≡ s
  unfolding write_of move_of release_move store_after
  release_store c g =
      by_test (λ (w : Write). store_after p m s w ≡ s) (λ _. refl)
      (λ _. by_test (λ (k : Move). store_after p m s k.write ≡ s) (λ _. refl) (λ _. refl))

-- a call counts nothing whose move counts nothing
quiet : (p : Pool) (call : Call) → (move_of p call).counted ≡ Nothing → (call_of p call).counted ≡ Nothing
unfolding call_of finished
quiet p call e =
    by_test (λ (o : Outcome). o.counted ≡ Nothing) (λ _. by_test (λ (o : Outcome). o.counted ≡ Nothing) (λ _. e) (λ _. refl)) (λ _. refl)

begin_quiet : (p : Pool) (c g : ℕ) → (call_of p (Begin c g)).counted ≡ Nothing
unfolding move_of
begin_quiet p c g = quiet p (Begin c g) refl

release_quiet : (p : Pool) (c g : ℕ) → (call_of p (Release c g)).counted ≡ Nothing
unfolding move_of release_move
release_quiet p c g = quiet p (Release c g) (by_test (λ (m : Move). m.counted ≡ Nothing) (λ _. refl) (λ _. refl))

acted : (x : State) (r : Request) → ((c : ℕ) → r ≢ Asks (Step c)) → Stays x (action_on x r)
unfolding action_on
acted x (Asks (Begin c g)) z = (begin_store x.pool x.memory x.store c g, begin_quiet x.pool c g)
acted x (Asks (Step c)) z = absurd (z c refl)
acted x (Asks (Release c g)) z = (release_store x.pool x.memory x.store c g, release_quiet x.pool c g)
acted x (ReadByte c g o) z = (refl, refl)
acted x (WriteByte c g o v) z = (refl, refl)

store_stays : ClaimStoreStays
store_stays x r z = by_call x r (Stays x) (λ _. acted x r z) (λ _. (refl, refl))

-- whether a request is a step
abbrev IsStep : Request → Type 0
IsStep (Asks (Begin c g)) = ⊥
IsStep (Asks (Step c)) = Unit {0}
IsStep (Asks (Release c g)) = ⊥
IsStep (ReadByte c g o) = ⊥
IsStep (WriteByte c g o v) = ⊥

no_step : (r : Request) → (IsStep r → ⊥) → (c : ℕ) → r ≢ Asks (Step c)
no_step r z c e = z (subst IsStep (sym e) tt)

-- ---- a request

-- as the definition has it, whatever made it
abbrev Same : State → Tally → Request → Answer → State → Tally → Type 0
Same x t r a y u = (a ≡ (call_on x r).answer) × (y ≡ (call_on x r).state) × (u ≡ tallied (call_on x r).counted t)

replied : (x : State) (t : Tally) (r : Request) → (IsStep r → ⊥) → (o : Reply) → o ≡ reply (call_on x r)
    → Same x t r o.answer (state_of o.pool x.store) t
unfolding tallied
replied x t r z o e = let h = store_stays x r (no_step r z) in (
  ap (λ (k : Reply). k.answer) e,
  ap (λ (k : Reply). state_of k.pool x.store) e ∙ ap (state_of (buffer_pool (call_on x r).state)) (sym h.0),
  sym (ap (λ (k : Counted). tallied k t) h.1),
)

request : ClaimRequest
request x y t u q a (begin {c} {g} r l) = replied x t (Asks (Begin c g)) (λ z. z) r (l.0 x.store)
request x y t u q a (release {c} {g} r l) = replied x t (Asks (Release c g)) (λ z. z) r (l.0 x.store)
request x y t u q a (step_tallied {c} n r {left} l) =
    let s = call_on x (Asks (Step c)) in (
      ap (λ (k : Tallied). k.answer) l.0.0,
      ap (λ (k : Tallied). state_of k.pool left) l.0.0 ∙ ap (state_of (buffer_pool s.state)) l.0.1,
      ap (λ (k : Tallied). k.tally) l.0.0,
    )
request x y t u q a (step {c} r {u = v} {left} l) =
    let s = call_on x (Asks (Step c)) in (
      ap (λ (k : Reply). k.answer) l.0,
      ap (λ (k : Reply). state_of k.pool left) l.0 ∙ ap (state_of (buffer_pool s.state)) l.2,
      l.1,
    )
request x y t u q a (read {c} {g} {o} n r l) = replied x t (ReadByte c g o) (λ z. z) r l.0
request x y t u q a (write {c} {g} {o} {v} n r l) = replied x t (WriteByte c g o v) (λ z. z) r l.0

any_tally : ClaimAnyTally
any_tally x y y' t t' u u' r a a' m n =
    let e = request x y t u r a m in
    let e' = request x y' t' u' r a' n in
    (e.0 ∙ sym e'.0, e.1 ∙ sym e'.1)

-- ---- a list of requests

list : ClaimList
unfolding happenings state_after tally_on
list x y t u rs answers at_end = (refl, refl, refl)
list x y t u rs answers (at_request {y = x'} {u = t'} {r = r} {a = a} {rs = rest} {answers = others} m n) =
    let e = request x x' t t' r a m in
    let f = list x' y t' u rest others n in
    rw (e.0, ← e.1, ← e.2, f.0) (refl, f.1, f.2)

-- a begin and a release answer and leave the same with any store
either_way : (t : Bool) (a b c d : Result) → reply a ≡ reply c → reply b ≡ reply d → reply (choose t a b) ≡ reply (choose t c d)
unfolding choose
either_way true a b c d e f = e
either_way false a b c d e f = f

module _ (b : BufferPool) (s s' : List ℕ) (call : Call) (e : is-lent (Asks call) ≡ false) where
  same_number : refusal_on (state_of b s) (Asks call) ≡ refusal_on (state_of b s') (Asks call)
  unfolding refusal_on store_ok turned_away_by either choose
  same_number = rw e refl

  any_store : reply (call_on (state_of b s) (Asks call)) ≡ reply (call_on (state_of b s') (Asks call))
  unfolding call_on action_on
  any_store = rw same_number (either_way _ _ _ _ _ refl refl)

-- each contract allows what the definition does
made : (x : State) (t : Tally) (r : Request) → (IsStep r → ⊥)
    → Makes x t r (call_on x r).answer (state_of (buffer_pool (call_on x r).state) x.store) t
    → Makes x t r (call_on x r).answer (call_on x r).state (tallied (call_on x r).counted t)
unfolding tallied
made x t r z m = let h = store_stays x r (no_step r z) in rw h.1 (subst (λ (s : List ℕ). Makes x t r (call_on x r).answer (state_of (buffer_pool (call_on x r).state) s) t) (sym h.0) m)

makes : Loan → (x : State) (t : Tally) (r : Request) → Makes x t r (call_on x r).answer (call_on x r).state (tallied (call_on x r).counted t)
unfolding is-lent
makes n x t (Asks (Begin c g)) =
    made x t (Asks (Begin c g)) (λ z. z)
    (begin (reply (call_on x (Asks (Begin c g)))) ((λ s. any_store (buffer_pool x) x.store s (Begin c g) refl), begin_refusals x c g))
makes n x t (Asks (Step c)) = step_tallied n (tallying t (call_on x (Asks (Step c)))) ((refl, refl), step_refusals x c)
makes n x t (Asks (Release c g)) =
    made x t (Asks (Release c g)) (λ z. z)
    (release (reply (call_on x (Asks (Release c g)))) ((λ s. any_store (buffer_pool x) x.store s (Release c g) refl), release_refusals x c g))
makes n x t (ReadByte c g o) = made x t (ReadByte c g o) (λ z. z) (read n (reply (call_on x (ReadByte c g o))) (refl, read_refusals x c g o))
makes n x t (WriteByte c g o v) =
    made x t (WriteByte c g o v) (λ z. z) (write n (reply (call_on x (WriteByte c g o v))) (refl, write_refusals x c g o v))

plays : Loan → (x : State) (t : Tally) (rs : List Request) → (answers : List Answer) × (y : State) × (u : Tally) × Plays x t rs answers y u
plays n x t [] = ([], x, t, at_end)
plays n x t (r ∷ rs) = let rest = plays n (call_on x r).state (tallied (call_on x r).counted t) rs in
    ((call_on x r).answer ∷ rest.0, rest.1, rest.2, at_request (makes n x t r) rest.3)

answerable : Answerable
answerable = record { setup = λ n s t c h store. (reply (setup_on s t c h store), (refl, setup_refusals s t c h store)); list = plays }

-- ---- from an accepted setup

setup_keeps : (s t c h : ℕ) (store : List ℕ) → (setup_on s t c h store).state.store ≡ store
unfolding setup_on
setup_keeps s t c h store = by_test (λ (o : Result). o.state.store ≡ store) (λ _. refl) (λ _. refl)

setup : ClaimSetup
setup n s t c h store r says = (
  ap (λ (k : Reply). k.answer) says.0,
  ap (λ (k : Reply). state_of k.pool store) says.0
      ∙ ap (state_of (buffer_pool (setup_on s t c h store).state)) (sym (setup_keeps s t c h store)),
)

set_up : ClaimIsSetUp
set_up s t c h store r first =
    let e = setup first.loan s t c h store r first.says in
    record { size = s; clients = t; cap = c; hand = h; done = sym e.0 ∙ first.done; made = sym e.1 }

point3 : ClaimPoint3
point3 s t c h store r first = guarantee_on.point3 (state_of r.pool store) (set_up s t c h store r first)

sum : ClaimSum
sum s t c h store r first rs answers y u m =
    let e = list (state_of r.pool store) y zero_tally u rs answers m in
    rw (e.1, e.2) (guarantee_on.sum (state_of r.pool store) (set_up s t c h store r first) rs)

progress : ClaimProgress
unfolding set_up
progress s t c h store r first rs answers y v u m =
    let x : State = state_of r.pool store in
    let one = set_up s t c h store r first in
    subst (λ (given : List Answer). GetsThrough s t c (StepAnswered asks_step rs given Accepting) (StepAnswered asks_step rs given EndsRequest))
    (sym (list x y v u rs answers m).0)
    (same_places (steps_there (λ a. a) Accepting Accepting (λ _ w. w) x rs) (steps_back EndsRequest x rs) s t c
    (of_numbers (pool_fresh one) (guarantee_on.progress x one rs)))

-- ---- what reads answer

abbrev answers_of : State → List Request → List Answer
answers_of x rs = map (λ (h : Happening). h.answer) (happenings x rs)

-- what was asked and answered at a place is the happening there
reads_there : (x : State) (rs : List Request) (g o b n : ℕ) → ReadsAt rs (answers_of x rs) g o b n → At (Reads g o b) (happenings x rs) n
unfolding happenings At
reads_there x [] g o b n (c, w) = absurd w.0
reads_there x (r ∷ rs) g o b zero (c, w) = (c, w.0, w.1)
reads_there x (r ∷ rs) g o b (suc n) w = reads_there (call_on x r).state rs g o b n w

writes_there : (x : State) (rs : List Request) (g o v n : ℕ) → WritesAt rs (answers_of x rs) g o v n → At (Writes g o v) (happenings x rs) n
unfolding happenings At
writes_there x [] g o v n (c, w) = absurd w.0
writes_there x (r ∷ rs) g o v zero (c, w) = (c, w.0, w.1)
writes_there x (r ∷ rs) g o v (suc n) w = writes_there (call_on x r).state rs g o v n w

-- and back
writes_back : (x : State) (rs : List Request) (g o n : ℕ) → At (WritesSome g o) (happenings x rs) n
    → (v : ℕ) × WritesAt rs (answers_of x rs) g o v n
unfolding happenings At
writes_back x [] g o n w = absurd w
writes_back x (r ∷ rs) g o zero (v, w) = (v, (w.0, (w.1, w.2)))
writes_back x (r ∷ rs) g o (suc n) w = writes_back (call_on x r).state rs g o n w

last_byte : (x : State) (rs : List Request) → ReadsLast x.store (happenings x rs) → LastByte rs (answers_of x rs) x.store
last_byte x rs last =
    record {
      last_written = λ g o b v k n a l w between. last.last_written g o b v k n (reads_there x rs g o b n a) (omega arith)
          (writes_there x rs g o v k w)
          (λ j p q d. let some = writes_back x rs g o j d in between j some.0 (omega arith) (omega arith) some.1);
      never_written = λ g o b n a before. last.never_written g o b n (reads_there x rs g o b n a)
          (λ j p d. let some = writes_back x rs g o j d in before j some.0 (omega arith) some.1);
    }

reads : ClaimReads
reads s t c h store r first rs answers y t' u m =
    let x : State = state_of r.pool store in
    subst (λ (given : List Answer). LastByte rs given store) (sym (list x y t' u rs answers m).0)
    (last_byte x rs (reads_last x (set_up s t c h store r first) rs))

-- ---- holdings

-- by whether the bytes pass check 8: past that holdings are the pool's, of which crate `tie` says the same
module _ (b : BufferPool) (c n : ℕ) (rows left : List Row) where
  abbrev Filled : Type 0
  Filled = Fills b.pool c n (holdings_refusal_on b c rows) rows left

  abbrev KeptRows : Type 0
  KeptRows = Leaves b.pool c n (holdings_refusal_on b c rows) rows left

  fills : HoldingsSays b c rows (Done n) left → Filled
  unfolding holdings_on refused
  fills = by_test (λ (l : Listed). listed (Done n) left ≡ l → Filled)
      (λ t e. let h = storeless.holdings.holdings_done b.pool c n rows left e in (chosen _ _ _ t ∙ h.0, h.1, h.2, h.3, h.4))
      (λ _ e. absurd (true≢false (sym (ap (λ (l : Listed). refused l.answer) e))))

  leaves : HoldingsSays b c rows (Refused n) left → KeptRows
  unfolding holdings_on refusal_of
  leaves = by_test (λ (l : Listed). listed (Refused n) left ≡ l → KeptRows)
      (λ t e. let h = storeless.holdings.holdings_refused b.pool c n rows left e in
      let k = chosen _ _ _ t in
      ((λ z. h.0 (sym k ∙ z)), h.1 ∙ sym k, h.2))
      (λ t e. let k = passed _ _ _ t in
      ((λ z. let y : ◌≡◌ {A = ℕ} 8 0 = sym k ∙ z in omega arith), ap (λ (l : Listed). refusal_of l.answer) e ∙ sym k, ap (λ (l : Listed). l.rows) e))

holdings : ListsHoldings
holdings = record { holdings_on_call = λ b c rows r l. l.0; holdings_done = fills; holdings_refused = leaves }

pub all_tied : Tied
all_tied =
    record {
      unasked = unasked;
      kept = kept;
      setup = setup;
      request = request;
      store_stays = store_stays;
      list = list;
      answerable = answerable;
      any_tally = any_tally;
      set_up = set_up;
      point3 = point3;
      sum = sum;
      progress = progress;
      reads = reads;
      holdings = holdings;
    }
