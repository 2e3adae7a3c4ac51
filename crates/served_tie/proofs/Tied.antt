-- Each contract says that the call is the one in place. A begin or release counts nothing and leaves bytes, marks and store, which it is not lent. From an
-- accepted setup on every state keeps the invariant, so that no call is refused by 8 and each is the specification's; a list is a recursion over that.
-- Assumes nothing.
use mathlib.Core.Path.{◌≡◌, refl, sym, ap, subst, ◌∙◌}
use mathlib.Core.Logic.{◌≢◌, ◌⊎◌, inl, inr}
use mathlib.Core.Bool.{Bool, true, false}
use mathlib.Core.List.{List, map}
use Prim.Native.Nat.{ℕ, ◌<◌, ◌≤◌, ◌+◌, ◌-◌}
use native.Mathlib.Omega.{arith}
use contract.Lifetimes.{Lfts}
use lib.ListN.{length}
use lib.Dec.{eqb}
use borrow.Author.Tests.{eq-eqb, ne_eqb}
use Rattle.pool.specs.Choose.{choose, both, either}
use Rattle.pool.specs.Answers.{code_of, value_of}
use Rattle.pool.specs.Apply.{apply}
use Rattle.pool.specs.Calls.{caller, move_of, release_move}
use Rattle.pool.specs.Tallies.{zero_tally, tallied}
use Rattle.pool.specs.State.{none, evicted, pins, client}
use Rattle.pool.specs.Grants.{held}
use Rattle.pool.specs.Holdings.{holdings_of}
use Rattle.pool.specs.Valid.{numbers_ok}
use Rattle.pool.specs.declared.Answer.{Answer}
use Rattle.pool.specs.declared.Answer.TheVariants.{Done, Working, Granted, Refused}
use Rattle.pool.specs.declared.Call.TheVariants.{Begin, Step, Release}
use Rattle.pool.specs.declared.Counted.{Counted}
use Rattle.pool.specs.declared.Counted.TheVariants.{Nothing}
use Rattle.pool.specs.declared.Move.{Move}
use Rattle.pool.specs.declared.Pool.{Pool}
use Rattle.pool.specs.declared.Tally.{Tally}
use Rattle.laws.specs.Choices.{by_test, chosen, passed}
use Rattle.laws.specs.Scans.{both_yes, both_true}
use Rattle.invariant.proofs.Reached.{Reached, Knows}
use Rattle.invariant.proofs.Valid.{valid_reached}
use Rattle.guarantee.proofs.Frames.{held_grant, held_pinned}
use Rattle.contents.proofs.Kept as ByteKept
use Rattle.contents.proofs.CallsNext.{kept_call}
use Rattle.contents.proofs.SetupKept.{kept_setup, pool_fresh}
use Rattle.contents.proofs.LastWritten.{reads_last}
use Rattle.memory.specs.Memory.{memory_after, store_after}
use Rattle.memory.specs.Requests.{Request, Asks, ReadByte, WriteByte, State, Result, outside_at, refused, lent, store_ok, length_ok, setup_on, action_on, call_on}
use Rattle.memory.specs.Happenings.{Happening, happenings, state_after}
use Rattle.mixed.specs.Mixed.{tally_on, Passes8, asks_step}
use Rattle.mixed.proofs.StepPlaces.{steps_there, steps_back}
use Rattle.mixed.proofs.Answers.{never_8}
use Rattle.mixed.proofs.Passes.{bytes_yes}
use Rattle.mixed.proofs.Guaranteed.{guarantee_on}
use Rattle.listing.specs.Listed.{row_numbers, listing_as}
use Rattle.checks.specs.Checked.{checked_of}
use Rattle.counting.specs.Counts.{tally_from}
use Rattle.holding.specs.Holds.{Keeps}
use Rattle.in_place.specs.Held.{Held, held_refusal, held_of, held_state, byte_held_refusal, byte_held, held_on}
use Rattle.guarantee.specs.Runs.{EndsRequest}
use Rattle.guarantee.specs.Claims.{AddsUp}
use Rattle.guarantee.specs.Progress.{Accepting, GetsThrough, StepAnswered}
use Rattle.guarantee.proofs.Progress.{same_places, of_numbers}
use Rattle.held_claims.specs.HeldClaims.{Tells}
use Rattle.held_claims.proofs.Claimed.{held_claims}
use Rattle.served.specs.Words.{word_of}
use Rattle.served.specs.Served.{SetsUp, checked_state}
use Rattle.served_tie.specs.Promises.{Server, Books, Loans, state_in, pool_in, with_books, SetupSays, CheckSays}
use Rattle.served_tie.specs.Serving.{Serves, begin, release, step, read, write, OneTally, ServesAll, at_end, at_request, Accepted}
use Rattle.served_tie.specs.Serving.{ClaimRequest, ClaimTells, ClaimSetup, ClaimCheck, ClaimIsSetUp, ClaimPoint3, ClaimList, ClaimHoldings, ClaimPasses, ServedTied}
use Rattle.served_tie.specs.Serving.{ClaimLists, ClaimSameHoldings, ClaimToldApart, ClaimTally, ClaimDuties, ClaimSpared, ClaimSum}
use Rattle.served_tie.specs.Serving.{IsAnswer, IsAccepted, ClaimProgress}
use Rattle.served_tie.proofs.Answers.{readings, answerable}
use Rattle.served_tie.proofs.Kept.{unasked, kept}
use Rattle.served_tie.proofs.Numbered.{accepting, answers_numbered}

-- ---- a begin or release leaves what it is not lent

-- what a call writes and counts
abbrev Quiet : State → Held → Type 0
Quiet x h = (held_state x h ≡ record { pool = h.pool; memory = x.memory; store = x.store }) × (h.counted ≡ Nothing)

begin_quiet : (x : State) (n c g : ℕ) → Quiet x (held_of x.pool n (Begin c g))
unfolding held_of move_of memory_after store_after
begin_quiet x n c g = by_test (Quiet x) (λ _. (refl, refl)) (λ _. (refl, refl))

release_quiet : (x : State) (n c g : ℕ) → Quiet x (held_of x.pool n (Release c g))
unfolding held_of move_of release_move memory_after store_after
release_quiet x n c g =
    by_test (Quiet x)
    (λ _. by_test (λ (m : Move). Quiet x (record { answer = m.answer; counted = m.counted; write = m.write; pool = apply x.pool (caller (Release c g)) m }))
    (λ _. (refl, refl)) (λ _. (refl, refl)))
    (λ _. (refl, refl))

-- ---- a request, on any memory

abbrev Same : Server → List ℕ → Result → ℕ → Server → List ℕ → Type 0
Same x t h r y u = (r ≡ word_of h.answer) × (state_in y ≡ h.state) × (tally_from u ≡ tallied h.counted (tally_from t))

-- a call that is lent the books alone
of_books : (x : Server) (t : List ℕ) (b : Books) (h : Held) {r : ℕ} → Quiet (state_in x) h → r ≡ word_of h.answer → pool_in (with_books x b) ≡ h.pool
    → Same x t (record { answer = h.answer; counted = h.counted; state = held_state (state_in x) h }) r (with_books x b) t
unfolding tallied
of_books x t b h q e f = (
  e,
  ap (λ (p : Pool). record { pool = p; memory = (state_in x).memory; store = x.store }) f ∙ sym q.0,
  ap (λ (k : Counted). tallied k (tally_from t)) (sym q.1),
)

-- a release is no begin, so the number of pages is not looked at
any_pages : (p : Pool) (n c g : ℕ) → held_of p 0 (Release c g) ≡ held_of p n (Release c g)
unfolding held_of held_refusal outside_at
any_pages p n c g = refl

keeps : (x : Server) → let b = x.books in Keeps (pool_in x) x.clients b.client_bytes b.client_words b.grant_pages b.grant_frames
keeps x = record { client_count = refl; clients = refl; grant_pages = refl; grant_frames = refl }

-- a read or write counts nothing
bytes_quiet : (x : State) (q : Request) (n : ℕ) (t : Tally) → (action_on x q).counted ≡ Nothing → t ≡ tallied (byte_held x q n).counted t
unfolding tallied
bytes_quiet x q n t e =
    by_test (λ (o : Result). t ≡ tallied o.counted t) (λ _. ap (λ (k : Counted). tallied k t) (sym e)) (λ _. refl)

request : ClaimRequest
unfolding held_on store_ok lent either choose action_on
request x y t u q r (begin {c} {g} κs l b says) =
    of_books x t b (held_of (pool_in x) x.pages (Begin c g)) (begin_quiet (state_in x) x.pages c g) says.0 says.1
request x y t u q r (release {c} {g} κs l b says) =
    let e = any_pages (pool_in x) x.pages c g in
    of_books x t b (held_of (pool_in x) x.pages (Release c g)) (release_quiet (state_in x) x.pages c g)
    (says.0 ∙ ap (λ (h : Held). word_of h.answer) e) (says.1 ∙ ap (λ (h : Held). h.pool) e)
request x y t u q r (step κs l b f s e d says) = (says.0, says.1, says.2)
request x y t u q r (read {c} {g} {o} κs l bytes filled says) =
    let h = says (pool_in x) x.frames.changed (keeps x) in
    (h.0, h.1, bytes_quiet (state_in x) (ReadByte c g o) (byte_held_refusal (state_in x) c g o) (tally_from t) refl)
request x y t u q r (write {c} {g} {o} {v} κs l f says) =
    let h = says (pool_in x) (keeps x) in
    (h.0, h.1, bytes_quiet (state_in x) (WriteByte c g o v) (byte_held_refusal (state_in x) c g o) (tally_from t) refl)

tells : ClaimTells
tells x c κs l t e r b f s u d says = says.3

-- ---- setup

sets_up : (κs : Lfts 21) (l : Loans) (s t c h : ℕ) (x y : Server) (r : ℕ) → SetupSays κs l s t c h x r y → y.store ≡ x.store
    → SetsUp s t c h x.store r (state_in x) (state_in y)
sets_up κs l s t c h x y r says e = (
  says.0,
  ap (λ (store : List ℕ). record { pool = pool_in y; memory = (state_in y).memory; store = store }) e ∙ says.1,
)

setup : ClaimSetup
unfolding setup_on
setup κs l s t c h x y r says e = let w = sets_up κs l s t c h x y r says e in (w.0, by ok refl w.1)
  where
    ok : Bool
    ok = both (numbers_ok s t c) (length_ok (length x.store))

    by : (b : Bool) → ok ≡ b → state_in y ≡ choose ok (setup_on s t c h x.store).state (state_in x)
        → (((setup_on s t c h x.store).answer ≡ Done s) × (state_in y ≡ (setup_on s t c h x.store).state))
        ⊎ (((setup_on s t c h x.store).answer ≡ Refused 8) × (state_in y ≡ state_in x))
    by true v w = inl (ap (λ (o : Result). o.answer) (chosen _ _ _ v), w ∙ chosen _ _ _ v)
    by false v w = inr (ap (λ (o : Result). o.answer) (passed _ _ _ v), w ∙ passed _ _ _ v)

-- a refusal's code is above what is done
refused_high : (n : ℕ) → word_of (Refused n) < 4294967296 → ⊥
unfolding word_of code_of value_of
refused_high n h = omega arith

-- one that is done, as the specification's
done_setup : (x y : Server) (a : Accepted x y) → let o = setup_on a.size a.clients a.cap a.hand x.store in
    (o.answer ≡ Done a.size) × (state_in y ≡ o.state)
done_setup x y a =
    let w = setup a.lifetimes a.loans a.size a.clients a.cap a.hand x y a.answer a.says a.store in
    elim w.1 [ inl v ↦ v | inr v ↦ absurd (refused_high 8 (subst (λ (n : ℕ). n < 4294967296) (w.0 ∙ ap word_of v.0) a.done)) ]

set_up : ClaimIsSetUp
set_up x y a =
    let v = done_setup x y a in
    record {
      size = a.size;
      clients = a.clients;
      cap = a.cap;
      hand = a.hand;
      done = ap (λ (l : List ℕ). (setup_on a.size a.clients a.cap a.hand l).answer) a.store ∙ v.0;
      made = ap (λ (l : List ℕ). (setup_on a.size a.clients a.cap a.hand l).state) a.store ∙ sym v.1;
    }

-- ---- check

check_says : (κs : Lfts 1) (l : Loans) (x : Server) (r : ℕ) → CheckSays κs l x r → r ≡ word_of (checked_state (state_in x))
check_says κs l x r says = says x.books.hand x.frames.bytes

-- where the test of a check passes, every call's does, and the other way round
check_passes : (x : State) → Passes8 x → checked_state x ≡ Done x.pool.size
unfolding checked_of store_ok lent either choose
check_passes x w = chosen _ _ _ (both_yes _ _ (both_yes _ _ w.0 w.1) (w.2 (Asks (Step 0))))

either_right : (a b : Bool) → b ≡ true → either a b ≡ true
unfolding either choose
either_right true b e = refl
either_right false b e = e

check_refuses : (x : State) → (Passes8 x → ⊥) → checked_state x ≡ Refused 8
unfolding checked_of store_ok
check_refuses x no_pass =
    by_test (λ (a : Answer). a ≡ Refused 8)
    (λ t. let w = both_true _ _ t in absurd (no_pass ((both_true _ _ w.0).0, (both_true _ _ w.0).1, λ r. either_right _ _ w.1))) (λ _. refl)

check : ClaimCheck
check κs l x r says =
    let e = check_says κs l x r says in
    ((λ w. e ∙ ap word_of (check_passes (state_in x) w)), (λ w. e ∙ ap word_of (check_refuses (state_in x) w)))

-- ---- answers as numbers

-- the answer of a code and a value
answer_of : ℕ → ℕ → Answer
answer_of code value = choose (eqb code 0) (Done value) (choose (eqb code 1) (Working value) (choose (eqb code 2) (Granted value) (Refused (code - 100))))

read_back : (a : Answer) → answer_of (code_of a) (value_of a) ≡ a
unfolding answer_of code_of value_of choose
read_back (Done n) = refl
read_back (Working n) = refl
read_back (Granted n) = refl
read_back (Refused n) = passed _ _ _ (other 0 (omega arith)) ∙ passed _ _ _ (other 1 (omega arith)) ∙ passed _ _ _ (other 2 (omega arith)) ∙ ap Refused (omega arith)
  where
    other : (k : ℕ) → k ≤ 2 → eqb (100 + n) k ≡ false
    other k h = ne_eqb (100 + n) k (λ e. let y : ⊥ = omega (arith, e, h) in y)

told_apart : ClaimToldApart
unfolding word_of
told_apart a b h k e =
    let same_code : code_of a ≡ code_of b = omega (arith, h, k, e) in
    let same_value : value_of a ≡ value_of b = omega (arith, h, k, e) in
    sym (read_back a) ∙ (λ i. answer_of (same_code i) (same_value i)) ∙ read_back b

point3 : ClaimPoint3
point3 x y a qs = let s = set_up x y a in (guarantee_on.point3 (state_in y) s qs, reads_last (state_in y) s qs)

-- ---- a list, from a state that keeps the invariant

-- a request is the specification's there
spec : (x y : Server) (t u : List ℕ) (q : Request) (r : ℕ) → ByteKept.Kept (state_in x) → Serves x t q r y u → Same x t (call_on (state_in x) q) r y u
spec x y t u q r k s = subst (λ (o : Result). Same x t o r y u) (held_claims.same (state_in x) q (never_8 (state_in x) k q)) (request x y t u q r s)

record Goes (x : Server) (qs : List Request) (rs : List ℕ) (z : Server) : Type 0 where
  answers : rs ≡ map (λ (h : Happening). word_of h.answer) (happenings (state_in x) qs)
  state : state_in z ≡ state_after (state_in x) qs
  kept : ByteKept.Kept (state_in z)

module _ {Lends : List ℕ → List ℕ → Type 0} where
  goes : (x z : Server) (t u : List ℕ) (qs : List Request) (rs : List ℕ) → ByteKept.Kept (state_in x) → ServesAll Lends x t qs rs z u → Goes x qs rs z
  unfolding happenings state_after
  goes x z t u qs rs k at_end = record { answers = refl; state = refl; kept = k }
  goes w z t o qs rs k (at_request {x = x} {y = y} {u = u} {v = v} {q = q} {r = r} {qs = qs'} {rs = rs'} same s lends more) =
      let k' = subst ByteKept.Kept same k in
      let e = spec x y t u q r k' s in
      let g = goes y z v o qs' rs' (subst ByteKept.Kept (sym e.1) (kept_call (state_in x) k' q)) more in
      record {
        answers = rw (same, e.0, g.answers, ← e.1) refl;
        state = g.state ∙ ap (λ (a : State). state_after a qs') e.1 ∙ ap (λ (a : State). state_after (call_on a q).state qs') (sym same);
        kept = g.kept;
      }

  from_setup : (x y z : Server) → Accepted x y → (t u : List ℕ) (qs : List Request) (rs : List ℕ) → ServesAll Lends y t qs rs z u → Goes y qs rs z
  from_setup x y z a t u qs rs s = goes y z t u qs rs (kept_setup (set_up x y a)) s

list : ClaimList
list x y z a t u qs rs s = let g = from_setup x y z a t u qs rs s in (g.answers, g.state)

-- one tally, lent throughout
counts : (x z : Server) (t u : List ℕ) (qs : List Request) (rs : List ℕ) → ByteKept.Kept (state_in x) → ServesAll OneTally x t qs rs z u
    → tally_from u ≡ tally_on (tally_from t) (happenings (state_in x) qs)
unfolding happenings tally_on
counts x z t u qs rs k at_end = refl
counts w z t o qs rs k (at_request {x = x} {y = y} {u = u} {v = v} {q = q} {r = r} {qs = qs'} {rs = rs'} same s lends more) =
    let k' = subst ByteKept.Kept same k in
    let e = spec x y t u q r k' s in
    let g = counts y z v o qs' rs' (subst ByteKept.Kept (sym e.1) (kept_call (state_in x) k' q)) more in
    let here = sym (ap tally_from lends) ∙ e.2 in
    g ∙ ap (λ (a : State). tally_on (tally_from v) (happenings a qs')) e.1
    ∙ ap (λ (a : Tally). tally_on a (happenings (call_on (state_in x) q).state qs')) here
    ∙ ap (λ (a : State). tally_on (tallied (call_on a q).counted (tally_from t)) (happenings (call_on a q).state qs')) (sym same)

tally : ClaimTally
tally x y z a t u qs rs s = counts y z t u qs rs (kept_setup (set_up x y a)) s

lists : ClaimLists
lists κs l c x t u r says = let h = says (pool_in x) refl refl refl in (h.0, h.1)

same_holdings : ClaimSameHoldings
same_holdings p v c rows = listing_as p v c rows

duties : ClaimDuties
duties x y z a t u qs rs s c κs l v e r b f o w d says =
    let g = from_setup x y z a t u qs rs s in
    let n = never_8 (state_in z) g.kept (Asks (Step c)) in
    let it : (refused (call_on (state_in z) (Asks (Step c))).answer ≡ false → Tells (state_in z) (client (pool_in z) c) d)
    × (refused (call_on (state_in z) (Asks (Step c))).answer ≡ true → d ≡ 0) = (
      (λ h. rw says.3 (held_claims.duty (state_in z) c h)),
      (λ h. says.3 ∙ held_claims.no_duty (state_in z) c (ap (λ (k : Result). refused k.answer) (held_claims.same (state_in z) (Asks (Step c)) n) ∙ h)),
    ) in
    subst (λ (m : State). (refused (call_on m (Asks (Step c))).answer ≡ false → Tells m (client m.pool c) d)
    × (refused (call_on m (Asks (Step c))).answer ≡ true → d ≡ 0)) g.state it

-- ---- nobody holds the frames of a duty

module _ (p : Pool) (r : Reached p) where
  evicted_unheld : (f : ℕ) → pins p f ≡ evicted → held p f ≢ true
  evicted_unheld f e h = let y : ⊥ = omega (arith, held_pinned p r f h) in y

  own_unheld : (c : ℕ) → (client p c).own ≢ none → held p (client p c).own ≢ true
  own_unheld c z h = let g = held_grant p (client p c).own h in r.private.own_ungranted c g.client_of g.index z g.names

  -- what a client at this stage knows
  at_stage : (c s : ℕ) → (client p c).stage ≡ s → Knows s p (client p c)
  at_stage c s e = subst (λ (i : ℕ). Knows i p (client p c)) e (r.mapping.knowing c)

spared : ClaimSpared
spared x y z a t u qs rs s c =
    let r = (from_setup x y z a t u qs rs s).kept.reached in
    let p = pool_in z in (
      (λ w. evicted_unheld p r (client p c).victim (at_stage p r c 17 w.0).1.1),
      (λ w. let k = at_stage p r c 22 w.0 in (evicted_unheld p r (client p c).found k.1.1, own_unheld p r c k.0.0)),
    )

sum : ClaimSum
sum x y z a t u zero qs rs s =
    let g = from_setup x y z a t u qs rs s in
    let total = tally x y z a t u qs rs s ∙ ap (λ (w : Tally). tally_on w (happenings (state_in y) qs)) zero in
    subst (AddsUp (pool_in z)) (sym total)
    (subst (λ (m : State). AddsUp m.pool (tally_on zero_tally (happenings (state_in y) qs))) (sym g.state) (guarantee_on.sum (state_in y) (set_up x y a) qs))

progress : ClaimProgress
unfolding set_up
progress x y z a t u qs rs s =
    let w : State = state_in y in
    let one = set_up x y a in
    subst (λ (given : List ℕ). GetsThrough a.size a.clients a.cap (StepAnswered asks_step qs given IsAccepted) (StepAnswered asks_step qs given IsAnswer))
    (sym (list x y z a t u qs rs s).0)
    (same_places (steps_there word_of IsAccepted Accepting accepting w qs)
    (λ n v. answers_numbered w (kept_setup one) qs n (steps_back EndsRequest w qs n v)) _ _ _
    (of_numbers (pool_fresh one) (guarantee_on.progress w one qs)))

holdings : ClaimHoldings
holdings x y z a t u qs rs s κs l c rows r left says =
    let g = from_setup x y z a t u qs rs s in
    let h = says (pool_in z) refl refl refl in
    let e = listing_as (pool_in z) (valid_reached (pool_in z) g.kept.reached) c rows in
    let p = ap (λ (w : State). w.pool) g.state in
    (h.0 ∙ ap word_of e.0 ∙ ap (λ (w : Pool). word_of (holdings_of w c rows).answer) p, h.1 ∙ e.1 ∙ ap (λ (w : Pool). row_numbers (holdings_of w c rows).rows) p)

passes : ClaimPasses
unfolding store_ok
passes x y z a t u qs rs s κs l r says =
    let k = (from_setup x y z a t u qs rs s).kept in
    (check κs l z r says).0
    (valid_reached (pool_in z) k.reached, bytes_yes (state_in z) k, λ q. either_right _ _ (eq-eqb _ _ k.marks.store_long))

pub served_tied : ServedTied
served_tied =
    record {
      unasked = unasked;
      kept = kept;
      held = held_claims;
      request = request;
      tells = tells;
      setup = setup;
      lists = lists;
      same_holdings = same_holdings;
      check = check;
      told_apart = told_apart;
      set_up = set_up;
      point3 = point3;
      list = list;
      tally = tally;
      duties = duties;
      spared = spared;
      sum = sum;
      progress = progress;
      holdings = holdings;
      passes = passes;
      readings = readings;
      answerable = answerable;
    }
