-- A call that the whole check 8 does not refuse is the same in place: a valid pool passes the call's own tests, what turns it down is the same number, and
-- check 8 after the action changes nothing that it lets pass. Assumes nothing.
use mathlib.Core.Path.{◌≡◌, refl, sym, ap, subst, ◌∙◌}
use mathlib.Core.Logic.{◌≢◌}
use mathlib.Core.Bool.{Bool, true, false}
use Prim.Native.Nat.{ℕ, ◌*◌, ◌<◌, ◌≤◌}
use native.Mathlib.Omega.{arith}
use native.Mathlib.Decide.{ℕ_discrete, dec_lt}
use lib.Dec.{eqb}
use lib.ListN.{length}
use borrow.Author.Tests.{eq-eqb, ne_eqb, lt-ltb, le-leb, le-ltb}
use Rattle.pool.specs.Limits.{max_held}
use Rattle.pool.specs.Choose.{choose, both, either}
use Rattle.pool.specs.State.{number_of_clients, resting, pins, client}
use Rattle.pool.specs.Valid.{valid}
use Rattle.pool.specs.Calls.{caller, turned_by, refusal, move_of, finished, call_of}
use Rattle.pool.specs.declared.Answer.TheVariants.{Refused}
use Rattle.pool.specs.declared.Call.{Call}
use Rattle.pool.specs.declared.Call.TheVariants.{Release}
use Rattle.pool.specs.declared.Client.{Client}
use Rattle.pool.specs.declared.Move.{Move}
use Rattle.pool.specs.declared.Outcome.{Outcome}
use Rattle.pool.specs.declared.Pool.{Pool}
use Rattle.pool.specs.declared.Write.{Write}
use Rattle.pool.specs.declared.Write.TheVariants.{Keep}
use Rattle.laws.specs.Choices.{by_test, chosen, passed}
use Rattle.laws.specs.Scans.{both_first, both_true, both_yes, every_yes}
use Rattle.ranges.specs.Ranges.{Ranged, ranged, pins_low}
use Rattle.memory.specs.Memory.{page_bytes, memory_after, store_after}
use Rattle.memory.specs.Orders.{first_some, order_some, order_none}
use Rattle.memory.specs.Requests.{Request, Asks, ReadByte, WriteByte, State, Result, turned_back, bytes_ok, lent, store_ok, first_of, in_order, outside_at, byte_refusal}
use Rattle.memory.specs.Requests.{turned_away_by, refusal_on, refused, write_of, action_on, call_on}
use Rattle.contents.proofs.Passed.{call_acts, call_turned}
use Rattle.play.specs.Turn.{turn, played, its_number, is_client, moves}
use Rattle.play.specs.Calls.{as_turn}
use Rattle.checked.specs.Ways.{turn_wrote}
use Rattle.in_place.specs.Held.{client_fits, search_fits, fits, Held, turned_away, acted, held_refusal, held_of, holder_fits, byte_held_refusal}
use Rattle.in_place.specs.Held.{byte_held, held_state, held_on}
use Rattle.held_claims.specs.HeldClaims.{ClaimSame}

-- ---- a valid pool passes the tests

either_yes : (a b : Bool) → b ≡ true → either a b ≡ true
unfolding either choose
either_yes true b e = refl
either_yes false b e = e

module _ (p : Pool) (v : valid p ≡ true) where
  r : Ranged p
  r = ranged p v

  nobody : (c : ℕ) → number_of_clients p ≤ c → client p c ≡ resting 0
  unfolding client
  nobody c h = passed _ _ _ (le-ltb _ _ h)

  -- of every number: what is no client's is a client at rest
  any : (P : Client → Type 0) → P (resting 0) → ((c : ℕ) → c < number_of_clients p → P (client p c)) → (c : ℕ) → P (client p c)
  any P z each c = go (dec_lt c (number_of_clients p))
    where
      go : Dec (c < number_of_clients p) → P (client p c)
      go (yes h) = each c h
      go (no h) = subst P (sym (nobody c (omega (arith, h)))) z

  pub few_held : (c : ℕ) → (client p c).held ≤ max_held
  few_held = any (λ k. k.held ≤ max_held) (omega arith) (λ c h. (r.client c h).counts.held)

  client_fits_lem : (c : ℕ) → client_fits p.size (pins p (client p c).found) (client p c) ≡ true
  unfolding client_fits
  client_fits_lem c =
      both_yes _ _ (lt-ltb _ _ (any (λ k. k.place < p.size) r.numbers.some_slot (λ d h. (r.client d h).counts.place) c))
      (both_yes _ _ (lt-ltb _ _ (any (λ k. k.busy < p.size) r.numbers.some_slot (λ d h. (r.client d h).counts.busy) c))
      (both_yes _ _ (le-leb _ _ (few_held c)) (le-leb _ _ (pins_low p r _))))

  search_fits_lem : (k : Client) → search_fits p k ≡ true
  unfolding search_fits
  search_fits_lem k = either_yes _ _ (every_yes _ (number_of_clients p) (λ c _. le-leb _ _ (few_held c)))

  pub passes : (c : ℕ) → fits p c ≡ true
  unfolding fits valid
  passes c = both_yes _ _ (both_first _ _ v) (both_yes _ _ (client_fits_lem c) (search_fits_lem (client p c)))

  pub holder_passes : (c : ℕ) → holder_fits p c ≡ true
  unfolding holder_fits
  holder_passes c = both_yes _ _ (le-leb _ _ r.numbers.clients) (le-leb _ _ (few_held c))

-- ---- what is not refused by 8 has passed check 8

by_choice : (t : Bool) (n k : ℕ) → choose t n k ≢ k → t ≡ true
unfolding choose
by_choice true n k z = refl
by_choice false n k z = absurd (z refl)

-- the pool's own 8 comes first, in a call and in a read or write
not_first : (n k : ℕ) → first_of n k ≢ 8 → n ≢ 8
not_first n k z e = z (first_some n k (λ w. let y : ⊥ = omega (arith, e, w) in y) ∙ e)

not_in_order : (n k : ℕ) → in_order n k ≢ 8 → n ≢ 8
not_in_order n k z e = z (order_some n k (λ w. let y : ⊥ = omega (arith, e, w) in y) (λ w. let y : ⊥ = omega (arith, e, w) in y) ∙ e)

module _ (x : State) (r : Request) (z : (call_on x r).answer ≢ Refused 8) where
  not_8 : refusal_on x r ≢ 8
  not_8 e = z (ap (λ (o : Result). o.answer) (call_turned x r (λ w. let y : ⊥ = omega (arith, e, w) in y)) ∙ ap Refused e)

  pub checked : both (bytes_ok x.pool x.memory) (store_ok x r) ≡ true
  unfolding refusal_on
  checked = by_choice _ _ _ not_8

  pub number : refusal_on x r ≡ turned_away_by x r
  unfolding refusal_on
  number = chosen _ _ _ checked

  pub past_8 : turned_away_by x r ≢ 8
  past_8 e = not_8 (number ∙ e)

module _ (p : Pool) (call : Call) (z : refusal p call ≢ 8) where
  pub is_valid : valid p ≡ true
  unfolding refusal
  is_valid = by_choice _ _ _ z

  pub own_number : refusal p call ≡ turned_by p call
  unfolding refusal
  own_number = chosen _ _ _ is_valid

-- ---- a begin, step or release

module _ (x : State) (call : Call) (z : (call_on x (Asks call)).answer ≢ Refused 8) where
  abbrev p : Pool
  p = x.pool

  abbrev n : ℕ
  n = x.memory.pages

  z' : refusal p call ≢ 8
  unfolding turned_away_by
  z' = not_in_order (refusal p call) (outside_at n call) (past_8 x (Asks call) z)

  pub valid_pool : valid p ≡ true
  valid_pool = is_valid p call z'

  abbrev k : ℕ
  k = in_order (turned_by p call) (outside_at n call)

  pub spec_number : refusal_on x (Asks call) ≡ k
  unfolding turned_away_by
  spec_number = number x (Asks call) z ∙ ap (λ (i : ℕ). in_order i (outside_at n call)) (own_number p call z')

  pub held_number : held_refusal p n call ≡ k
  unfolding held_refusal
  held_number = chosen _ _ _ (passes p valid_pool (caller call))

  store_fits : store_ok x (Asks call) ≡ true
  store_fits = (both_true _ _ (checked x (Asks call) z)).1

  abbrev h : Held
  h = held_of p n call

  pub on_held : held_on x (Asks call) ≡ record { answer = h.answer; counted = h.counted; state = held_state x h }
  unfolding held_on
  on_held = chosen _ _ _ store_fits

  -- turned down
  pub away : k ≢ 0 → h ≡ turned_away k p
  unfolding held_of
  away w = passed _ _ _ (ne_eqb _ _ (λ e. w (sym held_number ∙ e))) ∙ ap (λ (i : ℕ). turned_away i p) held_number

  same_away : k ≢ 0 → held_on x (Asks call) ≡ call_on x (Asks call)
  unfolding memory_after store_after
  same_away w =
      on_held ∙ ap (λ (o : Held). record { answer = o.answer; counted = o.counted; state = held_state x o }) (away w)
      ∙ sym (call_turned x (Asks call) (λ e. w (sym spec_number ∙ e)) ∙ ap (λ (i : ℕ). turned_back i x) spec_number)

  -- acting
  module _ (e : k ≡ 0) where
    no_turn : turned_by p call ≡ 0
    no_turn = (order_none (turned_by p call) (outside_at n call) e).0

    pub acts : h ≡ acted p call
    unfolding held_of
    acts = chosen _ _ _ (eq-eqb _ _ (held_number ∙ e))

    spec_acts : call_on x (Asks call) ≡ action_on x (Asks call)
    spec_acts = call_acts x (Asks call) (spec_number ∙ e)

    -- check 8 after the action passed, else the call would be refused by it
    call_is : call_of p call ≡ played p call
    unfolding action_on finished
    call_is =
        by_test (λ (o : Outcome). call_of p call ≡ o → call_of p call ≡ played p call) (λ _ w. w)
        (λ _ w. absurd (z (ap (λ (o : Result). o.answer) spec_acts ∙ ap (λ (o : Outcome). o.answer) w))) (as_turn p call valid_pool)

    turn_is : turn p call ≡ move_of p call
    turn_is = moves p call no_turn

    played_is : played p call ≡ record { answer = (acted p call).answer; counted = (acted p call).counted; pool = (acted p call).pool }
    played_is = rw (turn_is, its_number (number_of_clients p) (caller call) (is_client p call no_turn))

    wrote : write_of p call ≡ (move_of p call).write
    unfolding write_of
    wrote =
        ap (λ (o : Outcome). choose (refused o.answer) Keep (move_of p call).write) call_is
        ∙ turn_wrote p call ∙ ap (λ (m : Move). m.write) turn_is

    -- what a call answers and leaves, by what it does to the pool and writes there
    abbrev leaves : Outcome → Write → Result
    leaves o w =
        record {
          answer = o.answer;
          counted = o.counted;
          state = record { pool = o.pool; memory = memory_after p x.memory w; store = store_after p x.memory x.store w };
        }

    abbrev whole : Outcome
    whole = record { answer = (acted p call).answer; counted = (acted p call).counted; pool = (acted p call).pool }

    same_acts : held_on x (Asks call) ≡ call_on x (Asks call)
    unfolding action_on
    same_acts =
        on_held ∙ ap (λ (o : Held). record { answer = o.answer; counted = o.counted; state = held_state x o }) acts
        ∙ sym (spec_acts ∙ ap (λ (o : Outcome). leaves o (write_of p call)) (call_is ∙ played_is) ∙ ap (leaves whole) wrote)

  pub same_call : held_on x (Asks call) ≡ call_on x (Asks call)
  same_call = go (ℕ_discrete k 0)
    where
      go : Dec (k ≡ 0) → held_on x (Asks call) ≡ call_on x (Asks call)
      go (yes e) = same_acts e
      go (no w) = same_away w

-- ---- a read or write

module _ (x : State) (r : Request) (c g o : ℕ) (z : (call_on x r).answer ≢ Refused 8)
    (by : turned_away_by x r ≡ first_of (refusal x.pool (Release c g)) (byte_refusal x.memory.pages g o))
    (right : store_ok x r ≡ eqb (length x.store) (page_bytes * x.memory.pages)) where
  byte_number : byte_held_refusal x c g o ≡ refusal_on x r
  unfolding byte_held_refusal
  byte_number =
      let w : refusal x.pool (Release c g) ≢ 8 = not_first _ _ (λ e. past_8 x r z (by ∙ e)) in
      let v = is_valid x.pool (Release c g) w in
      chosen _ _ _ (both_yes _ _ (sym right ∙ (both_true _ _ (checked x r z)).1) (holder_passes x.pool v c))
      ∙ ap (λ (i : ℕ). first_of i (byte_refusal x.memory.pages g o)) (sym (own_number x.pool (Release c g) w)) ∙ sym (number x r z ∙ by)

  same_byte : byte_held x r (byte_held_refusal x c g o) ≡ call_on x r
  unfolding call_on
  same_byte = ap (byte_held x r) byte_number

pub same : ClaimSame
unfolding held_on turned_away_by store_ok lent either choose
same x (Asks call) z = same_call x call z
same x (ReadByte c g o) z = same_byte x (ReadByte c g o) c g o z refl refl
same x (WriteByte c g o v) z = same_byte x (WriteByte c g o v) c g o z refl refl
