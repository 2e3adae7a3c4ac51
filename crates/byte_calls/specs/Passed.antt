-- A read and a write of a byte, as the code puts them together. Assumes nothing.
use Rattle.std.specs.Prelude.{◌≡◌, refl, ◌≢◌, true, List, ℕ, ◌*◌, ◌<◌, ◌≤◌, length}
use Rattle.std.proofs.Common.{sym, subst, ◌∙◌, arith, eq-eqb, ne_eqb, lt-ltb}
use Rattle.std.proofs.Math.Path.{ap}
use borrow.Author.Tests.{eqb-true, eqb-false}
use Rattle.pool.specs.Choose.{choose, both, either}
use Rattle.pool.specs.Answers.{refusal_of}
use Rattle.pool.specs.Calls.{caller, turned_by, refusal_at, refusal}
use Rattle.pool.specs.Limits.{max_held}
use Rattle.pool.specs.State.{none, number_of_clients, client, of_client, grant_frame}
use Rattle.pool.specs.Grants.{grant_of}
use Rattle.pool.specs.Valid.{valid}
use Rattle.pool.specs.declared.Call.{Call}
use Rattle.pool.specs.declared.Client.{Client}
use Rattle.pool.specs.declared.Answer.TheVariants.{Done}
use Rattle.pool.specs.declared.Call.TheVariants.{Release}
use Rattle.pool.specs.declared.Pool.{Pool}
use Rattle.laws.specs.Choices.{by_test, chosen}
use Rattle.laws.specs.Elements.{client_of_pool}
use Rattle.laws.specs.Scans.{both_true}
use Rattle.ranges.specs.Ranges.{ranged}
use Rattle.books.specs.declared.reading.Books.{Books}
use Rattle.books.specs.Books.{pool_in}
use Rattle.books.specs.Lists.{grant_in, grant_in_lem}
use Rattle.play.specs.Turn.{is_client}
use Rattle.play.specs.Playable.{record_at}
use Rattle.answers.specs.Among.{Among}
use Rattle.answers.specs.Refusals.{by_byte}
use Rattle.answers.specs.Numbers.{refusal_number, some_refusal}
use Rattle.answers.specs.declared.refusal.Refusal.{Refusal}
use Rattle.memory.specs.Memory.{page_bytes}
use Rattle.memory.specs.Orders.{first_zero, first_some, first_none}
use Rattle.memory.specs.Requests.{ReadByte, WriteByte, State, bytes_ok, lent, store_ok, first_of, byte_refusal, turned_away_by, refusal_on, held_frame}
use Rattle.memory.specs.Requests.{call_on, state_of, reply}
use Rattle.memory.specs.declared.BufferPool.{BufferPool}
use Rattle.memory.specs.declared.Memory.{Memory}
use Rattle.memory.specs.declared.Reply.{Reply}
use Rattle.content.specs.Filling.{bytes_filled, marks_filled, byte_in, bytes_written, marks_written}
use Rattle.content.specs.Acting.{low_offset, reads_as, writes_as}
use Rattle.buffered.specs.Refusals.{read_refusals, write_refusals}
use Rattle.buffered.specs.Ways.{turned_reply, Passes, turned, goes_on, by_store, by_checks, by_turn}

-- ---- the grant of a client that nothing turns down

module _ (q : Pool) (c g : ℕ) (v : valid q ≡ true) (z : turned_by q (Release c g) ≡ 0) where
  pub its_number : c < number_of_clients q
  unfolding caller
  its_number = is_client q (Release c g) z

  its_record : client q c ≡ record_at q c
  its_record = client_of_pool q c its_number

  pub few : (record_at q c).held ≤ max_held
  few = subst (λ (k : Client). k.held ≤ max_held) its_record ((ranged q v).client c its_number).counts.held

  not_9 : turned_by q (Release c g) ≡ refusal_at q (client q c) (Release c g)
  unfolding caller
  not_9 = chosen _ _ _ (lt-ltb _ _ its_number)

  pub has_one : grant_of q c g ≢ none
  unfolding refusal_at
  has_one =
      by_test (λ (n : ℕ). n ≡ 0 → grant_of q c g ≢ none)
      (λ _. by_test (λ (n : ℕ). n ≡ 0 → grant_of q c g ≢ none) (λ _ e _. let y : ⊥ = omega arith in y) (λ f _. eqb-false _ _ f))
      (λ _ e _. let y : ⊥ = omega arith in y) (sym not_9 ∙ z)

  -- of the pool's books
  module _ (b : Books) (e : pool_in b q.clients ≡ q) (i : ℕ) (first : i ≡ grant_in b.grant_pages.now c (record_at q c).held g) where
    pub grant_is : i ≡ grant_of q c g
    grant_is =
        first ∙ ap (λ (p : Pool). grant_in p.grant_pages c (record_at q c).held g) e
        ∙ ap (λ (k : Client). grant_in q.grant_pages c k.held g) (sym its_record)
        ∙ grant_in_lem q c g

    pub frame_is : {f : ℕ} → f ≡ of_client b.grant_frames.now c (record_at q c).held none i → f ≡ held_frame q c g
    unfolding grant_frame
    frame_is there =
        there ∙ ap (λ (p : Pool). of_client p.grant_frames c (record_at q c).held none i) e
        ∙ ap (λ (k : Client). of_client q.grant_frames c k.held none i) (sym its_record)
        ∙ ap (λ (n : ℕ). of_client q.grant_frames c (client q c).held none n) grant_is

-- ---- passed

-- what a read or write that is not turned down has passed
pub record Passed (x : State) (c o : ℕ) : Type 0 where
  pub valid : valid x.pool ≡ true
  pub client : c < number_of_clients x.pool
  pub long : length x.store ≡ page_bytes * x.memory.pages
  pub offset : o < page_bytes

not_8 : (p : Pool) (call : Call) → refusal p call ≡ 0 → (valid p ≡ true) × (turned_by p call ≡ 0)
unfolding refusal
not_8 p call = by_test (λ (y : ℕ). y ≡ 0 → (valid p ≡ true) × (turned_by p call ≡ 0)) (λ v e. (v, e)) (λ _ e. let z : ⊥ = omega arith in absurd z)

pub passed : (x : State) (c g o : ℕ) → refusal_on x (ReadByte c g o) ≡ 0 → Passed x c o
unfolding refusal_on turned_away_by store_ok lent either choose caller
passed x c g o = by_test (λ (y : ℕ). y ≡ 0 → Passed x c o) go (λ _ e. let z : ⊥ = omega arith in absurd z)
  where
    go : both (bytes_ok x.pool x.memory) (store_ok x (ReadByte c g o)) ≡ true
        → first_of (refusal x.pool (Release c g)) (byte_refusal x.memory.pages g o) ≡ 0 → Passed x c o
    go t e =
        let none = first_none _ _ e in
        let own = not_8 x.pool (Release c g) none.0 in
        record {
          valid = own.0;
          client = is_client x.pool (Release c g) own.1;
          long = eqb-true _ _ (both_true _ _ t).1;
          offset = low_offset _ _ _ none.1;
        }

-- a write is turned down as a read is
pub alike : (x : State) (c g o v : ℕ) → refusal_on x (ReadByte c g o) ≡ refusal_on x (WriteByte c g o v)
unfolding refusal_on turned_away_by store_ok lent
alike x c g o v = refl

-- ---- by which number it is turned down

module _ (x : State) (c g o : ℕ) where
  pub by_length : length x.store ≢ page_bytes * x.memory.pages → refusal_on x (ReadByte c g o) ≡ 8
  unfolding store_ok lent either choose
  by_length e = by_store x (ReadByte c g o) (ne_eqb _ _ e)

  module _ (s : both (valid x.pool) (bytes_ok x.pool x.memory) ≡ true) (l : length x.store ≡ page_bytes * x.memory.pages) where
    right_store : store_ok x (ReadByte c g o) ≡ true
    unfolding store_ok lent either choose
    right_store = eq-eqb _ _ l

    in_order : refusal_on x (ReadByte c g o) ≡ first_of (turned_by x.pool (Release c g)) (byte_refusal x.memory.pages g o)
    unfolding turned_away_by
    in_order =
        by_checks x (ReadByte c g o) s right_store
        ∙ ap (λ (n : ℕ). first_of n (byte_refusal x.memory.pages g o)) (by_turn x.pool (Release c g) (both_true _ _ s).0)

    pub by_release : turned_by x.pool (Release c g) ≢ 0 → turned_by x.pool (Release c g) ≡ refusal_on x (ReadByte c g o)
    by_release z = sym (in_order ∙ first_some _ _ z)

    pub by_byte_lem : turned_by x.pool (Release c g) ≡ 0 → byte_refusal x.memory.pages g o ≡ refusal_on x (ReadByte c g o)
    by_byte_lem z = sym (in_order ∙ first_zero _ _ z)

-- ---- what the code puts together

module _ (b : BufferPool) (s : List ℕ) (c g o : ℕ) where
  module _ {n : ℕ} (e : n ≡ refusal_on (state_of b s) (ReadByte c g o)) where
    pub turns_read : n ≢ 0 → turned_reply n b ≡ reply (call_on (state_of b s) (ReadByte c g o))
    turns_read z = sym (ap reply (turned (state_of b s) (ReadByte c g o) n (sym e) z))

    pub turns_write : (v : ℕ) → n ≢ 0 → turned_reply n b ≡ reply (call_on (state_of b s) (WriteByte c g o v))
    turns_write v z = sym (ap reply (turned (state_of b s) (WriteByte c g o v) n (sym (alike (state_of b s) c g o v) ∙ sym e) z))

  -- ---- as the code finds it

  abbrev number : ℕ
  number = refusal_on (state_of b s) (ReadByte c g o)

  module _ {q : Pool} (h : Passes q b) (l : length s ≡ page_bytes * b.memory.pages) where
    its_turn : turned_by b.pool (Release c g) ≡ turned_by q (Release c g)
    its_turn = ap (λ (p : Pool). turned_by p (Release c g)) (sym h.0)

    pub by_turned : (e : Refusal) → turned_by q (Release c g) ≡ refusal_number e → number ≡ refusal_number e
    by_turned e t =
        sym (by_release (state_of b s) c g o h.1 l (λ z. let y : ⊥ = omega (arith, some_refusal e, t, its_turn, z) in y)) ∙ its_turn ∙ t

    pub by_place : turned_by q (Release c g) ≡ 0 → number ≡ byte_refusal b.memory.pages g o
    by_place z = sym (by_byte_lem (state_of b s) c g o h.1 l (its_turn ∙ z))

  some : (e : Refusal) → refusal_number e ≢ 0
  some e z = let y : ⊥ = omega (arith, some_refusal e, z) in y

  pub read_refused : (e : Refusal) → number ≡ refusal_number e → turned_reply (refusal_number e) b ≡ reply (call_on (state_of b s) (ReadByte c g o))
  read_refused e n = turns_read (sym n) (some e)

  pub write_refused : (v : ℕ) (e : Refusal) → number ≡ refusal_number e
      → turned_reply (refusal_number e) b ≡ reply (call_on (state_of b s) (WriteByte c g o v))
  write_refused v e n = turns_write (sym n) v (some e)

  -- done, with this memory
  abbrev done : ℕ → Memory → Reply
  done v m = record { answer = Done v; pool = record { pool = b.pool; memory = m } }

  module _ {f : ℕ} (h : (number ≡ 0) × (f ≡ held_frame b.pool c g)) {bytes filled : List ℕ}
      (eb : bytes ≡ bytes_filled b.memory.filled b.memory.pages f g b.memory.bytes s) (em : filled ≡ marks_filled b.memory.filled b.memory.pages f g) where
    pub reads : {v : ℕ} → v ≡ byte_in bytes f o
        → done v (record { pages = b.memory.pages; bytes = bytes; filled = filled; changed = b.memory.changed })
        ≡ reply (call_on (state_of b s) (ReadByte c g o))
    reads ev = ap reply (reads_as (state_of b s) c g o h.1 eb em ev ∙ sym (goes_on _ (ReadByte c g o) h.0))

    pub writes : (v : ℕ) {bytes' filled' changed : List ℕ} → bytes' ≡ bytes_written bytes f o v → filled' ≡ filled
        → changed ≡ marks_written b.memory.changed f o
        → done g (record { pages = b.memory.pages; bytes = bytes'; filled = filled'; changed = changed })
        ≡ reply (call_on (state_of b s) (WriteByte c g o v))
    writes v x z y =
        ap reply
        (writes_as (state_of b s) c g o h.1 eb (z ∙ em) v x y
        ∙ sym (goes_on _ (WriteByte c g o v) (sym (alike (state_of b s) c g o v) ∙ h.0)))

-- ---- by which numbers they are refused

module _ (b : BufferPool) (s : List ℕ) (c g o : ℕ) where
  pub read_few : {r : Reply} → r ≡ reply (call_on (state_of b s) (ReadByte c g o))
      → (r ≡ reply (call_on (state_of b s) (ReadByte c g o))) × Among by_byte (refusal_of r.answer)
  read_few e = (e, subst (λ (y : Reply). Among by_byte (refusal_of y.answer)) (sym e) (read_refusals (state_of b s) c g o))

  pub write_few : (v : ℕ) {r : Reply} → r ≡ reply (call_on (state_of b s) (WriteByte c g o v))
      → (r ≡ reply (call_on (state_of b s) (WriteByte c g o v))) × Among by_byte (refusal_of r.answer)
  write_few v e = (e, subst (λ (y : Reply). Among by_byte (refusal_of y.answer)) (sym e) (write_refusals (state_of b s) c g o v))
