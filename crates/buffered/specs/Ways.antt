-- A call of a pool that has bytes, by what the code has tested. Assumes nothing.
use Rattle.std.specs.Prelude.{◌≡◌, ◌≢◌, Bool, List, ℕ, Result, Ok, Err}
use Rattle.std.proofs.Math.Path.{refl, sym}
use Rattle.std.proofs.Common.{ap, ◌∙◌, arith, eq-eqb, ne_eqb}
use Rattle.std.proofs.Math.Bool.{true, false}
use Rattle.std.proofs.Math.Decide.{ℕ_discrete}
use Rattle.pool.specs.Choose.{choose, both, either}
use Rattle.pool.specs.Valid.{valid}
use Rattle.pool.specs.Calls.{turned_by, refusal, release_move, move_of}
use Rattle.pool.specs.declared.Answer.TheVariants.{Refused}
use Rattle.pool.specs.declared.Call.{Call}
use Rattle.pool.specs.declared.Call.TheVariants.{Begin, Release}
use Rattle.pool.specs.declared.Move.{Move}
use Rattle.pool.specs.declared.Pool.{Pool}
use Rattle.pool.specs.declared.Write.{Write}
use Rattle.laws.specs.Choices.{by_test, chosen, passed}
use Rattle.laws.specs.Scans.{both_true, both_yes}
use Rattle.answers.specs.Numbers.{refusal_number, some_refusal, refused_by}
use Rattle.answers.specs.declared.refusal.Refusal.{Refusal}
use Rattle.answers.specs.declared.refusal.Refusal.TheVariants.{OutOfRange}
use Rattle.play.specs.Calls.{turned_down_by}
use Rattle.checked.specs.Ways.{made_of}
use Rattle.checked.specs.declared.Made.{Made}
use Rattle.memory.specs.declared.BufferPool.{BufferPool}
use Rattle.memory.specs.declared.Memory.{Memory}
use Rattle.memory.specs.declared.Reply.{Reply}
use Rattle.memory.specs.Memory.{memory_after, store_after}
use Rattle.memory.specs.Orders.{first_some, order_some, order_alone, order_none}
use Rattle.memory.specs.Requests.{Request, Asks, ReadByte, WriteByte, State, turned_back, bytes_ok, store_ok, in_order, outside_at, inside, lent}
use Rattle.memory.specs.Requests.{turned_away_by, refusal_on, refused, write_of, action_on, call_on, state_of, reply}

-- what a call returns that is turned down
abbrev pub turned_reply : ℕ → BufferPool → Reply
turned_reply n b = record { answer = Refused n; pool = b }

-- what a call returns that leaves the memory, by what it makes of the pool
abbrev pub replied : Result Made Refusal → BufferPool → Reply
replied (Ok m) b = record { answer = m.answer; pool = record { pool = m.pool; memory = b.memory } }
replied (Err e) b = turned_reply (refusal_number e) b

-- what check 8 says of a pool, and of the pool q that it is known to pass by its type
abbrev pub sound : BufferPool → Bool
sound b = both (valid b.pool) (bytes_ok b.pool b.memory)

abbrev pub Passes : Pool → BufferPool → Type 0
Passes q b = (q ≡ b.pool) × (sound b ≡ true)

-- ---- by what the call is turned down

-- what is refused by a number that is not 0
pub turned : (x : State) (r : Request) (n : ℕ) → refusal_on x r ≡ n → n ≢ 0 → call_on x r ≡ turned_back n x
unfolding call_on
turned x r n e z = passed _ _ _ (ne_eqb _ _ (λ w. z (sym e ∙ w))) ∙ ap (λ (k : ℕ). turned_back k x) e

pub refuses : (x : State) (r : Request) (e : Refusal) → refusal_on x r ≡ refusal_number e → call_on x r ≡ turned_back (refusal_number e) x
refuses x r e n = turned x r (refusal_number e) n (λ z. let y : ⊥ = omega (arith, some_refusal e, z) in y)

pub goes_on : (x : State) (r : Request) → refusal_on x r ≡ 0 → call_on x r ≡ action_on x r
unfolding call_on
goes_on x r e = chosen _ _ _ (eq-eqb _ _ e)

-- ---- check 8

eight : (n : ℕ) → n ≡ 8 → n ≢ 0
eight n e z = let y : ⊥ = omega arith in y

-- a pool that does not pass its own check 8 is turned down by it, whichever call it is
by_8 : (p : Pool) (call : Call) → valid p ≡ false → refusal p call ≡ 8
unfolding refusal
by_8 p call v = passed _ _ _ v

by_valid : (x : State) (r : Request) → valid x.pool ≡ false → turned_away_by x r ≡ 8
unfolding turned_away_by
by_valid x (Asks call) v = rw (by_8 x.pool call v) (order_some 8 _ (eight 8 refl) (λ e. let y : ⊥ = omega arith in y))
by_valid x (ReadByte c g o) v = rw (by_8 x.pool (Release c g) v) (first_some 8 _ (eight 8 refl))
by_valid x (WriteByte c g o w) v = rw (by_8 x.pool (Release c g) v) (first_some 8 _ (eight 8 refl))

neither : (a b : Bool) → b ≡ false → both a b ≡ false
unfolding both choose
neither true b e = e
neither false b e = refl

of_pool : (x : State) (r : Request) → valid x.pool ≡ false → refusal_on x r ≡ 8
unfolding refusal_on
of_pool x r v = by_test (λ (n : ℕ). n ≡ 8) (λ _. by_valid x r v) (λ _. refl)

of_bytes : (x : State) (r : Request) → bytes_ok x.pool x.memory ≡ false → refusal_on x r ≡ 8
unfolding refusal_on both choose
of_bytes x r f = rw f

pub by_store : (x : State) (r : Request) → store_ok x r ≡ false → refusal_on x r ≡ 8
unfolding refusal_on
by_store x r f = passed _ _ _ (neither (bytes_ok x.pool x.memory) _ f)

module _ (x : State) (r : Request) where
  -- the pool's own check 8, or that of the bytes, fails
  pub by_unsound : both (valid x.pool) (bytes_ok x.pool x.memory) ≡ false → refusal_on x r ≡ 8
  unfolding both choose
  by_unsound = go (valid x.pool) refl
    where
      go : (v : Bool) → valid x.pool ≡ v → both v (bytes_ok x.pool x.memory) ≡ false → refusal_on x r ≡ 8
      go true _ f = of_bytes x r f
      go false v _ = of_pool x r v

  pub unsound : both (valid x.pool) (bytes_ok x.pool x.memory) ≡ false → call_on x r ≡ turned_back 8 x
  unsound e = turned x r 8 (by_unsound e) (eight 8 refl)

  pub wrong_store : store_ok x r ≡ false → call_on x r ≡ turned_back 8 x
  wrong_store e = turned x r 8 (by_store x r e) (eight 8 refl)

  -- past check 8
  module _ (s : both (valid x.pool) (bytes_ok x.pool x.memory) ≡ true) (l : store_ok x r ≡ true) where
    pub by_checks : refusal_on x r ≡ turned_away_by x r
    unfolding refusal_on
    by_checks = chosen _ _ _ (both_yes _ _ (both_true _ _ s).1 l)

    pub turned_away : (n : ℕ) → turned_away_by x r ≡ n → n ≢ 0 → call_on x r ≡ turned_back n x
    turned_away n e = turned x r n (by_checks ∙ e)

    pub acts : turned_away_by x r ≡ 0 → call_on x r ≡ action_on x r
    acts e = goes_on x r (by_checks ∙ e)

-- as the code finds it
pub is_unsound : (b : BufferPool) (s : List ℕ) (r : Request) {e : Refusal} → (e ≡ OutOfRange) × (sound b ≡ false)
    → refusal_on (state_of b s) r ≡ refusal_number e
is_unsound b s r h = by_unsound (state_of b s) r h.1 ∙ ap refusal_number (sym h.0)

-- ---- begin, step, release

-- without its check 8, what turns a call down
pub by_turn : (p : Pool) (call : Call) → valid p ≡ true → refusal p call ≡ turned_by p call
unfolding refusal
by_turn p call v = chosen _ _ _ v

module _ (x : State) (call : Call) (s : both (valid x.pool) (bytes_ok x.pool x.memory) ≡ true) (l : store_ok x (Asks call) ≡ true) where
  abbrev p : Pool
  p = x.pool

  v : valid p ≡ true
  v = (both_true _ _ s).0

  -- a call that the pool turns down leaves memory and store
  still : turned_by p call ≢ 0 → action_on x (Asks call) ≡ turned_back (turned_by p call) x
  unfolding action_on write_of refused memory_after store_after choose
  still z = rw (turned_down_by p call v z)

  -- the call is the pool's own, with what it does to memory and store
  pub asks : outside_at x.memory.pages call ≡ 0 → call_on x (Asks call) ≡ action_on x (Asks call)
  unfolding turned_away_by
  asks o = go (ℕ_discrete (turned_by p call) 0)
    where
      number : turned_away_by x (Asks call) ≡ turned_by p call
      number = order_alone _ _ o ∙ by_turn p call v

      go : Dec (turned_by p call ≡ 0) → call_on x (Asks call) ≡ action_on x (Asks call)
      go (yes z) = acts x (Asks call) s l (number ∙ z)
      go (no z) = turned_away x (Asks call) s l (turned_by p call) number z ∙ sym (still z)

  -- a page outside the store
  pub outside : (n : ℕ) → n ≡ in_order (turned_by p call) (outside_at x.memory.pages call) → n ≢ 0 → call_on x (Asks call) ≡ turned_back n x
  unfolding turned_away_by
  outside n e =
      turned_away x (Asks call) s l n (ap (λ (i : ℕ). in_order i (outside_at x.memory.pages call)) (by_turn p call v) ∙ sym e)

-- a begin of a page outside the store
pub begins_outside : (b : BufferPool) (c g : ℕ) (s : List ℕ) → both (valid b.pool) (bytes_ok b.pool b.memory) ≡ true
    → inside b.memory.pages g ≡ false → {n : ℕ} → n ≡ in_order (turned_by b.pool (Begin c g)) 16
    → turned_reply n b ≡ reply (call_on (state_of b s) (Asks (Begin c g)))
unfolding outside_at store_ok lent either choose
begins_outside b c g s sound i {n} e =
    sym (ap reply (outside (state_of b s) (Begin c g) sound refl n
    (e ∙ ap (in_order (turned_by b.pool (Begin c g))) (sym (passed (inside b.memory.pages g) 0 16 i)))
    (λ z. let none = (order_none (turned_by b.pool (Begin c g)) 16 (sym e ∙ z)).1 in let y : ⊥ = omega arith in y)))

-- ---- what the code puts together

pub not_sound : (b : BufferPool) (r : Request) {e : Refusal} → (e ≡ OutOfRange) × (sound b ≡ false) → (s : List ℕ)
    → turned_reply (refusal_number e) b ≡ reply (call_on (state_of b s) r)
not_sound b r h s = sym (ap reply (refuses _ r _ (is_unsound b s r h)))

-- a begin and a release leave memory and store
begin_keeps : (p : Pool) (m : Memory) (c g : ℕ) → memory_after p m (write_of p (Begin c g)) ≡ m
unfolding write_of move_of memory_after
begin_keeps p m c g = by_test (λ (w : Write). memory_after p m w ≡ m) (λ _. refl) (λ _. refl)

release_keeps : (p : Pool) (m : Memory) (c g : ℕ) → memory_after p m (write_of p (Release c g)) ≡ m
unfolding write_of move_of release_move memory_after
release_keeps p m c g =
    by_test (λ (w : Write). memory_after p m w ≡ m) (λ _. refl)
    (λ _. by_test (λ (k : Move). memory_after p m k.write ≡ m) (λ _. refl) (λ _. refl))

-- the reply to a call that leaves the memory, of what the pool's own call leaves
its_reply : (b : BufferPool) (s : List ℕ) (call : Call) {made : Made} → made ≡ made_of b.pool call
    → memory_after b.pool b.memory (write_of b.pool call) ≡ b.memory
    → call_on (state_of b s) (Asks call) ≡ action_on (state_of b s) (Asks call) → replied (Ok made) b ≡ reply (call_on (state_of b s) (Asks call))
unfolding action_on
its_reply b s call e k f = simp (e, f, k)

module _ (b : BufferPool) (c g : ℕ) {q : Pool} (h : Passes q b) where
  pub begins : inside b.memory.pages g ≡ true → {made : Made} → made ≡ made_of q (Begin c g) → (s : List ℕ)
      → replied (Ok made) b ≡ reply (call_on (state_of b s) (Asks (Begin c g)))
  unfolding outside_at store_ok lent either choose
  begins i e s =
      its_reply b s (Begin c g) (e ∙ ap (λ (p : Pool). made_of p (Begin c g)) h.0) (begin_keeps b.pool b.memory c g)
      (asks (state_of b s) (Begin c g) h.1 refl (chosen _ _ _ i))

  -- of a page outside the store, by the number t that turns it down, 0 for none
  pub begin_refused : inside b.memory.pages g ≡ false → {t : ℕ} → t ≡ turned_by q (Begin c g) → (e : Refusal)
      → refusal_number e ≡ in_order t 16 → (s : List ℕ) → turned_reply (refusal_number e) b ≡ reply (call_on (state_of b s) (Asks (Begin c g)))
  begin_refused i {t} d e n s =
      let its : t ≡ turned_by b.pool (Begin c g) = d ∙ ap (λ (p : Pool). turned_by p (Begin c g)) h.0 in
      begins_outside b c g s h.1 i (n ∙ ap (λ (k : ℕ). in_order k 16) its)

  pub releases : {made : Made} → made ≡ made_of q (Release c g) → (s : List ℕ)
      → replied (Ok made) b ≡ reply (call_on (state_of b s) (Asks (Release c g)))
  unfolding outside_at store_ok lent either choose
  releases e s =
      its_reply b s (Release c g) (e ∙ ap (λ (p : Pool). made_of p (Release c g)) h.0) (release_keeps b.pool b.memory c g)
      (asks (state_of b s) (Release c g) h.1 refl refl)
