-- How a request goes, of every state: it acts or is turned down with nothing changed; by which numbers; that a read or write leaves the pool; and that
-- the store stays as long as it is. Assumes nothing.
use mathlib.Core.Path.{◌≡◌, refl, sym, ap, subst, ◌∙◌}
use mathlib.Core.Logic.{◌≢◌, ◌⊎◌, inl, inr}
use mathlib.Core.Bool.{false}
use mathlib.Core.List.{List}
use Prim.Native.Nat.{ℕ}
use lib.Dec.{T}
use lib.ListN.{length}
use borrow.Author.Tests.{eqb-true, eqb-false}
use Rattle.pool.specs.Choose.{member}
use Rattle.pool.specs.State.{entry_frame}
use Rattle.pool.specs.Calls.{refusal, call_of}
use Rattle.pool.specs.declared.Pool.{Pool}
use Rattle.pool.specs.declared.Call.{Call}
use Rattle.pool.specs.declared.Call.TheVariants.{Begin, Step, Release}
use Rattle.pool.specs.declared.Counted.TheVariants.{Nothing}
use Rattle.pool.specs.declared.Write.{Write}
use Rattle.pool.specs.declared.Write.TheVariants.{Keep, PutSlot, PutPins, PutCount, TakeFrame, PutEntry, PutHand, PutFree}
use Rattle.laws.specs.Choices.{by_test}
use Rattle.invariant.proofs.StageTests.{differ}
use Rattle.invariant.proofs.Calls.{call_turned_down}
use Rattle.memory.specs.Memory.{page_bytes, start, unmarked, moved, memory_after, written_back, store_after, filled_from, written}
use Rattle.laws.specs.Checks.{by_turn, by_check, at_release}
use Rattle.memory.specs.Orders.{first_either, order_cases}
use Rattle.memory.specs.Requests.{Request, Asks, ReadByte, WriteByte, State, Result, turned_back, inside, outside_at, byte_refusal, turned_away_by}
use Rattle.memory.specs.Requests.{refusal_on, action_on, call_on}
use Rattle.memory.specs.declared.Memory.{Memory}
use Rattle.memory.specs.Copying.{copied_length}
use Rattle.contents.proofs.Passed.{call_acts, call_turned}
use Rattle.mixed.specs.Mixed.{IsByte, byte_numbers, outcome_on, ClaimSameLength}

-- what holds of a request that acts and of one that is turned down holds of what it leaves
pub by_call : (x : State) (r : Request) (P : Result → Type 0) → (refusal_on x r ≡ 0 → P (action_on x r))
    → (refusal_on x r ≢ 0 → P (turned_back (refusal_on x r) x)) → P (call_on x r)
unfolding call_on
by_call x r P a b = by_test P (λ t. a (eqb-true _ _ t)) (λ t. b (eqb-false _ _ t))

-- ---- the number, past check 8 of the bytes

-- a call of the pool: it passes, the pool alone turns it down, or it is a begin outside the store
pub data Goes (x : State) (call : Call) (n : ℕ) : Type 0 where
  acts : n ≡ 0 → Goes x call n
  refused : refusal x.pool call ≢ 0 → n ≡ refusal x.pool call → Goes x call n
  outside : (c g : ℕ) → call ≡ Begin c g → inside x.memory.pages g ≡ false → n ≡ 16 → Goes x call n

passes : (x : State) (call : Call) → Goes x call (outside_at x.memory.pages call)
unfolding outside_at
passes x (Begin c g) = by_test (Goes x (Begin c g)) (λ _. acts refl) (λ t. outside c g refl t refl)
passes x (Step c) = acts refl
passes x (Release c g) = acts refl

pub goes : (x : State) (call : Call) → Goes x call (turned_away_by x (Asks call))
unfolding turned_away_by
goes x call =
    elim (order_cases (refusal x.pool call) (outside_at x.memory.pages call)) [
      | inl e ↦ subst (Goes x call) (sym e) (passes x call)
      | inr w ↦ refused w.0 w.1
    ]

-- and check 8 of the bytes comes before
pub eight_or : (x : State) (r : Request) → (refusal_on x r ≡ 8) ⊎ (refusal_on x r ≡ turned_away_by x r)
unfolding refusal_on
eight_or x r = by_test (λ (n : ℕ). (n ≡ 8) ⊎ (n ≡ turned_away_by x r)) (λ _. inr refl) (λ _. inl refl)

-- so it answers, counts and does to the pool what `call_of` says, unless it is a begin outside the store
pub data AsCall (x : State) (call : Call) : Type 0 where
  same : outcome_on (call_on x (Asks call)) ≡ call_of x.pool call → AsCall x call
  turned16 : (c g : ℕ) → call ≡ Begin c g → inside x.memory.pages g ≡ false → call_on x (Asks call) ≡ turned_back 16 x → AsCall x call

acted : (x : State) (call : Call) → refusal_on x (Asks call) ≡ 0 → outcome_on (call_on x (Asks call)) ≡ call_of x.pool call
unfolding action_on
acted x call e = ap outcome_on (call_acts x (Asks call) e)

pub as_call : (x : State) (call : Call) → refusal_on x (Asks call) ≡ turned_away_by x (Asks call) → AsCall x call
as_call x call eq = go (subst (Goes x call) (sym eq) (goes x call))
  where
    turned : {n : ℕ} → refusal_on x (Asks call) ≡ n → n ≢ 0 → call_on x (Asks call) ≡ turned_back n x
    turned e z = call_turned x (Asks call) (λ w. z (sym e ∙ w)) ∙ ap (λ (n : ℕ). turned_back n x) e

    go : Goes x call (refusal_on x (Asks call)) → AsCall x call
    go (acts e) = same (acted x call e)
    go (refused z e) = same (ap outcome_on (turned e z) ∙ sym (call_turned_down x.pool call (refusal x.pool call) refl z))
    go (outside c g w out e) = turned16 c g w out (turned e (differ 16 0 tt))

-- a read or write
abbrev pub ByteNumber : ℕ → Type 0
ByteNumber n = (n ≡ 8) ⊎ ((n ≡ 0) ⊎ T (member n byte_numbers))

release_number : (p : Pool) (c g : ℕ) → ByteNumber (refusal p (Release c g))
release_number p c g =
    by_check ByteNumber p (Release c g) (inl refl)
    (by_turn ByteNumber p (Release c g) (inr (inr tt)) (at_release ByteNumber p _ c g (inr (inl refl)) (inr (inr tt)) (inr (inr tt))))

byte_number : (n g o : ℕ) → ByteNumber (byte_refusal n g o)
unfolding byte_refusal
byte_number n g o = by_test ByteNumber (λ _. by_test ByteNumber (λ _. inr (inl refl)) (λ _. inr (inr tt))) (λ _. inr (inr tt))

pub turned_number : (x : State) (r : Request) → IsByte r → ByteNumber (refusal_on x r)
unfolding refusal_on turned_away_by IsByte
turned_number x (Asks call) b = absurd b
turned_number x (ReadByte c g o) b =
    by_test ByteNumber (λ _. first_either _ _ ByteNumber (release_number x.pool c g) (byte_number _ g o)) (λ _. inl refl)
turned_number x (WriteByte c g o v) b =
    by_test ByteNumber (λ _. first_either _ _ ByteNumber (release_number x.pool c g) (byte_number _ g o)) (λ _. inl refl)

-- ---- reads and writes leave the pool

byte_acts : (x : State) (r : Request) → IsByte r → ((action_on x r).state.pool ≡ x.pool) × ((action_on x r).counted ≡ Nothing)
unfolding action_on IsByte
byte_acts x (Asks call) b = absurd b
byte_acts x (ReadByte c g o) b = (refl, refl)
byte_acts x (WriteByte c g o v) b = (refl, refl)

pub byte_leaves : (x : State) (r : Request) → IsByte r → ((call_on x r).state.pool ≡ x.pool) × ((call_on x r).counted ≡ Nothing)
byte_leaves x r b =
    by_call x r (λ o. (o.state.pool ≡ x.pool) × (o.counted ≡ Nothing)) (λ _. byte_acts x r b) (λ _. (refl, refl))

-- ---- the store has as many pages and bytes

pub after_pages : (p : Pool) (m : Memory) (w : Write) → (memory_after p m w).pages ≡ m.pages
unfolding memory_after unmarked moved
after_pages p m Keep = refl
after_pages p m (PutSlot i f) = refl
after_pages p m (PutPins f n) = refl
after_pages p m (PutCount f n) = refl
after_pages p m (TakeFrame f g n k) = by_test (λ (y : Memory). y.pages ≡ m.pages) (λ _. refl) (λ _. refl)
after_pages p m (PutEntry i g f) = by_test (λ (y : Memory). y.pages ≡ m.pages) (λ _. refl) (λ _. refl)
after_pages p m (PutHand h) = refl
after_pages p m (PutFree n) = refl

after_length : (p : Pool) (m : Memory) (s : List ℕ) (w : Write) → length (store_after p m s w) ≡ length s
unfolding store_after written_back
after_length p m s Keep = refl
after_length p m s (PutSlot i f) = refl
after_length p m s (PutPins f n) = refl
after_length p m s (PutCount f n) = refl
after_length p m s (TakeFrame f g n k) = refl
after_length p m s (PutEntry i g f) =
    by_test (λ (t : List ℕ). length t ≡ length s) (λ _. copied_length s (start g) m.bytes (start (entry_frame p i)) page_bytes) (λ _. refl)
after_length p m s (PutHand h) = refl
after_length p m s (PutFree n) = refl

filled_pages : (m : Memory) (s : List ℕ) (f g : ℕ) → (filled_from m s f g).pages ≡ m.pages
unfolding filled_from
filled_pages m s f g = by_test (λ (y : Memory). y.pages ≡ m.pages) (λ _. refl) (λ _. refl)

written_pages : (m : Memory) (f o v : ℕ) → (written m f o v).pages ≡ m.pages
unfolding written
written_pages m f o v = by_test (λ (y : Memory). y.pages ≡ m.pages) (λ _. refl) (λ _. refl)

abbrev SameLength : State → State → Type 0
SameLength x y = (y.memory.pages ≡ x.memory.pages) × (length y.store ≡ length x.store)

action_length : (x : State) (r : Request) → SameLength x (action_on x r).state
unfolding action_on
action_length x (Asks call) = (after_pages x.pool x.memory _, after_length x.pool x.memory x.store _)
action_length x (ReadByte c g o) = (filled_pages x.memory x.store _ g, refl)
action_length x (WriteByte c g o v) =
    (written_pages (filled_from x.memory x.store _ g) _ o v ∙ filled_pages x.memory x.store _ g, refl)

pub same_length : ClaimSameLength
same_length x r = by_call x r (λ o. SameLength x o.state) (λ _. action_length x r) (λ _. (refl, refl))
