-- The calls: what each is turned down by, in checking order, the move of one that is not, and check 8 again after it. Assumes nothing.
use Rattle.std.specs.Prelude.{◌≡◌, not, List, [], ◌∷◌, ℕ, ◌-◌, eqb, ltb, replicate}
use Rattle.pool.specs.Limits.{max_size, max_clients, max_held, max_frames, max_grants}
use Rattle.pool.specs.Choose.{choose, both}
use Rattle.pool.specs.Answers.{refusal_of}
use Rattle.pool.specs.State.{none, evicted, number_of_clients, resting, pins, client, grant_frame}
use Rattle.pool.specs.Moves.{wanting, holding, completes, stuck}
use Rattle.pool.specs.Apply.{apply}
use Rattle.pool.specs.Stages.{stage_move}
use Rattle.pool.specs.Grants.{grant_of}
use Rattle.pool.specs.Valid.{numbers_ok, valid}
use Rattle.pool.specs.declared.Pool.{Pool}
use Rattle.pool.specs.declared.Client.{Client}
use Rattle.pool.specs.declared.Call.{Call}
use Rattle.pool.specs.declared.Call.TheVariants.{Begin, Step, Release}
use Rattle.pool.specs.declared.Move.{Move}
use Rattle.pool.specs.declared.Outcome.{Outcome}
use Rattle.pool.specs.declared.Answer.TheVariants.{Done, Refused}
use Rattle.pool.specs.declared.Counted.TheVariants.{Nothing}
use Rattle.pool.specs.declared.GrantChange.TheVariants.{Same, End}
use Rattle.pool.specs.declared.Write.TheVariants.{Keep, PutPins}

-- SPECIFICATION 3.10: refused by n, with nothing changed
abbrev pub turned_down : ℕ → Pool → Outcome
turned_down n p = record { answer = Refused n; counted = Nothing; pool = p }

-- ---- setup

-- SPECIFICATION 1.4, 1.8: a new pool
abbrev pub fresh : ℕ → ℕ → ℕ → ℕ → Pool
fresh s t c h =
    record {
      size = s;
      client_count = t;
      cap = c;
      hand = h;
      free = s;
      last = none;
      slots = replicate max_size none;
      pages = replicate max_frames 0;
      pins = replicate max_frames evicted;
      counts = replicate max_frames 0;
      table_pages = replicate max_frames 0;
      table_frames = replicate max_frames none;
      clients = replicate max_clients (resting 0);
      grant_pages = replicate max_grants 0;
      grant_frames = replicate max_grants 0;
    }

-- SPECIFICATION 3.1: what a refused setup leaves
abbrev pub no_pool : Pool
no_pool = fresh 0 0 0 0

-- SPECIFICATION 3.1, refusal 8: a setup
unfoldable pub setup_of : ℕ → ℕ → ℕ → ℕ → Outcome
setup_of s t c h = choose (numbers_ok s t c) (record { answer = Done s; counted = Nothing; pool = fresh s t c h }) (turned_down 8 no_pool)

-- SPECIFICATION 3.8, the first pool of a run: p is what a setup with some numbers returned, and that setup was done
pub record SetUp (p : Pool) : Type 0 where
  pub size : ℕ
  pub clients : ℕ
  pub cap : ℕ
  pub hand : ℕ
  pub done : (setup_of size clients cap hand).answer ≡ Done size
  pub made : (setup_of size clients cap hand).pool ≡ p

-- ---- begin, step, release

-- the client that a call names
unfoldable pub caller : Call → ℕ
caller (Begin c g) = c
caller (Step c) = c
caller (Release c g) = c

-- SPECIFICATION 3.7, refusals 10 to 13 and 18; 0 for none of them
unfoldable pub refusal_at : Pool → Client → Call → ℕ
refusal_at p k (Begin c g) =
    choose (eqb k.stage 0) (choose (ltb k.held max_held) (choose (eqb (grant_of p c g) none) 0 18) 12) 10
refusal_at p k (Step c) = choose (eqb k.stage 0) 11 0
refusal_at p k (Release c g) = choose (eqb k.stage 0) (choose (eqb (grant_of p c g) none) 13 0) 10

-- SPECIFICATION 3.7, refusal 9, and then those above; 0 for none of them
abbrev pub turned_by : Pool → Call → ℕ
turned_by p call = choose (ltb (caller call) (number_of_clients p)) (refusal_at p (client p (caller call)) call) 9

-- SPECIFICATION 3.7, refusal 8: by which number a call is turned down before its action, 8 first; 0 for none
unfoldable pub refusal : Pool → Call → ℕ
refusal p call = choose (valid p) (turned_by p call) 8

-- SPECIFICATION 3.2: a begin
abbrev pub begin_move : Client → ℕ → Move
begin_move k g = completes g (wanting k g) Same Keep

-- SPECIFICATION 3.4, 4.30: a release. Read: the grant's place, its frame, and the frame's pins. The last grant moves to the place of the one that ends.
unfoldable pub release_move : Client → ℕ → ℕ → ℕ → ℕ → Move
release_move k g i f n =
    choose (eqb n evicted) (stuck k) (completes g (holding k (k.held - 1)) (End i (k.held - 1)) (PutPins f (n - 1)))

-- the action of a call
unfoldable pub move_of : Pool → Call → Move
move_of p (Begin c g) = begin_move (client p c) g
move_of p (Step c) = stage_move p (client p c)
move_of p (Release c g) =
    let i = grant_of p c g in
    let f = grant_frame p c i in
    release_move (client p c) g i f (pins p f)

-- SPECIFICATION 3.7, refusal 8: the pool after an action, if it keeps the ranges
unfoldable pub finished : Pool → ℕ → Move → Outcome
finished p c m =
    let next = apply p c m in
    choose (both (not (eqb (refusal_of m.answer) 8)) (valid next))
    (record { answer = m.answer; counted = m.counted; pool = next })
    (turned_down 8 p)

-- SPECIFICATION 3.7: a call
unfoldable pub call_of : Pool → Call → Outcome
call_of p call =
    let n = refusal p call in
    let done = finished p (caller call) (move_of p call) in
    choose (eqb n 0) done (turned_down n p)

-- ---- lists of calls

-- SPECIFICATION 3.8: the pool that the last of some calls returns
unfoldable pub pool_after : Pool → List Call → Pool
pool_after p [] = p
pool_after p (call ∷ calls) = pool_after (call_of p call).pool calls
