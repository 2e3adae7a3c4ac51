-- By which refusals (SPECIFICATION, section 6) each call of a pool that has bytes can be refused. Assumes nothing.
use Rattle.std.specs.Prelude.{List, ℕ}
use Rattle.std.proofs.Math.Path.{refl}
use Rattle.pool.specs.Answers.{refusal_of}
use Rattle.pool.specs.State.{client}
use Rattle.pool.specs.Calls.{refusal_at, refusal, release_move, move_of}
use Rattle.pool.specs.declared.Call.TheVariants.{Begin, Step, Release}
use Rattle.pool.specs.declared.Client.{Client}
use Rattle.pool.specs.declared.Move.{Move}
use Rattle.pool.specs.declared.Pool.{Pool}
use Rattle.laws.specs.Checks.{at_begin, at_step, at_release}
use Rattle.laws.specs.StageAnswers.{stage_answer}
use Rattle.answers.specs.Among.{Among}
use Rattle.answers.specs.Refusals.{by_setup, by_begin_on, by_byte, by_step, by_release}
use Rattle.calls.specs.Refusals.{pick, turned_refusals, call_refusals, of_answer}
use Rattle.memory.specs.Orders.{first_either, order_either}
use Rattle.memory.specs.Requests.{Request, Asks, ReadByte, WriteByte, State, Result, setup_on, first_of, outside_at, byte_refusal, turned_away_by, refusal_on, action_on}
use Rattle.memory.specs.Requests.{call_on}

pub setup_refusals : (s t c h : ℕ) (store : List ℕ) → Among by_setup (refusal_of (setup_on s t c h store).answer)
unfolding setup_on refusal_of
setup_refusals s t c h store = pick (λ (r : Result). Among by_setup (refusal_of r.answer)) _ refl refl

-- what turns a call down, and what its action is refused by
module _ (ns : List ℕ) (x : State) (r : Request) (eight : Among ns 8) where
  whole : Among ns (turned_away_by x r) → Among ns (refusal_of (action_on x r).answer) → Among ns (refusal_of (call_on x r).answer)
  unfolding call_on refusal_on refusal_of
  whole before after = pick (λ (o : Result). Among ns (refusal_of o.answer)) _ after (pick (Among ns) _ before eight)

module _ (x : State) where
  abbrev p : Pool
  p = x.pool

  module _ (c g : ℕ) where
    pub begin_refusals : Among by_begin_on (refusal_of (call_on x (Asks (Begin c g))).answer)
    unfolding turned_away_by outside_at action_on move_of refusal_of
    begin_refusals =
        let turned : ((k : Client) → Among by_begin_on (refusal_at p k (Begin c g))) = λ k. at_begin (Among by_begin_on) p k c g refl refl refl refl in
        whole by_begin_on x (Asks (Begin c g)) refl
        (order_either _ _ (Among by_begin_on) (turned_refusals by_begin_on p (Begin c g) refl refl turned) (pick (Among by_begin_on) _ refl refl))
        (call_refusals by_begin_on p (Begin c g) refl refl turned refl)

    pub release_refusals : Among by_release (refusal_of (call_on x (Asks (Release c g))).answer)
    unfolding turned_away_by outside_at action_on move_of release_move refusal_of
    release_refusals =
        let turned : ((k : Client) → Among by_release (refusal_at p k (Release c g))) = λ k. at_release (Among by_release) p k c g refl refl refl in
        whole by_release x (Asks (Release c g)) refl
        (order_either _ _ (Among by_release) (turned_refusals by_release p (Release c g) refl refl turned) refl)
        (call_refusals by_release p (Release c g) refl refl turned (pick (λ (m : Move). Among by_release (refusal_of m.answer)) _ refl refl))

    -- what turns a read or write down
    byte_turned : (o : ℕ) → Among by_byte (first_of (refusal p (Release c g)) (byte_refusal x.memory.pages g o))
    unfolding byte_refusal
    byte_turned o =
        first_either _ _ (Among by_byte) (turned_refusals by_byte p (Release c g) refl refl (λ k. at_release (Among by_byte) p k c g refl refl refl))
        (pick (Among by_byte) _ (pick (Among by_byte) _ refl refl) refl)

    pub read_refusals : (o : ℕ) → Among by_byte (refusal_of (call_on x (ReadByte c g o)).answer)
    unfolding turned_away_by action_on refusal_of
    read_refusals o = whole by_byte x (ReadByte c g o) refl (byte_turned o) refl

    pub write_refusals : (o v : ℕ) → Among by_byte (refusal_of (call_on x (WriteByte c g o v)).answer)
    unfolding turned_away_by action_on refusal_of
    write_refusals o v = whole by_byte x (WriteByte c g o v) refl (byte_turned o) refl

  pub step_refusals : (c : ℕ) → Among by_step (refusal_of (call_on x (Asks (Step c))).answer)
  unfolding turned_away_by outside_at action_on move_of
  step_refusals c =
      let turned : ((k : Client) → Among by_step (refusal_at p k (Step c))) = λ k. at_step (Among by_step) p k c refl refl in
      whole by_step x (Asks (Step c)) refl (order_either _ _ (Among by_step) (turned_refusals by_step p (Step c) refl refl turned) refl)
      (call_refusals by_step p (Step c) refl refl turned (of_answer (stage_answer p (client p c))))
