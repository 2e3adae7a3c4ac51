-- The ways of `Ways`, each where the code has tested what it asks. Assumes nothing.
use Rattle.std.proofs.Common.{◌≡◌, ◌≢◌, ◌∙◌, sym, ap, arith, rules, ◌<◌}
use Rattle.pool.specs.Apply.{apply}
use Rattle.pool.specs.Valid.{valid}
use Rattle.pool.specs.Calls.{caller, turned_down, move_of, call_of}
use Rattle.pool.specs.State.{number_of_clients}
use Rattle.pool.specs.declared.Move.{Move}
use Rattle.play.specs.Turn.{is_client}
use Rattle.answers.specs.Numbers.{refusal_number, some_refusal}
use Rattle.checked.specs.Ways.{acts, by_turn, stops, move_breaks, move_made}
use Rattle.checked.proofs.attempt.Goals as goal

pub returns-in_err-turn : goal.returns-in_err-turn
returns-in_err-turn c =
    let p = c.args.pool.now.pool.now in
    let r = c.in_err-turn.field-0.0 in
    let some : refusal_number r ≢ 0 = λ z. omega (arith, some_refusal r, z) in
    let turned : call_of p c.args.call ≡ turned_down (refusal_number r) p =
    by_turn p c.args.call c.args.pool.now.valid (refusal_number r) c.in_err-turn.ensures some in
    search rules

pub returns-then-not-acts : goal.returns-then-not-acts
returns-then-not-acts c =
    let p = c.args.pool.now.pool.now in
    let m = (c.in_ok-turn.ensures).1 in
    stops p c.args.call c.args.pool.now.valid (c.in_ok-turn.ensures).0
    (ap (λ (m : Move). acts m.answer) (sym m) ∙ sym c.acts.ensures ∙ c.if-not-acts.true)

pub put-requires-clause-client : goal.put-requires-clause-client
put-requires-clause-client c =
    let p = c.args.pool.now.pool.now in
    let h : caller c.args.call < number_of_clients p = is_client p c.args.call (c.in_ok-turn.ensures).0 in
    omega (arith, h, c.caller-c.ensures)

pub returns-then-valid : goal.returns-then-valid
returns-then-valid c =
    let p = c.args.pool.now.pool.now in
    let call = c.args.call in
    let m = (c.in_ok-turn.ensures).1 in
    let a = ap (λ (m : Move). acts m.answer) (sym m) ∙ sym c.acts.ensures ∙ c.if-not-acts.false in
    let q : c.put.new.pool ≡ apply p (caller call) (move_of p call) = c.put.ensures ∙ simp (c.caller-c.ensures, m) in
    rw (q, m) (move_made p call c.args.pool.now.valid (c.in_ok-turn.ensures).0 a (ap valid (sym q) ∙ sym c.valid.ensures ∙ c.if-valid.true))

pub returns-else-valid : goal.returns-else-valid
returns-else-valid c =
    let p = c.args.pool.now.pool.now in
    let call = c.args.call in
    let m = (c.in_ok-turn.ensures).1 in
    let a = ap (λ (m : Move). acts m.answer) (sym m) ∙ sym c.acts.ensures ∙ c.if-not-acts.false in
    let q : c.put.new.pool ≡ apply p (caller call) (move_of p call) = c.put.ensures ∙ simp (c.caller-c.ensures, m) in
    move_breaks p call c.args.pool.now.valid (c.in_ok-turn.ensures).0 a (ap valid (sym q) ∙ sym c.valid.ensures ∙ c.if-valid.false)
