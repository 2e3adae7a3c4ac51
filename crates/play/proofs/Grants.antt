-- What turns a call of client k down, once its stage and its grants are known; and a call by its caller. Assumes nothing.
use Rattle.std.proofs.Common.{◌≡◌, ◌∙◌, sym, ap, ℕ, ◌<◌, List, arith, nat_eq, lt-ltb, ne_eqb}
use Rattle.pool.specs.Choose.{choose}
use Rattle.pool.specs.State.{none, of_client, client, pins, grant_frame}
use Rattle.pool.specs.Grants.{grant_of}
use Rattle.pool.specs.Calls.{caller, refusal_at, turned_by, begin_move, release_move, move_of}
use Rattle.pool.specs.Stages.{stage_move}
use Rattle.pool.specs.declared.Call.{Call}
use Rattle.pool.specs.declared.Call.TheVariants.{Begin, Step, Release}
use Rattle.pool.specs.declared.Pool.{Pool}
use Rattle.pool.specs.declared.Client.{Client}
use Rattle.books.specs.Lists.{grant_in, grant_in_lem}
use Rattle.play.specs.Caller.{Caller}
use Rattle.play.specs.Decides.{past_9}

module _ (p : Pool) (k : Client) (c g : ℕ) (e : client p c ≡ k) where
  -- the place of its grant of the page
  pub its_grant : (n : ℕ) → n ≡ grant_in p.grant_pages c k.held g → grant_of p c g ≡ n
  its_grant n h = sym (grant_in_lem p c g) ∙ ap (λ (x : Client). grant_in p.grant_pages c x.held g) e ∙ sym h

  pub begun : k.stage ≡ 0 → k.held < 8 → (n : ℕ) → n ≡ grant_in p.grant_pages c k.held g → refusal_at p k (Begin c g) ≡ choose (nat_eq n none) 0 18
  unfolding refusal_at choose
  begun s h n i = rw (its_grant n i, s, lt-ltb k.held 8 h)

  pub released : k.stage ≡ 0 → (n : ℕ) → n ≡ grant_in p.grant_pages c k.held g → refusal_at p k (Release c g) ≡ choose (nat_eq n none) 13 0
  unfolding refusal_at choose
  released s n i = rw (its_grant n i, s)

  pub stepped : (k.stage ≡ 0 → ⊥) → refusal_at p k (Step c) ≡ 0
  unfolding refusal_at choose
  stepped s = rw (ne_eqb k.stage 0 s)

  pub release_is : (i f n : ℕ) → i ≡ grant_in p.grant_pages c k.held g → f ≡ of_client p.grant_frames c k.held none i → n ≡ pins p f →
      release_move k g i f n ≡ move_of p (Release c g)
  unfolding move_of grant_frame
  release_is i f n hi hf hn = rw (its_grant i hi, e, ← hf, ← hn)

  pub begin_is : begin_move k g ≡ move_of p (Begin c g)
  unfolding move_of
  begin_is = ap (λ (x : Client). begin_move x g) (sym e)

  pub step_is : stage_move p k ≡ move_of p (Step c)
  unfolding move_of
  step_is = ap (stage_move p) (sym e)

-- ---- a call, by its caller

pub of_step : {call : Call} {c n : ℕ} → call ≡ Step c → n ≡ caller call → call ≡ Step n
unfolding caller
of_step is e = is ∙ ap Step (sym (e ∙ ap caller is))

module _ {call : Call} {c g n : ℕ} where
  pub of_begin : call ≡ Begin c g → n ≡ caller call → call ≡ Begin n g
  unfolding caller
  of_begin is e = is ∙ ap (λ (c : ℕ). Begin c g) (sym (e ∙ ap caller is))

  pub of_release : call ≡ Release c g → n ≡ caller call → call ≡ Release n g
  unfolding caller
  of_release is e = is ∙ ap (λ (c : ℕ). Release c g) (sym (e ∙ ap caller is))

-- a call of a client that there is is not turned down by 9
pub not_by_9 : (p : Pool) (call : Call) {n : ℕ} {k : Client} {pages : List ℕ} → Caller p call n k pages → caller call < n →
    turned_by p call ≡ refusal_at p k call
not_by_9 p call a h = past_9 p call _ (omega (arith, a.count, h)) (a.client h)
