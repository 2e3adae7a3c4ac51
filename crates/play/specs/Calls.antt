-- A call of any pool, by its turn: 8 where the pool does not pass check 8, else the turn, with check 8 after it. A call that is turned down by 9 to
-- 13 puts a client's record back as it was and changes nothing, so that check 8 after it finds what it found before. Assumes nothing.
use Rattle.std.specs.Prelude.{◌≡◌, refl, ◌≢◌, ◌⊎◌, true, false, not, ℕ, ◌≤◌, ◌<◌}
use Rattle.std.proofs.Common.{sym, ◌∙◌, inl, inr, arith, eq-eqb, ne_eqb}
use Rattle.std.proofs.Math.Path.{ap}
use Rattle.std.proofs.Math.Decide.{ℕ_discrete}
use Rattle.std.proofs.lemmas.List.{set-get_or}
use Rattle.pool.specs.Answers.{refusal_of}
use Rattle.pool.specs.State.{number_of_clients, client}
use Rattle.pool.specs.Moves.{still}
use Rattle.pool.specs.Apply.{apply, slots_after, pages_after, pins_after, counts_after, entry_pages_after, entry_frames_after}
use Rattle.pool.specs.Apply.{hand_after, free_after, last_after, grant_pages_after, grant_frames_after}
use Rattle.pool.specs.Valid.{valid}
use Rattle.pool.specs.Calls.{turned_down, caller, refusal_at, turned_by, refusal, move_of, finished, call_of}
use Rattle.pool.specs.declared.Call.{Call}
use Rattle.pool.specs.declared.Call.TheVariants.{Begin, Step, Release}
use Rattle.pool.specs.declared.Client.{Client}
use Rattle.pool.specs.declared.Pool.{Pool}
use Rattle.laws.specs.Choices.{chosen, passed}
use Rattle.laws.specs.Checks.{by_turn, at_begin, at_step, at_release}
use Rattle.laws.specs.Elements.{client_of_pool}
use Rattle.laws.specs.Scans.{both_yes}
use Rattle.play.specs.Playable.{some_client}
use Rattle.play.specs.Turn.{client_or_first, its_number, number_in, is_client, turn, moves, stays}

-- ---- what turns a call down after check 8 is above 8

abbrev pub NoneOrHigh : ℕ → Type 0
NoneOrHigh n = (n ≡ 0) ⊎ (9 ≤ n)

high_at : (p : Pool) (k : Client) (call : Call) → NoneOrHigh (refusal_at p k call)
high_at p k (Begin c g) = at_begin NoneOrHigh p k c g (inl refl) (inr (omega arith)) (inr (omega arith)) (inr (omega arith))
high_at p k (Step c) = at_step NoneOrHigh p k c (inl refl) (inr (omega arith))
high_at p k (Release c g) = at_release NoneOrHigh p k c g (inl refl) (inr (omega arith)) (inr (omega arith))

pub none_or_high : (p : Pool) (call : Call) → NoneOrHigh (turned_by p call)
none_or_high p call = by_turn NoneOrHigh p call (inr (omega arith)) (high_at p _ call)

-- ---- a client's record put back as it was, and nothing else

pub unchanged : (p : Pool) (c n : ℕ) → c < number_of_clients p → apply p c (still (client p c) n) ≡ p
unfolding apply slots_after pages_after pins_after counts_after entry_pages_after entry_frames_after hand_after free_after last_after grant_pages_after grant_frames_after
unchanged p c n h = rw (client_of_pool p c h, set-get_or)

kept : (p : Pool) (c n : ℕ) → valid p ≡ true → c < number_of_clients p → 9 ≤ n → finished p c (still (client p c) n) ≡ turned_down n p
unfolding finished refusal_of
kept p c n v h high =
    let same = unchanged p c n h in
    chosen _ _ _ (both_yes _ _ (ap not (ne_eqb n 8 (λ e. omega arith))) (ap valid same ∙ v)) ∙ ap (turned_down n) same

-- ---- the call

module _ (p : Pool) (call : Call) where
  pub not_valid : valid p ≡ false → call_of p call ≡ turned_down 8 p
  unfolding call_of refusal
  not_valid v = let eight = passed (valid p) (turned_by p call) 8 v in simp eight (passed _ _ _ (ne_eqb 8 0 (λ e. omega arith)))

  module _ (v : valid p ≡ true) where
    by_checks : refusal p call ≡ turned_by p call
    unfolding refusal
    by_checks = chosen _ _ _ v

    pub turned_down_by : turned_by p call ≢ 0 → call_of p call ≡ turned_down (turned_by p call) p
    unfolding call_of
    turned_down_by z = passed _ _ _ (ne_eqb _ _ (λ e. z (sym by_checks ∙ e))) ∙ ap (λ (n : ℕ). turned_down n p) by_checks

    pub goes_on : turned_by p call ≡ 0 → call_of p call ≡ finished p (caller call) (move_of p call)
    unfolding call_of
    goes_on z = chosen _ _ _ (eq-eqb _ _ (by_checks ∙ z))

    -- THE LAW, of every pool that passes check 8
    pub as_turn : call_of p call ≡ finished p (client_or_first (number_of_clients p) (caller call)) (turn p call)
    as_turn = go (ℕ_discrete (turned_by p call) 0) (none_or_high p call)
      where
        go : Dec (turned_by p call ≡ 0) → NoneOrHigh (turned_by p call) →
            call_of p call ≡ finished p (client_or_first (number_of_clients p) (caller call)) (turn p call)
        go (yes z) _ = simp (moves p call z, its_number _ _ (is_client p call z)) (goes_on z)
        go (no z) (inl e) = absurd (z e)
        go (no z) (inr high) =
            let below = number_in (number_of_clients p) (caller call) (some_client p v) in
            simp (stays p call z) (turned_down_by z ∙ sym (kept p _ (turned_by p call) v below high))
