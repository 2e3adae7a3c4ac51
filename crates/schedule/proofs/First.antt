-- The first record: what ends the run before it, at it, and what is left of the run where it sets a pool up. Assumes nothing.
use mathlib.Core.Path.{◌≡◌, refl, sym, ap, ◌∙◌}
use mathlib.Core.Bool.{true, false}
use mathlib.Core.List.{List}
use Prim.Native.Nat.{ℕ, suc, ◌+◌, ◌-◌, ◌≤◌, ◌<◌}
use native.Mathlib.Numerals.{add-one}
use native.Mathlib.Omega.{arith}
use borrow.Author.Tests.{lt-ltb, le-ltb}
use lib.Dec.{eqb, ltb}
use lib.ListN.{length, drop}
use Rattle.pool.specs.Choose.{choose, both}
use Rattle.pool.specs.Answers.{refusal_of, code_of, value_of}
use Rattle.pool.specs.Calls.{turned_down, no_pool, setup_of, SetUp}
use Rattle.pool.specs.Schedule.{ends, read, length_of, performed, ends_run, named_by, line, line_for, run_from, ran}
use Rattle.pool.specs.declared.Answer.{Answer}
use Rattle.pool.specs.declared.Answer.TheVariants.{Done, Refused}
use Rattle.pool.specs.declared.Outcome.{Outcome}
use Rattle.pool.specs.declared.Pool.{Pool}
use Rattle.pool.specs.declared.Reading.TheVariants.{Setup, Unreadable}
use Rattle.laws.specs.Choices.{by_test, chosen, passed}
use Rattle.laws.specs.Setups.{set_up}
use Rattle.schedule.specs.Whole.{read_fits, refused_ends, unread_ends}
use Rattle.schedule.specs.Rest.{answer_line, stopped, rest}
use Rattle.schedule.proofs.Runs.{before, stop_line, no_space, stops, goes_on}

-- ---- a setup's answer

module _ (size clients cap hand : ℕ) where
  refuses : ((n : ℕ) → (setup_of size clients cap hand).answer ≡ Done n → ⊥) → (setup_of size clients cap hand).answer ≡ Refused 8
  unfolding setup_of
  refuses =
      by_test (λ (o : Outcome). ((n : ℕ) → o.answer ≡ Done n → ⊥) → o.answer ≡ Refused 8) (λ _ never. absurd (never _ refl)) (λ _ _. refl)

  module _ {n : ℕ} (e : (setup_of size clients cap hand).answer ≡ Done n) where
    accepts : SetUp (setup_of size clients cap hand).pool
    unfolding setup_of
    accepts = set_up size clients cap hand (done e)
      where
        done : (setup_of size clients cap hand).answer ≡ Done n → (setup_of size clients cap hand).answer ≡ Done size
        done =
            by_test (λ (o : Outcome). o.answer ≡ Done n → o.answer ≡ Done size) (λ _ _. refl)
            (λ _ e. let z : ◌≡◌ {A = ℕ} 0 1 = cc in absurd (omega arith))

    is_accepted : refusal_of (setup_of size clients cap hand).answer ≡ 0
    unfolding refusal_of
    is_accepted = ap refusal_of e

-- an answer that is no refusal does not end the run
no_refusal : (x : Answer) → refusal_of x ≡ 0 → ends_run x ≡ false
unfolding ends_run both choose
no_refusal x e = rw e

setup_line : (size clients cap hand : ℕ) (x : Answer) → ends_run x ≡ false → line_for 0 (Setup size clients cap hand) x ≡ line 0 0 (code_of x) (value_of x)
unfolding line_for named_by choose
setup_line size clients cap hand x e = rw e

-- ---- the run

module _ (s : List ℕ) (space : ℕ) where
  pub too_long : 16384 < length s → ran s space ≡ ends 0 1
  unfolding ran
  too_long long = chosen _ _ _ (lt-ltb _ _ long)

  module _ (short : length s ≤ 16384) where
    started : ran s space ≡ run_from (suc (length s)) no_pool 0 s space
    unfolding ran
    started = passed _ _ _ (le-ltb _ _ short) ∙ ap (λ (f : ℕ). run_from f no_pool 0 s space) (add-one (length s))

    begins : both (ltb 0 0) (eqb (length s) 0) ≡ false
    unfolding both choose
    begins = refl

    pub no_room : space < 24 → ran s space ≡ ends 0 2
    no_room few = started ∙ no_space (length s) no_pool 0 s space begins few

    module _ (room : 24 ≤ space) where
      pub unread_first : (refusal : ℕ) → read true s ≡ Unreadable refusal → ran s space ≡ stopped 0 refusal
      unfolding performed
      unread_first refusal e =
          let last = unread_ends true s refusal e in
          started ∙ stops (length s) no_pool 0 s space begins (Unreadable refusal) (turned_down refusal no_pool) room e refl last
          ∙ stop_line 0 refusal (Unreadable refusal) last

      module _ (size clients cap hand : ℕ) (e : read true s ≡ Setup size clients cap hand) where
        pub setup_whole : 10 ≤ length s
        unfolding length_of
        setup_whole = rw e at (read_fits true s)

        -- what a setup made
        module _ {made : Outcome} (is_made : made ≡ setup_of size clients cap hand) where
          made_answer : {a : Answer} → made.answer ≡ a → (setup_of size clients cap hand).answer ≡ a
          made_answer e = sym (ap (λ (o : Outcome). o.answer) is_made) ∙ e

          pub refused_first : ((n : ℕ) → made.answer ≡ Done n → ⊥) → ran s space ≡ stopped 0 8
          unfolding performed
          refused_first never =
              let r = refuses size clients cap hand (λ n e. never n (ap (λ (o : Outcome). o.answer) is_made ∙ e)) in
              let last : ends_run (Refused 8) ≡ true = refused_ends 8 (omega arith) (omega arith) in
              started
              ∙ stops (length s) no_pool 0 s space begins (Setup size clients cap hand) (setup_of size clients cap hand) room e refl (ap ends_run r ∙ last)
              ∙ ap (λ (x : Answer). record { records = 0; refusal = refusal_of x; lines = line_for 0 (Setup size clients cap hand) x }) r
              ∙ stop_line 0 8 (Setup size clients cap hand) last

          module _ {n : ℕ} (done : made.answer ≡ Done n) where
            pub set_up_first : SetUp made.pool
            set_up_first = rw is_made (accepts size clients cap hand (made_answer done))

            pub accepted_first : let w = answer_line 0 0 made.answer in
                ran s space ≡ before w (run_from (length s) made.pool 1 (drop 10 s) (space - length w))
            unfolding performed length_of
            accepted_first =
                let goes = no_refusal (setup_of size clients cap hand).answer (is_accepted size clients cap hand (made_answer done)) in
                rw is_made
                (started
                ∙ goes_on (length s) no_pool 0 s space begins (Setup size clients cap hand) (setup_of size clients cap hand) room e refl goes
                ∙ rw (setup_line size clients cap hand (setup_of size clients cap hand).answer goes))

-- the rest of the run, as it is told from the first call on
pub from_first : (s : List ℕ) (p : Pool) {left space : ℕ} → left ≡ space → rest s p 1 10 left ≡ run_from (length s) p 1 (drop 10 s) space
from_first s p e = let fuel : length s + 1 - 1 ≡ length s = omega arith in rw (fuel, e)
