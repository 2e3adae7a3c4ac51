-- The claims are not empty: in one run a grant is told and released, an eviction at 14 is taken out of its slot, and a request takes effect and is
-- granted; in another a request alone is refused by 15; in a third a sweep lowers the count of an index page three times and evicts it. All are short runs from an
-- accepted setup of one slot and one client, and are computed. Assumes nothing.
use mathlib.Core.Path.{◌≡◌, refl, sym, ap, subst}
use mathlib.Core.Logic.{◌⊎◌, inl, inr}
use mathlib.Core.List.{List, ◌∷◌, ◌++◌, []}
use Prim.Native.Nat.{ℕ, zero, suc, ◌-◌, ◌<◌}
use native.Mathlib.Nat.{not-suc-le-zero, le_of_suc-le-suc}
use native.Mathlib.Omega.{arith}
use Rattle.pool.specs.Choose.{choose, both, either, scan, how_many}
use Rattle.pool.specs.Answers.{refusal_of}
use Rattle.pool.specs.State.{within, slot, page, pins, count, entry_page, entry_frame, client, of_client, grant_page, grant_frame}
use Rattle.pool.specs.Table.{maps, entry_of, lookup, unused_entry}
use Rattle.pool.specs.Grants.{grant_of, holds, held}
use Rattle.pool.specs.Frames.{names, referenced, first_tried, free_frame}
use Rattle.pool.specs.Moves.{granted}
use Rattle.pool.specs.Apply.{stored, slots_after, pages_after, pins_after, counts_after, entry_pages_after, entry_frames_after, hand_after, free_after, last_after}
use Rattle.pool.specs.Apply.{grant_pages_after, grant_frames_after, apply}
use Rattle.pool.specs.Stages.{around, advanced, growth, raised, first_count, busy_visit, evict_own, stage1, stage2, stage3, stage4, stage5, stage6, stage7, stage8, stage9}
use Rattle.pool.specs.Stages.{stage10, stage11, stage12, stage13, stage14, stage15, stage16, stage17, stage18, stage19, stage20, stage21, stage22, stage23}
use Rattle.pool.specs.Stages.{stage_move}
use Rattle.pool.specs.Valid.{numbers_ok, frame_ok, used_ok, state_ok, entry_ok, grant_ok, counts_ok, names_ok, client_ok, valid}
use Rattle.pool.specs.Calls.{setup_of, SetUp, caller, refusal_at, refusal, release_move, move_of, finished, call_of, pool_after}
use Rattle.pool.specs.Cases.{steps, admit, admit_and_release}
use Rattle.pool.specs.declared.Pool.{Pool}
use Rattle.pool.specs.declared.Client.{Client}
use Rattle.pool.specs.declared.Call.TheVariants.{Begin, Step}
use Rattle.laws.specs.Setups.{set_up}
use Rattle.invariant.proofs.After.{client_past}
use Rattle.guarantee.specs.Runs.{Event, events, At, along, Begins, GrantedTo, Releases, TurnedDown}
use Rattle.guarantee.specs.Claims.{Evicts, TakenOut, takes_effect, TakesEffect, Alone, TakesWith, Lowers, SweepsOut}
use Rattle.guarantee.proofs.TurnedDown.{other_call}

-- all that a run computes
unfoldable pub computing : ℕ
unfolding choose both either scan how_many refusal_of within slot page pins count entry_page entry_frame client of_client grant_page grant_frame
    maps entry_of lookup unused_entry grant_of holds held names referenced first_tried free_frame granted
    stored slots_after pages_after pins_after counts_after entry_pages_after entry_frames_after hand_after free_after last_after grant_pages_after
    grant_frames_after apply
    around advanced growth raised first_count busy_visit evict_own stage1 stage2 stage3 stage4 stage5 stage6 stage7 stage8 stage9 stage10 stage11 stage12
    stage13 stage14 stage15 stage16 stage17 stage18 stage19 stage20 stage21 stage22 stage23 stage_move
    numbers_ok frame_ok used_ok state_ok entry_ok grant_ok counts_ok names_ok client_ok valid
    setup_of caller refusal_at refusal release_move move_of finished call_of pool_after events At takes_effect
computing = 0

abbrev pub first : Pool
first = (setup_of 1 1 3 0).pool

pub accepted : SetUp first
unfolding computing
accepted = set_up 1 1 3 0 refl

-- page 9 is admitted and released, and index page 3 takes its slot: event 18 is the stage 14, event 19 the stage 15, event 22 the answer
abbrev pub swap_run : List Event
swap_run = events first (admit_and_release 9 ++ Begin 0 3 ∷ steps 0 12)

-- page 9 is granted at event 8 and released at event 9
pub told : At (GrantedTo 0) swap_run 8
unfolding computing
told = (0, refl, refl)

pub ended : At (Releases 0) swap_run 9
unfolding computing
ended = (9, refl, refl)

zero_one : ◌≡◌ {A = ℕ} 0 1 → ⊥
zero_one e = omega arith

pub eviction : At (Evicts 0) swap_run 18
unfolding computing
eviction = record { client_of = 0; stage = 14; step_of = (refl, refl); one_of = tt; becomes_evicted = ((λ z. zero_one (sym z)), refl) }

pub taken_out : TakenOut (along swap_run) 0 18 0 19
unfolding computing
taken_out =
    record {
      later = omega arith;
      replaces = record { client_of = 0; step_of = (refl, refl); named = refl; names_no_more = λ z. zero_one (sym z) };
      not_anew = λ m a b _. let none : ⊥ = omega arith in none;
    }

-- the request that is begun at event 10 takes effect and is granted at event 22
pub takes_effect_lem : At (TakesEffect 0) swap_run 22
unfolding computing
takes_effect_lem = (refl, tt)

pub grants_frame : At (GrantedTo 0) swap_run 22
unfolding computing
grants_frame = (1, refl, refl)

-- index page 3 is admitted and released, and page 5 takes its slot: event 2 is the stage 4, and its count is lowered at events 17, 20 and 23, before the
-- stage 14 at event 24
abbrev pub index_run : List Event
index_run = events first (admit_and_release 3 ++ Begin 0 5 ∷ steps 0 14)

pub taken_with : At (TakesWith 0 3) index_run 2
unfolding computing
taken_with = (record { client_of = 0; step_of = (refl, refl); takes = refl }, refl)

pub lowered : At (Lowers 0) index_run 17 × At (Lowers 0) index_run 20 × At (Lowers 0) index_run 23
unfolding computing
lowered = ((0, (refl, refl), omega arith), (0, (refl, refl), omega arith), (0, (refl, refl), omega arith))

pub swept_out : At (SweepsOut 0) index_run 24
unfolding computing
swept_out = (0, (refl, refl), ((λ z. zero_one (sym z)), refl))

-- page 9 is held in the one slot: the request for page 5 that is begun at event 9 is refused by 15 at event 15
abbrev pub refused_run : List Event
refused_run = events first (admit 9 ++ Begin 0 5 ∷ steps 0 6)

module _ (c : ℕ) where
  -- among the client's own steps there is no begin
  no_begin : (p : Pool) (n j : ℕ) → At (Begins c) (events p (steps c n)) j → ⊥
  unfolding events At
  no_begin p zero j b = b
  no_begin p (suc n) zero b = other_call b.1 tt
  no_begin p (suc n) (suc j) b = no_begin (call_of p (Step c)).pool n j b

  own_calls : (p : Pool) (n j : ℕ) → j < n → At (λ e. (caller e.asked ≡ c) ⊎ TurnedDown e) (events p (steps c n)) j
  unfolding events At caller
  own_calls p zero j h = absurd (not-suc-le-zero h)
  own_calls p (suc n) zero h = inl refl
  own_calls p (suc n) (suc j) h = own_calls (call_of p (Step c)).pool n j (le_of_suc-le-suc h)

abbrev ten : ℕ → ℕ
ten j = suc (suc (suc (suc (suc (suc (suc (suc (suc (suc j)))))))))

-- the pool after the begin of event 9
abbrev begun_pool : Pool
begun_pool = pool_after first (admit 9 ++ Begin 0 5 ∷ [])

pub alone_holds : Alone (along refused_run) (pool_after first (admit 9)) 0 5 9 15
unfolding computing
alone_holds =
    record {
      begun = (refl, refl, refl);
      others_rest = λ d z. ap (λ (k : Client). k.stage) (client_past (pool_after first (admit 9)) d (omega arith));
      later = omega arith;
      answered = (refl, inr refl);
      same_request = λ m a b. subst (λ (i : ℕ). At (Begins 0) refused_run i → ⊥) (ten_is m a) (no_begin 0 begun_pool 6 (m - 10));
      no_others = λ m a b _. subst (At (λ e. (caller e.asked ≡ 0) ⊎ TurnedDown e) refused_run) (ten_is m a) (own_calls 0 begun_pool 6 (m - 10) (omega arith));
    }
  where
    ten_is : (m : ℕ) → 9 < m → ten (m - 10) ≡ m
    ten_is m a = omega arith
