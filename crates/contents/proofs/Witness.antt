-- The claims are not empty: one list of calls, from an accepted setup, in which a byte is written and read, goes to the store when its page loses its
-- frame, comes back with the page and is read again; a byte is read that nobody wrote; and calls are refused. Computed. Assumes nothing.
use mathlib.Core.Path.{◌≡◌, refl}
use mathlib.Core.List.{List, [], ◌∷◌, ◌++◌, map}
use Prim.Native.Nat.{ℕ}
use lib.ListN.{replicate}
use Rattle.pool.specs.Choose.{choose, both, either, scan, how_many}
use Rattle.pool.specs.Answers.{refusal_of}
use Rattle.pool.specs.State.{within, slot, page, pins, count, entry_page, entry_frame, client, of_client, grant_page, grant_frame}
use Rattle.pool.specs.Table.{maps, entry_of, lookup, unused_entry}
use Rattle.pool.specs.Grants.{grant_of, holds, held}
use Rattle.pool.specs.Frames.{names, referenced, first_tried, free_frame}
use Rattle.pool.specs.Moves.{granted}
use Rattle.pool.specs.Apply.{stored, slots_after, pages_after, pins_after, counts_after, entry_pages_after, entry_frames_after, hand_after, free_after, last_after}
use Rattle.pool.specs.Apply.{grant_pages_after, grant_frames_after, apply}
use Rattle.pool.specs.Stages.{around, advanced, growth, raised, first_count, busy_visit, evict_own, stage1, stage2, stage3, stage4, stage5, stage6, stage7, stage8, stage9}
use Rattle.pool.specs.Stages.{stage10, stage11, stage12, stage13, stage14, stage15, stage16, stage17, stage18, stage19, stage20, stage21, stage22, stage23}
use Rattle.pool.specs.Stages.{stage_move}
use Rattle.pool.specs.Valid.{numbers_ok, frame_ok, used_ok, state_ok, entry_ok, grant_ok, counts_ok, names_ok, client_ok, valid}
use Rattle.pool.specs.Calls.{caller, refusal_at, refusal, release_move, move_of, finished, call_of}
use Rattle.pool.specs.Cases.{admit, swap}
use Rattle.pool.specs.declared.Call.TheVariants.{Begin, Release}
use Rattle.pool.specs.declared.Answer.TheVariants.{Refused}
use Rattle.guarantee.specs.Runs.{At}
use Rattle.memory.specs.Memory.{is_frame, byte, mark, is_filled, is_changed, store_byte, copied, unmarked, moved, memory_after, written_back, store_after}
use Rattle.memory.specs.Memory.{filled_from, written}
use Rattle.memory.specs.Requests.{Asks, ReadByte, WriteByte, State, length_ok, setup_on, inside, entry_inside, client_inside, pages_inside, unmarked_at, marks_ok}
use Rattle.memory.specs.Requests.{bytes_ok, lent, store_ok, first_of, in_order, outside_at, byte_refusal, turned_away_by, refusal_on, refused, write_of, action_on, call_on}
use Rattle.memory.specs.Happenings.{Happening, happenings, SetUpOn}
use Rattle.contents.specs.Contents.{Reads, Writes}

unfoldable pub computing : ℕ
unfolding choose both either scan how_many refusal_of within slot page pins count entry_page entry_frame client of_client grant_page grant_frame
    maps entry_of lookup unused_entry grant_of holds held names referenced first_tried free_frame granted
    stored slots_after pages_after pins_after counts_after entry_pages_after entry_frames_after hand_after free_after last_after grant_pages_after
    grant_frames_after apply
    around advanced growth raised first_count busy_visit evict_own stage1 stage2 stage3 stage4 stage5 stage6 stage7 stage8 stage9 stage10 stage11 stage12
    stage13 stage14 stage15 stage16 stage17 stage18 stage19 stage20 stage21 stage22 stage23 stage_move
    numbers_ok frame_ok used_ok state_ok entry_ok grant_ok counts_ok names_ok client_ok valid
    caller refusal_at refusal release_move move_of finished call_of
    is_frame byte mark is_filled is_changed store_byte copied unmarked moved memory_after written_back store_after filled_from written
    length_ok setup_on inside entry_inside client_inside pages_inside unmarked_at marks_ok bytes_ok lent store_ok first_of in_order outside_at byte_refusal turned_away_by
    refusal_on refused write_of action_on call_on happenings At
computing = 0

-- one slot, one client, count cap 1, and a store of five pages that has 7 throughout
abbrev first : State
first = (setup_on 1 1 1 0 (replicate 320 7)).state

pub set_up : SetUpOn first
unfolding computing
set_up = record { size = 1; clients = 1; cap = 1; hand = 0; done = refl; made = refl }

-- index page 0 is granted, 9 is written at offset 3 and read; page 4, which is none, takes its frame's slot; page 0 comes back and is read
abbrev run : List Happening
run =
    happenings first
    (map Asks (admit 0) ++ WriteByte 0 0 3 9 ∷ ReadByte 0 0 3 ∷ ReadByte 0 0 64 ∷ map Asks (Release 0 0 ∷ swap 4 ++ Release 0 4 ∷ swap 0) ++
    ReadByte 0 0 3 ∷ ReadByte 0 0 2 ∷ Asks (Begin 0 5) ∷ [])

pub writes_9 : At (Writes 0 3 9) run 9
unfolding computing
writes_9 = (0, refl, refl)

pub reads_9 : At (Reads 0 3 9) run 10
unfolding computing
reads_9 = (0, refl, refl)

pub refused_17 : At (λ e. e.answer ≡ Refused 17) run 11
unfolding computing
refused_17 = refl

-- the store has 7 before the page loses its frame, and 9 after it
pub not_written_back : At (λ e. store_byte e.next.store 0 3 ≡ 7) run 12
unfolding computing
not_written_back = refl

pub written_back_lem : At (λ e. store_byte e.next.store 0 3 ≡ 9) run 26
unfolding computing
written_back_lem = refl

pub reads_9_again : At (Reads 0 3 9) run 40
unfolding computing
reads_9_again = (0, refl, refl)

pub reads_7 : At (Reads 0 2 7) run 41
unfolding computing
reads_7 = (0, refl, refl)

pub refused_16 : At (λ e. e.answer ≡ Refused 16) run 42
unfolding computing
refused_16 = refl
