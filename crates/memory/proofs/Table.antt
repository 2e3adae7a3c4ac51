-- The table of cases is what the definitions compute. Assumes nothing.
use mathlib.Core.Path.{refl}
use Rattle.pool.specs.Choose.{choose, both, either, scan, how_many}
use Rattle.pool.specs.Answers.{refusal_of}
use Rattle.pool.specs.State.{within, slot, page, pins, count, entry_page, entry_frame, client, of_client, grant_page, grant_frame}
use Rattle.pool.specs.Table.{maps, entry_of, lookup, unused_entry}
use Rattle.pool.specs.Grants.{grant_of, holds, held}
use Rattle.pool.specs.Frames.{names, referenced, first_tried, free_frame}
use Rattle.pool.specs.Moves.{granted}
use Rattle.pool.specs.Apply.{stored, slots_after, pages_after, pins_after, counts_after, entry_pages_after, entry_frames_after, hand_after}
use Rattle.pool.specs.Apply.{free_after, last_after, grant_pages_after, grant_frames_after, apply}
use Rattle.pool.specs.Stages.{around, advanced, growth, raised, first_count, busy_visit, evict_own, stage1, stage2, stage3, stage4, stage5, stage6}
use Rattle.pool.specs.Stages.{stage7, stage8, stage9, stage10, stage11, stage12, stage13, stage14, stage15, stage16, stage17}
use Rattle.pool.specs.Stages.{stage18, stage19, stage20, stage21, stage22, stage23, stage_move}
use Rattle.pool.specs.Valid.{numbers_ok, frame_ok, used_ok, state_ok, entry_ok, grant_ok, counts_ok, names_ok, client_ok, valid}
use Rattle.pool.specs.Calls.{caller, refusal_at, refusal, release_move, move_of, finished, call_of}
use Rattle.pool.specs.Holdings.{insert, sorted, pages_held, rows_of, holdings_refusal, holdings_of}
use Rattle.memory.specs.Memory.{is_frame, byte, mark, is_filled, is_changed, store_byte, copied, unmarked, moved, memory_after, written_back}
use Rattle.memory.specs.Memory.{store_after, filled_from, written, cell, content}
use Rattle.memory.specs.Requests.{length_ok, setup_on, inside, entry_inside, client_inside, pages_inside, unmarked_at, marks_ok, bytes_ok, lent}
use Rattle.memory.specs.Requests.{store_ok, first_of, in_order, outside_at, byte_refusal, turned_away_by, refusal_on, refused, write_of, action_on, call_on}
use Rattle.memory.specs.Requests.{holdings_on}
use Rattle.memory.specs.Happenings.{state_after}
use Rattle.memory.specs.ByteCases.{Proved, played}

pub table : Proved
unfolding
    choose both either scan how_many refusal_of within slot page pins count entry_page entry_frame client of_client grant_page grant_frame
    maps entry_of lookup unused_entry grant_of holds held names referenced first_tried free_frame granted stored slots_after pages_after
    pins_after counts_after entry_pages_after entry_frames_after hand_after free_after last_after grant_pages_after grant_frames_after apply
    around advanced growth raised first_count busy_visit evict_own stage1 stage2 stage3 stage4 stage5 stage6 stage7 stage8 stage9 stage10 stage11
    stage12 stage13 stage14 stage15 stage16 stage17 stage18 stage19 stage20 stage21 stage22 stage23 stage_move numbers_ok frame_ok
    used_ok state_ok entry_ok grant_ok counts_ok names_ok client_ok valid caller refusal_at refusal release_move move_of finished call_of insert
    sorted pages_held rows_of holdings_refusal holdings_of is_frame byte mark is_filled is_changed store_byte copied unmarked moved
    memory_after written_back store_after filled_from written cell content length_ok setup_on inside entry_inside client_inside pages_inside
    unmarked_at marks_ok bytes_ok lent store_ok first_of in_order outside_at byte_refusal turned_away_by refusal_on refused write_of action_on call_on
    holdings_on state_after played
table =
    record {
      lengths = (refl, refl);
      set_ups = (refl, refl);
      made = refl;
      not_set_up = (refl, refl, refl, refl);
      reads_handed = (refl, refl, refl, refl);
      writes_handed = (refl, refl, refl, refl);
      evictions = refl;
      removals = (refl, refl, refl, refl, refl);
      revivals = (refl, refl, refl, refl, refl, refl, refl, refl);
      counts = (refl, refl, refl);
      takings = (refl, refl, refl, refl);
      begin_refused = (refl, refl, refl, refl, refl, refl);
      order = (refl, refl);
      bytes_refused = (refl, refl, refl);
      store_refused = (refl, refl, refl, refl);
      untouched = (refl, refl, refl, refl, refl, refl, refl);
      check8 = (refl, refl, refl);
      holdings = (refl, refl);
      runs = (refl, refl, refl, refl, refl, refl, refl, refl, refl);
    }
