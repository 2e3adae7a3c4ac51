-- The table of cases is what the definitions compute. Assumes nothing.
use mathlib.Core.Path.{refl}
use Rattle.pool.specs.Choose.{choose, both, either, scan, how_many}
use Rattle.pool.specs.Answers.{code_of, value_of, refusal_of, unread_of}
use Rattle.pool.specs.State.{within, slot, page, pins, count, entry_page, entry_frame, client, of_client, grant_page, grant_frame}
use Rattle.pool.specs.Table.{maps, entry_of, lookup, unused_entry, resident, pages_in_table}
use Rattle.pool.specs.Grants.{grant_of, holds, held}
use Rattle.pool.specs.Frames.{names, referenced, first_tried, free_frame}
use Rattle.pool.specs.Moves.{granted}
use Rattle.pool.specs.Apply.{stored, slots_after, pages_after, pins_after, counts_after, entry_pages_after, entry_frames_after, hand_after}
use Rattle.pool.specs.Apply.{free_after, last_after, grant_pages_after, grant_frames_after, apply}
use Rattle.pool.specs.Stages.{around, advanced, growth, raised, first_count, busy_visit, evict_own, stage1, stage2, stage3, stage4, stage5, stage6}
use Rattle.pool.specs.Stages.{stage7, stage8, stage9, stage10, stage11, stage12, stage13, stage14, stage15, stage16, stage17}
use Rattle.pool.specs.Stages.{stage18, stage19, stage20, stage21, stage22, stage23, stage_move}
use Rattle.pool.specs.Valid.{numbers_ok, frame_ok, used_ok, state_ok, entry_ok, grant_ok, counts_ok, names_ok, client_ok, valid}
use Rattle.pool.specs.Calls.{setup_of, caller, refusal_at, refusal, release_move, move_of, finished, call_of, pool_after}
use Rattle.pool.specs.Schedule.{number, cut, marked, content, read, length_of, performed, ends_run, named_by, digits, line, line_for}
use Rattle.pool.specs.Schedule.{run_from, ran, end_of, report_of}
use Rattle.pool.specs.Tallies.{up, tallied}
use Rattle.pool.specs.Holdings.{insert, sorted, pages_held, rows_of, holdings_refusal, holdings_of}
use Rattle.pool.specs.Cases.{Proved, noted, played, as_step, answers_request, steps_to_answer, computed}

pub table : Proved
unfolding
    choose both either scan how_many code_of value_of refusal_of unread_of within slot page pins count entry_page entry_frame client
    of_client grant_page grant_frame maps entry_of lookup unused_entry resident pages_in_table grant_of holds held names referenced
    first_tried free_frame granted stored slots_after pages_after pins_after counts_after entry_pages_after entry_frames_after hand_after
    free_after last_after grant_pages_after grant_frames_after apply around advanced growth raised first_count busy_visit evict_own stage1 stage2
    stage3 stage4 stage5 stage6 stage7 stage8 stage9 stage10 stage11 stage12 stage13 stage14 stage15 stage16 stage17 stage18
    stage19 stage20 stage21 stage22 stage23 stage_move numbers_ok frame_ok used_ok state_ok entry_ok grant_ok counts_ok names_ok client_ok
    valid setup_of caller refusal_at refusal release_move move_of finished call_of pool_after number cut marked content read length_of
    performed ends_run named_by digits line line_for run_from ran end_of report_of up tallied noted played as_step answers_request steps_to_answer
    computed insert sorted pages_held rows_of holdings_refusal holdings_of
table =
    record {
      published = (refl, refl, refl, refl, refl, refl, refl, refl, refl);
      of_one = (refl, refl, refl, refl, refl);
      one_each = (refl, refl);
      refused_of_two = (refl, refl, refl);
      stalled = (refl, refl, refl);
      meanwhile = (refl, refl, refl, refl);
      index_pages = (refl, refl, refl, refl);
      first_counts = (refl, refl, refl, refl, refl, refl, refl, refl, refl, refl);
      check8 = (refl, refl);
      handed_calls = (refl, refl, refl, refl, refl, refl, refl, refl, refl);
      in_page_order = (refl, refl, refl, refl);
      list_kept = (refl, refl, refl, refl, refl);
      once = refl;
      raises = refl;
      largest = (refl, refl);
      report = refl;
    }
