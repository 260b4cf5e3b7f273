-- The runs that tell K11's wrong stores from the machine, computed over the definitions.
use mathlib.Core.Path.{refl}
use Rattle.flash.specs.Bytes.{all_ff, same_bytes_of}
use Rattle.flash.specs.Flash.{numbers_from, size_in, apply_all, writes}
use Rattle.crc.specs.Crc.{shift32, shifted32, crc32_from}
use Rattle.frame.specs.Frame.{encode_all, total}
use Rattle.frame.specs.Reader.{host_layout, layout_of, match, read_frame, scan}
use Rattle.journal.specs.Replay.{insert, remove, lookup, change_all, list_of, without, is_open_of, replay_from}
use Rattle.journal.specs.Block.{edition_in, header_fault, block_state, changing}
use Rattle.journal.specs.Room.{no_room_of, host_full}
use Rattle.journal.specs.Index.{sited, places_from, since_from, value_at, next_settled, next_pending, next_load_of}
use Rattle.wire.specs.Message.{parse}
use Rattle.board.specs.Record.{allowed, no_places, no_frame}
use Rattle.board.specs.Step.{enter_append, enter_drop, enter_copy, enter_open, enter_close, enter_wipe, advance, step_busy, step_on}
use Rattle.board.specs.Mount.{mount_at, mount_found, mount_on}
use Rattle.board.specs.Queue.{fits_record, held, append, serve_change, serve_end, serve_log, serve, request_on, read_at, read_place}
use Rattle.refuted.specs.WrongMends.{moves_always, moves_undue, moves_at_edge, never_moves, fits_unclosed, fits_five, leaves_torn, worn_mends}
use Rattle.refuted.specs.WrongMends.{closes_and_moves, high_first, length_stays, closes_all, clears_body, finish_first, closes_alone, always_resets}
use Rattle.refuted.specs.WrongMends.{aborts_one, reset_bare, finishes_reset, end_stays_of, mend_keeps}
use Rattle.refuted.specs.WrongClosed.{closing_foreign, reset_foreign, closes_seven, checks_body, checks_crc, past_reset, room_with_closed, logs_closed}
use Rattle.refuted.specs.WrongRuns.{half, blank_half, pending, stored}
use Rattle.refuted.specs.EditionRuns.{new_pending, new_due}
use Rattle.refuted.specs.MendRuns.{torn_commit, torn_reset, torn_put, closing_put, seven_tail, five_left, four_left, tight_torn, undue, worn_pending}
use Rattle.refuted.specs.MendRuns.{two_pending, dropped, closed_long, new_closed, MendRuns}

pub mend_runs : MendRuns
unfolding numbers_from size_in allowed all_ff same_bytes_of apply_all writes shift32 shifted32 crc32_from encode_all total host_layout layout_of match read_frame scan
    insert remove lookup change_all list_of without is_open_of replay_from edition_in header_fault block_state changing no_room_of host_full sited places_from since_from
    value_at next_settled next_pending next_load_of parse no_places no_frame enter_append enter_drop enter_copy enter_open enter_close enter_wipe advance step_busy step_on
    mount_at mount_found mount_on fits_record held append serve_change serve_end serve_log serve read_at read_place request_on half blank_half pending stored
    new_pending new_due torn_commit torn_reset torn_put closing_put seven_tail five_left four_left tight_torn undue worn_pending two_pending dropped closed_long
    new_closed moves_always moves_undue moves_at_edge never_moves fits_unclosed fits_five leaves_torn worn_mends closes_and_moves high_first length_stays closes_all
    clears_body finish_first closes_alone always_resets aborts_one reset_bare finishes_reset end_stays_of mend_keeps closing_foreign reset_foreign closes_seven checks_body
    checks_crc past_reset room_with_closed logs_closed
mend_runs =
    record {
      moves-always = record { is_run = refl; shows_wrong = refl; shows_right = refl; apart = refl };
      moves-at-edge = record { is_run = refl; shows_wrong = refl; shows_right = refl; apart = refl };
      moves-undue = record { is_run = refl; shows_wrong = refl; shows_right = refl; apart = refl };
      never-moves = record { is_run = refl; shows_wrong = refl; shows_right = refl; apart = refl };
      fits-unclosed = record { is_run = refl; shows_wrong = refl; shows_right = refl; apart = refl };
      fits-five = record { is_run = refl; shows_wrong = refl; shows_right = refl; apart = refl };
      leaves-torn = record { is_run = refl; shows_wrong = refl; shows_right = refl; apart = refl };
      worn-mends = record { is_run = refl; shows_wrong = refl; shows_right = refl; apart = refl };
      closes-and-moves = record { is_run = refl; shows_wrong = refl; shows_right = refl; apart = refl };
      high-first = record { is_run = refl; shows_wrong = refl; shows_right = refl; apart = refl };
      length-stays = record { is_run = refl; shows_wrong = refl; shows_right = refl; apart = refl };
      closes-all = record { is_run = refl; shows_wrong = refl; shows_right = refl; apart = refl };
      clears-body = record { is_run = refl; shows_wrong = refl; shows_right = refl; apart = refl };
      finish-first = record { is_run = refl; shows_wrong = refl; shows_right = refl; apart = refl };
      closes-alone = record { is_run = refl; shows_wrong = refl; shows_right = refl; apart = refl };
      always-resets = record { is_run = refl; shows_wrong = refl; shows_right = refl; apart = refl };
      aborts-one = record { is_run = refl; shows_wrong = refl; shows_right = refl; apart = refl };
      reset-bare = record { is_run = refl; shows_wrong = refl; shows_right = refl; apart = refl };
      finishes-reset = record { is_run = refl; shows_wrong = refl; shows_right = refl; apart = refl };
      end_stays = record { is_run = refl; shows_wrong = refl; shows_right = refl; apart = refl };
      mend-keeps = record { is_run = refl; shows_wrong = refl; shows_right = refl; apart = refl };
      closing-foreign = record { is_run = refl; shows_wrong = refl; shows_right = refl; apart = refl };
      reset-foreign = record { is_run = refl; shows_wrong = refl; shows_right = refl; apart = refl };
      closes-seven = record { is_run = refl; shows_wrong = refl; shows_right = refl; apart = refl };
      checks-body = record { is_run = refl; shows_wrong = refl; shows_right = refl; apart = refl };
      checks-crc = record { is_run = refl; shows_wrong = refl; shows_right = refl; apart = refl };
      past-reset = record { is_run = refl; shows_wrong = refl; shows_right = refl; apart = refl };
      room-with-closed = record { is_run = refl; shows_wrong = refl; shows_right = refl; apart = refl };
      logs-closed = record { is_run = refl; shows_wrong = refl; shows_right = refl; apart = refl };
    }
