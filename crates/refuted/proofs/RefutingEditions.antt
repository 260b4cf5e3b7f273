-- The runs that tell K9's wrong stores from the machine, computed over the definitions.
use mathlib.Core.Path.{refl}
use Rattle.flash.specs.Bytes.{all_ff, same_bytes_of}
use Rattle.flash.specs.Flash.{numbers_from, size_in, apply_all, writes}
use Rattle.crc.specs.Crc.{shift32, shifted32, crc32_from}
use Rattle.frame.specs.Frame.{encode_all, total}
use Rattle.frame.specs.Reader.{host_layout, layout_of, match, read_frame, scan}
use Rattle.journal.specs.Replay.{insert, remove, lookup, change_all, list_of, without, is_open_of, replay_from}
use Rattle.journal.specs.Block.{edition_in, header_fault, block_state, changing}
use Rattle.journal.specs.Room.{no_room_of, host_full}
use Rattle.journal.specs.Index.{sited, places_from, since_from, value_at, next_settled, next_pending, next_load_of}
use Rattle.wire.specs.Message.{parse}
use Rattle.board.specs.Record.{allowed, no_places, no_frame}
use Rattle.board.specs.Step.{enter_append, enter_drop, enter_copy, enter_open, enter_close, enter_wipe, advance, step_busy, step_on}
use Rattle.board.specs.Mount.{mount_at, mount_found, mount_on, format_order, format_on}
use Rattle.board.specs.Queue.{fits_record, held, append, serve_change, serve_end, serve_log, convert, serve_convert, serve, request_on, read_at, read_place}
use Rattle.refuted.specs.WrongEditions.{pending_alone, with_reserve, converts_again, drops_first, falls_back, format_keeps, second_foreign, crc_of_body}
use Rattle.refuted.specs.WrongEditions.{crc_big_endian, ignores_crc, room_as_before, logs_by_first, pending_in_first, room_before_pending, any_body}
use Rattle.refuted.specs.WrongEditions.{room_by_first, converts_worn, mount_falls_back, later_edition, record_keeps, torn_foreign, full_by_first}
use Rattle.refuted.specs.WrongRuns.{half, blank_half, stored}
use Rattle.refuted.specs.EditionRuns.{new_empty, new_stored, new_pending, new_torn, new_spoiled, old_empty, worn, both_editions, many_objects, tight_half}
use Rattle.refuted.specs.EditionRuns.{object_zero, new_full, new_due, new_heavy, EditionRuns}

pub edition-runs : EditionRuns
unfolding numbers_from size_in allowed all_ff same_bytes_of apply_all writes shift32 shifted32 crc32_from encode_all total host_layout layout_of match read_frame scan
    insert remove lookup change_all list_of without is_open_of replay_from edition_in header_fault block_state changing no_room_of host_full sited places_from since_from
    value_at next_settled next_pending next_load_of parse no_places no_frame enter_append enter_drop enter_copy enter_open enter_close enter_wipe advance step_busy step_on
    mount_at mount_found mount_on format_order format_on fits_record held append serve_change serve_end serve_log convert serve_convert serve read_at read_place
    request_on half blank_half stored new_empty new_stored new_spoiled tight_half object_zero new_full new_due new_heavy pending_alone with_reserve converts_again
    drops_first falls_back format_keeps second_foreign crc_of_body crc_big_endian ignores_crc room_as_before logs_by_first pending_in_first room_before_pending any_body
    room_by_first converts_worn mount_falls_back later_edition record_keeps torn_foreign full_by_first new_pending new_torn old_empty worn both_editions many_objects
edition-runs =
    record {
      pending-alone = record { is_run = refl; shows_wrong = refl; shows_right = refl; apart = refl };
      pending-in-first = record { is_run = refl; shows_wrong = refl; shows_right = refl; apart = refl };
      room-before-pending = record { is_run = refl; shows_wrong = refl; shows_right = refl; apart = refl };
      any-body = record { is_run = refl; shows_wrong = refl; shows_right = refl; apart = refl };
      room-by-first = record { is_run = refl; shows_wrong = refl; shows_right = refl; apart = refl };
      with-reserve = record { is_run = refl; shows_wrong = refl; shows_right = refl; apart = refl };
      converts-worn = record { is_run = refl; shows_wrong = refl; shows_right = refl; apart = refl };
      converts-again = record { is_run = refl; shows_wrong = refl; shows_right = refl; apart = refl };
      drops-first = record { is_run = refl; shows_wrong = refl; shows_right = refl; apart = refl };
      falls-back = record { is_run = refl; shows_wrong = refl; shows_right = refl; apart = refl };
      mount-falls-back = record { is_run = refl; shows_wrong = refl; shows_right = refl; apart = refl };
      format-keeps = record { is_run = refl; shows_wrong = refl; shows_right = refl; apart = refl };
      second-foreign = record { is_run = refl; shows_wrong = refl; shows_right = refl; apart = refl };
      later-edition = record { is_run = refl; shows_wrong = refl; shows_right = refl; apart = refl };
      record-keeps = record { is_run = refl; shows_wrong = refl; shows_right = refl; apart = refl };
      crc-of-body = record { is_run = refl; shows_wrong = refl; shows_right = refl; apart = refl };
      crc-big-endian = record { is_run = refl; shows_wrong = refl; shows_right = refl; apart = refl };
      ignores-crc = record { is_run = refl; shows_wrong = refl; shows_right = refl; apart = refl };
      torn-foreign = record { is_run = refl; shows_wrong = refl; shows_right = refl; apart = refl };
      room-as-before = record { is_run = refl; shows_wrong = refl; shows_right = refl; apart = refl };
      full-by-first = record { is_run = refl; shows_wrong = refl; shows_right = refl; apart = refl };
      logs-by-first = record { is_run = refl; shows_wrong = refl; shows_right = refl; apart = refl };
    }
