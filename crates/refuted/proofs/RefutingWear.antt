-- The runs that tell K12's wrong stores from the machine, computed over the definitions.
use mathlib.Core.Path.{refl}
use Rattle.flash.specs.Bytes.{all_ff, same_bytes_of}
use Rattle.flash.specs.Flash.{numbers_from, size_in, apply_all, writes}
use Rattle.crc.specs.Crc.{shift32, shifted32, crc32_from}
use Rattle.frame.specs.Frame.{encode_all, total}
use Rattle.frame.specs.Reader.{host_layout, layout_of, match, read_frame, scan}
use Rattle.journal.specs.Replay.{insert, remove, lookup, change_all, list_of, without, is_open_of, replay_from}
use Rattle.journal.specs.Block.{edition_in, header_fault, block_state, changing}
use Rattle.journal.specs.Room.{no_room_of, host_full}
use Rattle.journal.specs.Index.{sited, places_from, since_from, value_at, next_settled, next_pending, next_load_of}
use Rattle.wire.specs.Message.{parse}
use Rattle.board.specs.Record.{allowed, no_places, no_frame}
use Rattle.board.specs.Step.{enter_append, enter_drop, enter_copy, enter_open, enter_close, enter_wipe, advance, step_busy, step_on}
use Rattle.board.specs.Mount.{mount_at, mount_found, mount_on}
use Rattle.board.specs.Queue.{fits_record, held, append, serve_change, serve_end, convert, serve_convert, serve, request_on, read_at, read_place}
use Rattle.refuted.specs.WrongWear.{transfers_always, transfers_half_full, erases_target}
use Rattle.refuted.specs.WrongRuns.{half, blank_half, stored, nearly_full}
use Rattle.refuted.specs.WearSeen.{over_half, WearRuns}

pub wear-runs : WearRuns
unfolding numbers_from size_in allowed all_ff same_bytes_of apply_all writes shift32 shifted32 crc32_from encode_all total host_layout layout_of match read_frame scan
    insert remove lookup change_all list_of without is_open_of replay_from edition_in header_fault block_state changing no_room_of host_full sited places_from since_from
    value_at next_settled next_pending next_load_of parse no_places no_frame enter_append enter_drop enter_copy enter_open enter_close enter_wipe advance step_busy step_on
    mount_at mount_found mount_on fits_record held append serve_change serve_end convert serve_convert serve read_at read_place request_on half blank_half stored
    nearly_full over_half transfers_always transfers_half_full erases_target
wear-runs =
    record {
      transfers-always = record { is_run = refl; shows_wrong = refl; shows_right = refl; apart = refl };
      transfers-half-full = record { is_run = refl; shows_wrong = refl; shows_right = refl; apart = refl };
      erases-target = record { is_run = refl; shows_wrong = refl; shows_right = refl; apart = refl };
    }
