-- The runs and forged records that tell K8's wrong stores from the machine, computed over the definitions.
use mathlib.Core.Path.{refl}
use Rattle.flash.specs.Bytes.{all_ff, same_bytes_of}
use Rattle.flash.specs.Flash.{numbers_from, size_in, apply_all, writes}
use Rattle.crc.specs.Crc.{shift32, shifted32, crc32_from}
use Rattle.frame.specs.Frame.{encode_all, total}
use Rattle.frame.specs.Reader.{host_layout, layout_of, match, read_frame, scan}
use Rattle.journal.specs.Replay.{insert, remove, lookup, change_all, list_of, without, is_open_of, replay_from}
use Rattle.journal.specs.Block.{edition_in, header_fault, block_state, changing}
use Rattle.journal.specs.Room.{no_room_of, host_full}
use Rattle.journal.specs.Index.{sited, places_from, since_from, value_at, next_settled, next_pending, next_load_of}
use Rattle.wire.specs.Message.{parse}
use Rattle.board.specs.Record.{allowed, no_places, no_frame}
use Rattle.board.specs.Step.{enter_append, enter_drop, enter_copy, enter_open, enter_close, enter_wipe, advance, step_busy, step_on}
use Rattle.board.specs.Mount.{mount_at, mount_found, mount_on}
use Rattle.board.specs.Queue.{fits_record, held, append, serve_change, serve_end, convert, serve_convert, serve, request_on, read_at, read_place}
use Rattle.refuted.specs.WrongPlaces.{places_stay, convert_stays, put_stays, delete_stays, abort_places, places_others, mount_places, trusts_place}
use Rattle.refuted.specs.WrongPlaces.{reads_any_length, reads_afresh, stale_first, none_first_of, reads_by_header, skips_places}
use Rattle.refuted.specs.WrongRuns.{half, blank_half, pending, stored, nearly_full}
use Rattle.refuted.specs.PlaceRuns.{stored_late, two_empty, PlaceRuns}

pub place-runs : PlaceRuns
unfolding numbers_from size_in allowed all_ff same_bytes_of apply_all writes shift32 shifted32 crc32_from encode_all total host_layout layout_of match read_frame scan
    insert remove lookup change_all list_of without is_open_of replay_from edition_in header_fault block_state changing no_room_of host_full sited places_from since_from
    value_at next_settled next_pending next_load_of parse no_places no_frame enter_append enter_drop enter_copy enter_open enter_close enter_wipe advance step_busy step_on
    mount_at mount_found mount_on fits_record held append serve_change serve_end convert serve_convert serve read_at read_place request_on half blank_half pending stored
    nearly_full stored_late two_empty places_stay convert_stays put_stays delete_stays abort_places places_others mount_places trusts_place reads_any_length reads_afresh
    stale_first none_first_of reads_by_header skips_places
place-runs =
    record {
      places-stay = record { is_run = refl; shows_wrong = refl; shows_right = refl; apart = refl };
      convert-stays = record { is_run = refl; shows_wrong = refl; shows_right = refl; apart = refl };
      put-stays = record { is_run = refl; shows_wrong = refl; shows_right = refl; apart = refl };
      delete-stays = record { is_run = refl; shows_wrong = refl; shows_right = refl; apart = refl };
      abort-places = record { is_run = refl; shows_wrong = refl; shows_right = refl; apart = refl };
      places-others = record { is_run = refl; shows_wrong = refl; shows_right = refl; apart = refl };
      mount-places = record { is_run = refl; shows_wrong = refl; shows_right = refl; apart = refl };
      trusts-place = record { is_bytes = refl; rests = tt; shows_wrong = refl; shows_right = refl; apart = refl };
      reads-any-length = record { is_bytes = refl; rests = tt; shows_wrong = refl; shows_right = refl; apart = refl };
      reads-afresh = record { is_bytes = refl; rests = tt; shows_wrong = refl; shows_right = refl; apart = refl };
      stale-first = record { is_bytes = refl; rests = tt; shows_wrong = refl; shows_right = refl; apart = refl };
      none_first = record { is_bytes = refl; rests = tt; shows_wrong = refl; shows_right = refl; apart = refl };
      reads-by-header = record { is_bytes = refl; rests = tt; shows_wrong = refl; shows_right = refl; apart = refl };
      skips-places = record { is_bytes = refl; rests = tt; shows_wrong = refl; shows_right = refl; apart = refl };
    }
