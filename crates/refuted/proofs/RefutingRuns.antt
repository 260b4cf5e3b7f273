-- The runs that tell the wrong stores from the machine, computed over the definitions.
use mathlib.Core.Path.{refl}
use Rattle.flash.specs.Bytes.{all_ff, same_bytes_of}
use Rattle.flash.specs.Flash.{numbers_from, size_in, apply_all, writes}
use Rattle.frame.specs.Frame.{encode_all, total}
use Rattle.frame.specs.Reader.{host_layout, layout_of, match, read_frame, scan}
use Rattle.journal.specs.Replay.{insert, remove, lookup, change_all, list_of, without, is_open_of, replay_from}
use Rattle.journal.specs.Block.{edition_in, header_fault, block_state, changing}
use Rattle.journal.specs.Room.{no_room_of, host_full}
use Rattle.journal.specs.Index.{sited, places_from, since_from, value_at, next_settled, next_pending, next_load_of}
use Rattle.wire.specs.Message.{parse}
use Rattle.board.specs.Record.{allowed, no_places, no_frame}
use Rattle.board.specs.Step.{enter_append, enter_drop, enter_copy, enter_open, enter_close, enter_wipe, advance, step_busy, step_on}
use Rattle.board.specs.Mount.{mount_at, mount_found, mount_on, format_order, format_on}
use Rattle.board.specs.Queue.{fits_record, held, append, serve_change, serve_end, serve_log, serve, request_on, read_at, read_place}
use Rattle.refuted.specs.Wrong.{refuses_all, refuses_puts, refuses_high_ids, own_formats_only, first_half_only, host_first, refusal_clears}
use Rattle.refuted.specs.Wrong.{refused_log_writes, reads_alike, invents_count, never_commits, aborts_nothing, takes_others, keeps_old}
use Rattle.refuted.specs.Wrong.{programs_nothing, whole_frame, waits_long, invents_step, erases_first, hurried_mount, loses_all, keeps_pending}
use Rattle.refuted.specs.Wrong.{refuses_alike, overlooks_foreign, names_second, ties_at_start, refuses_half_erased, takes_half_erased, formats_at_once}
use Rattle.refuted.specs.Wrong.{formats_blindly, goes_back_of, erases_one, even_only}
use Rattle.refuted.specs.WrongShares.{full_at_half, full_by_all, full_by_values, full_by_image, full_by_two, deletes_pass, room_first, abort_keeps}
use Rattle.refuted.specs.WrongShares.{transfer_clears, mount_keeps}
use Rattle.refuted.specs.WrongRuns.{half, blank_half, stored, pending, later, second, begun, twice, tied_halves, both_strange, strange}
use Rattle.refuted.specs.WrongRuns.{half_erased, seems_empty, heavy, nearly_full, full, in_middle, begun_twice, stored_first, Runs}

pub runs : Runs
unfolding numbers_from size_in allowed refuses_all refuses_puts refuses_high_ids own_formats_only first_half_only host_first refusal_clears refused_log_writes reads_alike
    invents_count never_commits aborts_nothing takes_others keeps_old programs_nothing whole_frame waits_long invents_step erases_first hurried_mount loses_all
    keeps_pending refuses_alike overlooks_foreign names_second ties_at_start refuses_half_erased takes_half_erased formats_at_once formats_blindly goes_back_of erases_one
    even_only all_ff same_bytes_of apply_all writes encode_all total host_layout layout_of match read_frame scan insert remove lookup change_all list_of without is_open_of
    replay_from edition_in header_fault block_state changing no_room_of host_full sited places_from since_from value_at next_settled next_pending next_load_of parse no_places
    no_frame enter_append enter_drop enter_copy enter_open enter_close enter_wipe advance step_busy step_on mount_at mount_found mount_on format_order format_on
    fits_record held append serve_change serve_end serve_log serve read_at read_place request_on half blank_half stored pending later second begun twice tied_halves
    both_strange strange half_erased seems_empty in_middle begun_twice stored_first heavy nearly_full full full_at_half full_by_all full_by_values full_by_image full_by_two
    deletes_pass room_first abort_keeps transfer_clears mount_keeps
runs =
    record {
      refuses-all = record { is_run = refl; shows_wrong = refl; shows_right = refl; apart = refl };
      refuses-puts = record { is_run = refl; shows_wrong = refl; shows_right = refl; apart = refl };
      refuses-high-ids = record { is_run = refl; shows_wrong = refl; shows_right = refl; apart = refl };
      own-formats-only = record { is_run = refl; shows_wrong = refl; shows_right = refl; apart = refl };
      first-half-only = record { is_run = refl; shows_wrong = refl; shows_right = refl; apart = refl };
      host-first = record { is_run = refl; shows_wrong = refl; shows_right = refl; apart = refl };
      refusal-clears = record { is_run = refl; shows_wrong = refl; shows_right = refl; apart = refl };
      refused-log-writes = record { is_run = refl; shows_wrong = refl; shows_right = refl; apart = refl };
      reads-alike = record { is_run = refl; shows_wrong = refl; shows_right = refl; apart = refl };
      invents-count = record { is_run = refl; shows_wrong = refl; shows_right = refl; apart = refl };
      never-commits = record { is_run = refl; shows_wrong = refl; shows_right = refl; apart = refl };
      aborts-nothing = record { is_run = refl; shows_wrong = refl; shows_right = refl; apart = refl };
      takes-others = record { is_run = refl; shows_wrong = refl; shows_right = refl; apart = refl };
      keeps-old = record { is_run = refl; shows_wrong = refl; shows_right = refl; apart = refl };
      programs-nothing = record { is_run = refl; shows_wrong = refl; shows_right = refl; apart = refl };
      whole-frame = record { is_run = refl; shows_wrong = refl; shows_right = refl; apart = refl };
      waits-long = record { is_run = refl; shows_wrong = refl; shows_right = refl; apart = refl };
      invents-step = record { is_run = refl; shows_wrong = refl; shows_right = refl; apart = refl };
      erases-first = record { is_run = refl; shows_wrong = refl; shows_right = refl; apart = refl };
      hurried-mount = record { is_run = refl; shows_wrong = refl; shows_right = refl; apart = refl };
      loses-all = record { is_run = refl; shows_wrong = refl; shows_right = refl; apart = refl };
      keeps-pending = record { is_run = refl; shows_wrong = refl; shows_right = refl; apart = refl };
      refuses-alike = record { is_run = refl; shows_wrong = refl; shows_right = refl; apart = refl };
      overlooks-foreign = record { is_run = refl; shows_wrong = refl; shows_right = refl; apart = refl };
      names-second = record { is_run = refl; shows_wrong = refl; shows_right = refl; apart = refl };
      ties-at-start = record { is_run = refl; shows_wrong = refl; shows_right = refl; apart = refl };
      refuses-half-erased = record { is_run = refl; shows_wrong = refl; shows_right = refl; apart = refl };
      takes-half-erased = record { is_run = refl; shows_wrong = refl; shows_right = refl; apart = refl };
      formats-at-once = record { is_run = refl; shows_wrong = refl; shows_right = refl; apart = refl };
      formats-blindly = record { is_run = refl; shows_wrong = refl; shows_right = refl; apart = refl };
      goes_back = record { is_run = refl; shows_wrong = refl; shows_right = refl; apart = refl };
      erases-one = record { is_run = refl; shows_wrong = refl; shows_right = refl; apart = refl };
      even-only = record { is_run = refl; shows_wrong = refl; shows_right = refl; apart = refl };
      full-at-half = record { is_run = refl; shows_wrong = refl; shows_right = refl; apart = refl };
      full-by-all = record { is_run = refl; shows_wrong = refl; shows_right = refl; apart = refl };
      full-by-values = record { is_run = refl; shows_wrong = refl; shows_right = refl; apart = refl };
      full-by-image = record { is_run = refl; shows_wrong = refl; shows_right = refl; apart = refl };
      full-by-two = record { is_run = refl; shows_wrong = refl; shows_right = refl; apart = refl };
      deletes-pass = record { is_run = refl; shows_wrong = refl; shows_right = refl; apart = refl };
      room-first = record { is_run = refl; shows_wrong = refl; shows_right = refl; apart = refl };
      abort-keeps = record { is_run = refl; shows_wrong = refl; shows_right = refl; apart = refl };
      transfer-clears = record { is_run = refl; shows_wrong = refl; shows_right = refl; apart = refl };
      mount-keeps = record { is_run = refl; shows_wrong = refl; shows_right = refl; apart = refl };
    }
