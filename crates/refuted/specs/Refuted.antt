-- Wrong stores are right on the bench's images, and none of them keeps the promise.
use Rattle.std.specs.Prelude.{List, ◌≡◌, ◌⊎◌, ℕ, ◌≤◌, length}
use Rattle.board.specs.declared.Record.{Record}
use Rattle.board.specs.Exec.{Call, exec}
use Rattle.board.specs.Promise.{Kept}
use Rattle.refuted.specs.Wrong.{Wrongly, off_bench, refuses_all, refuses_puts, refuses_high_ids, own_formats_only, first_half_only, host_first}
use Rattle.refuted.specs.Wrong.{refusal_clears, refused_log_writes, reads_alike, invents_count, never_commits, aborts_nothing, takes_others}
use Rattle.refuted.specs.Wrong.{keeps_old, programs_nothing, whole_frame, waits_long, invents_step, erases_first, outside_is_done, forged_waits, hurried_mount}
use Rattle.refuted.specs.Wrong.{loses_all, keeps_pending, refuses_alike, overlooks_foreign, names_second, ties_at_start, refuses_half_erased}
use Rattle.refuted.specs.Wrong.{takes_half_erased, formats_at_once, formats_blindly, goes_back_of, erases_one, erases_blank, ignores_count, even_only}
use Rattle.refuted.specs.WrongShares.{full_at_half, full_by_all, full_by_values, full_by_image, full_by_two, deletes_pass, room_first, abort_keeps}
use Rattle.refuted.specs.WrongShares.{transfer_clears, mount_keeps, takes_any_counts}
use Rattle.refuted.specs.WrongEditions.{pending_alone, with_reserve, converts_again, drops_first, falls_back, format_keeps, second_foreign, crc_of_body}
use Rattle.refuted.specs.WrongEditions.{crc_big_endian, ignores_crc, room_as_before, logs_by_first, takes_any_edition}
use Rattle.refuted.specs.WrongEditions.{pending_in_first, room_before_pending, any_body, room_by_first, converts_worn, mount_falls_back, later_edition}
use Rattle.refuted.specs.WrongEditions.{record_keeps, torn_foreign, full_by_first}
use Rattle.refuted.specs.WrongMends.{moves_always, moves_undue, moves_at_edge, never_moves, fits_unclosed, fits_five, leaves_torn, worn_mends}
use Rattle.refuted.specs.WrongMends.{closes_and_moves, high_first, length_stays, closes_all, clears_body, finish_first, closes_alone, always_resets}
use Rattle.refuted.specs.WrongMends.{aborts_one, reset_bare, finishes_reset, end_stays_of, mend_keeps}
use Rattle.refuted.specs.WrongClosed.{closing_foreign, reset_foreign, closes_seven, checks_body, checks_crc, past_reset, room_with_closed, logs_closed}
use Rattle.refuted.specs.WrongPlaces.{places_stay, convert_stays, put_stays, delete_stays, abort_places, places_others, mount_places, trusts_place}
use Rattle.refuted.specs.WrongPlaces.{reads_any_length, reads_afresh, stale_first, none_first_of, reads_by_header, skips_places}
use Rattle.refuted.specs.WrongWear.{transfers_always, transfers_half_full, erases_target}

-- on the bench's images, whatever is done off it; for the rows one by one see WrongRows
unfoldable pub RightOnBench : Type 0
RightOnBench = (w : Wrongly) (N : ℕ) (img : List ℕ) (r : Record) (c : Call) → (length img ≤ 512) ⊎ (length img ≡ 1024)
    → off_bench w N img r c ≡ exec N img r c

pub record Refuted : Type 0 where
  pub refuses-all : Kept (off_bench refuses_all) → ⊥
  pub refuses-puts : Kept (off_bench refuses_puts) → ⊥
  pub refuses-high-ids : Kept (off_bench refuses_high_ids) → ⊥
  pub own-formats-only : Kept (off_bench own_formats_only) → ⊥
  pub first-half-only : Kept (off_bench first_half_only) → ⊥
  pub host-first : Kept (off_bench host_first) → ⊥
  pub refusal-clears : Kept (off_bench refusal_clears) → ⊥
  pub refused-log-writes : Kept (off_bench refused_log_writes) → ⊥
  pub reads-alike : Kept (off_bench reads_alike) → ⊥
  pub invents-count : Kept (off_bench invents_count) → ⊥
  pub never-commits : Kept (off_bench never_commits) → ⊥
  pub aborts-nothing : Kept (off_bench aborts_nothing) → ⊥
  pub takes-others : Kept (off_bench takes_others) → ⊥
  pub keeps-old : Kept (off_bench keeps_old) → ⊥
  pub programs-nothing : Kept (off_bench programs_nothing) → ⊥
  pub whole-frame : Kept (off_bench whole_frame) → ⊥
  pub waits-long : Kept (off_bench waits_long) → ⊥
  pub invents-step : Kept (off_bench invents_step) → ⊥
  pub erases-first : Kept (off_bench erases_first) → ⊥
  pub outside-is-done : Kept (off_bench outside_is_done) → ⊥
  pub forged-waits : Kept (off_bench forged_waits) → ⊥
  pub hurried-mount : Kept (off_bench hurried_mount) → ⊥
  pub loses-all : Kept (off_bench loses_all) → ⊥
  pub keeps-pending : Kept (off_bench keeps_pending) → ⊥
  pub refuses-alike : Kept (off_bench refuses_alike) → ⊥
  pub overlooks-foreign : Kept (off_bench overlooks_foreign) → ⊥
  pub names-second : Kept (off_bench names_second) → ⊥
  pub ties-at-start : Kept (off_bench ties_at_start) → ⊥
  pub refuses-half-erased : Kept (off_bench refuses_half_erased) → ⊥
  pub takes-half-erased : Kept (off_bench takes_half_erased) → ⊥
  pub formats-at-once : Kept (off_bench formats_at_once) → ⊥
  pub formats-blindly : Kept (off_bench formats_blindly) → ⊥
  pub goes_back : Kept (off_bench goes_back_of) → ⊥
  pub erases-one : Kept (off_bench erases_one) → ⊥
  pub erases-blank : Kept (off_bench erases_blank) → ⊥
  pub ignores-count : Kept (off_bench ignores_count) → ⊥
  pub even-only : Kept (off_bench even_only) → ⊥
  pub full-at-half : Kept (off_bench full_at_half) → ⊥
  pub full-by-all : Kept (off_bench full_by_all) → ⊥
  pub full-by-values : Kept (off_bench full_by_values) → ⊥
  pub full-by-image : Kept (off_bench full_by_image) → ⊥
  pub full-by-two : Kept (off_bench full_by_two) → ⊥
  pub deletes-pass : Kept (off_bench deletes_pass) → ⊥
  pub room-first : Kept (off_bench room_first) → ⊥
  pub abort-keeps : Kept (off_bench abort_keeps) → ⊥
  pub transfer-clears : Kept (off_bench transfer_clears) → ⊥
  pub mount-keeps : Kept (off_bench mount_keeps) → ⊥
  pub takes-any-counts : Kept (off_bench takes_any_counts) → ⊥
  pub pending-alone : Kept (off_bench pending_alone) → ⊥
  pub pending-in-first : Kept (off_bench pending_in_first) → ⊥
  pub room-before-pending : Kept (off_bench room_before_pending) → ⊥
  pub any-body : Kept (off_bench any_body) → ⊥
  pub room-by-first : Kept (off_bench room_by_first) → ⊥
  pub with-reserve : Kept (off_bench with_reserve) → ⊥
  pub converts-worn : Kept (off_bench converts_worn) → ⊥
  pub converts-again : Kept (off_bench converts_again) → ⊥
  pub drops-first : Kept (off_bench drops_first) → ⊥
  pub falls-back : Kept (off_bench falls_back) → ⊥
  pub mount-falls-back : Kept (off_bench mount_falls_back) → ⊥
  pub format-keeps : Kept (off_bench format_keeps) → ⊥
  pub second-foreign : Kept (off_bench second_foreign) → ⊥
  pub later-edition : Kept (off_bench later_edition) → ⊥
  pub record-keeps : Kept (off_bench record_keeps) → ⊥
  pub takes-any-edition : Kept (off_bench takes_any_edition) → ⊥
  pub crc-of-body : Kept (off_bench crc_of_body) → ⊥
  pub crc-big-endian : Kept (off_bench crc_big_endian) → ⊥
  pub ignores-crc : Kept (off_bench ignores_crc) → ⊥
  pub torn-foreign : Kept (off_bench torn_foreign) → ⊥
  pub room-as-before : Kept (off_bench room_as_before) → ⊥
  pub full-by-first : Kept (off_bench full_by_first) → ⊥
  pub logs-by-first : Kept (off_bench logs_by_first) → ⊥
  pub moves-always : Kept (off_bench moves_always) → ⊥
  pub moves-at-edge : Kept (off_bench moves_at_edge) → ⊥
  pub moves-undue : Kept (off_bench moves_undue) → ⊥
  pub never-moves : Kept (off_bench never_moves) → ⊥
  pub fits-unclosed : Kept (off_bench fits_unclosed) → ⊥
  pub fits-five : Kept (off_bench fits_five) → ⊥
  pub leaves-torn : Kept (off_bench leaves_torn) → ⊥
  pub worn-mends : Kept (off_bench worn_mends) → ⊥
  pub closes-and-moves : Kept (off_bench closes_and_moves) → ⊥
  pub high-first : Kept (off_bench high_first) → ⊥
  pub length-stays : Kept (off_bench length_stays) → ⊥
  pub closes-all : Kept (off_bench closes_all) → ⊥
  pub clears-body : Kept (off_bench clears_body) → ⊥
  pub finish-first : Kept (off_bench finish_first) → ⊥
  pub closes-alone : Kept (off_bench closes_alone) → ⊥
  pub always-resets : Kept (off_bench always_resets) → ⊥
  pub aborts-one : Kept (off_bench aborts_one) → ⊥
  pub reset-bare : Kept (off_bench reset_bare) → ⊥
  pub finishes-reset : Kept (off_bench finishes_reset) → ⊥
  pub end_stays : Kept (off_bench end_stays_of) → ⊥
  pub mend-keeps : Kept (off_bench mend_keeps) → ⊥
  pub closing-foreign : Kept (off_bench closing_foreign) → ⊥
  pub reset-foreign : Kept (off_bench reset_foreign) → ⊥
  pub closes-seven : Kept (off_bench closes_seven) → ⊥
  pub checks-body : Kept (off_bench checks_body) → ⊥
  pub checks-crc : Kept (off_bench checks_crc) → ⊥
  pub past-reset : Kept (off_bench past_reset) → ⊥
  pub room-with-closed : Kept (off_bench room_with_closed) → ⊥
  pub logs-closed : Kept (off_bench logs_closed) → ⊥
  pub places-stay : Kept (off_bench places_stay) → ⊥
  pub convert-stays : Kept (off_bench convert_stays) → ⊥
  pub put-stays : Kept (off_bench put_stays) → ⊥
  pub delete-stays : Kept (off_bench delete_stays) → ⊥
  pub abort-places : Kept (off_bench abort_places) → ⊥
  pub places-others : Kept (off_bench places_others) → ⊥
  pub mount-places : Kept (off_bench mount_places) → ⊥
  pub trusts-place : Kept (off_bench trusts_place) → ⊥
  pub reads-any-length : Kept (off_bench reads_any_length) → ⊥
  pub reads-afresh : Kept (off_bench reads_afresh) → ⊥
  pub stale-first : Kept (off_bench stale_first) → ⊥
  pub none_first : Kept (off_bench none_first_of) → ⊥
  pub reads-by-header : Kept (off_bench reads_by_header) → ⊥
  pub skips-places : Kept (off_bench skips_places) → ⊥
  pub transfers-always : Kept (off_bench transfers_always) → ⊥
  pub transfers-half-full : Kept (off_bench transfers_half_full) → ⊥
  pub erases-target : Kept (off_bench erases_target) → ⊥
