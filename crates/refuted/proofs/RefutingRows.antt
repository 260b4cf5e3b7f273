-- The wrong stores are right in every row: each is wrong only off the bench, and answers formats as it should.
use mathlib.Core.Path.{◌≡◌, refl, ◌∙◌}
use mathlib.Core.List.{[]}
use lib.ListN.{length, replicate}
use Rattle.wire.specs.declared.Answer.{Answer}
use Rattle.wire.specs.declared.Answer.TheVariants.{Done, More, Refused}
use Rattle.board.specs.declared.Job.{Job}
use Rattle.board.specs.Record.{unmounted, Out, out}
use Rattle.board.specs.Exec.{format, exec}
use Rattle.refuted.specs.Wrong.{by_answer, on_image, with_job}
use Rattle.refuted.specs.Wrong.{refuses_all, refuses_puts, refuses_high_ids, own_formats_only, first_half_only, host_first, refusal_clears}
use Rattle.refuted.specs.Wrong.{refused_log_writes, reads_alike, invents_count, never_commits, aborts_nothing, takes_others, keeps_old}
use Rattle.refuted.specs.Wrong.{programs_nothing, whole_frame, waits_long, invents_step, erases_first, outside_is_done, forged_waits, hurried_mount}
use Rattle.refuted.specs.Wrong.{loses_all, keeps_pending, refuses_alike, overlooks_foreign, names_second, ties_at_start, refuses_half_erased}
use Rattle.refuted.specs.Wrong.{takes_half_erased, formats_at_once, formats_blindly, goes_back_of, erases_one, erases_blank, ignores_count, even_only}
use Rattle.refuted.specs.WrongShares.{full_at_half, full_by_all, full_by_values, full_by_image, full_by_two, deletes_pass, room_first, abort_keeps}
use Rattle.refuted.specs.WrongShares.{transfer_clears, mount_keeps, takes_any_counts}
use Rattle.refuted.specs.WrongEditions.{pending_alone, with_reserve, converts_again, drops_first, falls_back, format_keeps, second_foreign, crc_of_body}
use Rattle.refuted.specs.WrongEditions.{crc_big_endian, ignores_crc, room_as_before, logs_by_first, takes_any_edition, making, edition_now}
use Rattle.refuted.specs.WrongEditions.{pending_in_first, room_before_pending, any_body, room_by_first, converts_worn, mount_falls_back, later_edition}
use Rattle.refuted.specs.WrongEditions.{record_keeps, torn_foreign, full_by_first}
use Rattle.refuted.specs.WrongMends.{moves_always, moves_undue, moves_at_edge, never_moves, fits_unclosed, fits_five, leaves_torn, worn_mends}
use Rattle.refuted.specs.WrongMends.{closes_and_moves, high_first, length_stays, closes_all, clears_body, finish_first, closes_alone, always_resets}
use Rattle.refuted.specs.WrongMends.{aborts_one, reset_bare, finishes_reset, end_stays_of, mend_keeps}
use Rattle.refuted.specs.WrongClosed.{closing_foreign, reset_foreign, closes_seven, checks_body, checks_crc, past_reset, room_with_closed, logs_closed}
use Rattle.refuted.specs.WrongPlaces.{places_stay, convert_stays, put_stays, delete_stays, abort_places, places_others, mount_places, trusts_place}
use Rattle.refuted.specs.WrongPlaces.{reads_any_length, reads_afresh, stale_first, none_first_of, reads_by_header, skips_places}
use Rattle.refuted.specs.WrongWear.{transfers_always, transfers_half_full, erases_target}
use Rattle.refuted.specs.WrongRows.{RightInRows}
use Rattle.refuted.proofs.RowsKept.{FormatsAnswered, rows-kept}

accepted-answer : (a : Answer) (o x : Out) → x.answer ≡ o.answer → (by_answer a x x o).answer ≡ o.answer
accepted-answer Done o x e = e
accepted-answer More o x e = e
accepted-answer (Refused n) o x e = refl

formats-at-once : FormatsAnswered formats_at_once
unfolding formats_at_once
formats-at-once img r o = accepted-answer o.answer o (on_image (replicate (length img) 0xFF) o) refl

formats-blindly : FormatsAnswered formats_blindly
unfolding formats_blindly
formats-blindly img r o =
    accepted-answer o.answer o (out o.answer img (exec 2 (replicate (length img) 0xFF) unmounted format).board []) refl

job-answer : (a : Answer) (o x : Out) → a ≡ o.answer → x.answer ≡ More → (by_answer a o x o).answer ≡ o.answer
job-answer Done o x e f = refl
job-answer More o x e f = f ∙ e
job-answer (Refused n) o x e f = refl

format-keeps : FormatsAnswered format_keeps
unfolding format_keeps
format-keeps img r o =
    let j : Job = making o.board.job.size (edition_now 2 img) o.board.job in
    job-answer o.answer o (out More o.image (with_job j o.board) o.reply) refl refl

pub right_in_rows : RightInRows
unfolding refuses_all refuses_puts refuses_high_ids own_formats_only first_half_only host_first refusal_clears refused_log_writes reads_alike invents_count never_commits
    aborts_nothing takes_others keeps_old programs_nothing whole_frame waits_long invents_step erases_first outside_is_done forged_waits hurried_mount loses_all
    keeps_pending refuses_alike overlooks_foreign names_second ties_at_start refuses_half_erased takes_half_erased goes_back_of erases_one erases_blank ignores_count even_only
    full_at_half full_by_all full_by_values full_by_image full_by_two deletes_pass room_first abort_keeps transfer_clears mount_keeps takes_any_counts pending_alone with_reserve
    converts_again drops_first falls_back second_foreign takes_any_edition crc_of_body crc_big_endian ignores_crc room_as_before logs_by_first pending_in_first
    room_before_pending any_body room_by_first converts_worn mount_falls_back later_edition record_keeps torn_foreign full_by_first moves_always moves_at_edge moves_undue
    never_moves fits_unclosed fits_five leaves_torn worn_mends closes_and_moves high_first length_stays closes_all clears_body finish_first closes_alone always_resets
    aborts_one reset_bare finishes_reset end_stays_of mend_keeps closing_foreign reset_foreign closes_seven checks_body checks_crc past_reset room_with_closed logs_closed
    places_stay convert_stays put_stays delete_stays abort_places places_others mount_places trusts_place reads_any_length reads_afresh stale_first none_first_of reads_by_header
    skips_places transfers_always transfers_half_full erases_target
right_in_rows =
    record {
      refuses-all = rows-kept refuses_all (λ img r o. refl);
      refuses-puts = rows-kept refuses_puts (λ img r o. refl);
      refuses-high-ids = rows-kept refuses_high_ids (λ img r o. refl);
      own-formats-only = rows-kept own_formats_only (λ img r o. refl);
      first-half-only = rows-kept first_half_only (λ img r o. refl);
      host-first = rows-kept host_first (λ img r o. refl);
      refusal-clears = rows-kept refusal_clears (λ img r o. refl);
      refused-log-writes = rows-kept refused_log_writes (λ img r o. refl);
      reads-alike = rows-kept reads_alike (λ img r o. refl);
      invents-count = rows-kept invents_count (λ img r o. refl);
      never-commits = rows-kept never_commits (λ img r o. refl);
      aborts-nothing = rows-kept aborts_nothing (λ img r o. refl);
      takes-others = rows-kept takes_others (λ img r o. refl);
      keeps-old = rows-kept keeps_old (λ img r o. refl);
      programs-nothing = rows-kept programs_nothing (λ img r o. refl);
      whole-frame = rows-kept whole_frame (λ img r o. refl);
      waits-long = rows-kept waits_long (λ img r o. refl);
      invents-step = rows-kept invents_step (λ img r o. refl);
      erases-first = rows-kept erases_first (λ img r o. refl);
      outside-is-done = rows-kept outside_is_done (λ img r o. refl);
      forged-waits = rows-kept forged_waits (λ img r o. refl);
      hurried-mount = rows-kept hurried_mount (λ img r o. refl);
      loses-all = rows-kept loses_all (λ img r o. refl);
      keeps-pending = rows-kept keeps_pending (λ img r o. refl);
      refuses-alike = rows-kept refuses_alike (λ img r o. refl);
      overlooks-foreign = rows-kept overlooks_foreign (λ img r o. refl);
      names-second = rows-kept names_second (λ img r o. refl);
      ties-at-start = rows-kept ties_at_start (λ img r o. refl);
      refuses-half-erased = rows-kept refuses_half_erased (λ img r o. refl);
      takes-half-erased = rows-kept takes_half_erased (λ img r o. refl);
      formats-at-once = rows-kept formats_at_once formats-at-once;
      formats-blindly = rows-kept formats_blindly formats-blindly;
      goes_back = rows-kept goes_back_of (λ img r o. refl);
      erases-one = rows-kept erases_one (λ img r o. refl);
      erases-blank = rows-kept erases_blank (λ img r o. refl);
      ignores-count = rows-kept ignores_count (λ img r o. refl);
      even-only = rows-kept even_only (λ img r o. refl);
      full-at-half = rows-kept full_at_half (λ img r o. refl);
      full-by-all = rows-kept full_by_all (λ img r o. refl);
      full-by-values = rows-kept full_by_values (λ img r o. refl);
      full-by-image = rows-kept full_by_image (λ img r o. refl);
      full-by-two = rows-kept full_by_two (λ img r o. refl);
      deletes-pass = rows-kept deletes_pass (λ img r o. refl);
      room-first = rows-kept room_first (λ img r o. refl);
      abort-keeps = rows-kept abort_keeps (λ img r o. refl);
      transfer-clears = rows-kept transfer_clears (λ img r o. refl);
      mount-keeps = rows-kept mount_keeps (λ img r o. refl);
      takes-any-counts = rows-kept takes_any_counts (λ img r o. refl);
      pending-alone = rows-kept pending_alone (λ img r o. refl);
      pending-in-first = rows-kept pending_in_first (λ img r o. refl);
      room-before-pending = rows-kept room_before_pending (λ img r o. refl);
      any-body = rows-kept any_body (λ img r o. refl);
      room-by-first = rows-kept room_by_first (λ img r o. refl);
      with-reserve = rows-kept with_reserve (λ img r o. refl);
      converts-worn = rows-kept converts_worn (λ img r o. refl);
      converts-again = rows-kept converts_again (λ img r o. refl);
      drops-first = rows-kept drops_first (λ img r o. refl);
      falls-back = rows-kept falls_back (λ img r o. refl);
      mount-falls-back = rows-kept mount_falls_back (λ img r o. refl);
      format-keeps = rows-kept format_keeps format-keeps;
      second-foreign = rows-kept second_foreign (λ img r o. refl);
      later-edition = rows-kept later_edition (λ img r o. refl);
      record-keeps = rows-kept record_keeps (λ img r o. refl);
      takes-any-edition = rows-kept takes_any_edition (λ img r o. refl);
      crc-of-body = rows-kept crc_of_body (λ img r o. refl);
      crc-big-endian = rows-kept crc_big_endian (λ img r o. refl);
      ignores-crc = rows-kept ignores_crc (λ img r o. refl);
      torn-foreign = rows-kept torn_foreign (λ img r o. refl);
      room-as-before = rows-kept room_as_before (λ img r o. refl);
      full-by-first = rows-kept full_by_first (λ img r o. refl);
      logs-by-first = rows-kept logs_by_first (λ img r o. refl);
      moves-always = rows-kept moves_always (λ img r o. refl);
      moves-at-edge = rows-kept moves_at_edge (λ img r o. refl);
      moves-undue = rows-kept moves_undue (λ img r o. refl);
      never-moves = rows-kept never_moves (λ img r o. refl);
      fits-unclosed = rows-kept fits_unclosed (λ img r o. refl);
      fits-five = rows-kept fits_five (λ img r o. refl);
      leaves-torn = rows-kept leaves_torn (λ img r o. refl);
      worn-mends = rows-kept worn_mends (λ img r o. refl);
      closes-and-moves = rows-kept closes_and_moves (λ img r o. refl);
      high-first = rows-kept high_first (λ img r o. refl);
      length-stays = rows-kept length_stays (λ img r o. refl);
      closes-all = rows-kept closes_all (λ img r o. refl);
      clears-body = rows-kept clears_body (λ img r o. refl);
      finish-first = rows-kept finish_first (λ img r o. refl);
      closes-alone = rows-kept closes_alone (λ img r o. refl);
      always-resets = rows-kept always_resets (λ img r o. refl);
      aborts-one = rows-kept aborts_one (λ img r o. refl);
      reset-bare = rows-kept reset_bare (λ img r o. refl);
      finishes-reset = rows-kept finishes_reset (λ img r o. refl);
      end_stays = rows-kept end_stays_of (λ img r o. refl);
      mend-keeps = rows-kept mend_keeps (λ img r o. refl);
      closing-foreign = rows-kept closing_foreign (λ img r o. refl);
      reset-foreign = rows-kept reset_foreign (λ img r o. refl);
      closes-seven = rows-kept closes_seven (λ img r o. refl);
      checks-body = rows-kept checks_body (λ img r o. refl);
      checks-crc = rows-kept checks_crc (λ img r o. refl);
      past-reset = rows-kept past_reset (λ img r o. refl);
      room-with-closed = rows-kept room_with_closed (λ img r o. refl);
      logs-closed = rows-kept logs_closed (λ img r o. refl);
      places-stay = rows-kept places_stay (λ img r o. refl);
      convert-stays = rows-kept convert_stays (λ img r o. refl);
      put-stays = rows-kept put_stays (λ img r o. refl);
      delete-stays = rows-kept delete_stays (λ img r o. refl);
      abort-places = rows-kept abort_places (λ img r o. refl);
      places-others = rows-kept places_others (λ img r o. refl);
      mount-places = rows-kept mount_places (λ img r o. refl);
      trusts-place = rows-kept trusts_place (λ img r o. refl);
      reads-any-length = rows-kept reads_any_length (λ img r o. refl);
      reads-afresh = rows-kept reads_afresh (λ img r o. refl);
      stale-first = rows-kept stale_first (λ img r o. refl);
      none_first = rows-kept none_first_of (λ img r o. refl);
      reads-by-header = rows-kept reads_by_header (λ img r o. refl);
      skips-places = rows-kept skips_places (λ img r o. refl);
      transfers-always = rows-kept transfers_always (λ img r o. refl);
      transfers-half-full = rows-kept transfers_half_full (λ img r o. refl);
      erases-target = rows-kept erases_target (λ img r o. refl);
    }
