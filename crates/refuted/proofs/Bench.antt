-- The starred bench rows, rows l, m and p and row o's values, computed over the definitions.
use mathlib.Core.Path.{◌≡◌, refl, ap, ◌∙◌}
use mathlib.Core.List.{List, [], ◌∷◌, ◌++◌}
use Prim.Native.Nat.{ℕ, ◌-◌}
use lib.ListN.{length, drop, replicate}
use Rattle.flash.specs.Bytes.{all_ff, same_bytes_of}
use Rattle.flash.specs.Flash.{numbers_from, size_in, writes}
use Rattle.frame.specs.declared.Edition.TheVariants as edition
use Rattle.frame.specs.Frame.{host_of, id_of, put, delete, Frame, change, commit, settled, encode_all, total}
use Rattle.frame.specs.Reader.{host_layout, layout_of, match, read_frame, scan}
use Rattle.journal.specs.Replay.{insert, remove, lookup, change_all, list_of, without, is_open_of, replay_from}
use Rattle.journal.specs.Block.{header, valid_data, edition_in, header_fault, block_state, changing}
use Rattle.journal.specs.Room.{claimed, no_room_of, host_full}
use Rattle.journal.specs.Index.{sited, places_from, since_from, value_at, next_settled, next_pending, next_load_of}
use Rattle.wire.specs.Message.{parse}
use Rattle.wire.specs.declared.Answer.TheVariants.{Done}
use Rattle.board.specs.Record.{allowed, rest, counting, idle, no_places, no_frame}
use Rattle.board.specs.Step.{enter_append, enter_drop, enter_copy, enter_open, enter_close, enter_wipe, advance, step_busy, step_on}
use Rattle.board.specs.Mount.{mount_at, mount_found, mount_on, format_order, format_on}
use Rattle.board.specs.Queue.{fits_record, held, append, serve_change, serve_end, serve_log, serve, request_on, read_at, read_place}
use Rattle.board.specs.Exec.{exec}
use Rattle.refuted.specs.Rows.{Ran, drive, returned, ask, asked, cut_in, mounted, replayed, timed, part, row_a, row_b, row_c, row_d, row_e, row_f}
use Rattle.refuted.specs.Rows.{row_g, row_h, stores, row_i, row_k, row_ldelete, row_l, row_m, three, row_along, row_o, commit_message, put_message, delete_message}
use Rattle.refuted.specs.Rows.{format_answer, Rows, at, three_puts, three_settled}

-- ---- rows i to m in stages, each computed from where the last ended

-- a half of 256 bytes, made at a time
unfoldable half_of : ℕ → List Frame → List ℕ
half_of t fs = let b : List ℕ = header edition.First t valid_data ++ encode_all edition.First fs in b ++ replicate (256 - length b) 0xFF

unfoldable blank_half : List ℕ
blank_half = replicate 256 0xFF

-- 64 bytes in an id: put and committed; settled
abbrev stored : ℕ → List Frame
stored i = change (host_of 0) (put (id_of i) (replicate 64 0x41)) ∷ commit (host_of 0) ∷ []

abbrev moved : List Frame
moved = settled (id_of 1) (replicate 64 0x41) ∷ settled (id_of 2) (replicate 64 0x41) ∷ settled (id_of 3) (replicate 64 0x41) ∷ []

abbrev deleted : Frame
deleted = change (host_of 0) (delete (id_of 1))

abbrev old_half : List ℕ
old_half = half_of 1 (stored 1 ++ (stored 2 ++ stored 3)) ++ blank_half

abbrev new_half : List Frame → List ℕ
new_half fs = blank_half ++ half_of 2 (moved ++ fs)

-- a call's steps and what they leave
abbrev after_i : ℕ → Ran
after_i n = record { steps = n; image = old_half; board = idle three_puts (rest 2 511 0 250 1); answer = Done }

abbrev after_delete : Ran
after_delete =
    record {
      steps = 232;
      image = new_half (deleted ∷ []);
      board = idle three_settled (counting (rest 2 511 1 237 1) (8 ∷ 0 ∷ 0 ∷ 0 ∷ []));
      answer = Done;
    }

abbrev after_commit : Ran
after_commit = record { steps = 6; image = new_half (deleted ∷ commit (host_of 0) ∷ []); board = idle (at 1 0 three_settled) (rest 2 511 1 243 1); answer = Done }

abbrev after_l : Ran
after_l =
    record {
      steps = 8;
      image = new_half (deleted ∷ commit (host_of 0) ∷ change (host_of 0) (put (id_of 4) []) ∷ []);
      board = idle (at 1 0 three_settled) (counting (rest 2 511 1 251 1) (8 ∷ 0 ∷ 0 ∷ 0 ∷ []));
      answer = Done;
    }

abbrev after_m : Ran
after_m = record { steps = 1; image = new_half []; board = idle three_settled (rest 2 511 1 229 1); answer = Done }

record Stages : Type 0 where
  i_is : row_i (exec 2) 64 ≡ after_i 6
  k_is : asked (exec 2) (after_i 6) 0 commit_message ≡ after_i 0
  delete_is : asked (exec 2) (after_i 0) 0 delete_message ≡ after_delete
  commit_is : asked (exec 2) after_delete 0 commit_message ≡ after_commit
  put_is : asked (exec 2) after_commit 0 (put_message 4 0) ≡ after_l
  m_222_is : mounted (exec 2) (cut_in (exec 2) (after_i 0) 0 delete_message 222) ≡ after_i 1
  m_223_is : mounted (exec 2) (cut_in (exec 2) (after_i 0) 0 delete_message 223) ≡ after_m

stages : Stages
unfolding numbers_from size_in allowed drive returned ask asked cut_in mounted row_a stores row_i commit_message put_message delete_message all_ff same_bytes_of writes
    encode_all total host_layout layout_of match read_frame scan insert remove lookup change_all list_of without is_open_of replay_from edition_in header_fault block_state
    changing no_room_of host_full sited places_from since_from value_at next_settled next_pending next_load_of parse no_places no_frame enter_append enter_drop enter_copy
    enter_open enter_close enter_wipe advance step_busy step_on mount_at mount_found mount_on format_order format_on fits_record held append serve_change serve_end
    serve_log serve read_at read_place request_on half_of blank_half
stages =
    record {
      i_is = refl;
      k_is = refl;
      delete_is = refl;
      commit_is = refl;
      put_is = refl;
      m_222_is = refl;
      m_223_is = refl;
    }

k_is : row_k (exec 2) 64 ≡ after_i 0
unfolding row_k
k_is = ap (λ (x : Ran). asked (exec 2) x 0 commit_message) stages.i_is ∙ stages.k_is

delete_is : row_ldelete (exec 2) ≡ after_delete
unfolding row_ldelete
delete_is = ap (λ (x : Ran). asked (exec 2) x 0 delete_message) k_is ∙ stages.delete_is

l_is : row_l (exec 2) ≡ after_l
unfolding row_l
l_is =
    ap (λ (x : Ran). asked (exec 2) (asked (exec 2) x 0 commit_message) 0 (put_message 4 0)) delete_is
    ∙ ap (λ (x : Ran). asked (exec 2) x 0 (put_message 4 0)) stages.commit_is
    ∙ stages.put_is

m_222_is : row_m (exec 2) 222 ≡ after_i 1
unfolding row_m
m_222_is = ap (λ (x : Ran). mounted (exec 2) (cut_in (exec 2) x 0 delete_message 222)) k_is ∙ stages.m_222_is

m_223_is : row_m (exec 2) 223 ≡ after_m
unfolding row_m
m_223_is = ap (λ (x : Ran). mounted (exec 2) (cut_in (exec 2) x 0 delete_message 223)) k_is ∙ stages.m_223_is

-- ---- the table

pub rows : Rows (exec 2)
unfolding numbers_from size_in allowed drive returned ask asked cut_in mounted replayed timed part row_a row_b row_c row_d row_e row_f row_g row_h stores row_i row_k
    row_ldelete row_l row_m three row_along row_o commit_message put_message delete_message format_answer all_ff same_bytes_of writes encode_all total host_layout layout_of
    match read_frame scan insert remove lookup change_all list_of without is_open_of replay_from edition_in header_fault block_state changing no_room_of host_full sited
    places_from since_from value_at next_settled next_pending next_load_of parse no_places no_frame enter_append enter_drop enter_copy enter_open enter_close enter_wipe
    advance step_busy step_on mount_at mount_found mount_on format_order format_on half_of blank_half fits_record held append serve_change serve_end serve_log serve
    read_at read_place request_on
rows =
    record {
      a_steps = refl;
      a_done = refl;
      a_half = refl;
      a_rest = refl;
      b_steps = refl;
      b_done = refl;
      b_frame = refl;
      c_steps = refl;
      c_frame = refl;
      c_end = refl;
      c_rest = refl;
      d_answer = refl;
      d_place = refl;
      e_answer = refl;
      e_reply = refl;
      f_steps = refl;
      f_done = refl;
      f_time = refl;
      f_reset = refl;
      f_rest = refl;
      f_holds = refl;
      g_steps = refl;
      g_done = refl;
      g_closed = refl;
      g_reset = refl;
      g_rest = refl;
      g_holds = refl;
      h_steps = refl;
      h_done = refl;
      h_holds = refl;
      i_accepted = refl;
      i_done = ap (λ (x : Ran). x.board) stages.i_is;
      i_claimed = ap (λ (x : Ran). claimed edition.First (replayed 0 x)) stages.i_is;
      j = ap (λ (x : Ran). (ask (exec 2) x 0 (put_message 4 0)).answer) stages.i_is;
      k_commit = ap (λ (x : Ran). x.steps) k_is;
      k_refused = ap (λ (x : Ran). (ask (exec 2) x 0 (put_message 4 0)).answer) k_is;
      k_accepted = refl;
      l_transfer = ap (λ (x : Ran). x.steps) delete_is;
      l_pending = ap (λ (x : Ran). x.board) delete_is;
      l_steps = ap (λ (x : Ran). x.steps) l_is;
      l_done = ap (λ (x : Ran). x.board) l_is;
      l_old = ap (λ (x : Ran). part 0 256 x.image) l_is;
      l_header = ap (λ (x : Ran). part 256 16 x.image) l_is;
      l_settled_1 = ap (λ (x : Ran). part 272 71 x.image) l_is;
      l_settled_2 = ap (λ (x : Ran). part 343 71 x.image) l_is;
      l_settled_3 = ap (λ (x : Ran). part 414 71 x.image) l_is;
      l_delete = ap (λ (x : Ran). part 485 8 x.image) l_is;
      l_commit = ap (λ (x : Ran). part 493 6 x.image) l_is;
      l_put = ap (λ (x : Ran). part 499 8 x.image) l_is;
      l_rest = ap (λ (x : Ran). drop 507 x.image) l_is;
      m_222_steps = ap (λ (x : Ran). x.steps) m_222_is;
      m_222_done = ap (λ (x : Ran). x.board) m_222_is;
      m_222_holds = ap (λ (x : Ran). replayed 0 x) m_222_is;
      m_223_steps = ap (λ (x : Ran). x.steps) m_223_is;
      m_223_done = ap (λ (x : Ran). x.board) m_223_is;
      m_223_holds = ap (λ (x : Ran). replayed 1 x) m_223_is;
      n = refl;
      o_240_steps = refl;
      o_240_done = refl;
      o_241 = refl;
      o_240_short = refl;
      o_120_short = refl;
      o_121_short = refl;
      p_512 = refl;
      p_768 = refl;
      p_65536 = refl;
      p_256 = refl;
      p_511 = refl;
      p_over = refl;
    }
