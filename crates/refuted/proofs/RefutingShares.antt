-- Demand 3 sees a store that lets a host's pending frames come to more than S/2 bytes: once the put is done the claim's shares are false.
use mathlib.Core.Path.{◌≡◌, refl, sym, subst, subst₂}
use mathlib.Core.List.{[], ◌∷◌, ◌++◌}
use mathlib.Core.Bool.{false}
use Prim.Native.Nat.{ℕ, ◌≤◌, ◌/◌}
use native.Mathlib.Omega.{arith}
use lib.ListN.{replicate}
use Rattle.flash.specs.Bytes.{all_ff, same_bytes_of}
use Rattle.flash.specs.Flash.{numbers_from, size_in, apply_all, writes, size_of}
use Rattle.frame.specs.Frame.{host_of, id_of, Change, put, change, encode_all, total}
use Rattle.frame.specs.Reader.{host_layout, layout_of, match, read_frame, scan}
use Rattle.journal.specs.Replay.{list_of, is_open_of, replay_from, lookup}
use Rattle.journal.specs.Block.{edition_in, header_fault, block_state}
use Rattle.journal.specs.Room.{no_room_of, host_full}
use Rattle.journal.specs.Index.{places_from, since_from, next_settled, next_pending, next_load_of, sited}
use Rattle.wire.specs.Message.{parse}
use Rattle.board.specs.Record.{allowed, unmounted, rest, counting, idle, Out, no_places, no_frame}
use Rattle.board.specs.Step.{enter_append, enter_drop, enter_copy, enter_open, enter_close, enter_wipe, advance, step_busy, step_on}
use Rattle.board.specs.Mount.{format_order, format_on}
use Rattle.board.specs.Queue.{fits_record, held, append, serve_change, serve, request_on, read_at, read_place}
use Rattle.board.specs.Exec.{Call, format, Machine}
use Rattle.board.specs.Book.{Book, first_book, join, enter_call}
use Rattle.board.specs.Claim.{call, Run, Track, tracked, track, IdleAgrees, Agrees, begun_by, formatted, Claim}
use Rattle.board.specs.CutFormat.{Left, after_all}
use Rattle.refuted.specs.Wrong.{off_bench}
use Rattle.refuted.specs.WrongShares.{full_by_image}
use Rattle.refuted.specs.WrongRuns.{half, blank_half, puts}
use Rattle.board.proofs.Runs.{stepping, steps_happen, steps_agree}
use Rattle.refuted.proofs.Refuting.{bytes_in_lem}
use Rattle.refuted.proofs.RefutingCut.{img, empty, claimed-of}

abbrev m : Machine
m = off_bench full_by_image 2

-- a frame of 193 bytes, where S/2 is 192
abbrev changed : Change
changed = put (id_of 9) (replicate 185 0x41)

abbrev putting : Out
putting = m empty.image empty.board (puts 2 185)

abbrev entered : Book
entered = enter_call first_book (puts 2 185) putting.answer

abbrev holding : Left
holding =
    record {
      image = half 1 (change (host_of 2) changed ∷ []) ++ blank_half;
      board = idle no_places (counting (rest 2 767 0 209 1) (0 ∷ 0 ∷ 193 ∷ 0 ∷ []));
      book = join first_book (host_of 2) changed;
    }

record Computed : Type 0 where
  formatted_is : formatted 2 m img unmounted ≡ empty
  holding_is : after_all 2 m putting.image putting.board entered (stepping 193) ≡ holding
  half_block : size_of 2 holding.image / 2 ≡ 192

computed : Computed
unfolding full_by_image numbers_from size_in allowed all_ff same_bytes_of apply_all writes encode_all total host_layout layout_of match read_frame scan list_of is_open_of
    replay_from edition_in header_fault block_state no_room_of host_full sited lookup places_from since_from next_settled next_pending next_load_of parse no_places no_frame
    enter_append enter_drop enter_copy enter_open enter_close enter_wipe advance step_busy step_on format_order format_on fits_record held append serve_change serve
    read_at read_place request_on half blank_half
computed = record { formatted_is = refl; holding_is = refl; half_block = refl }

pub full-by-image : Claim 2 m → ⊥
full-by-image p =
    let run : Run 2 m empty.image empty.board first_book (tracked false false) format (call (puts 2 185) ∷ stepping 193) =
    claimed-of m p computed.formatted_is (call (puts 2 185) ∷ stepping 193)
    ((bytes_in_lem (puts 2 185 ∷ []) refl).0, steps_happen 2 m 193 putting.image putting.board entered) in
    let a : Call = begun_by format (puts 2 185) putting.answer in
    let u : Track = track (size_of 2 empty.image) (tracked false false) first_book (puts 2 185) putting.answer in
    let z = steps_agree 2 m 193 putting.image putting.board entered u a run.1 run.2 in
    let y : IdleAgrees 2 z.0 holding.image holding.board holding.book =
    subst (λ (l : Left). Agrees 2 m a z.0 l.image l.board l.book) computed.holding_is z.1 in
    let w : 193 ≤ 192 =
    subst₂ (λ (b h : ℕ). b ≤ h) (sym (y.counts (host_of 2) (omega arith))) computed.half_block (y.shares (host_of 2) (omega arith)) in
    omega arith
