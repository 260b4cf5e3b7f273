-- Demand 3 sees K8: places that stay through a transfer, so that a read gets 11; a delete that leaves its place in a record at rest.
use mathlib.Core.Path.{◌≡◌, refl, sym, ap, subst, ◌∙◌}
use mathlib.Core.List.{List, [], ◌∷◌, ◌++◌, map}
use mathlib.Core.Bool.{false}
use Prim.Native.Nat.{ℕ}
use native.Mathlib.Omega.{arith}
use lib.ListN.{get_or}
use Rattle.flash.specs.Bytes.{all_ff, same_bytes_of}
use Rattle.flash.specs.Flash.{numbers_from, size_in, apply_all, writes, block, size_of}
use Rattle.crc.specs.Crc.{shift32, shifted32, crc32_from}
use Rattle.frame.specs.declared.Edition.TheVariants as edition
use Rattle.frame.specs.Frame.{host_of, id_of, put, delete, Frame, change, commit, encode_all, total}
use Rattle.frame.specs.Reader.{clean, host_layout, layout_of, match, read_frame, scan}
use Rattle.journal.specs.Replay.{insert, remove, lookup, change_all, list_of, without, is_open_of, replay_from}
use Rattle.journal.specs.Block.{Journal, journal, valid, edition_in, header_fault, block_state, changing}
use Rattle.journal.specs.Room.{no_room_of, host_full}
use Rattle.journal.specs.Index.{sited, places_from, since_from, value_at, next_settled, next_pending, next_load_of}
use Rattle.journal.specs.Laws.{PlacesAre}
use Rattle.wire.specs.declared.Answer.TheVariants.{Refused}
use Rattle.wire.specs.declared.Refusal.TheVariants as refusal
use Rattle.wire.specs.Message.{parse}
use Rattle.board.specs.declared.Phase.{Phase}
use Rattle.board.specs.declared.Phase.TheVariants.{Idle}
use Rattle.board.specs.Record.{allowed, unmounted, no_places, no_frame}
use Rattle.board.specs.Step.{enter_append, enter_drop, enter_copy, enter_open, enter_close, enter_wipe, advance, step_busy, step_on}
use Rattle.board.specs.Mount.{format_order, format_on}
use Rattle.board.specs.Queue.{fits_record, held, append, serve_change, serve_end, convert, serve_convert, serve, request_on, read_at, read_place}
use Rattle.board.specs.Exec.{Call, step, format, Machine}
use Rattle.board.specs.Book.{first_book}
use Rattle.board.specs.Claim.{Event, call, Run, Track, tracked, IdleAgrees, AgreesIn, formatted, Claim}
use Rattle.board.specs.CutFormat.{Left, after_all}
use Rattle.refuted.specs.Wrong.{off_bench}
use Rattle.refuted.specs.WrongPlaces.{places_stay, delete_stays}
use Rattle.refuted.specs.WrongRuns.{half, blank_half, stepping, put_empty, deletes, commits}
use Rattle.refuted.specs.EditionRuns.{converts}
use Rattle.refuted.specs.PlaceRuns.{reads_of}
use Rattle.board.proofs.Erasing.{same-valid}
use Rattle.board.proofs.Runs.{after-append, run_rest}
use Rattle.refuted.proofs.Refuting.{bytes_in_lem}
use Rattle.refuted.proofs.RefutingCut.{calls-then, img, empty, claimed-of}
use Rattle.refuted.proofs.RefutingTorn.{left_by_of, agrees_after}

-- ---- the places stay through a transfer

abbrev kept : Machine
kept = off_bench places_stay 2

-- id 7 is put twice, at 16 and at 24, and committed; after the convert its value stands at 16
abbrev moving : List Call
moving = put_empty 7 ∷ stepping 8 (put_empty 7 ∷ stepping 8 (commits ∷ stepping 6 (converts ∷ stepping 22 [])))

record Kept : Type 0 where
  formatted_is : formatted 2 kept img unmounted ≡ empty
  refused : (kept (left_by_of kept moving).image (left_by_of kept moving).board (reads_of 7)).answer ≡ Refused refusal.Stale

kept-done : Kept
unfolding places_stay numbers_from size_in allowed all_ff same_bytes_of apply_all writes shift32 shifted32 crc32_from encode_all total host_layout layout_of match read_frame
    scan insert remove lookup change_all list_of without is_open_of replay_from edition_in header_fault block_state changing no_room_of host_full sited places_from since_from
    value_at next_settled next_pending next_load_of parse no_places no_frame enter_append enter_drop enter_copy enter_open enter_close enter_wipe advance step_busy step_on
    format_order format_on fits_record held append serve_change serve_end convert serve_convert serve read_at read_place request_on half blank_half
kept-done = record { formatted_is = refl; refused = refl }

pub places-stay : Claim 2 kept → ⊥
places-stay p =
    let run : Run 2 kept empty.image empty.board first_book (tracked false false) format (map call moving ++ (call (reads_of 7) ∷ [])) =
    claimed-of kept p kept-done.formatted_is (map call moving ++ (call (reads_of 7) ∷ []))
    (calls-then kept moving empty.image empty.board first_book (bytes_in_lem moving refl) (call (reads_of 7) ∷ [])
    ((bytes_in_lem (reads_of 7 ∷ []) refl).0, tt)) in
    let x = run_rest 2 kept empty.image empty.board first_book (tracked false false) format (map call moving) (call (reads_of 7) ∷ []) run in
    x.2.0.1 kept-done.refused

-- ---- a delete leaves its place

abbrev left : Machine
left = off_bench delete_stays 2

-- id 5 is put at 16 and committed, and its delete too, in so many steps
abbrev deleting : ℕ → List Call
deleting n = put_empty 5 ∷ stepping 8 (commits ∷ stepping 6 (deletes ∷ stepping 8 (commits ∷ stepping n [])))

abbrev frames : List Frame
frames = change (host_of 2) (put (id_of 5) []) ∷ commit (host_of 2) ∷ change (host_of 2) (delete (id_of 5)) ∷ commit (host_of 2) ∷ []

abbrev after : Left
after = left_by_of left (deleting 6)

-- with `after` written out, which computes faster
record Leaves : Type 0 where
  calls_are : map call (deleting 5) ++ (call step ∷ []) ≡ map call (deleting 6)
  formatted_is : formatted 2 left img unmounted ≡ empty
  rests : (left_by_of left (deleting 6)).board.phase ≡ Idle
  place : get_or (left_by_of left (deleting 6)).board.places 5 0 ≡ 16
  reads_as : block_state (block (size_of 2 (left_by_of left (deleting 6)).image) (left_by_of left (deleting 6)).board.rest.block (left_by_of left (deleting 6)).image)
      ≡ valid (journal edition.First 1 frames clean)

leaves-done : Leaves
unfolding delete_stays numbers_from size_in allowed all_ff same_bytes_of apply_all writes encode_all total host_layout layout_of match read_frame scan insert remove lookup
    change_all list_of without is_open_of replay_from edition_in header_fault block_state changing no_room_of host_full sited places_from since_from value_at next_settled
    next_pending next_load_of parse no_places no_frame enter_append enter_drop enter_copy enter_open enter_close enter_wipe advance step_busy step_on format_order format_on
    fits_record held append serve_change serve_end serve read_at read_place request_on half blank_half
leaves-done = record { calls_are = refl; formatted_is = refl; rests = refl; place = refl; reads_as = refl }

pub delete-stays : Claim 2 left → ⊥
unfolding replay_from change_all list_of without insert remove lookup
delete-stays p =
    let e : after_all 2 left (left_by_of left (deleting 5)).image (left_by_of left (deleting 5)).board (left_by_of left (deleting 5)).book (call step ∷ []) ≡ after =
    sym (after-append 2 left empty.image empty.board first_book (map call (deleting 5)) (call step ∷ []))
    ∙ ap (λ (es : List Event). after_all 2 left empty.image empty.board first_book es) leaves-done.calls_are in
    let z = agrees_after left p leaves-done.formatted_is (deleting 5) (bytes_in_lem (deleting 5) refl) step tt e in
    go z.1 (subst (λ (h : Phase). AgreesIn 2 left z.0 z.1 h after.image after.board after.book) leaves-done.rests z.2)
  where
    go : (u : Track) → IdleAgrees 2 u after.image after.board after.book → ⊥
    go u y =
        let v : y.journal ≡ journal edition.First 1 frames clean = same-valid (sym y.is-valid ∙ leaves-done.reads_as) in
        let ps : PlacesAre edition.First after.board.places frames =
        subst (λ (x : Journal). PlacesAre x.edition after.board.places x.frames) v y.places in
        let w : ◌≡◌ {A = ℕ} 16 0 = sym leaves-done.place ∙ ps.absent (id_of 5) (omega arith) refl in omega arith
