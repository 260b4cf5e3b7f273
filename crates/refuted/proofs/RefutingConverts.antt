-- Demand 3 sees K9: a convert that drops an object, and a mount that finds a torn frame of edition 2 foreign.
use mathlib.Core.Path.{◌≡◌, refl, sym, ap, subst, ◌∙◌}
use mathlib.Core.List.{List, [], ◌∷◌, ◌++◌, map}
use mathlib.Core.Bool.{false}
use Prim.Native.Nat.{ℕ}
use native.Mathlib.Omega.{arith}
use lib.ListN.{length, set}
use Rattle.flash.specs.Bytes.{all_ff, same_bytes_of}
use Rattle.flash.specs.Flash.{numbers_from, size_in, apply_all, writes, block, size_of}
use Rattle.crc.specs.Crc.{shift32, shifted32, crc32_from}
use Rattle.frame.specs.declared.Edition.TheVariants as edition
use Rattle.frame.specs.declared.Field.TheVariants as field
use Rattle.frame.specs.Frame.{host_of, id_of, put, change, commit, encode_all, total}
use Rattle.frame.specs.Reader.{clean, host_layout, layout_of, match, read_frame, scan, fault}
use Rattle.journal.specs.Replay.{Object, object, insert, remove, lookup, change_all, list_of, without, is_open_of, replay_from}
use Rattle.journal.specs.Block.{Journal, journal, valid, edition_in, header_fault, block_state, changing}
use Rattle.journal.specs.Room.{no_room_of, host_full}
use Rattle.journal.specs.Index.{sited, places_from, since_from, value_at, next_settled, next_pending, next_load_of}
use Rattle.wire.specs.declared.Answer.TheVariants.{Refused}
use Rattle.wire.specs.declared.Refusal.TheVariants as refusal
use Rattle.wire.specs.Message.{parse}
use Rattle.board.specs.Record.{allowed, unmounted, rest, idle, Out, no_places, no_frame}
use Rattle.board.specs.Step.{enter_append, enter_drop, enter_copy, enter_open, enter_close, enter_wipe, advance, step_busy, step_on}
use Rattle.board.specs.Mount.{mount_at, mount_found, mount_on, format_order, format_on, replay_of}
use Rattle.board.specs.Queue.{fits_record, held, append, serve_change, serve_end, convert, serve_convert, serve, request_on, read_at, read_place}
use Rattle.board.specs.Exec.{Call, mount, format, Machine}
use Rattle.board.specs.Book.{Book, book, nothing, no_lists, first_book, enter_call}
use Rattle.board.specs.Claim.{Event, call, Run, Track, tracked, track, IdleAgrees, Agrees, begun_by, formatted, Claim}
use Rattle.board.specs.CutFormat.{Left, after_all}
use Rattle.refuted.specs.Wrong.{off_bench}
use Rattle.refuted.specs.WrongEditions.{drops_first, torn_foreign}
use Rattle.refuted.specs.WrongRuns.{block_of, half, blank_half, put_empty, commits, stepping}
use Rattle.refuted.specs.EditionRuns.{converts}
use Rattle.board.proofs.Erasing.{same-valid}
use Rattle.board.proofs.Runs.{run_rest, steps_happen, steps_agree, HappensAfter}
use Rattle.board.proofs.Runs as runs
use Rattle.refuted.proofs.Refuting.{bytes_in_lem}
use Rattle.refuted.proofs.RefutingCut.{calls-then, img, empty, claimed-of}

-- ---- a convert that drops an object

abbrev m : Machine
m = off_bench drops_first 2

-- an empty value is put to id 0 and committed; a mount, after which the book's lists are plainly empty
abbrev storing : List Call
storing = put_empty 0 ∷ stepping 8 (commits ∷ stepping 6 (mount ∷ []))

abbrev os : List Object
os = object (id_of 0) [] ∷ []

abbrev holding : Left
holding =
    record {
      image = half 1 (change (host_of 2) (put (id_of 0) []) ∷ commit (host_of 2) ∷ []) ++ blank_half;
      board = idle (set no_places 0 16) (rest 2 767 0 30 1);
      book = book os no_lists nothing;
    }

-- the convert's eleven steps leave an empty store of edition 2
abbrev converting : Out
converting = m holding.image holding.board converts

abbrev entered : Book
entered = enter_call holding.book converts converting.answer

abbrev dropped : Left
dropped =
    record {
      image = blank_half ++ block_of edition.Second 384 2 [];
      board = idle no_places (rest 2 767 1 16 2);
      book = book os no_lists nothing;
    }

record Computed : Type 0 where
  formatted_is : formatted 2 m img unmounted ≡ empty
  holding_is : after_all 2 m empty.image empty.board first_book (map call storing) ≡ holding
  dropped_is : after_all 2 m converting.image converting.board entered (runs.stepping 11) ≡ dropped
  reads_as : block_state (block (size_of 2 dropped.image) 1 dropped.image) ≡ valid (journal edition.Second 2 [] clean)

computed : Computed
unfolding drops_first numbers_from size_in allowed all_ff same_bytes_of apply_all writes encode_all total host_layout layout_of match read_frame scan insert remove lookup
    change_all list_of without is_open_of replay_from edition_in header_fault block_state changing no_room_of host_full sited places_from since_from value_at next_settled
    next_pending next_load_of parse no_places no_frame enter_append enter_drop enter_copy enter_open enter_close enter_wipe advance step_busy step_on mount_at mount_found
    mount_on format_order format_on fits_record held append serve_change serve_end convert serve_convert serve read_at read_place request_on half blank_half
computed = record { formatted_is = refl; holding_is = refl; dropped_is = refl; reads_as = refl }

abbrev after : List Event
after = call converts ∷ runs.stepping 11

disagrees : (u : Track) → IdleAgrees 2 u dropped.image dropped.board dropped.book → ⊥
unfolding replay_from
disagrees u y =
    let v : y.journal ≡ journal edition.Second 2 [] clean = same-valid (sym y.is-valid ∙ computed.reads_as) in
    let w : ◌≡◌ {A = List Object} [] os = ap (λ (x : Journal). (replay_of x).objects) (sym v) ∙ y.objects in
    let n : ◌≡◌ {A = ℕ} 0 1 = ap (λ (l : List Object). length l) w in omega arith

pub drops-first : Claim 2 m → ⊥
drops-first p =
    let run : Run 2 m empty.image empty.board first_book (tracked false false) format (map call storing ++ after) =
    claimed-of m p computed.formatted_is (map call storing ++ after)
    (calls-then m storing empty.image empty.board first_book (bytes_in_lem storing refl) after
    (subst (λ (l : Left). HappensAfter 2 m l after) (sym computed.holding_is)
    ((bytes_in_lem (converts ∷ []) refl).0, steps_happen 2 m 11 converting.image converting.board entered))) in
    let x = run_rest 2 m empty.image empty.board first_book (tracked false false) format (map call storing) after run in
    ends x.0 x.1 (subst (λ (l : Left). Run 2 m l.image l.board l.book x.0 x.1 after) computed.holding_is x.2)
  where
    ends : (u : Track) (a : Call) → Run 2 m holding.image holding.board holding.book u a after → ⊥
    ends u a y =
        let b : Call = begun_by a converts converting.answer in
        let t : Track = track (size_of 2 holding.image) u holding.book converts converting.answer in
        let z = steps_agree 2 m 11 converting.image converting.board entered t b y.1 y.2 in
        disagrees z.0 (subst (λ (l : Left). Agrees 2 m b z.0 l.image l.board l.book) computed.dropped_is z.1)

-- ---- a torn frame of edition 2

abbrev strict : Machine
strict = off_bench torn_foreign 2

-- a convert, and a put that is cut after one byte
abbrev tearing : List Call
tearing = converts ∷ stepping 11 (put_empty 7 ∷ stepping 1 [])

abbrev torn : Left
torn = after_all 2 strict empty.image empty.board first_book (map call tearing)

record Torn : Type 0 where
  formatted_is : formatted 2 strict img unmounted ≡ empty
  refused : (strict torn.image torn.board mount).answer ≡ Refused (refusal.Foreign 1 (fault field.Crc 23))

torn-put : Torn
unfolding torn_foreign numbers_from size_in allowed all_ff same_bytes_of apply_all writes shift32 shifted32 crc32_from encode_all total host_layout layout_of match
    read_frame scan insert remove lookup change_all list_of without is_open_of replay_from edition_in header_fault block_state changing no_room_of host_full sited
    places_from since_from value_at next_settled next_pending next_load_of parse no_places no_frame enter_append enter_drop enter_copy enter_open enter_close enter_wipe
    advance step_busy step_on mount_at mount_found mount_on format_order format_on fits_record held append serve_change serve_end convert serve_convert serve read_at
    read_place request_on half blank_half
torn-put = record { formatted_is = refl; refused = refl }

pub torn-foreign : Claim 2 strict → ⊥
torn-foreign p =
    let run : Run 2 strict empty.image empty.board first_book (tracked false false) format (map call tearing ++ (call mount ∷ [])) =
    claimed-of strict p torn-put.formatted_is (map call tearing ++ (call mount ∷ []))
    (calls-then strict tearing empty.image empty.board first_book (bytes_in_lem tearing refl) (call mount ∷ []) (tt, tt)) in
    let x = run_rest 2 strict empty.image empty.board first_book (tracked false false) format (map call tearing) (call mount ∷ []) run in
    x.2.0.never_foreign 1 (fault field.Crc 23) torn-put.refused
