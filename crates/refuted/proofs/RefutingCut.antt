-- Demand 3 sees a store that refuses a half-erased half beside a valid one: power is lost inside an erase.
use mathlib.Core.Path.{◌≡◌, refl, sym, ap, subst, ◌∙◌}
use mathlib.Core.List.{List, [], ◌∷◌, ◌++◌, map}
use mathlib.Core.Bool.{true, false}
use Prim.Native.Nat.{ℕ}
use native.Mathlib.Omega.{arith}
use lib.ListN.{length, drop, replicate}
use Rattle.flash.specs.Bytes.{all_ff, same_bytes_of}
use Rattle.flash.specs.Flash.{numbers_from, size_in, apply_all, writes, block, size_of, with_block, erase_block}
use Rattle.flash.specs.Raised.{Raised}
use Rattle.flash.proofs.Blank.{bytes-replicate}
use Rattle.flash.proofs.Raising.{raises-raised}
use Rattle.frame.specs.declared.Edition.TheVariants as edition
use Rattle.frame.specs.Frame.{encode_all, total}
use Rattle.frame.specs.declared.Field.TheVariants as field
use Rattle.frame.specs.Reader.{host_layout, layout_of, match, read_frame, scan, fault}
use Rattle.journal.specs.Replay.{insert, remove, lookup, change_all, list_of, without, is_open_of, replay_from}
use Rattle.journal.specs.Block.{edition_in, header_fault, block_state, changing}
use Rattle.journal.specs.Room.{no_room_of, host_full}
use Rattle.journal.specs.Index.{sited, places_from, since_from, value_at, next_settled, next_pending, next_load_of}
use Rattle.wire.specs.declared.Answer.TheVariants.{Done, Refused}
use Rattle.wire.specs.Message.{parse}
use Rattle.board.specs.declared.Record.{Record}
use Rattle.board.specs.Record.{allowed, unmounted, Out, out, rest, idle, no_places, no_frame}
use Rattle.board.specs.Step.{enter_append, enter_drop, enter_copy, enter_open, enter_close, enter_wipe, advance, step_busy, step_on}
use Rattle.board.specs.Mount.{mount_at, mount_found, mount_on, format_order, format_on, tied_times}
use Rattle.board.specs.Queue.{fits_record, held, convert, serve_convert, serve, request_on, read_at, read_place}
use Rattle.board.specs.Exec.{Call, step, mount, format, Machine}
use Rattle.board.specs.Book.{Book, nothing, first_book, enter_call}
use Rattle.board.specs.Table.{InJob}
use Rattle.board.specs.Claim.{Event, call, cut_erase, CutsErase, Happens, Run, tracked, formatted, Claim}
use Rattle.board.specs.CutFormat.{Left, after_all}
use Rattle.board.specs.Promise.{ByteEvents}
use Rattle.refuted.specs.Wrong.{off_bench, refuses_half_erased}
use Rattle.refuted.specs.WrongRuns.{block_of, half, blank_half, stepping}
use Rattle.refuted.specs.EditionRuns.{converts}
use Rattle.board.proofs.Runs.{HappensAfter, run_rest}
use Rattle.refuted.proofs.Refuting.{bytes_in_lem}

-- ---- runs in parts, each computed from where the last ended

pub calls-then : (m : Machine) (cs : List Call) (img : List ℕ) (r : Record) (b : Book) → ByteEvents (map call cs) → (ds : List Event)
    → HappensAfter 2 m (after_all 2 m img r b (map call cs)) ds → Happens 2 m img r b (map call cs ++ ds)
calls-then m [] img r b bs ds y = y
calls-then m (c ∷ cs) img r b (bc, bs) ds y =
    (bc, calls-then m cs (m img r c).image (m img r c).board (enter_call b c (m img r c).answer) bs ds y)

-- a finished format of an erased image
abbrev pub img : List ℕ
img = replicate 768 0xFF

abbrev pub empty : Out
empty = out Done (half 1 [] ++ blank_half) (idle no_places (rest 2 767 0 16 1)) []

allowed_length : allowed 2 (length img) ≡ true
unfolding allowed size_in
allowed_length = refl

pub claimed-of : (m : Machine) → Claim 2 m → formatted 2 m img unmounted ≡ empty → (es : List Event) → Happens 2 m empty.image empty.board first_book es
    → Run 2 m empty.image empty.board first_book (tracked false false) format es
unfolding Claim
claimed-of m p e es h =
    subst
    (λ (o : Out). (ds : List Event) → Happens 2 m o.image o.board first_book ds
    → Run 2 m o.image o.board first_book (tracked false false) format ds)
    e (p img unmounted (bytes-replicate 768) allowed_length).3 es h

-- power is lost inside the erase of half 0
pub cut_at : {m : Machine} {copied new : List ℕ} (i : List ℕ) (r : Record) (b : Book) → i ≡ copied → InJob r.phase → b.under ≡ nothing
    → (m i r step).image ≡ erase_block 384 0 copied → size_of 2 copied ≡ 384 → Raised (block (size_of 2 copied) 0 copied) new → CutsErase 2 m i r b 0 new
cut_at {m} {copied} {new} i r b e j n s size raised =
    record {
      in_job = j;
      no_format = λ f. (let w : ◌≡◌ {A = ℕ} 0 1 = cc in omega arith);
      there = omega arith;
      erases = s ∙ sym (ap (λ (l : List ℕ). erase_block (size_of 2 l) 0 l) e ∙ ap (λ (k : ℕ). erase_block k 0 copied) size);
      raised = subst (λ (l : List ℕ). Raised (block (size_of 2 l) 0 l) new) (sym e) raised;
    }

-- ---- a half-erased half that is foreign, beside a valid one

abbrev m : Machine
m = off_bench refuses_half_erased 2

-- a convert of the empty store, up to its last step, the erase of half 0
abbrev converting : List Call
converting = converts ∷ stepping 10 []

abbrev ready : Left
ready = after_all 2 m empty.image empty.board first_book (map call converting)

abbrev copied : List ℕ
copied = half 1 [] ++ block_of edition.Second 384 2 []

-- what the erase leaves: eight bytes of 0xFF
unfoldable fading : List ℕ
fading = replicate 8 0xFF ++ drop 8 (half 1 [])

-- all of it computed; the mount after the cut is refused
record Computed : Type 0 where
  formatted_is : formatted 2 m img unmounted ≡ empty
  copied_is : (after_all 2 m empty.image empty.board first_book (map call (converts ∷ stepping 10 []))).image ≡ copied
  erased_is : (after_all 2 m empty.image empty.board first_book (map call (converts ∷ stepping 11 []))).image ≡ erase_block 384 0 copied
  in-drop : InJob ready.board.phase
  nothing_under : ready.book.under ≡ nothing
  refused : (m (with_block (size_of 2 copied) 0 fading copied) unmounted mount).answer ≡ Refused (tied_times 0)

computed : Computed
unfolding numbers_from size_in allowed refuses_half_erased all_ff same_bytes_of apply_all writes encode_all total host_layout layout_of match read_frame scan insert remove
    lookup change_all list_of without is_open_of replay_from edition_in header_fault block_state changing no_room_of host_full sited places_from since_from value_at next_settled
    next_pending next_load_of parse no_places no_frame enter_append enter_drop enter_copy enter_open enter_close enter_wipe advance step_busy step_on mount_at mount_found
    mount_on format_order format_on fits_record held convert serve_convert serve read_at read_place request_on half blank_half fading
computed =
    record {
      formatted_is = refl;
      copied_is = refl;
      erased_is = refl;
      in-drop = tt;
      nothing_under = refl;
      refused = refl;
    }

size_is : size_of 2 copied ≡ 384
unfolding size_in half encode_all
size_is = refl

raised : Raised (block (size_of 2 copied) 0 copied) fading
unfolding size_in half encode_all fading
raised = raises-raised (block (size_of 2 copied) 0 copied) fading refl

abbrev after : List Event
after = cut_erase 0 fading unmounted ∷ call mount ∷ []

happens : Happens 2 m empty.image empty.board first_book (map call converting ++ after)
happens =
    calls-then m converting empty.image empty.board first_book (bytes_in_lem converting refl) after (
      cut_at ready.image ready.board ready.book computed.copied_is computed.in-drop computed.nothing_under computed.erased_is
          size_is raised,
      tt,
      (tt, tt),
    )

pub refuses-half-erased : Claim 2 m → ⊥
refuses-half-erased p =
    let run : Run 2 m empty.image empty.board first_book (tracked false false) format (map call converting ++ after) =
    claimed-of m p computed.formatted_is (map call converting ++ after) happens in
    let y = run_rest 2 m empty.image empty.board first_book (tracked false false) format (map call converting) after run in
    y.2.0.never_foreign 0 (fault field.Created 4)
    (ap (λ (i : List ℕ). (m (with_block (size_of 2 i) 0 fading i) unmounted mount).answer) computed.copied_is ∙ computed.refused)
