-- Demand 3 sees a store that takes a half-erased half for the current one: it still reads as valid, at an older time.
use mathlib.Core.Path.{◌≡◌, refl, sym, ap, subst, subst₂, ◌∙◌}
use mathlib.Core.List.{List, [], ◌∷◌, ◌++◌, map}
use mathlib.Core.Bool.{false}
use Prim.Native.Nat.{ℕ}
use native.Mathlib.Omega.{arith}
use lib.ListN.{length, set}
use Rattle.flash.specs.Bytes.{all_ff, same_bytes_of}
use Rattle.flash.specs.Flash.{numbers_from, size_in, apply_all, writes, block, size_of, with_block, erase_block}
use Rattle.flash.specs.Raised.{Raised}
use Rattle.flash.proofs.Raising.{raises-raised}
use Rattle.frame.specs.declared.Edition.TheVariants as edition
use Rattle.frame.specs.Frame.{host_of, id_of, put, Frame, change, settled, reset, encode_all, total}
use Rattle.frame.specs.Reader.{clean, host_layout, layout_of, match, read_frame, scan}
use Rattle.journal.specs.Replay.{Object, object, insert, remove, lookup, change_all, list_of, without, is_open_of, replay_from}
use Rattle.journal.specs.Block.{Journal, journal, valid, edition_in, header_fault, block_state, changing}
use Rattle.journal.specs.Room.{no_room_of, host_full}
use Rattle.journal.specs.Index.{sited, places_from, since_from, value_at, next_settled, next_pending, next_load_of}
use Rattle.wire.specs.declared.Answer.{Answer}
use Rattle.wire.specs.declared.Answer.TheVariants.{Done, More, Refused}
use Rattle.wire.specs.Message.{parse}
use Rattle.board.specs.declared.Record.{Record}
use Rattle.board.specs.Record.{allowed, unmounted, Out, rest, idle, no_places, no_frame}
use Rattle.board.specs.Step.{enter_append, enter_drop, enter_copy, enter_open, enter_close, enter_wipe, advance, step_busy, step_on}
use Rattle.board.specs.Mount.{mount_at, mount_found, mount_on, format_order, format_on, replay_of}
use Rattle.board.specs.Queue.{fits_record, held, append, serve_change, serve_end, serve_log, serve, request_on, read_at, read_place}
use Rattle.board.specs.Exec.{Call, step, mount, format, Machine}
use Rattle.board.specs.Book.{Book, book, nothing, no_lists, first_book, enter_call}
use Rattle.board.specs.Table.{InJob}
use Rattle.board.specs.Claim.{Event, call, cut_erase, Happens, Run, Track, tracked, track, IdleAgrees, Agrees, formatted, Claim}
use Rattle.board.specs.CutFormat.{Left, after_all}
use Rattle.refuted.specs.Wrong.{off_bench, takes_half_erased}
use Rattle.refuted.specs.WrongRuns.{half, blank_half, filler, puts, put_empty, commits, stepping}
use Rattle.board.proofs.Erasing.{same-valid}
use Rattle.board.proofs.Runs.{HappensAfter, run_rest}
use Rattle.refuted.proofs.Refuting.{bytes_in_lem}
use Rattle.refuted.proofs.RefutingCut.{calls-then, img, empty, claimed-of, cut_at}

abbrev m : Machine
m = off_bench takes_half_erased 2

abbrev os : List Object
os = object (id_of 7) [] ∷ []

-- the half that a transfer makes of the one object
abbrev moved : ℕ → List ℕ
moved t = half t (settled (id_of 7) [] ∷ [])

-- a put that is pending, another host's of 192 bytes that is cut after its first, and a mount, which closes it and writes a reset
abbrev mending : List Call → List Call
mending cs = put_empty 7 ∷ stepping 8 (puts 1 184 ∷ step ∷ mount ∷ stepping 9 cs)

-- a put that is pending, another host's of v bytes that is cut after its first and would reach the half's end, and a mount, which makes a transfer: n steps
-- of it
abbrev moving : ℕ → ℕ → List Call
moving v n = mending (put_empty 7 ∷ stepping 8 (puts 1 v ∷ step ∷ mount ∷ stepping n []))

-- ---- the run: a put and its commit, and a transfer to half 1; one back to half 0; a third one up to its last step, the erase of half 0

abbrev first : List Call
first = put_empty 7 ∷ stepping 8 (commits ∷ stepping 6 (moving 133 18))

abbrev one : Left
one = record { image = blank_half ++ moved 2; board = idle (set no_places 7 16) (rest 2 767 1 23 1); book = book os no_lists nothing }

abbrev two : Left
two = record { image = moved 3 ++ blank_half; board = idle (set no_places 7 16) (rest 2 767 0 23 1); book = book os no_lists nothing }

abbrev torn : ℕ → List Call
torn n = moving 140 n

abbrev ready : Left
ready = after_all 2 m two.image two.board two.book (map call (torn 17))

-- half 0 has these behind its frame: put, closed frame, reset, put, and the first byte of one of 148
abbrev putting : Frame
putting = change (host_of 2) (put (id_of 7) [])

abbrev copied : List ℕ
copied = set (half 3 (settled (id_of 7) [] ∷ putting ∷ filler 192 ∷ reset ∷ putting ∷ [])) 236 148 ++ moved 4

-- what its erase leaves: the frames are gone, and so is one bit of the time
abbrev fading : List ℕ
fading = half 2 []

abbrev mounted : List ℕ → Out
mounted i = m (with_block (size_of 2 i) 0 fading i) unmounted mount

-- all of it computed, in three parts: up to the third transfer
record Begun : Type 0 where
  formatted_is : formatted 2 m img unmounted ≡ empty
  one_is : after_all 2 m empty.image empty.board first_book (map call first) ≡ one
  two_is : after_all 2 m one.image one.board one.book (map call (torn 18)) ≡ two

begun : Begun
unfolding numbers_from size_in allowed takes_half_erased all_ff same_bytes_of apply_all writes encode_all total host_layout layout_of match read_frame scan insert remove
    lookup change_all list_of without is_open_of replay_from edition_in header_fault block_state changing no_room_of host_full sited places_from since_from value_at next_settled
    next_pending next_load_of parse no_places no_frame enter_append enter_drop enter_copy enter_open enter_close enter_wipe advance step_busy step_on mount_at mount_found
    mount_on format_order format_on fits_record held append serve_change serve_end serve_log serve read_at read_place request_on half blank_half
begun = record { formatted_is = refl; one_is = refl; two_is = refl }

-- up to its last step
record Computed : Type 0 where
  copied_is : (after_all 2 m two.image two.board two.book (map call (torn 17))).image ≡ copied
  erased_is : (after_all 2 m two.image two.board two.book (map call (torn 18))).image ≡ erase_block 384 0 copied
  nothing_under : (after_all 2 m two.image two.board two.book (map call (torn 17))).book.under ≡ nothing
  objects_are : (after_all 2 m two.image two.board two.book (map call (torn 17))).book.objects ≡ os

computed : Computed
unfolding numbers_from size_in allowed takes_half_erased all_ff same_bytes_of apply_all writes encode_all total host_layout layout_of match read_frame scan insert remove
    lookup change_all list_of without is_open_of replay_from edition_in header_fault block_state changing no_room_of host_full sited places_from since_from value_at next_settled
    next_pending next_load_of parse no_places no_frame enter_append enter_drop enter_copy enter_open enter_close enter_wipe advance step_busy step_on mount_at mount_found
    mount_on format_order format_on fits_record held append serve_change serve_end serve_log serve read_at read_place request_on half blank_half
computed = record { copied_is = refl; erased_is = refl; nothing_under = refl; objects_are = refl }

in-drop : InJob (after_all 2 m two.image two.board two.book (map call (torn 17))).board.phase
unfolding numbers_from size_in allowed takes_half_erased all_ff same_bytes_of apply_all writes encode_all total host_layout layout_of match read_frame scan insert remove
    lookup change_all list_of without is_open_of replay_from edition_in header_fault block_state changing no_room_of host_full sited places_from since_from value_at next_settled
    next_pending next_load_of parse no_places no_frame enter_append enter_drop enter_copy enter_open enter_close enter_wipe advance step_busy step_on mount_at mount_found
    mount_on format_order format_on fits_record held append serve_change serve_end serve_log serve read_at read_place request_on half blank_half
in-drop = tt

-- the mount after the cut and its one step leave half 0 alone
record Mounted : Type 0 where
  image_is : (m (mounted copied).image (mounted copied).board step).image ≡ fading ++ blank_half
  board_is : (m (mounted copied).image (mounted copied).board step).board ≡ idle no_places (rest 2 767 0 16 1)
  reads_as : block_state (block (size_of 2 (fading ++ blank_half)) 0 (fading ++ blank_half)) ≡ valid (journal edition.First 2 [] clean)
  size_is : size_of 2 copied ≡ 384

taken : Mounted
unfolding numbers_from size_in allowed takes_half_erased all_ff same_bytes_of apply_all writes encode_all total host_layout layout_of match read_frame scan insert remove
    lookup change_all list_of without is_open_of replay_from edition_in header_fault block_state changing no_room_of host_full sited places_from since_from value_at next_settled
    next_pending next_load_of parse no_places no_frame enter_append enter_drop enter_copy enter_open enter_close enter_wipe advance step_busy step_on mount_at mount_found
    mount_on format_order format_on fits_record held append serve_change serve_end serve_log serve read_at read_place request_on half blank_half
taken = record { image_is = refl; board_is = refl; reads_as = refl; size_is = refl }

raised : Raised (block (size_of 2 copied) 0 copied) fading
unfolding size_in half encode_all
raised = raises-raised (block (size_of 2 copied) 0 copied) fading refl

-- ---- the claim is false of it

abbrev after : List Event
after = cut_erase 0 fading unmounted ∷ call mount ∷ call step ∷ []

abbrev third : List Event
third = map call (torn 17) ++ after

abbrev second : List Event
second = map call (torn 18) ++ third

happens : Happens 2 m empty.image empty.board first_book (map call first ++ second)
happens =
    calls-then m first empty.image empty.board first_book (bytes_in_lem first refl) second
    (subst (λ (l : Left). HappensAfter 2 m l second) (sym begun.one_is)
    (calls-then m (torn 18) one.image one.board one.book (bytes_in_lem (torn 18) refl) third
    (subst (λ (l : Left). HappensAfter 2 m l third) (sym begun.two_is)
    (calls-then m (torn 17) two.image two.board two.book (bytes_in_lem (torn 17) refl) after (
      cut_at ready.image ready.board ready.book computed.copied_is in-drop computed.nothing_under computed.erased_is
          taken.size_is raised,
      tt,
      (tt, (tt, tt)),
    )))))

-- half 0 alone doesn't agree with the book
disagrees : {b : Book} (u : Track) → b.objects ≡ os → IdleAgrees 2 u (fading ++ blank_half) (idle no_places (rest 2 767 0 16 1)) b → ⊥
unfolding replay_from
disagrees {b} u e y =
    let v : y.journal ≡ journal edition.First 2 [] clean = same-valid (sym y.is-valid ∙ taken.reads_as) in
    let w : ◌≡◌ {A = List Object} [] os = ap (λ (x : Journal). (replay_of x).objects) (sym v) ∙ y.objects ∙ e in
    let n : ◌≡◌ {A = ℕ} 0 1 = ap (λ (l : List Object). length l) w in omega arith

-- a mount's step enters nothing
quiet : (l : List Object) (a : Answer) → enter_call (book l no_lists nothing) step a ≡ book l no_lists nothing
quiet l Done = refl
quiet l More = refl
quiet l (Refused n) = refl

pub takes-half-erased : Claim 2 m → ⊥
takes-half-erased p =
    let run : Run 2 m empty.image empty.board first_book (tracked false false) format (map call first ++ second) =
    claimed-of m p begun.formatted_is (map call first ++ second) happens in
    let x = run_rest 2 m empty.image empty.board first_book (tracked false false) format (map call first) second run in
    let y = run_rest 2 m one.image one.board one.book x.0 x.1 (map call (torn 18)) third
    (subst (λ (l : Left). Run 2 m l.image l.board l.book x.0 x.1 second) begun.one_is x.2) in
    let z = run_rest 2 m two.image two.board two.book y.0 y.1 (map call (torn 17)) after
    (subst (λ (l : Left). Run 2 m l.image l.board l.book y.0 y.1 third) begun.two_is y.2) in
    ends ready.image ready.book z.0 z.1 computed.copied_is computed.objects_are z.2
  where
    ends : (i : List ℕ) (b : Book) (u : Track) (a : Call) → i ≡ copied → b.objects ≡ os → Run 2 m i unmounted b u a after → ⊥
    ends i b u a e f y =
        let w : Run 2 m copied unmounted b u a after = subst (λ (l : List ℕ). Run 2 m l unmounted b u a after) e y in
        let c : Out = mounted copied in
        let o : Out = m c.image c.board step in
        let v : Track = track (size_of 2 (with_block (size_of 2 copied) 0 fading copied)) u b mount c.answer in
        let t : Track = track (size_of 2 c.image) v (enter_call b mount c.answer) step o.answer in
        disagrees t f
        (subst₂ (λ (l : List ℕ) (r : Record). Agrees 2 m mount t l r (book b.objects no_lists nothing)) taken.image_is taken.board_is
        (subst (Agrees 2 m mount t o.image o.board) (quiet b.objects o.answer) w.2.1))
