-- Other clauses that see a wrong store alone: a request of S + 1 steps, a format that erases the store first, a mount that leaves a store which
-- can't be used.
use mathlib.Core.Path.{◌≡◌, refl, sym, ap, subst, subst₂, ◌∙◌}
use mathlib.Core.List.{List, [], ◌∷◌, ◌++◌}
use mathlib.Core.Option.{some}
use mathlib.Core.Bool.{Bool, true, false, ◌&&◌}
use Prim.Native.Nat.{ℕ, zero, suc, ◌≤◌, ◌<◌}
use native.Mathlib.Omega.{arith}
use lib.ListN.{length}
use Rattle.flash.specs.Bytes.{all_ff, same_bytes_of}
use Rattle.flash.specs.Flash.{numbers_from, size_in, Step, apply_all, writes, block, size_of}
use Rattle.flash.proofs.Blank.{bytes-replicate}
use Rattle.flash.proofs.Cases.{and_left, and_right, clash}
use Rattle.frame.specs.declared.Edition.TheVariants as edition
use Rattle.frame.specs.Frame.{encode_all, total}
use Rattle.frame.specs.Reader.{clean, host_layout, layout_of, match, read_frame, scan}
use Rattle.journal.specs.Replay.{insert, remove, lookup, change_all, list_of, without, is_open_of, replay_from}
use Rattle.journal.specs.Block.{Journal, journal, BlockState, blank, valid, edition_in, header_fault, block_state, changing}
use Rattle.journal.specs.Room.{no_room_of, host_full}
use Rattle.journal.specs.Index.{sited, places_from, since_from, value_at, next_settled, next_pending, next_load_of}
use Rattle.wire.specs.declared.Answer.{Answer}
use Rattle.wire.specs.declared.Answer.TheVariants.{More}
use Rattle.wire.specs.Answer.{number_of}
use Rattle.wire.specs.Message.{parse}
use Rattle.board.specs.declared.Stage.TheVariants.{Append}
use Rattle.board.specs.declared.Phase.{Phase}
use Rattle.board.specs.declared.Phase.TheVariants.{Idle, Busy}
use Rattle.board.specs.declared.Record.{Record}
use Rattle.board.specs.Record.{allowed, unmounted, Out, no_places, no_frame}
use Rattle.board.specs.Step.{enter_append, enter_drop, enter_copy, enter_open, enter_close, enter_wipe, advance, step_busy, step_on}
use Rattle.board.specs.Mount.{mount_at, mount_found, mount_on, format_order, format_on}
use Rattle.board.specs.Queue.{fits_record, held, append, serve_change, serve_end, serve_log, serve, request_on, read_at, read_place}
use Rattle.board.specs.Exec.{step, mount, format, Machine}
use Rattle.board.specs.Plan.{Follows}
use Rattle.board.specs.Table.{is_busy}
use Rattle.board.specs.Book.{first_book, enter_call}
use Rattle.board.specs.Claim.{call, Run, Track, tracked, track, AgreesIn, Finishes, begun_by, steps_on, formatted, Claim}
use Rattle.board.specs.CutFormat.{Empty, Leaves, old_objects, still_none, no_store, empty_store, CutFormat}
use Rattle.board.specs.Demand2.{UsableFrom}
use Rattle.refuted.specs.Wrong.{off_bench, waits_long, formats_blindly, erases_one}
use Rattle.refuted.specs.WrongRuns.{all_bytes, half, blank_half, begun, begun_twice, put_empty, commits}
use Rattle.refuted.specs.Seen.{Seen}
use Rattle.refuted.proofs.Refuting.{bytes-all, bytes_in_lem}
use Rattle.refuted.proofs.RefutingCut.{img, empty, claimed-of, refuses-half-erased}
use Rattle.refuted.proofs.RefutingOlder.{takes-half-erased}
use Rattle.refuted.proofs.RefutingShares.{full-by-image}
use Rattle.refuted.proofs.RefutingConverts.{drops-first, torn-foreign}
use Rattle.refuted.proofs.RefutingTorn.{finish-first, closes-alone, high-first, end_stays}
use Rattle.refuted.proofs.RefutingPlaced.{places-stay, delete-stays}

-- ---- a request of S + 1 steps

-- in a job before each of n step calls, and after the last
abbrev busy_for : Machine → ℕ → List ℕ → Record → Bool
busy_for m zero i r = is_busy r.phase
busy_for m (suc n) i r = is_busy r.phase && busy_for m n (m i r step).image (m i r step).board

busy-now : (m : Machine) (n : ℕ) (i : List ℕ) (r : Record) → busy_for m n i r ≡ true → is_busy r.phase ≡ true
busy-now m zero i r e = e
busy-now m (suc n) i r e = and_left (is_busy r.phase) (busy_for m n (m i r step).image (m i r step).board) e

-- no plan of n steps ends idle
unfinished : (N : ℕ) (m : Machine) (n : ℕ) (i : List ℕ) (r : Record) (plan : List Step) (z : Record) → busy_for m n i r ≡ true → Follows N m i r plan z
    → z.phase ≡ Idle → length plan ≤ n → ⊥
unfinished N m n i r [] z b f e l = clash (is_busy r.phase) (busy-now m n i r b) (ap (λ (q : Record). is_busy q.phase) f ∙ ap is_busy e)
unfinished N m zero i r (x ∷ xs) z b f e l = omega arith
unfinished N m (suc n) i r (x ∷ xs) z b (a, (q, g, f)) e l =
    unfinished N m n (m i r step).image (m i r step).board xs z
    (and_right (is_busy r.phase) (busy_for m n (m i r step).image (m i r step).board) b)
    (subst (λ (o : Out). Follows N m o.image o.board xs z) (sym g) f) e (omega arith)

abbrev late : Machine
late = off_bench waits_long 2

abbrev putting : Out
putting = late empty.image empty.board (put_empty 7)

late-format : formatted 2 late img unmounted ≡ empty
unfolding numbers_from size_in allowed waits_long all_ff apply_all writes encode_all block_state no_places no_frame enter_append enter_drop enter_copy enter_open
    enter_close enter_wipe next_settled next_pending next_load_of advance step_busy step_on format_order format_on half blank_half
late-format = refl

record Late : Type 0 where
  more : putting.answer ≡ More
  phase : putting.board.phase ≡ Busy Append
  size : size_of 2 putting.image ≡ 384
  busy : busy_for late 384 putting.image putting.board ≡ true

late-put : Late
unfolding numbers_from size_in allowed waits_long all_ff same_bytes_of apply_all writes encode_all total host_layout layout_of match read_frame scan insert
    remove lookup change_all list_of without is_open_of replay_from edition_in header_fault block_state no_room_of host_full sited places_from since_from value_at next_settled
    next_pending next_load_of parse no_places no_frame enter_append enter_drop enter_copy enter_open enter_close enter_wipe advance step_busy step_on
    fits_record held append serve_change serve read_at read_place request_on half blank_half
late-put = record { more = refl; phase = refl; size = refl; busy = refl }

waits-long : Claim 2 late → ⊥
waits-long p =
    let run : Run 2 late empty.image empty.board first_book (tracked false false) format (call (put_empty 7) ∷ []) =
    claimed-of late p late-format (call (put_empty 7) ∷ []) ((bytes_in_lem (put_empty 7 ∷ []) refl).0, tt) in
    let u : Track = track (size_of 2 empty.image) (tracked false false) first_book (put_empty 7) putting.answer in
    go (subst₂ (λ (a : Answer) (h : Phase). AgreesIn 2 late (begun_by format (put_empty 7) a) u h putting.image putting.board
    (enter_call first_book (put_empty 7) putting.answer)) late-put.more late-put.phase run.1)
  where
    go : Finishes 2 late (put_empty 7) putting.image putting.board → ⊥
    go y =
        unfinished 2 late 384 putting.image putting.board y.work.steps y.work.last late-put.busy y.follows y.rests
        (subst (λ (n : ℕ). length y.work.steps ≤ n) late-put.size y.short)

-- ---- a format that erases the store's block first

abbrev blindly : Machine
blindly = off_bench formats_blindly 2

record Blindly : Type 0 where
  formatted_is : formatted 2 blindly img unmounted ≡ empty
  -- after the first step
  erased_is : (steps_on blindly 1 (blindly empty.image empty.board format)).image ≡ img
  first_blank : block_state (block (size_of 2 img) 0 img) ≡ blank
  second_blank : block_state (block (size_of 2 img) 1 img) ≡ blank
  was_valid : block_state (block (size_of 2 (half 1 [] ++ blank_half)) 0 (half 1 [] ++ blank_half)) ≡ valid (journal edition.First 1 [] clean)
  allowed_length : allowed 2 (length img) ≡ true

blindly-done : Blindly
unfolding numbers_from size_in allowed formats_blindly all_ff same_bytes_of apply_all writes encode_all total host_layout layout_of match read_frame scan edition_in
    header_fault block_state no_places no_frame enter_append enter_drop enter_copy enter_open enter_close enter_wipe next_settled next_pending next_load_of advance step_busy
    step_on format_order format_on half blank_half
blindly-done =
    record { formatted_is = refl; erased_is = refl; first_blank = refl; second_blank = refl; was_valid = refl; allowed_length = refl }

formats-blindly : CutFormat 2 blindly → ⊥
unfolding CutFormat
formats-blindly p =
    go (subst (λ (i : List ℕ). Leaves 2 [] empty.image 1 i) blindly-done.erased_is
    (subst (λ (o : Out). Leaves 2 [] o.image 1 (steps_on blindly 1 (blindly o.image o.board format)).image) blindly-done.formatted_is
    (p img unmounted [] 1 (bytes-replicate 768) blindly-done.allowed_length tt (omega arith))))
  where
    no_valid : {b : BlockState} {x : Journal} → b ≡ blank → b ≡ valid x → ⊥
    no_valid e f = let w : ◌≡◌ {A = ℕ} 0 1 = cc in omega arith

    none : (k : ℕ) (x : Journal) → k < 2 → block_state (block (size_of 2 img) k img) ≡ valid x → ⊥
    none zero x h e = no_valid blindly-done.first_blank e
    none (suc zero) x h e = no_valid blindly-done.second_blank e
    none (suc (suc k)) x h e = omega arith

    go : Leaves 2 [] empty.image 1 img → ⊥
    go (old_objects h y) = none y.number y.journal y.there y.is-valid
    go (still_none h q n) = subst Empty blindly-done.was_valid (q 0 (omega arith))
    go (no_store l h n) = omega arith
    go (empty_store e y) = omega arith

-- ---- a mount that leaves a block beside the store

abbrev sparing : Machine
sparing = off_bench erases_one 3

abbrev mounted : Record
mounted = (sparing begun_twice unmounted mount).board

record Sparing : Type 0 where
  is_bytes : all_bytes begun_twice ≡ true
  allowed_length : allowed 3 (length begun_twice) ≡ true
  stale : number_of (sparing (sparing begun_twice mounted step).image (sparing begun_twice mounted step).board commits).answer ≡ some 11

sparing-done : Sparing
unfolding numbers_from size_in allowed erases_one all_ff same_bytes_of apply_all writes encode_all total host_layout layout_of match read_frame scan insert remove lookup
    change_all list_of without is_open_of replay_from edition_in header_fault block_state changing no_room_of host_full sited places_from since_from value_at next_settled
    next_pending next_load_of parse no_places no_frame enter_append enter_drop enter_copy enter_open enter_close enter_wipe advance step_busy step_on mount_at mount_found
    mount_on fits_record held append serve_change serve_end serve_log serve read_at read_place request_on half blank_half begun begun_twice
sparing-done = record { is_bytes = refl; allowed_length = refl; stale = refl }

erases-one : UsableFrom 3 sparing → ⊥
erases-one p =
    let y = p.from_mount begun_twice unmounted first_book (call step ∷ call commits ∷ []) (bytes-all begun_twice sparing-done.is_bytes)
    sparing-done.allowed_length (tt, ((bytes_in_lem (commits ∷ []) refl).0, tt)) in
    y.1.0 sparing-done.stale

pub seen : Seen
seen =
    record {
      refuses-half-erased = refuses-half-erased;
      takes-half-erased = takes-half-erased;
      waits-long = waits-long;
      full-by-image = full-by-image;
      drops-first = drops-first;
      torn-foreign = torn-foreign;
      finish-first = finish-first;
      closes-alone = closes-alone;
      high-first = high-first;
      places-stay = places-stay;
      delete-stays = delete-stays;
      formats-blindly = formats-blindly;
      erases-one = erases-one;
      end_stays = end_stays;
    }
