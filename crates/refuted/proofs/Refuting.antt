-- The wrong stores are refuted: on a short run each shows something else than the machine does, and the promise leaves no room for that.
use mathlib.Core.Path.{◌≡◌, refl, sym, ap, ◌∙◌, subst}
use mathlib.Core.List.{List, [], ◌∷◌, map}
use mathlib.Core.Logic.{inl, inr}
use mathlib.Core.Bool.{Bool, true, false, ◌&&◌, cond}
use Prim.Native.Nat.{ℕ, zero, suc}
use native.Mathlib.Omega.{arith}
use lib.Dec.{ltb}
use lib.ListN.{length, replicate}
use borrow.Author.Tests.{ltb-true, le-leb, eqb-false}
use Rattle.flash.specs.Bytes.{Bytes, all_ff, same_bytes_of}
use Rattle.flash.specs.Flash.{numbers_from, size_in}
use Rattle.frame.specs.Frame.{encode_all, total}
use Rattle.frame.specs.Reader.{host_layout, layout_of, match, read_frame, scan}
use Rattle.journal.specs.Replay.{insert, lookup, change_all, list_of, without, is_open_of, replay_from}
use Rattle.flash.proofs.Cases.{and_left, and_right, clash}
use Rattle.journal.specs.Block.{edition_in, header_fault, block_state, changing}
use Rattle.journal.specs.Index.{sited, places_from, value_at}
use Rattle.wire.specs.Message.{parse}
use Rattle.wire.specs.declared.Answer.TheVariants.{More}
use Rattle.board.specs.declared.Stage.TheVariants.{Wipe}
use Rattle.board.specs.declared.Phase.TheVariants.{Unmounted, Idle, Busy}
use Rattle.board.specs.declared.Record.{Record}
use Rattle.board.specs.Record.{allowed, no_places, no_frame, unmounted, rest, counting, idle, cursor, in_stage}
use Rattle.board.specs.Step.{advance, enter_append, enter_open, enter_close, enter_wipe, step_busy, step_on}
use Rattle.board.specs.Mount.{mount_at, mount_found, mount_on, format_order, format_on}
use Rattle.board.specs.Queue.{fits_record, held, serve, request_on, serve_end}
use Rattle.board.specs.Table.{Exactly, Misplaced, lines_of}
use Rattle.board.specs.Demand1.{Declared, EndsWithin}
use Rattle.board.specs.Exec.{Call, request, step, mount, format, Machine, exec}
use Rattle.board.specs.Claim.{call}
use Rattle.board.specs.Promise.{Promise, Kept, Shown, trace, ByteEvents, PromiseDetermines, PromiseDeterminesFrom}
use Rattle.refuted.specs.Wrong.{Wrongly, on_bench, off_bench, outside_is_done, forged_waits, erases_blank, ignores_count}
use Rattle.refuted.specs.WrongShares.{takes_any_counts}
use Rattle.refuted.specs.WrongEditions.{takes_any_edition}
use Rattle.refuted.specs.Refuted.{RightOnBench, Refuted}
use Rattle.refuted.specs.WrongRuns.{nothing, last_from, all_bytes, bytes_in, begins, Differs, Forged, answered, half, blank_half, stored, commits}
use Rattle.refuted.specs.PlaceRuns.{placed, misdated}
use Rattle.board.proofs.Determining.{promise_determines, promise_determines_from}
use Rattle.board.proofs.FollowingPlans.{promise}
use Rattle.refuted.proofs.RefutingRuns.{runs}
use Rattle.refuted.proofs.RefutingEditions.{edition-runs}
use Rattle.refuted.proofs.RefutingMends.{mend_runs}
use Rattle.refuted.proofs.RefutingPlaces.{place-runs}
use Rattle.refuted.proofs.RefutingWear.{wear-runs}

pub bytes-all : (l : List ℕ) → all_bytes l ≡ true → Bytes l
bytes-all [] e = tt
bytes-all (b ∷ bs) e = (ltb-true b 256 (and_left (ltb b 256) (all_bytes bs) e), bytes-all bs (and_right (ltb b 256) (all_bytes bs) e))

pub bytes_in_lem : (cs : List Call) → bytes_in cs ≡ true → ByteEvents (map call cs)
bytes_in_lem [] e = tt
bytes_in_lem (request h m reply ∷ cs) e =
    (bytes-all m (and_left (all_bytes m) (bytes_in cs) e), bytes_in_lem cs (and_right (all_bytes m) (bytes_in cs) e))
bytes_in_lem (step ∷ cs) e = (tt, bytes_in_lem cs e)
bytes_in_lem (mount ∷ cs) e = (tt, bytes_in_lem cs e)
bytes_in_lem (format ∷ cs) e = (tt, bytes_in_lem cs e)

-- a store that keeps the promise shows what the machine shows
same-trace : {N : ℕ} (m : Machine) → Promise N m → (img : List ℕ) → Bytes img → (cs : List Call) → begins cs ≡ true → ByteEvents (map call cs)
    → trace N m img unmounted (map call cs) ≡ trace N (exec N) img unmounted (map call cs)
unfolding PromiseDetermines
same-trace m p img b [] e c = refl
same-trace m p img b (request h msg reply ∷ cs) e c = clash false e refl
same-trace m p img b (step ∷ cs) e c = clash false e refl
same-trace {N} m p img b (mount ∷ cs) e c = promise_determines N m (exec N) p promise img unmounted unmounted mount (map call cs) b tt c.1
same-trace {N} m p img b (format ∷ cs) e c = promise_determines N m (exec N) p promise img unmounted unmounted format (map call cs) b tt c.1

-- so one that shows something else doesn't keep it
differs : {N : ℕ} {w : Wrongly} {img : List ℕ} {cs : List Call} {see : Shown → ℕ} {a b : ℕ}
    → Differs N w img cs see a b → Kept (off_bench w) → ⊥
differs {N} {w} {img} {cs} {see} {a} {b} t p =
    let bytes : Bytes img = bytes-all img (and_left (all_bytes img) (begins cs && bytes_in cs) t.is_run) in
    let calls : (begins cs && bytes_in cs) ≡ true = and_right (all_bytes img) (begins cs && bytes_in cs) t.is_run in
    let same : trace N (off_bench w N) img unmounted (map call cs) ≡ trace N (exec N) img unmounted (map call cs) =
    same-trace (off_bench w N) (p N) img bytes cs (and_left (begins cs) (bytes_in cs) calls)
    (bytes_in_lem cs (and_right (begins cs) (bytes_in cs) calls)) in
    eqb-false a b t.apart (sym t.shows_wrong ∙ ap (λ (xs : List Shown). see (last_from nothing xs)) same ∙ t.shows_right)

pub same-on_bench : (w : Wrongly) (N : ℕ) (img : List ℕ) (r : Record) (c : Call) → on_bench (length img) ≡ true → off_bench w N img r c ≡ exec N img r c
same-on_bench w N img r c e = ap (λ (b : Bool). cond b (exec N img r c) (w N img r c (exec N img r c))) e

pub right_on_bench : RightOnBench
unfolding RightOnBench
right_on_bench w N img r c (inl short) = same-on_bench w N img r c (rw (le-leb (length img) 512 short))
right_on_bench w N img r c (inr e) = same-on_bench w N img r c (ap on_bench e)

-- ---- a mount with nothing to do: the other block is blank

erases-blank : Differs 2 erases_blank stored (mount ∷ []) answered 255 0
unfolding erases_blank numbers_from size_in allowed all_ff same_bytes_of encode_all total host_layout layout_of match read_frame scan is_open_of replay_from insert change_all
    without edition_in header_fault block_state changing places_from no_places no_frame enter_append enter_open enter_close enter_wipe mount_at mount_found mount_on half
    blank_half stored
erases-blank = record { is_run = refl; shows_wrong = refl; shows_right = refl; apart = refl }

-- ---- records that no run gives back: by the clause itself

-- an image and the record of its format
abbrev long : List ℕ
long = replicate 768 0xFF

unfoldable formatting : Record
formatting = (exec 2 long unmounted format).board

not_idle : Busy Wipe ≡ Idle → ⊥
not_idle e = let w : ◌≡◌ {A = ℕ} 0 1 = cc in omega arith

not-unmounted : Busy Wipe ≡ Unmounted → ⊥
not-unmounted e = let w : ◌≡◌ {A = ℕ} 0 1 = cc in omega arith

-- with an image of another length
outside-is-done : Kept (off_bench outside_is_done) → ⊥
unfolding outside_is_done step_busy step_on all_ff block_state numbers_from size_in allowed format_order format_on enter_wipe formatting
outside-is-done p = not_idle (((p 2).calls.told (replicate 1280 0xFF) formatting step tt (λ e. absurd (not-unmounted e))).done.0 refl)

-- given another number of blocks
goes_on : (off_bench ignores_count 3 long formatting step).answer ≡ More
unfolding ignores_count advance step_busy step_on all_ff block_state numbers_from size_in allowed format_order format_on enter_wipe formatting
goes_on = refl

other-count : Misplaced 3 long formatting
unfolding all_ff block_state numbers_from size_in allowed format_order format_on enter_wipe formatting
other-count = record { stage = Wipe; is-busy = refl; misfits = inr (inl (λ e. omega arith)) }

ignores-count : Kept (off_bench ignores_count) → ⊥
ignores-count p = go (subst (Exactly (lines_of 3 long formatting step)) goes_on ((p 3).calls.table long formatting step (bytes-all long refl)))
  where
    go : Exactly (lines_of 3 long formatting step) More → ⊥
    go (inl (y, e)) = let w : ◌≡◌ {A = ℕ} 0 1 = cc in omega arith
    go (inr (n, y)) = n other-count

-- at a step that its job doesn't have
unfoldable stuck : Record
stuck = in_stage Wipe (cursor 100 0 0 0 0 0) formatting

never_ends : (n : ℕ) → EndsWithin (off_bench forged_waits 2) n long stuck → ⊥
unfolding EndsWithin forged_waits stuck
never_ends zero e = e
never_ends (suc n) (inl e) = e
never_ends (suc n) (inr (inl e)) = let w : ◌≡◌ {A = ℕ} 0 1 = cc in omega arith
never_ends (suc n) (inr (inr e)) = never_ends n e

stuck_declared : Declared stuck
unfolding stuck formatting all_ff block_state numbers_from size_in allowed format_order format_on enter_wipe
stuck_declared = record { last = omega arith; wipes = omega arith; append = omega arith; copy = omega arith; closes = omega arith }

forged-waits : Kept (off_bench forged_waits) → ⊥
forged-waits p = never_ends 65536 ((p 2).calls.ends long stuck stuck_declared)

-- a forged record, by what the call on it is answered
forged : {w : Wrongly} {r : Record} {c : Call} {a b : ℕ} → Forged w r c a b → Kept (off_bench w) → ⊥
unfolding PromiseDeterminesFrom
forged {w} {r} {c} {a} {b} t p =
    let same : trace 2 (off_bench w 2) stored r (call c ∷ []) ≡ trace 2 (exec 2) stored r (call c ∷ []) =
    promise_determines_from 2 (off_bench w 2) (exec 2) (p 2) promise stored r (call c ∷ [])
    (bytes-all stored (and_left (all_bytes stored) (bytes_in (c ∷ [])) t.is_bytes)) t.rests
    (bytes_in_lem (c ∷ []) (and_right (all_bytes stored) (bytes_in (c ∷ [])) t.is_bytes)) in
    eqb-false a b t.apart (sym t.shows_wrong ∙ ap (λ (xs : List Shown). answered (last_from nothing xs)) same ∙ t.shows_right)

-- host 0's bytes are said to be 1 where nothing is pending
abbrev miscounted : Record
miscounted = idle placed (counting (rest 2 767 0 32 1) (1 ∷ 0 ∷ 0 ∷ 0 ∷ []))

any_counts : Forged takes_any_counts miscounted commits 0 11
unfolding takes_any_counts numbers_from size_in allowed all_ff same_bytes_of encode_all total host_layout layout_of match read_frame scan insert lookup change_all list_of
    without is_open_of replay_from edition_in header_fault block_state places_from value_at sited parse fits_record held serve_end serve request_on no_places no_frame half
    blank_half stored
any_counts = record { is_bytes = refl; rests = tt; shows_wrong = refl; shows_right = refl; apart = refl }

any_edition : Forged takes_any_edition misdated commits 0 11
unfolding takes_any_edition numbers_from size_in allowed all_ff same_bytes_of encode_all total host_layout layout_of match read_frame scan insert lookup change_all list_of
    without is_open_of replay_from edition_in header_fault block_state places_from value_at sited parse fits_record held serve_end serve request_on no_places no_frame half
    blank_half stored
any_edition = record { is_bytes = refl; rests = tt; shows_wrong = refl; shows_right = refl; apart = refl }

pub refuted : Refuted
refuted =
    record {
      refuses-all = differs runs.refuses-all;
      refuses-puts = differs runs.refuses-puts;
      refuses-high-ids = differs runs.refuses-high-ids;
      own-formats-only = differs runs.own-formats-only;
      first-half-only = differs runs.first-half-only;
      host-first = differs runs.host-first;
      refusal-clears = differs runs.refusal-clears;
      refused-log-writes = differs runs.refused-log-writes;
      reads-alike = differs runs.reads-alike;
      invents-count = differs runs.invents-count;
      never-commits = differs runs.never-commits;
      aborts-nothing = differs runs.aborts-nothing;
      takes-others = differs runs.takes-others;
      keeps-old = differs runs.keeps-old;
      programs-nothing = differs runs.programs-nothing;
      whole-frame = differs runs.whole-frame;
      waits-long = differs runs.waits-long;
      invents-step = differs runs.invents-step;
      erases-first = differs runs.erases-first;
      outside-is-done = outside-is-done;
      forged-waits = forged-waits;
      hurried-mount = differs runs.hurried-mount;
      loses-all = differs runs.loses-all;
      keeps-pending = differs runs.keeps-pending;
      refuses-alike = differs runs.refuses-alike;
      overlooks-foreign = differs runs.overlooks-foreign;
      names-second = differs runs.names-second;
      ties-at-start = differs runs.ties-at-start;
      refuses-half-erased = differs runs.refuses-half-erased;
      takes-half-erased = differs runs.takes-half-erased;
      formats-at-once = differs runs.formats-at-once;
      formats-blindly = differs runs.formats-blindly;
      goes_back = differs runs.goes_back;
      erases-one = differs runs.erases-one;
      erases-blank = differs erases-blank;
      ignores-count = ignores-count;
      even-only = differs runs.even-only;
      full-at-half = differs runs.full-at-half;
      full-by-all = differs runs.full-by-all;
      full-by-values = differs runs.full-by-values;
      full-by-image = differs runs.full-by-image;
      full-by-two = differs runs.full-by-two;
      deletes-pass = differs runs.deletes-pass;
      room-first = differs runs.room-first;
      abort-keeps = differs runs.abort-keeps;
      transfer-clears = differs runs.transfer-clears;
      mount-keeps = differs runs.mount-keeps;
      takes-any-counts = forged any_counts;
      pending-alone = differs edition-runs.pending-alone;
      pending-in-first = differs edition-runs.pending-in-first;
      room-before-pending = differs edition-runs.room-before-pending;
      any-body = differs edition-runs.any-body;
      room-by-first = differs edition-runs.room-by-first;
      with-reserve = differs edition-runs.with-reserve;
      converts-worn = differs edition-runs.converts-worn;
      converts-again = differs edition-runs.converts-again;
      drops-first = differs edition-runs.drops-first;
      falls-back = differs edition-runs.falls-back;
      mount-falls-back = differs edition-runs.mount-falls-back;
      format-keeps = differs edition-runs.format-keeps;
      second-foreign = differs edition-runs.second-foreign;
      later-edition = differs edition-runs.later-edition;
      record-keeps = differs edition-runs.record-keeps;
      takes-any-edition = forged any_edition;
      crc-of-body = differs edition-runs.crc-of-body;
      crc-big-endian = differs edition-runs.crc-big-endian;
      ignores-crc = differs edition-runs.ignores-crc;
      torn-foreign = differs edition-runs.torn-foreign;
      room-as-before = differs edition-runs.room-as-before;
      full-by-first = differs edition-runs.full-by-first;
      logs-by-first = differs edition-runs.logs-by-first;
      moves-always = differs mend_runs.moves-always;
      moves-at-edge = differs mend_runs.moves-at-edge;
      moves-undue = differs mend_runs.moves-undue;
      never-moves = differs mend_runs.never-moves;
      fits-unclosed = differs mend_runs.fits-unclosed;
      fits-five = differs mend_runs.fits-five;
      leaves-torn = differs mend_runs.leaves-torn;
      worn-mends = differs mend_runs.worn-mends;
      closes-and-moves = differs mend_runs.closes-and-moves;
      high-first = differs mend_runs.high-first;
      length-stays = differs mend_runs.length-stays;
      closes-all = differs mend_runs.closes-all;
      clears-body = differs mend_runs.clears-body;
      finish-first = differs mend_runs.finish-first;
      closes-alone = differs mend_runs.closes-alone;
      always-resets = differs mend_runs.always-resets;
      aborts-one = differs mend_runs.aborts-one;
      reset-bare = differs mend_runs.reset-bare;
      finishes-reset = differs mend_runs.finishes-reset;
      end_stays = differs mend_runs.end_stays;
      mend-keeps = differs mend_runs.mend-keeps;
      closing-foreign = differs mend_runs.closing-foreign;
      reset-foreign = differs mend_runs.reset-foreign;
      closes-seven = differs mend_runs.closes-seven;
      checks-body = differs mend_runs.checks-body;
      checks-crc = differs mend_runs.checks-crc;
      past-reset = differs mend_runs.past-reset;
      room-with-closed = differs mend_runs.room-with-closed;
      logs-closed = differs mend_runs.logs-closed;
      places-stay = differs place-runs.places-stay;
      convert-stays = differs place-runs.convert-stays;
      put-stays = differs place-runs.put-stays;
      delete-stays = differs place-runs.delete-stays;
      abort-places = differs place-runs.abort-places;
      places-others = differs place-runs.places-others;
      mount-places = differs place-runs.mount-places;
      trusts-place = forged place-runs.trusts-place;
      reads-any-length = forged place-runs.reads-any-length;
      reads-afresh = forged place-runs.reads-afresh;
      stale-first = forged place-runs.stale-first;
      none_first = forged place-runs.none_first;
      reads-by-header = forged place-runs.reads-by-header;
      skips-places = forged place-runs.skips-places;
      transfers-always = differs wear-runs.transfers-always;
      transfers-half-full = differs wear-runs.transfers-half-full;
      erases-target = differs wear-runs.erases-target;
    }
