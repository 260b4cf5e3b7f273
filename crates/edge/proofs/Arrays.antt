-- Every call leaves the arrays of a record at their lengths: its bytes then read back as the record.
use mathlib.Core.Path.{◌≡◌, refl, sym, ap, subst, ◌∙◌}
use mathlib.Core.List.{List, [], ◌∷◌, map}
use mathlib.Core.Option.{Option, none, some}
use mathlib.Core.Bool.{Bool, true, false, ◌&&◌, ◌||◌}
use Prim.Native.Nat.{ℕ, zero, suc, ◌+◌, ◌-◌, ◌≤◌}
use native.Mathlib.Omega.{arith}
use lib.Dec.{eqb, ltb}
use lib.ListN.{length, get_or, take, drop, replicate, length-append, length-map, length-replicate, length-set}
use Rattle.flash.specs.Flash.{max_blocks, block_numbers, apply, size_of, within, Write}
use Rattle.flash.proofs.Cases.{on_test}
use Rattle.frame.specs.declared.Edition.{Edition}
use Rattle.frame.specs.declared.Edition.TheVariants as edition
use Rattle.frame.specs.declared.Host.{Host}
use Rattle.frame.specs.declared.ObjectId.{ObjectId}
use Rattle.frame.specs.Frame.{value_max, buffer_len, id_of, ChangeOf, put, delete, Frame, change, commit, abort, settled, closed, reset, map_change}
use Rattle.frame.specs.Frame.{frame_len, encode, buffer}
use Rattle.frame.specs.Reader.{Read, blank, whole, torn, wrong, read_frame}
use Rattle.frame.proofs.Encode.{length-encode, frame-fits}
use Rattle.journal.specs.Replay.{Entry}
use Rattle.journal.specs.Block.{Journal, last_time, mark_writes}
use Rattle.journal.specs.Index.{Value, value_at, Load, load, next_settled, is_pending, next_pending, or_else, next_load_of, place_if, place_copied}
use Rattle.journal.proofs.Places.{length-places}
use Rattle.fetch.proofs.FrameReads.{whole_stands}
use Rattle.fetch.proofs.Fetching.{in_block, pending_blank, pending_torn, pending_wrong, pending-yes}
use Rattle.wire.specs.declared.Answer.{Answer}
use Rattle.wire.specs.declared.Answer.TheVariants.{Done, More, Refused}
use Rattle.wire.specs.declared.Refusal.TheVariants as refusal
use Rattle.board.specs.declared.Stage.{Stage}
use Rattle.board.specs.declared.Stage.TheVariants.{Wipe, Open, Copy, Seal, Drop, Append, Close}
use Rattle.board.specs.declared.Phase.{Phase}
use Rattle.board.specs.declared.Phase.TheVariants.{Unmounted, Idle, Busy}
use Rattle.board.specs.declared.Cursor.{Cursor}
use Rattle.board.specs.declared.Rest.{Rest}
use Rattle.board.specs.declared.Record.{Record}
use Rattle.board.specs.Record.{allowed, no_places, no_frame, resting, unmounted, in_stage, makes_in, Out, answer_in}
use Rattle.board.specs.Step.{enter_append, landed, enter_drop, ends_with, loaded, enter_copy, enter_close, enter_open, enter_wipe, begin, action}
use Rattle.board.specs.Step.{advance, same_shape, step_on}
use Rattle.board.specs.Mount.{Found, Store, all_found, found, stores, equal_times, newest, is_blank, wipe_list, wipe_array, upkeep, transfers, mount_job}
use Rattle.board.specs.Mount.{mount_on, time_of, Upkeep, rests, mends, moves, end_of, closes_for, appends_for, reset_bytes, stands_for, close_array, block_in}
use Rattle.board.specs.Mount.{store_at, replay_of}
use Rattle.board.specs.Mount.{format_order, format_job, format_on}
use Rattle.board.specs.Demand1.{Rests}
use Rattle.board.proofs.Images.{allowed_tests}
use Rattle.board.proofs.Numbers.{length_numbers}
use Rattle.board.proofs.Lengths.{closes-few}
use Rattle.board.proofs.Order.{length_order}
use Rattle.board.proofs.Outcomes as outcome
use Rattle.lent.proofs.Inverse.{Sized}

-- ---- a record in no job, in a stage, with the block that was made

rests-sized : (p : Phase) (t : List ℕ) (z : Rest) → length t ≡ 256 → length z.pending ≡ 4 → Sized (resting p t z)
unfolding no_frame
rests-sized p t z k h = record { pending = h; places = k; wipe = refl; since = refl; close = refl; unit = refl; frame = refl }

no_store : Sized unmounted
unfolding no_places
no_store = rests-sized Unmounted no_places _ refl refl

stage-sized : (s : Stage) (c : Cursor) (r : Record) → Sized r → Sized (in_stage s c r)
stage-sized s c r h = record { pending = h.pending; places = h.places; wipe = h.wipe; since = h.since; close = h.close; unit = h.unit; frame = h.frame }

landed-sized : (r : Record) → Sized r → Sized (landed r)
landed-sized r h = record { pending = h.pending; places = h.places; wipe = h.wipe; since = h.since; close = h.close; unit = h.unit; frame = h.frame }

-- ---- a frame to copy fits its buffer

-- whichever edition it is written in
abbrev pub Short : Frame → Type 0
Short f = (ed : Edition) → frame_len ed f ≤ buffer_len

pub buffer-sized : (ed : Edition) (f : Frame) → frame_len ed f ≤ buffer_len → length (buffer (encode ed f)) ≡ buffer_len
buffer-sized ed f h =
    length-append (encode ed f) (replicate (buffer_len - length (encode ed f)) 0)
    ∙ omega (arith, length-encode ed f, length-replicate {A = ℕ} (buffer_len - length (encode ed f)) 0)

settled-fits : (ed : Edition) (i : ObjectId) (v : List ℕ) → length v ≤ value_max → frame_len ed (settled i v) ≤ buffer_len
settled-fits edition.First i v h = omega arith
settled-fits edition.Second i v h = omega arith

settled-short : (ed : Edition) (b places : List ℕ) (source n i : ℕ) (u : Load) → next_settled ed b places source n i ≡ some u → Short u.frame
unfolding next_settled
settled-short ed b places source zero i u e = let z : ◌≡◌ {A = ℕ} 0 1 = cc in absurd (omega arith)
settled-short ed b places source (suc n) i u e =
    go (value_at ed b (id_of i) (get_or places i 0)) refl (λ q. settled-short ed b places source n (suc i) u q)
  where
    go : (o : Option Value) → value_at ed b (id_of i) (get_or places i 0) ≡ o
        → (next_settled ed b places source n (suc i) ≡ some u → Short u.frame) → Short u.frame
    go none q f = f (rw (q, next_settled) at e)
    go (some x) q f =
        let w : some (load (settled (id_of i) x.bytes) (suc i) source) ≡ some u = rw (q, next_settled) at e in
        let y : settled (id_of i) x.bytes ≡ u.frame = cc in
        let s = (in_block ed b (id_of i) (get_or places i 0) x q).small in
        subst Short y (λ d. settled-fits d (id_of i) x.bytes s)

pending-short : (ed : Edition) (since : List ℕ) (at k : ℕ) (l : List ℕ) (u : Load) → next_pending ed since at k l ≡ some u → Short u.frame
unfolding next_pending
pending-short ed since at k [] u e = let z : ◌≡◌ {A = ℕ} 0 1 = cc in absurd (omega arith)
pending-short ed since at (suc k) (b ∷ t) u e = pending-short ed since (suc at) k t u e
pending-short ed since at zero (b ∷ t) u e = go (read_frame ed 0 at (b ∷ t)) refl (λ k q. pending-short ed since (suc at) k t u q)
  where
    no : next_pending ed since at 0 (b ∷ t) ≡ none → Short u.frame
    no q = let z : none ≡ some u = sym q ∙ e in let y : ◌≡◌ {A = ℕ} 0 1 = cc in absurd (omega arith)

    go : (r : Read) → read_frame ed 0 at (b ∷ t) ≡ r → ((k : ℕ) → next_pending ed since (suc at) k t ≡ some u → Short u.frame) → Short u.frame
    go blank q f = no (pending_blank ed since at (b ∷ t) q)
    go (torn n) q f = no (pending_torn ed since at (b ∷ t) n q)
    go (wrong w) q f = no (pending_wrong ed since at (b ∷ t) w q)
    go (whole g) q f =
        on_test (is_pending since at g)
        (λ p.
        let w : some (load g 256 (at + frame_len ed g)) ≡ some u = sym (pending-yes ed since at (b ∷ t) g q p) ∙ e in
        let y : g ≡ u.frame = cc in
        subst Short y (λ d. frame-fits ed d 0 g (whole_stands ed 0 at (b ∷ t) g q)))
        (λ p. f (frame_len ed g - 1) (rw (q, p, next_pending) at e))

load-short : (ed : Edition) (b : List ℕ) (end : ℕ) (places since : List ℕ) (id source : ℕ) (u : Load)
    → next_load_of ed b end places since id source ≡ some u → Short u.frame
unfolding next_load_of
load-short ed b end places since id source u e = go (next_settled ed b places source (256 - id) id) refl e
  where
    go : (o : Option Load) → next_settled ed b places source (256 - id) id ≡ o
        → or_else o (next_pending ed since source 0 (drop source (take end b))) ≡ some u → Short u.frame
    go none q f = pending-short ed since source 0 _ u f
    go (some x) q f = settled-short ed b places source (256 - id) id u (q ∙ f)

-- ---- entering a stage

append-sized : (r : Record) → Sized r → Sized (enter_append r)
append-sized r h =
    on_test (ltb 0 r.job.size)
    (λ t. subst Sized (sym (outcome.append_enters r t)) (stage-sized Append _ r h))
    (λ t. subst Sized (sym (outcome.append_skips r t)) (rests-sized Idle _ _ h.places h.pending))

drop-sized : (r : Record) → Sized r → Sized (enter_drop r)
drop-sized r h =
    on_test r.job.drops
    (λ t. subst Sized (sym (outcome.drop_enters r t)) (stage-sized Drop _ r h))
    (λ t. subst Sized (sym (outcome.drop_skips r t)) (append-sized (landed r) (landed-sized r h)))

copied-sized : (ends : Host → Bool) (o : ℕ) (f : Frame) (t : List ℕ) → length (place_copied ends o f t) ≡ length t
copied-sized ends o (change h c) t = by (ends h) c
  where
    by : (b : Bool) (c : ChangeOf (List ℕ)) → length (place_if b (map_change (λ v. o) c) t) ≡ length t
    by true (put i v) = length-set t i.0 o
    by true (delete i) = length-set t i.0 0
    by false c = refl
copied-sized ends o (commit h) t = refl
copied-sized ends o (abort h) t = refl
copied-sized ends o (settled i v) t = length-set t i.0 o
copied-sized ends o (closed v) t = refl
copied-sized ends o reset t = refl

loaded-sized : (r : Record) (u : Load) → Short u.frame → Sized r → Sized (loaded r u)
loaded-sized r u s h =
    record {
      pending = h.pending;
      places = copied-sized (ends_with r.frame) r.cursor.at u.frame r.places ∙ h.places;
      wipe = h.wipe;
      since = h.since;
      close = h.close;
      unit = buffer-sized (makes_in r) u.frame (s (makes_in r));
      frame = h.frame;
    }

copy-sized : (N : ℕ) (img : List ℕ) (r : Record) → Sized r → Sized (enter_copy N img r)
copy-sized N img r h = go (outcome.next_for N img r) refl
  where
    go : (o : Option Load) → outcome.next_for N img r ≡ o → Sized (enter_copy N img r)
    go none e = subst Sized (sym (outcome.copy-ends N img r e)) (stage-sized Seal _ r h)
    go (some u) e = subst Sized (sym (outcome.copy_loads N img r u e)) (loaded-sized r u (load-short _ _ _ _ _ _ _ u e) h)

close-sized : (r : Record) → Sized r → Sized (enter_close r)
close-sized r h =
    on_test (ltb 0 r.job.closes)
    (λ t. subst Sized (sym (outcome.close_enters r t)) (stage-sized Close _ r h))
    (λ t. subst Sized (sym (outcome.close_skips r t)) (append-sized r h))

open_sized : (r : Record) → Sized r → Sized (enter_open r)
open_sized r h =
    on_test r.job.moves
    (λ t. subst Sized (sym (outcome.open_enters r t)) (stage-sized Open _ r h))
    (λ t. subst Sized (sym (outcome.open_skips r t)) (close-sized r h))

wipe-sized : (r : Record) → Sized r → Sized (enter_wipe r)
wipe-sized r h =
    on_test (ltb 0 r.job.wipes)
    (λ t. subst Sized (sym (outcome.wipe_enters r t)) (stage-sized Wipe _ r h))
    (λ t. subst Sized (sym (outcome.wipe_skips r t)) (open_sized r h))

-- ---- a step

pub advance-sized : (N : ℕ) (s : Stage) (img : List ℕ) (r : Record) → Sized r → Sized (advance N s img r)
advance-sized N Wipe img r h =
    on_test (ltb (suc r.cursor.index) r.job.wipes)
    (λ t. subst Sized (sym (outcome.wipe_next N img r t)) (stage-sized Wipe _ r h))
    (λ t. subst Sized (sym (outcome.wipe_last N img r t)) (open_sized r h))
advance-sized N Open img r h =
    on_test (ltb (suc r.cursor.index) mark_writes)
    (λ t. subst Sized (sym (outcome.open_next N img r t)) (stage-sized Open _ r h))
    (λ t. subst Sized (sym (outcome.open_last N img r t)) (copy-sized N img r h))
advance-sized N Copy img r h =
    on_test (ltb (suc r.cursor.off) r.cursor.size)
    (λ t. subst Sized (sym (outcome.copy_next N img r t)) (stage-sized Copy _ r h))
    (λ t. subst Sized (sym (outcome.copy_last N img r t)) (copy-sized N img _ (stage-sized Copy _ r h)))
advance-sized N Seal img r h =
    on_test (ltb (suc r.cursor.index) mark_writes)
    (λ t. subst Sized (sym (outcome.seal_next N img r t)) (stage-sized Seal _ r h))
    (λ t. subst Sized (sym (outcome.seal_last N img r t)) (drop-sized r h))
advance-sized N Drop img r h = subst Sized (sym (outcome.drop_last N img r)) (append-sized (landed r) (landed-sized r h))
advance-sized N Append img r h =
    on_test (ltb (suc r.cursor.index) r.job.size)
    (λ t. subst Sized (sym (outcome.append_next N img r t)) (stage-sized Append _ r h))
    (λ t. subst Sized (sym (outcome.append_last N img r t)) (rests-sized Idle _ _ h.places h.pending))
advance-sized N Close img r h =
    on_test (ltb (suc r.cursor.index) r.job.closes)
    (λ t. subst Sized (sym (outcome.close_next N img r t)) (stage-sized Close _ r h))
    (λ t. subst Sized (sym (outcome.close_last N img r t)) (append-sized r h))

-- ---- and no refusal but a mount's names a block

abbrev pub Plain : Answer → Type 0
Plain Done = Unit {0}
Plain More = Unit {0}
Plain (Refused refusal.Malformed) = Unit {0}
Plain (Refused refusal.NoStore) = Unit {0}
Plain (Refused (refusal.Foreign k e)) = ⊥
Plain (Refused refusal.ImageLength) = Unit {0}
Plain (Refused refusal.Busy) = Unit {0}
Plain (Refused refusal.Worn) = Unit {0}
Plain (Refused refusal.NoRoom) = Unit {0}
Plain (Refused refusal.NoObject) = Unit {0}
Plain (Refused refusal.ShortReply) = Unit {0}
Plain (Refused refusal.HostRange) = Unit {0}
Plain (Refused refusal.Stale) = Unit {0}
Plain (Refused refusal.HostFull) = Unit {0}
Plain (Refused refusal.Pending) = Unit {0}

plain_in : (p : Phase) → Plain (answer_in p)
plain_in Unmounted = tt
plain_in Idle = tt
plain_in (Busy s) = tt

abbrev pub Leaves : Out → Type 0
Leaves o = Sized o.board × Plain o.answer

pub begun : (img reply : List ℕ) (r : Record) → Sized r → Leaves (begin img reply r)
begun img reply r h = (wipe-sized r h, plain_in (enter_wipe r).phase)

pub step-sized : (N : ℕ) (img : List ℕ) (r : Record) → Sized r → Leaves (step_on N img r)
step-sized N img r h = by r.phase refl
  where
    by : (p : Phase) → r.phase ≡ p → Leaves (step_on N img r)
    by Unmounted e = subst Leaves (sym (outcome.step-resting N img r (subst Rests (sym e) tt))) (h, tt)
    by Idle e = subst Leaves (sym (outcome.step-resting N img r (subst Rests (sym e) tt))) (h, tt)
    by (Busy s) e =
        on_test (same_shape N (length img) r && within N (size_of N img) (action s r))
        (λ t. subst Leaves (sym (outcome.step-goes N img r s e t))
        (advance-sized N s _ r h, plain_in (advance N s (apply (size_of N img) (action s r) img) r).phase))
        (λ t. subst Leaves (sym (outcome.step-outside N img r s e t)) (h, tt))

-- ---- mount and format

wipes-most : (k : ℕ) (xs : List Found) → length (wipe_list k xs) ≤ length xs
wipes-most k [] = omega arith
wipes-most k (x ∷ xs) =
    let f = wipes-most k xs in
    on_test (eqb k x.number || is_blank x.state) (λ t. rw t (omega (arith, f))) (λ t. rw t (omega (arith, f)))

array_sized : (ks : List ℕ) → length ks ≤ max_blocks → length (wipe_array ks) ≡ max_blocks
array_sized ks h =
    length-append ks (replicate (max_blocks - length ks) 0) ∙ omega (arith, length-replicate {A = ℕ} (max_blocks - length ks) 0)

-- at most four offsets, and a reset to append
close_array_lem : (ws : List Write) → length ws ≤ 4 → length (close_array ws) ≡ 4
close_array_lem ws h =
    length-append (map (λ (w : Write). w.at) ws) (replicate (4 - length ws) 0)
    ∙ omega (arith, length-map ws (λ (w : Write). w.at), length-replicate {A = ℕ} (4 - length ws) 0)

closes-sized : (u : Upkeep) (b : List ℕ) (x : Journal) → length (close_array (closes_for u b x)) ≡ 4
closes-sized rests b x = refl
closes-sized mends b x = close_array_lem (closes_for mends b x) (closes-few b (end_of x) x.tail)
closes-sized moves b x = refl

reset-sized : (x : Journal) (ps : List Entry) → length (buffer (reset_bytes x ps)) ≡ buffer_len
reset-sized x [] = refl
reset-sized x (p ∷ ps) = buffer-sized x.edition reset (frame-fits x.edition x.edition 0 reset tt)

appends-sized : (u : Upkeep) (x : Journal) → length (buffer (appends_for u x)) ≡ buffer_len
appends-sized rests x = refl
appends-sized mends x = reset-sized x (replay_of x).pending
appends-sized moves x = refl

stands-pending : (u : Upkeep) (z : Rest) (x : Journal) → (stands_for u z x).pending ≡ z.pending
stands-pending rests z x = refl
stands-pending mends z x = refl
stands-pending moves z x = refl

mount-job-sized : (N : ℕ) (img : List ℕ) (x : Store) (ks : List ℕ) (u : Upkeep) → length ks ≤ max_blocks → Sized (mount_job N img x ks u)
unfolding no_frame
mount-job-sized N img x ks u h =
    record {
      pending = ap (λ (l : List ℕ). length l) (stands-pending u (store_at N (length img - 1) x) x.journal);
      places = length-places x.journal.edition x.journal.frames;
      wipe = array_sized ks h;
      since = refl;
      close = closes-sized u (block_in N img x) x.journal;
      unit = refl;
      frame = appends-sized u x.journal;
    }

abbrev pub Left : Out → Type 0
Left o = Sized o.board

pub mount-sized : (N : ℕ) (img : List ℕ) → Left (mount_on N img)
mount-sized N img = on_test (allowed N (length img)) goes (λ t. subst Left (sym (outcome.mount-length N img t)) no_store)
  where
    few : allowed N (length img) ≡ true → (k : ℕ) → length (wipe_list k (all_found N img)) ≤ max_blocks
    few t k =
        omega (arith, wipes-most k (all_found N img), length-map (block_numbers N) (found N img), length_numbers 0 N, (allowed_tests N (length img) t).most)

    goes : allowed N (length img) ≡ true → Left (mount_on N img)
    goes t = by (stores (all_found N img)) refl
      where
        by : (ys : List Store) → stores (all_found N img) ≡ ys → Left (mount_on N img)
        by [] e = subst Left (sym (outcome.mount_none N img t e)) no_store
        by (y ∷ ys) e =
            on_test (equal_times (y ∷ ys))
            (λ q. subst Left (sym (outcome.mount_equal N img t y ys e q)) no_store)
            (λ q.
            let x : Store = newest y ys in
            let m = outcome.mount-at N img t y ys e q in
            on_test (transfers (upkeep (size_of N img) x) && eqb (time_of x) last_time)
            (λ w. subst Left (sym (m ∙ outcome.mount_worn N img (all_found N img) x w)) no_store)
            (λ w. subst Left (sym (m ∙ outcome.mount-begins N img (all_found N img) x w))
            (wipe-sized _ (mount-job-sized N img x (wipe_list x.number (all_found N img)) (upkeep (size_of N img) x) (few t x.number)))))

pub format-sized : (N : ℕ) (img : List ℕ) → Leaves (format_on N img)
unfolding no_places no_frame
format-sized N img =
    on_test (allowed N (length img))
    (λ t.
    let h : length (format_order N img) ≤ max_blocks = omega (arith, length_order N img, (allowed_tests N (length img) t).most) in
    let s : Sized (format_job N img) = record {
      pending = refl;
      places = refl;
      wipe = array_sized (format_order N img) h;
      since = refl;
      close = refl;
      unit = refl;
      frame = refl;
    } in
    subst Leaves (sym (outcome.format-begins N img t)) (begun img [] (format_job N img) s))
    (λ t. subst Leaves (sym (outcome.format-length N img t)) (no_store, tt))
