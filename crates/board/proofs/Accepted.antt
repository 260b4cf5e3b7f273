-- The accepted calls: the step calls of a format, of a mount and of a queue request do exactly the steps of its plan.
use mathlib.Core.Path.{◌≡◌, refl, sym, ap, ap₂, subst, subst₂, ◌∙◌}
use mathlib.Core.List.{List, [], ◌∷◌, ◌++◌, append-nil, map}
use mathlib.Core.Bool.{Bool, true}
use Prim.Native.Nat.{ℕ, suc, ◌+◌, ◌-◌, ◌*◌, ◌≤◌, ◌<◌}
use native.Mathlib.Omega.{arith}
use lib.ListN.{length, drop, length-append, length-take}
use borrow.Author.Tests.{ltb-false}
use Rattle.frame.specs.declared.Edition.{Edition}
use Rattle.frame.specs.declared.Edition.TheVariants as edition
use Rattle.flash.specs.Flash.{max_blocks, is_count, Step, erase, block, size_of, apply_all, writes}
use Rattle.flash.proofs.Cases.{between}
use Rattle.frame.specs.declared.Host.{Host}
use Rattle.frame.specs.Frame.{put, delete, Frame, change, commit, abort, settled, closed, reset, encode, encode_all, frame_len, total, edition_number, edition_by}
use Rattle.frame.specs.Frame.{MayStand}
use Rattle.frame.proofs.Encode.{length-encode, length-all, edition-back, stands-edition}
use Rattle.journal.specs.Replay.{State, frames_of, settled_only}
use Rattle.journal.specs.Block.{Journal, build, header_len}
use Rattle.journal.specs.Room.{claimed, used}
use Rattle.journal.specs.Index.{places_of, since_of, place_all, commits}
use Rattle.journal.proofs.Places.{Standing}
use Rattle.journal.proofs.Room.{frames-total, used-claimed, claimed-settled, claimed-replay}
use Rattle.journal.proofs.Replaying.{stands-replay, stands-settled, none-closed}
use Rattle.journal.proofs.Copied.{place_same, copied-settled, copied_all}
use Rattle.journal.proofs.Loading.{Yields, yields_none, yields_settled, yields_all}
use Rattle.board.specs.declared.Job.{Job}
use Rattle.board.specs.declared.Rest.{Rest}
use Rattle.board.specs.declared.Record.{Record}
use Rattle.board.specs.Record.{allowed, no_places, zero_each, buffer, landing, ending, idle}
use Rattle.board.specs.Step.{ends_with, enter_wipe}
use Rattle.board.specs.Mount.{next_block, new_time, end_of, Store, Upkeep, moves, upkeep, mount_job, format_order, format_job, replay_of, used_of}
use Rattle.board.specs.Mount.{claimed_of, time_of, rests, mends, store_at, closed_end, closes_for, due_reset, stands_for, block_in}
use Rattle.board.specs.Queue.{places_for, append_job, counted, convert_job}
use Rattle.board.specs.Exec.{exec}
use Rattle.board.specs.Plan.{Follows, Performs, after_steps, on_block, format_work, upkeep_work, mount_in, frame_work, convert_work}
use Rattle.board.proofs.Numbers.{next-there, next-other}
use Rattle.board.proofs.Images.{Sized, sized_of, sized-last}
use Rattle.board.proofs.Blocks.{Besides, besides_blocks, besides_kept}
use Rattle.board.proofs.Upkeep.{mends-fits}
use Rattle.board.proofs.Lengths.{frame_cases}
use Rattle.board.proofs.Order.{order_blocks}
use Rattle.board.proofs.PipelineClose.{Closing, closing-none}
use Rattle.board.proofs.PipelineJob.{Has, follows_staying, follows_moving}

-- a journal in a block lies below the block's end
pub journal-fits : (ed : Edition) (s k : ℕ) (img : List ℕ) (fs : List Frame) → Standing ed (block s k img) fs → header_len + total ed fs ≤ s
journal-fits ed s k img fs g =
    let e : length (block s k img) ≡ header_len + (total ed fs + length g.rest) =
    ap (λ (l : List ℕ). length l) g.split ∙ length-append g.head (encode_all ed fs ++ g.rest)
    ∙ ap₂ ◌+◌ g.long (length-append (encode_all ed fs) g.rest ∙ ap (λ (n : ℕ). n + length g.rest) (length-all ed fs)) in
    omega (arith, length-take s (drop (k * s) img))

-- ---- format

pub follows-format : (N : ℕ) (img : List ℕ) → allowed N (length img) ≡ true
    → Performs N (exec N) img (enter_wipe (format_job N img)) (format_work N img)
unfolding writes encode_all total place_all
follows-format N img h =
    let j : Job = (format_job N img).job in
    let sized : Sized N (size_of N img) img = sized_of N img h in
    follows_moving img (format_job N img).rest no_places j 256 header_len [] [] (format_order N img) (sized-last sized) sized.count refl
    (order_blocks N img) (record { wipe = refl; wipes = refl; closes = refl; close = refl; size = refl }) (next-there 0 (omega (arith, sized.few)))
    (omega (arith, sized.low)) edition.First edition.First refl refl [] no_places refl refl
    (omega (arith, sized.few)) (λ q. next-other 0 sized.few (omega (arith, sized.few)) (sym q)) (omega (arith, sized.low))
    (yields_none edition.First (block (size_of N img) (next_block N 0) (apply_all (size_of N img) (map erase (format_order N img)) img)) header_len no_places zero_each)

-- ---- mount

-- nothing is appended
no-append : (k e : ℕ) (xs ys : List Step) → xs ++ (ys ++ on_block k (writes e [])) ≡ xs ++ ys
unfolding writes
no-append k e xs ys = ap (λ (zs : List Step). xs ++ zs) (append-nil ys)

-- by what it does after the erases
module _ {N : ℕ} (img : List ℕ) (x : Store) (ks : List ℕ) (h : allowed N (length img) ≡ true) (here : x.number < N) (others : Besides N x.number ks)
    (g : Standing x.journal.edition (block (size_of N img) x.number img) x.journal.frames) where
  abbrev k : ℕ
  k = x.number

  abbrev ed : Edition
  ed = x.journal.edition

  abbrev fs : List Frame
  fs = x.journal.frames

  abbrev s : ℕ
  s = size_of N img

  abbrev e : ℕ
  e = end_of x.journal

  abbrev at : Rest
  at = store_at N (length img - 1) x

  abbrev job : Upkeep → Record
  job u = mount_job N img x ks u

  abbrev Does : Upkeep → Type 0
  Does u = Performs N (exec N) img (enter_wipe (job u)) (after_steps (map erase ks) (upkeep_work u (next_block N k) (block_in N img x) at x))

  sized : Sized N (size_of N img) img
  sized = sized_of N img h

  fits : e ≤ s
  fits = journal-fits ed s k img fs g

  mount_moves : Does moves
  mount_moves =
      let st : State = settled_only (replay_of x.journal) in
      let same : block s k (apply_all s (map erase ks) img) ≡ block s k img = besides_kept N s k ks img others in
      let total-is : header_len + total ed (frames_of st) ≡ used_of x.journal = frames-total ed st ∙ claimed-settled ed (replay_of x.journal) in
      let end_is : header_len + total ed (frames_of st) + 0 ≡ used_of x.journal = omega arith in
      let made : List Step = on_block (next_block N k) (build ed (suc (time_of x)) (frames_of st)) ++ (erase k ∷ []) in
      subst (λ (m : ℕ). Follows N (exec N) img (enter_wipe (job moves)) (map erase ks ++ made) (idle (places_of ed (frames_of st)) (landing at (edition_number ed) (next_block N k) m))) end_is
      (subst (λ (ys : List Step). Follows N (exec N) img (enter_wipe (job moves)) ys
      (idle (places_of ed (frames_of st)) (landing at (edition_number ed) (next_block N k) (header_len + total ed (frames_of st) + 0))))
      (no-append (next_block N k) (header_len + total ed (frames_of st)) (map erase ks) made)
      (follows_moving img at (places_of ed fs) (job moves).job 0 e [] [] ks (sized-last sized) sized.count refl (besides_blocks N k ks others)
      (record { wipe = refl; wipes = refl; closes = refl; close = refl; size = refl }) here (omega (arith, fits))
      ed ed (edition-back ed) (edition-back ed) (frames_of st) (places_of ed (frames_of st))
      (copied-settled ed ed (ends_with (buffer [])) fs (stands-settled ed fs g.stand)) refl (next-there k here) (next-other k sized.few here)
      (omega (arith, fits, used-claimed ed (replay_of x.journal), claimed-replay ed fs))
      (subst (λ (b : List ℕ). Yields ed b e (places_of ed fs) zero_each 0 e (frames_of st)) (sym same) (yields_settled ed (block s k img) fs zero_each g))))

  mount_rests : Does rests
  mount_rests =
      let end_is : e + 0 ≡ e = omega arith in
      subst (λ (n : ℕ). Follows N (exec N) img (enter_wipe (job rests)) (map erase ks ++ []) (idle (places_of ed fs) (ending at n))) end_is
      (subst (λ (ys : List Step). Follows N (exec N) img (enter_wipe (job rests)) ys (idle (places_of ed fs) (ending at (e + 0)))) (no-append k e (map erase ks) [])
      (follows_staying img at (places_of ed fs) (job rests).job 0 e [] [] ks (sized-last sized) sized.count refl (besides_blocks N k ks others)
      (record { wipe = refl; wipes = refl; closes = refl; close = refl; size = refl }) here (omega (arith, fits)) refl (omega (arith, fits)) (closing-none s)))

  mount_mends : Closing s (closes_for mends (block_in N img x) x.journal) → closed_end x.journal + length (due_reset x.journal) ≤ s → Does mends
  mount_mends fit room =
      follows_staying img (stands_for mends at x.journal) (places_of ed fs) (job mends).job 0 e (closes_for mends (block_in N img x) x.journal)
      (due_reset x.journal) ks (sized-last sized) sized.count refl (besides_blocks N k ks others)
      (record { wipe = refl; wipes = refl; closes = refl; close = refl; size = refl }) here (omega (arith, fits)) refl room fit

  pub follows_mount : Closing s (closes_for mends (block_in N img x) x.journal) → closed_end x.journal ≤ s
      → Performs N (exec N) img (enter_wipe (mount_job N img x ks (upkeep s x))) (mount_in N img ks (next_block N x.number) x)
  follows_mount fit low = go (upkeep s x) refl
    where
      go : (u : Upkeep) → upkeep s x ≡ u → Does u
      go moves q = mount_moves
      go rests q = mount_rests
      go mends q = mount_mends fit (mends-fits s x.journal q low)

-- the buffer of a frame tells whose commit it is
ends-commit : (ed : Edition) (f : Frame) (h : Host) → ends_with (buffer (encode ed f)) h ≡ commits f h
ends-commit ed (change g (put i v)) h = refl
ends-commit ed (change g (delete i)) h = refl
ends-commit ed (commit g) h = refl
ends-commit ed (abort g) h = refl
ends-commit ed (settled i v) h = refl
ends-commit ed (closed v) h = refl
ends-commit ed reset h = refl

-- ---- a queue request's frame

pub follows-frame : {N : ℕ} (img : List ℕ) (r : Record) (x : Journal) (f : Frame) → is_count N ≡ true → length img ≡ suc r.rest.last
    → r.rest.blocks ≡ N → r.rest.block < N → Standing x.edition (block (size_of N img) r.rest.block img) x.frames
    → r.rest.end ≡ end_of x → r.rest.edition ≡ edition_number x.edition
    → claimed_of x + frame_len x.edition f ≤ size_of N img → MayStand x.edition 256 f
    → Performs N (exec N) img (enter_wipe (append_job N img r x f)) (frame_work N img r x f)
unfolding apply_all
follows-frame {N} img r x f count long blocks here g end kind room stands =
    let k : ℕ = r.rest.block in
    let ed : Edition = x.edition in
    let s : ℕ = size_of N img in
    let z : Rest = counted r.rest x f in
    let st : State = replay_of x in
    let fs : List Frame = frames_of st in
    let a : Record = append_job N img r x f in
    let header : header_len ≤ s = omega (arith, journal-fits ed s k img x.frames g) in
    let has : Has a.job [] [] (encode ed f) = record { wipe = refl; wipes = refl; closes = refl; close = refl; size = sym (length-encode ed f) } in
    let begun : Record = enter_wipe a in
    let placed : List ℕ = places_of ed (fs ++ (f ∷ [])) in
    frame_cases (λ w. Performs N (exec N) img begun w) s (next_block N k) z x f
    (λ t.
    let total-is : header_len + total ed fs ≡ claimed ed st = frames-total ed st in
    subst
    (λ (n : ℕ).
    Follows N (exec N) img begun ((on_block (next_block N k) (build ed n fs) ++ (erase k ∷ [])) ++ on_block (next_block N k) (writes (claimed ed st) (encode ed f)))
    (idle placed (landing z z.edition (next_block N k) (claimed ed st + frame_len ed f))))
    (ap (λ (b : Bool). new_time b x.time) t)
    (subst₂
    (λ (n m : ℕ).
    Follows N (exec N) img begun ((on_block (next_block N k) (build ed a.job.time fs) ++ (erase k ∷ [])) ++ on_block (next_block N k) (writes n (encode ed f)))
    (idle placed (landing z z.edition (next_block N k) (n + m))))
    total-is (length-encode ed f)
    (subst
    (λ (n : ℕ).
    Follows N (exec N) img begun
    ((on_block (next_block N k) (build ed a.job.time fs) ++ (erase k ∷ [])) ++ on_block (next_block N k) (writes (header_len + total ed fs) (encode ed f)))
    (idle placed (landing z n (next_block N k) (header_len + total ed fs + length (encode ed f)))))
    (sym kind)
    (follows_moving img z a.places a.job 0 header_len [] (encode ed f) [] long count blocks tt has here header
    ed ed (edition-back ed) (ap edition_by kind ∙ edition-back ed) fs placed
    (ap (place_all ed (ends_with (buffer (encode ed f))) header_len fs) (ap (λ (b : Bool). places_for b x f) t)
    ∙ place_same ed (ends_with (buffer (encode ed f))) (commits f) header_len fs (places_of ed x.frames) (ends-commit ed f)
    ∙ copied_all ed x.frames (stands-replay ed x.frames g.stand) f stands) t (next-there k here)
    (next-other k (between 2 N max_blocks count).0 here) (omega (arith, length-encode ed f))
    (subst₂ (λ (n : ℕ) (ps : List ℕ). Yields ed (block s k img) n ps (since_of ed x.frames) 0 header_len fs) (sym end)
    (sym (ap (λ (b : Bool). places_for b x f) t)) (yields_all ed (block s k img) x.frames g))))))
    (λ t.
    subst₂ (λ (m : ℕ) (ps : List ℕ). Follows N (exec N) img begun (on_block k (writes z.end (encode ed f))) (idle ps (ending z (z.end + m))))
    (length-encode ed f) (ap (λ (b : Bool). places_for b x f) t)
    (follows_staying img z a.places a.job 0 header_len [] (encode ed f) [] long count blocks tt has here header t
    (omega (arith, length-encode ed f, ltb-false (size_of N img) (r.rest.end + frame_len ed f) t)) (closing-none s)))

-- ---- a convert

pub follows-convert : {N : ℕ} (img : List ℕ) (r : Record) (x : Journal) → is_count N ≡ true → length img ≡ suc r.rest.last
    → r.rest.blocks ≡ N → r.rest.block < N → Standing x.edition (block (size_of N img) r.rest.block img) x.frames
    → r.rest.end ≡ end_of x → r.rest.edition ≡ edition_number x.edition → used edition.Second (replay_of x) ≤ size_of N img
    → Performs N (exec N) img (enter_wipe (convert_job N img r x)) (convert_work N img r x)
unfolding apply_all
follows-convert {N} img r x count long blocks here g end kind room =
    let k : ℕ = r.rest.block in
    let ed : Edition = x.edition in
    let s : ℕ = size_of N img in
    let st : State = settled_only (replay_of x) in
    let fs : List Frame = frames_of st in
    let c : Record = convert_job N img r x in
    let ys : List Step = on_block (next_block N k) (build edition.Second (suc x.time) fs) ++ (erase k ∷ []) in
    let header : header_len ≤ s = omega (arith, journal-fits ed s k img x.frames g) in
    let has : Has c.job [] [] [] = record { wipe = refl; wipes = refl; closes = refl; close = refl; size = refl } in
    let total-is : header_len + total edition.Second fs ≡ used edition.Second (replay_of x) =
    frames-total edition.Second st ∙ claimed-settled edition.Second (replay_of x) in
    let end_is : header_len + total edition.Second fs + 0 ≡ used edition.Second (replay_of x) = omega arith in
    let placed : List ℕ = places_of edition.Second fs in
    subst (λ (n : ℕ). Follows N (exec N) img (enter_wipe c) ys (idle placed (landing r.rest 2 (next_block N k) n))) end_is
    (subst (λ (zs : List Step). Follows N (exec N) img (enter_wipe c) zs
    (idle placed (landing r.rest 2 (next_block N k) (header_len + total edition.Second fs + 0))))
    (no-append (next_block N k) (header_len + total edition.Second fs) [] ys)
    (follows_moving img r.rest (places_of ed x.frames) c.job 0 (end_of x) [] [] [] long count blocks tt has here header
    edition.Second ed refl (ap edition_by kind ∙ edition-back ed) fs placed
    (copied-settled ed edition.Second (ends_with (buffer [])) x.frames
    (stands-edition ed edition.Second 0 fs (none-closed st) (stands-settled ed x.frames g.stand))) refl (next-there k here)
    (next-other k (between 2 N max_blocks count).0 here) (omega (arith, end_is))
    (subst (λ (n : ℕ). Yields ed (block s k img) n (places_of ed x.frames) zero_each 0 (end_of x) fs) (sym end)
    (yields_settled ed (block s k img) x.frames zero_each g))))
