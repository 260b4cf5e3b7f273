-- K12: what the job of an accepted frame counts.
use mathlib.Core.Path.{◌≡◌, refl, sym, subst}
use mathlib.Core.List.{List, [], ◌∷◌, ◌++◌, append_assoc, append-nil}
use mathlib.Core.Bool.{Bool, true, false}
use Prim.Native.Nat.{ℕ, suc, ◌+◌, ◌-◌, ◌*◌, ◌≤◌, ◌<◌}
use native.Mathlib.Omega.{arith}
use lib.ListN.{length, length-drop}
use borrow.Author.Tests.{ltb-true}
use Rattle.flash.specs.Bytes.{Bytes}
use Rattle.flash.specs.Flash.{Step, program, erase, apply, apply_all, block, Write, writes}
use Rattle.flash.proofs.Offsets.{Below}
use Rattle.frame.specs.declared.Edition.{Edition}
use Rattle.frame.specs.declared.Edition.TheVariants as edition
use Rattle.frame.specs.declared.Host.{Host}
use Rattle.frame.specs.declared.ObjectId.{ObjectId}
use Rattle.frame.specs.Frame.{Frame, change, put, delete, commit, abort, encode, frame_len, end_len}
use Rattle.journal.specs.Replay.{frames_of, is_open_of}
use Rattle.journal.specs.Block.{Journal, build, state_at}
use Rattle.journal.specs.Sentences.{ValidBlock}
use Rattle.journal.specs.Laws.{by_edition}
use Rattle.journal.proofs.Room.{frames-total}
use Rattle.journal.proofs.Building.{below-build}
use Rattle.wire.specs.declared.Request.{Request}
use Rattle.wire.specs.declared.Request.TheVariants.{Put, Delete, Commit, Abort, Read, Log, Convert}
use Rattle.wire.specs.Message.{value_in_of}
use Rattle.wire.specs.Sentences.{Means}
use Rattle.board.specs.declared.Rest.{Rest}
use Rattle.board.specs.Mount.{next_block, replay_of, claimed_of}
use Rattle.board.specs.Plan.{on_block, moved_work, frame_in}
use Rattle.board.specs.Table.{appends, end_task, task_for}
use Rattle.board.specs.Endurance.{rose, Tally, frame_bytes, accepting, erasing}
use Rattle.board.proofs.Fitting.{the_frame, no-frame, no-convert}
use Rattle.board.proofs.Images.{other-writes, length-all-steps, bytes-all-steps}
use Rattle.board.proofs.Lengths.{frame_cases}
use Rattle.board.proofs.Numbers.{next-other}
use Rattle.board.proofs.Rising.{program-rose, valid-rose}
use Rattle.board.proofs.Tallies.{Bounds, Between, accepted_bounds, appended, transferred}

-- ---- a request's frame by its message

-- a commit's bytes to those of the longest put
pub record Sizes (ed : Edition) (msg : List ℕ) (f : Frame) : Type 0 where
  pub is : frame_len ed f ≡ frame_bytes ed msg
  pub least : by_edition ed 6 10 ≤ frame_len ed f
  pub most : frame_len ed f ≤ by_edition ed 248 252

put-sizes : (ed : Edition) (h : Host) (i : ObjectId) (msg : List ℕ) → Means msg (Put i) → Sizes ed msg (change h (put i (value_in_of msg)))
put-sizes edition.First h i msg (_, l, u, _, _) =
    let v : length (value_in_of msg) ≡ length msg - 6 = length-drop 6 msg in record { is = omega (arith, v, l); least = omega arith; most = omega (arith, v, u) }
put-sizes edition.Second h i msg (_, l, u, _, _) =
    let v : length (value_in_of msg) ≡ length msg - 6 = length-drop 6 msg in record { is = omega (arith, v, l); least = omega arith; most = omega (arith, v, u) }

delete-sizes : (ed : Edition) (h : Host) (i : ObjectId) (msg : List ℕ) → length msg ≡ 6 → Sizes ed msg (change h (delete i))
delete-sizes edition.First h i msg l = record { is = omega (arith, l); least = omega arith; most = omega arith }
delete-sizes edition.Second h i msg l = record { is = omega (arith, l); least = omega arith; most = omega arith }

-- a commit's or an abort's
end-sizes : (ed : Edition) (msg : List ℕ) (f : Frame) → frame_len ed f ≡ end_len ed → length msg ≡ 4 → Sizes ed msg f
end-sizes edition.First msg f e l = record { is = omega (arith, e, l); least = omega (arith, e); most = omega (arith, e) }
end-sizes edition.Second msg f e l = record { is = omega (arith, e, l); least = omega (arith, e); most = omega (arith, e) }

sizes_if : {ed : Edition} {msg : List ℕ} {f : Frame} (b : Bool) (g : Frame) → Sizes ed msg g → end_task b g ≡ appends f → Sizes ed msg f
sizes_if {ed} {msg} true g z e = subst (Sizes ed msg) (the_frame e) z
sizes_if false g z e = no-frame e

pub frame-sizes : (h : Host) (msg : List ℕ) (x : Journal) (q : Request) (f : Frame) → Means msg q → task_for h msg x q ≡ appends f → Sizes x.edition msg f
frame-sizes h msg x (Put i) f w e = subst (Sizes x.edition msg) (the_frame e) (put-sizes x.edition h i msg w)
frame-sizes h msg x (Delete i) f (_, l, _, _) e = subst (Sizes x.edition msg) (the_frame e) (delete-sizes x.edition h i msg l)
frame-sizes h msg x Commit f (_, l) e = sizes_if (is_open_of h (replay_of x).pending) (commit h) (end-sizes x.edition msg (commit h) refl l) e
frame-sizes h msg x Abort f (_, l) e = sizes_if (is_open_of h (replay_of x).pending) (abort h) (end-sizes x.edition msg (abort h) refl l) e
frame-sizes h msg x (Read i) f w e = no-frame e
frame-sizes h msg x (Log p) f w e = no-frame e
frame-sizes h msg x Convert f w e = no-convert x.edition e

-- ---- the counts in a plan

abbrev pub is_erase : Step → Bool
is_erase (program k o v) = false
is_erase (erase k) = true

module _ (s most least longest : ℕ) where
  -- the bounds hold before each step, an erase raises a bit and nothing else does; after the last step the frames end at `end`
  abbrev pub Counts : ℕ → List ℕ → Tally → List Step → Type 0
  Counts end img t [] = Between s most least longest t end
  Counts end img t (x ∷ xs) =
      Bounds s most least longest t × (rose img (apply s x img) ≡ is_erase x) × Counts end (apply s x img) (erasing (is_erase x) t) xs

  -- programmed bytes count nothing
  counts_on : (end j : ℕ) (ws : List Write) (xs : List Step) (img : List ℕ) (t : Tally) → Bounds s most least longest t
      → Counts end (apply_all s (on_block j ws) img) t xs → Counts end img t (on_block j ws ++ xs)
  unfolding apply_all
  counts_on end j [] xs img t b c = c
  counts_on end j (w ∷ ws) xs img t b c =
      (b, program-rose img (j * s + w.at) w.byte, counts_on end j ws xs (apply s (program j w.at w.byte) img) t b c)

  counts_writes : (end j : ℕ) (ws : List Write) (img : List ℕ) (t : Tally) → Between s most least longest t end → Counts end img t (on_block j ws)
  counts_writes end j ws img t b = subst (Counts end img t) (append-nil (on_block j ws)) (counts_on end j ws [] img t b.bounds b)

  module _ (N : ℕ) (img : List ℕ) (t : Tally) (z : Rest) (x : Journal) (f : Frame) (by : Bytes img) (few : 2 ≤ N) (there : z.block < N)
      (long : z.block * s + s ≤ length img) (state : state_at < s) (v : ValidBlock (block s z.block img) x) (fits : claimed_of x ≤ s)
      (lo : least ≤ frame_len x.edition f) (hi : frame_len x.edition f ≤ longest) (b : Between s most least longest t z.end) where
    abbrev n : ℕ
    n = frame_len x.edition f

    abbrev j : ℕ
    j = next_block N z.block

    abbrev ws : List Write
    ws = build x.edition (suc x.time) (frames_of (replay_of x))

    abbrev copied : List ℕ
    copied = apply_all s (on_block j ws) img

    below : Below s ws
    below = below-build x.edition s (suc x.time) (frames_of (replay_of x)) (omega (arith, frames-total x.edition (replay_of x), fits))

    -- the block that a transfer leaves is as it was when it is erased
    erase_rises : rose copied (apply s (erase z.block) copied) ≡ true
    erase_rises =
        valid-rose s z.block copied x (bytes-all-steps s (on_block j ws) img by) (omega (arith, length-all-steps s (on_block j ws) img, long)) state
        (subst (λ (l : List ℕ). ValidBlock l x)
        (sym (other-writes s z.block j ws img (λ e. next-other z.block few there (sym e)) below)) v)

    moved : claimed_of x ≤ most → s < z.end + n → Counts (claimed_of x + n) img (accepting n t) (moved_work j z x f).steps
    moved c h =
        let us : List Write = writes (claimed_of x) (encode x.edition f) in
        let w = transferred s most least longest n z.end (claimed_of x) t c h lo hi b in
        subst (Counts (claimed_of x + n) img (accepting n t)) (sym (append_assoc (on_block j ws) (erase z.block ∷ []) (on_block j us)))
        (counts_on (claimed_of x + n) j ws (erase z.block ∷ on_block j us) img (accepting n t) u
        (u, erase_rises, counts_writes (claimed_of x + n) j us (apply s (erase z.block) copied) (erasing true (accepting n t)) w))
      where
        u : Bounds s most least longest (accepting n t)
        u = accepted_bounds s most least longest n t b.bounds

    pub counts_frame : (s < z.end + n → claimed_of x ≤ most)
        → Counts (frame_in s j z x f).last.rest.end img (accepting n t) (frame_in s j z x f).steps
    counts_frame c =
        frame_cases (λ w. Counts w.last.rest.end img (accepting n t) w.steps) s j z x f
        (λ e. let h : s < z.end + n = ltb-true s (z.end + n) e in moved (c h) h)
        (λ e. counts_writes (z.end + n) z.block (writes z.end (encode x.edition f)) img (accepting n t)
        (appended s most least longest n z.end t b))
