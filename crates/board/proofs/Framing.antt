-- The job of a put, delete, commit or abort, with a transfer first or without: each step lands, every prefix keeps what a mount finds,
-- and the record is then idle with the frame in its block.
use mathlib.Core.Path.{◌≡◌, refl, sym, ap, subst, subst₂, ◌∙◌}
use mathlib.Core.List.{List}
use mathlib.Core.Bool.{true, false}
use Prim.Native.Nat.{ℕ, suc, ◌+◌, ◌≤◌, ◌<◌}
use native.Mathlib.Omega.{arith}
use lib.ListN.{length}
use borrow.Author.Tests.{ltb-false}
use Rattle.flash.specs.Flash.{Step, apply_all, size_of}
use Rattle.frame.specs.declared.Edition.{Edition}
use Rattle.frame.specs.Frame.{Frame, frame_len, MayStand, Tears, edition_number}
use Rattle.frame.specs.Reader.{clean}
use Rattle.journal.specs.Block.{Journal, last_time}
use Rattle.journal.specs.Replay.{Object, State, next_state}
use Rattle.journal.specs.Room.{claimed, counts_in}
use Rattle.journal.proofs.Replaying.{replay_frames_of, stands-replay, replay_snoc}
use Rattle.journal.proofs.Room.{frames-total}
use Rattle.board.specs.declared.Rest.{Rest}
use Rattle.board.specs.declared.Record.{Record}
use Rattle.board.specs.Record.{landing, ending, idle}
use Rattle.board.specs.Mount.{next_block, end_of, replay_of, claimed_of, places_in}
use Rattle.board.specs.Queue.{needs_room, counted}
use Rattle.board.specs.Plan.{transfer_plan, append_plan, Work, stayed_work, moved_work, frame_work}
use Rattle.board.specs.Claim.{Track}
use Rattle.board.proofs.Images.{Sized, size-of, apply-append, length-all-steps}
use Rattle.board.proofs.Invariant.{StepLands, Guard, Ready}
use Rattle.board.proofs.Lengths.{frame_cases}
use Rattle.board.proofs.Prefixes.{Each, each_append}
use Rattle.board.proofs.Current.{Alone, After, Roomy, Keeps, ready-alone}
use Rattle.board.proofs.Appending.{Fits, append_lands, append_guard, append_ends, with_frame}
use Rattle.board.proofs.Transferring.{next-journal, Moves, transfer_lands, transfer_guard, transfer_alone}

-- the image is as an idle record says, and what its block holds is this
pub record AsRecorded (N : ℕ) (s : ℕ) (img : List ℕ) (r : Record) (x : Journal) : Type 0 where
  pub alone : Alone N s img r.rest.block x
  pub is_clean : x.tail ≡ clean
  pub ends : end_of x ≡ r.rest.end
  pub long : length img ≡ suc r.rest.last
  pub blocks : r.rest.blocks ≡ N
  pub edition_is : r.rest.edition ≡ edition_number x.edition

pub ready-holds : {N : ℕ} {s : ℕ} {img : List ℕ} {r : Record} {x : Journal} → Sized N s img → (y : Ready N s img r) → y.journal ≡ x → AsRecorded N s img r x
ready-holds {N} {s} {img} {r} {x} z y e =
    record {
      alone = subst₂ (Alone N s img) (sym (ap (λ (q : Record). q.rest.block) y.is)) e (ready-alone z y);
      is_clean = ap (λ (w : Journal). w.tail) (sym e) ∙ y.is_clean;
      ends = sym (ap (λ (q : Record). q.rest.end) y.is ∙ y.ends ∙ ap end_of e);
      long = y.long ∙ ap suc (sym (ap (λ (q : Record). q.rest.last) y.is));
      blocks = ap (λ (q : Record). q.rest.blocks) y.is ∙ y.blocks;
      edition_is = ap (λ (q : Record). q.rest.edition) y.is ∙ y.edition_is ∙ ap (λ (w : Journal). edition_number w.edition) e;
    }

-- a frame that a request may append
pub record Appendable (N : ℕ) (s : ℕ) (img : List ℕ) (r : Record) (x : Journal) (f : Frame) : Type 0 where
  pub host : Tears f
  pub legal : MayStand x.edition 256 f
  pub fits : claimed_of x + frame_len x.edition f ≤ s
  pub young : needs_room N img r x f ≡ true → x.time < last_time

module _ {N : ℕ} {s : ℕ} {img : List ℕ} {r : Record} {x : Journal} {f : Frame} (h : AsRecorded N s img r x) (y : Appendable N s img r x f) where
  abbrev st : State
  st = replay_of x

  abbrev ed : Edition
  ed = x.edition

  abbrev moved : List ℕ
  moved = apply_all s (transfer_plan ed N r.rest.block x st) img

  -- no transfer: the frame fits where it goes
  here : needs_room N img r x f ≡ false → Fits s x f
  here e =
      let l : r.rest.end + frame_len ed f ≤ size_of N img = ltb-false (size_of N img) (r.rest.end + frame_len ed f) e in
      record { host = y.host; legal = y.legal; short = omega (arith, h.ends, size-of h.alone.sized) }

  -- a transfer: it fits after what was moved
  moves : needs_room N img r x f ≡ true → Moves s ed x st
  moves e = record { young = y.young e; stands = stands-replay ed x.frames h.alone.contents.layout.stands; short = omega (arith, y.fits) }

  after : Fits s (next-journal ed x st) f
  after = record { host = y.host; legal = y.legal; short = omega (arith, y.fits, frames-total ed st) }

  new : needs_room N img r x f ≡ true → Alone N s moved (next_block N r.rest.block) (next-journal ed x st)
  new e = transfer_alone h.alone ed st (moves e)

  -- what holds at every step, either way
  each : (P : Step → List ℕ → Type 0) → (needs_room N img r x f ≡ false → Each s P (append_plan ed r.rest.block (end_of x) f) img)
      → (needs_room N img r x f ≡ true → Each s P (transfer_plan ed N r.rest.block x st) img)
      → (needs_room N img r x f ≡ true → Each s P (append_plan ed (next_block N r.rest.block) (end_of (next-journal ed x st)) f) moved)
      → Each s P (frame_work N img r x f).steps img
  each P one first second =
      let k : ℕ = next_block N r.rest.block in
      frame_cases (λ w. Each s P w.steps img) (size_of N img) k (counted r.rest x f) x f
      (λ e. each_append s P (transfer_plan ed N r.rest.block x st) (append_plan ed k (claimed ed st) f) img (first e)
      (subst (λ (n : ℕ). Each s P (append_plan ed k n f) moved) (frames-total ed st) (second e)))
      (λ e. subst (λ (n : ℕ). Each s P (append_plan ed r.rest.block n f) img) h.ends (one e))

  pub frame_lands : Each s (StepLands s) (frame_work N img r x f).steps img
  frame_lands =
      each (StepLands s) (λ e. append_lands h.alone h.is_clean f (here e)) (λ e. transfer_lands h.alone ed st (moves e))
      (λ e. append_lands (new e) refl f after)

  pub frame_guard : {os : List Object} (u : Track) → Keeps u.tight s ed (replay_of x) os
      → Each s (Guard N s os u) (frame_work N img r x f).steps img
  frame_guard {os} u p =
      each (Guard N s os u) (λ e. append_guard h.alone h.is_clean f (here e) u p) (λ e. transfer_guard h.alone ed st (moves e) u p p)
      (λ e. append_guard (new e) refl f after u (subst (λ (z : State). Keeps u.tight s ed z os) (sym (replay_frames_of st)) p))

  pub frame_ends : Roomy s ed (next_state (replay_of x) f)
      → After N s ed (apply_all s (frame_work N img r x f).steps img) (frame_work N img r x f).last (next_state (replay_of x) f)
  frame_ends room =
      frame_cases (λ w. After N s ed (apply_all s w.steps img) w.last (next_state st f)) (size_of N img) (next_block N r.rest.block) z x f
      went stayed
    where
      z : Rest
      z = counted r.rest x f

      counts : z.pending ≡ counts_in ed (next_state st f)
      counts = ap (counts_in ed) (replay_snoc x.frames f)

      -- the record's edition is the journal's
      there : (i ps : List ℕ) (k e : ℕ) (t : State) → After N s ed i (idle ps (landing z (edition_number ed) k e)) t
          → After N s ed i (idle ps (landing z z.edition k e)) t
      there i ps k e t = subst (λ (n : ℕ). After N s ed i (idle ps (landing z n k e)) t) (sym h.edition_is)

      stayed : needs_room N img r x f ≡ false → After N s ed (apply_all s (stayed_work z x f).steps img) (stayed_work z x f).last (next_state st f)
      stayed e =
          subst (λ (n : ℕ). After N s ed (apply_all s (append_plan ed r.rest.block n f) img)
          (idle (places_in (with_frame x f)) (ending z (n + frame_len ed f))) (next_state st f))
          h.ends
          (there (apply_all s (append_plan ed r.rest.block (end_of x) f) img) (places_in (with_frame x f)) r.rest.block (end_of x + frame_len ed f) (next_state st f)
          (append_ends h.alone h.is_clean f (here e) z h.blocks h.long counts room))

      went : needs_room N img r x f ≡ true
          → let w : Work = moved_work (next_block N r.rest.block) z x f in After N s ed (apply_all s w.steps img) w.last (next_state st f)
      went e =
          let k : ℕ = next_block N r.rest.block in
          let long : length moved ≡ suc r.rest.last = length-all-steps s (transfer_plan ed N r.rest.block x st) img ∙ h.long in
          let placed : List ℕ = places_in (with_frame (next-journal ed x st) f) in
          subst (λ (i : List ℕ). After N s ed i (idle placed (landing z z.edition k (claimed ed st + frame_len ed f))) (next_state st f))
          (sym (apply-append s (transfer_plan ed N r.rest.block x st) (append_plan ed k (claimed ed st) f) img))
          (subst₂ (λ (n : ℕ) (w : State). After N s ed (apply_all s (append_plan ed k n f) moved)
          (idle placed (landing z z.edition k (n + frame_len ed f))) (next_state w f))
          (frames-total ed st)
          (replay_frames_of st)
          (there (apply_all s (append_plan ed k (end_of (next-journal ed x st)) f) moved) placed k (end_of (next-journal ed x st) + frame_len ed f)
          (next_state (replay_of (next-journal ed x st)) f)
          (append_ends (new e) refl f after z h.blocks long (counts ∙ ap (λ (w : State). counts_in ed (next_state w f)) (sym (replay_frames_of st)))
          (subst (λ (w : State). Roomy s ed (next_state w f)) (sym (replay_frames_of st)) room))))
