-- What an accepted mount does: each step lands, every prefix keeps what a mount finds, and it ends with the settled objects alone.
use mathlib.Core.Path.{◌≡◌, refl, sym, ap, subst, ◌∙◌}
use mathlib.Core.List.{List, ◌++◌, map}
use Prim.Native.Nat.{ℕ, suc, ◌+◌, ◌-◌, ◌≤◌, ◌<◌}
use native.Mathlib.Omega.{arith}
use lib.ListN.{length}
use Rattle.flash.specs.Bytes.{Bytes}
use Rattle.flash.specs.Flash.{Step, erase, apply_all, block, size_of, write, writes}
use Rattle.flash.proofs.Image.{bytes-block}
use Rattle.flash.proofs.Offsets.{below_at}
use Rattle.frame.specs.declared.Edition.{Edition}
use Rattle.frame.specs.Frame.{edition_number}
use Rattle.journal.specs.Replay.{Object, State, settled_only, frames_of}
use Rattle.journal.proofs.Places.{Standing}
use Rattle.journal.proofs.Closing.{ClosesWell, closes-well}
use Rattle.journal.proofs.Room.{claimed-settled}
use Rattle.journal.proofs.PerHost.{counts-none}
use Rattle.journal.specs.Index.{places_of}
use Rattle.board.specs.Record.{landing, idle}
use Rattle.board.specs.Step.{enter_wipe}
use Rattle.board.specs.Mount.{Store, all_found, wipe_list, next_block, Upkeep, rests, mends, moves, upkeep, store_at, closed_end, closes_for, due_reset}
use Rattle.board.specs.Mount.{mount_job, replay_of, time_of}
use Rattle.board.specs.Exec.{exec}
use Rattle.board.specs.Plan.{Performs, programs, Work, after_steps, on_block, upkeep_work, mount_work}
use Rattle.board.specs.Claim.{Track}
use Rattle.board.proofs.Upkeep.{rests-clean, rests-settled, mends-fits}
use Rattle.board.proofs.Blocks.{wiped_besides, besides_kept}
use Rattle.board.proofs.Images.{Sized, size-of, sized-last, apply-append, length-all-steps}
use Rattle.board.proofs.Lengths.{mount_steps}
use Rattle.board.proofs.Invariant.{Lessers, Guard, StepLands}
use Rattle.board.proofs.Prefixes.{Each, each_append}
use Rattle.board.proofs.Current.{Alone, After, Keeps, block-long, alone-after, valid-of, keeps_settled}
use Rattle.board.proofs.Erasing.{erases-land, erases_guard, erases-alone}
use Rattle.board.proofs.PipelineClose.{Closing}
use Rattle.board.proofs.Accepted.{follows_mount}
use Rattle.board.proofs.Replies.{standing-of}
use Rattle.board.proofs.Transferring.{transfer_lands, transfer_guard, transferred, moves-settled, roomy-settled}
use Rattle.board.proofs.Mending.{mend_lands, mend_guard, mend_ends}
use Rattle.board.proofs.Deciding.{StoreThere, InTime}
use Rattle.board.proofs.Wiping.{wipes-others, wipes_few}

-- the same of the image's blocks
pub in_time-at : {N s : ℕ} {img : List ℕ} (x : Store) → Sized N s img → InTime (size_of N img) x → InTime s x
in_time-at x z t = subst (λ (n : ℕ). InTime n x) (size-of z) t

-- ---- its step calls

module _ {N : ℕ} {s : ℕ} {img : List ℕ} (x : Store) (z : Sized N s img) (by : Bytes img) (h : x.number < N) (y : StoreThere s img x) where
  well : ClosesWell (block s x.number img) x.journal
  well = closes-well y (bytes-block s x.number img by)

  pub closing : Closing s (closes_for mends (block s x.number img) x.journal)
  closing =
      record {
        bytes = well.bytes;
        below = λ i l.
            omega (
              arith,
              below_at (length (block s x.number img)) (closes_for mends (block s x.number img) x.journal) i (write 0 0) well.below l,
              block-long x.number z h,
            );
      }

  pub closed_fits : closed_end x.journal ≤ s
  closed_fits = omega (arith, well.fits, block-long x.number z h)

  pub mount_performs : Performs N (exec N) img (enter_wipe (mount_job N img x (wipe_list x.number (all_found N img)) (upkeep (size_of N img) x))) (mount_work N img x)
  mount_performs =
      follows_mount img x (wipe_list x.number (all_found N img)) z.ok h (wiped_besides N x.number img)
      (subst (λ (n : ℕ). Standing x.journal.edition (block n x.number img) x.journal.frames) (sym (size-of z)) (standing-of y))
      (subst (λ (n : ℕ). Closing n (closes_for mends (block n x.number img) x.journal)) (sym (size-of z)) closing)
      (omega (arith, closed_fits, size-of z))

-- ---- the plan

module _ {N : ℕ} {s : ℕ} {img : List ℕ} (x : Store) (z : Sized N s img) (by : Bytes img) (h : x.number < N) (y : StoreThere s img x) (t : InTime s x) where
  abbrev ks : List ℕ
  ks = wipe_list x.number (all_found N img)

  abbrev st : State
  st = settled_only (replay_of x.journal)

  abbrev ed : Edition
  ed = x.journal.edition

  abbrev kept : Upkeep → Work
  kept u = upkeep_work u (next_block N x.number) (block s x.number img) (store_at N (length img - 1) x) x

  -- by a block's size
  work_is : mount_work N img x ≡ after_steps (map erase ks) (kept (upkeep s x))
  work_is =
      ap (λ (n : ℕ). after_steps (map erase ks) (upkeep_work (upkeep n x) (next_block N x.number) (block n x.number img) (store_at N (length img - 1) x) x))
      (size-of z)

  -- the other blocks erased
  abbrev wiped : List ℕ
  wiped = apply_all s (map erase ks) img

  alone : Alone N s wiped x.number x.journal
  alone = erases-alone ks img z h y (wiped_besides N x.number img) (wipes-others z x.number)

  -- its block is as it was
  same : block s x.number wiped ≡ block s x.number img
  same = besides_kept N s x.number ks img (wiped_besides N x.number img)

  well_wiped : ClosesWell (block s x.number wiped) x.journal
  well_wiped = subst (λ (b : List ℕ). ClosesWell b x.journal) (sym same) (well x z by h y)

  reset_room : upkeep s x ≡ mends → closed_end x.journal + length (due_reset x.journal) ≤ s
  reset_room q = mends-fits s x.journal q (closed_fits x z by h y)

  over : (P : List Step → Type 0)
      → P (on_block x.number (closes_for mends (block s x.number wiped) x.journal) ++ on_block x.number (writes (closed_end x.journal) (due_reset x.journal)))
      → P (kept mends).steps
  over P p =
      subst (λ (b : List ℕ). P (on_block x.number (closes_for mends b x.journal) ++ on_block x.number (writes (closed_end x.journal) (due_reset x.journal))))
      same p

  lands_kept : (u : Upkeep) → upkeep s x ≡ u → Each s (StepLands s) (kept u).steps wiped
  lands_kept moves q = transfer_lands alone ed st (moves-settled alone (t q))
  lands_kept mends q = over (λ xs. Each s (StepLands s) xs wiped) (mend_lands alone well_wiped (reset_room q))
  lands_kept rests q = λ j k. absurd (omega arith)

  pub mount_lands : Each s (StepLands s) (mount_work N img x).steps img
  mount_lands =
      subst (λ (w : Work). Each s (StepLands s) w.steps img) (sym work_is)
      (each_append s (StepLands s) (map erase ks) (kept (upkeep s x)).steps img (erases-land s ks img) (lands_kept (upkeep s x) refl))

  keeps_kept : {os : List Object} (v : Track) → Keeps v.tight s ed (replay_of x.journal) os → (u : Upkeep) → upkeep s x ≡ u
      → Each s (Guard N s os v) (kept u).steps wiped
  keeps_kept v p moves q = transfer_guard alone ed st (moves-settled alone (t q)) v p (keeps_settled p)
  keeps_kept {os} v p mends q = over (λ xs. Each s (Guard N s os v) xs wiped) (mend_guard alone well_wiped (reset_room q) v p)
  keeps_kept v p rests q = λ j k. absurd (omega arith)

  pub mount-keeps : {os : List Object} (u : Track) → Keeps u.tight s x.journal.edition (replay_of x.journal) os
      → Lessers N s img (time_of x) x.number → Each s (Guard N s os u) (mount_work N img x).steps img
  mount-keeps {os} u p q =
      subst (λ (w : Work). Each s (Guard N s os u) w.steps img) (sym work_is)
      (each_append s (Guard N s os u) (map erase ks) (kept (upkeep s x)).steps img
      (erases_guard u x.number ks img z h (wiped_besides N x.number img) (valid-of y p) q) (keeps_kept u p (upkeep s x) refl))

  long : length wiped ≡ suc (length img - 1)
  long = length-all-steps s (map erase ks) img ∙ sized-last z

  ends_kept : (u : Upkeep) → upkeep s x ≡ u → After N s ed (apply_all s (kept u).steps wiped) (kept u).last st
  unfolding apply_all
  ends_kept moves e =
      let after : List ℕ = apply_all s (kept moves).steps wiped in
      subst (λ (n : ℕ). After N s ed after
      (idle (places_of ed (frames_of st)) (landing (store_at N (length img - 1) x) (edition_number ed) (next_block N x.number) n)) st)
      (claimed-settled ed (replay_of x.journal))
      (transferred alone ed st (moves-settled alone (t e)) (store_at N (length img - 1) x) refl long
      (sym (counts-none ed st.objects)) (roomy-settled alone))
  ends_kept mends e =
      over (λ xs. After N s ed (apply_all s xs wiped) (kept mends).last st)
      (mend_ends alone well_wiped (reset_room e) (store_at N (length img - 1) x) refl long (sym (counts-none ed st.objects)) (roomy-settled alone))
  ends_kept rests e =
      alone-after (store_at N (length img - 1) x) st alone (rests-clean s x.journal e) refl long (rests-settled s x.journal e)
      (sym (counts-none ed st.objects)) (roomy-settled alone)

  pub mount_ends : After N s ed (apply_all s (mount_work N img x).steps img) (mount_work N img x).last st
  mount_ends =
      subst (λ (w : Work). After N s ed (apply_all s w.steps img) w.last st) (sym work_is)
      (subst (λ (i : List ℕ). After N s ed i (kept (upkeep s x)).last st)
      (sym (apply-append s (map erase ks) (kept (upkeep s x)).steps img)) (ends_kept (upkeep s x) refl))

  -- K14: "Demand 1's bound leaves a mount's erases aside": at most S steps without them, and of them at most N
  pub mount_short : length (programs (mount_work N img x).steps) ≤ s
  mount_short =
      omega (
        arith,
        (mount_steps N img ks (next_block N x.number) x).0,
        roomy-settled alone,
        claimed-settled ed (replay_of x.journal),
      )

  pub mount_erases : length (mount_work N img x).steps ≤ length (programs (mount_work N img x).steps) + N
  mount_erases =
      omega (arith, wipes_few N x.number img h, (mount_steps N img ks (next_block N x.number) x).1)
