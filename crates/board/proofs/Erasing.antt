-- Blocks that a step leaves as they are, and what erases make of an image.
use mathlib.Core.Path.{◌≡◌, sym, ap, subst, ◌∙◌}
use mathlib.Core.List.{List, [], ◌∷◌, map}
use mathlib.Core.Logic.{◌⊎◌, inl, inr}
use mathlib.Core.Bool.{Bool, false, false≢true}
use Prim.Native.Nat.{ℕ, zero, suc, ◌<◌}
use native.Mathlib.Omega.{arith}
use lib.Dec.{eqb}
use lib.ListN.{length, replicate, length-replicate}
use borrow.Author.Tests.{eqb-true, eqb-false}
use Rattle.flash.specs.Flash.{erase, with_block, erase_block, apply_all, block}
use Rattle.flash.specs.Raised.{Raised}
use Rattle.flash.proofs.Cases.{on_test}
use Rattle.flash.proofs.Image.{length-erase, block-erase, other-erase}
use Rattle.flash.proofs.Raising.{block_with, other_with, raised-blank}
use Rattle.journal.specs.Replay.{Object}
use Rattle.journal.specs.Block.{Journal, valid, block_state}
use Rattle.journal.proofs.States.{Contents}
use Rattle.journal.proofs.Raising.{Harmless, harmless_raised, blank_harmless}
use Rattle.board.specs.Claim.{Track, tracked}
use Rattle.board.proofs.Blocks.{Blocks, Besides, besides_blocks, besides_kept}
use Rattle.board.proofs.Images.{Sized, sized-as, sized-block, length-all-steps}
use Rattle.board.proofs.Invariant.{Valid, Quiet, Others, Lessers, Safe, no_valid, some_valid, CutSafe, Guard, StepLands}
use Rattle.board.proofs.Prefixes.{Each}
use Rattle.board.proofs.Current.{Alone, block-long, blank-quiet}

-- ---- a block that stays

abbrev pub valid-kept : {t : Bool} {s : ℕ} {img : List ℕ} {k : ℕ} {os : List Object} (after : List ℕ) → block s k after ≡ block s k img
    → Valid t s img k os → Valid t s after k os
valid-kept after e v =
    record {
      journal = v.journal;
      contents = subst (λ (b : List ℕ). Contents b v.journal) (sym e) v.contents;
      room = v.room;
      same = v.same;
    }

pub quiet-kept : (b after : List ℕ) → after ≡ b → Quiet (block_state b) → Quiet (block_state after)
quiet-kept b after e q = subst (λ (x : List ℕ). Quiet (block_state x)) (sym e) q

-- ---- what a safe image holds

-- no block is valid, none is foreign
abbrev pub NoStore : ℕ → ℕ → List ℕ → Type 0
NoStore N s img = (j : ℕ) → j < N → Quiet (block_state (block s j img))

pub safe-more : {N : ℕ} {s : ℕ} {img : List ℕ} {os : List Object} (u : Track) → Safe N s img os (tracked false u.tight) → Safe N s img os u
safe-more u (no_valid e q) = absurd (false≢true e)
safe-more u (some_valid k h v q) = some_valid k h v q

pub same-valid : {w w' : Journal} → valid w ≡ valid w' → w ≡ w'
same-valid e = cc

pub same-time : {w w' : Journal} → valid w ≡ valid w' → w.time ≡ w'.time
same-time e = ap (λ (i : Journal). i.time) (same-valid e)

-- ---- one erase

module _ {N : ℕ} {s : ℕ} {img : List ℕ} (z : Sized N s img) (k : ℕ) (h : k < N) where
  pub sized_erase : Sized N s (erase_block s k img)
  sized_erase = sized-as (erase_block s k img) (length-erase s k img) z

  pub erased : block s k (erase_block s k img) ≡ replicate s 255
  erased = block-erase s k img (sized-block k z h)

  -- the block is quiet, and so is every other that was
  pub quiet_erase : (j : ℕ) → ((j ≡ k → ⊥) → Quiet (block_state (block s j img))) → Quiet (block_state (block s j (erase_block s k img)))
  quiet_erase j q =
      on_test (eqb j k)
      (λ t. let e : block s j (erase_block s k img) ≡ replicate s 255 = ap (λ (n : ℕ). block s n (erase_block s k img)) (eqb-true j k t) ∙ erased in
      blank-quiet s (block s j (erase_block s k img)) e)
      (λ t. quiet-kept (block s j img) (block s j (erase_block s k img)) (other-erase s j k img (eqb-false j k t)) (q (eqb-false j k t)))

-- ---- a block beside the current one gets other bytes

-- m is the current block, and k is not
module _ {N : ℕ} {s : ℕ} {img : List ℕ} {os : List Object} (u : Track) (z : Sized N s img) (m k : ℕ) (l : m < N) (h : k < N) (d : m ≡ k → ⊥)
    (v : Valid u.tight s img m os) (q : Lessers N s img v.journal.time m) (new : List ℕ) (long : length new ≡ s) (y : Harmless v.journal.time new)
    (b : block s k img ≡ replicate s 255 → new ≡ replicate s 255) where
  abbrev pub still : Valid u.tight s (with_block s k new img) m os
  still = valid-kept (with_block s k new img) (other_with s k new img (sized-block k z h) long m d) v

  -- what holds of the new bytes where it held of the old ones
  each_block : (P : List ℕ → Type 0) (j : ℕ) → (j ≡ k → P new) → P (block s j img) → P (block s j (with_block s k new img))
  each_block P j f p =
      on_test (eqb j k)
      (λ t. let e : j ≡ k = eqb-true j k t in
      subst P (sym (ap (λ (i : ℕ). block s i (with_block s k new img)) e ∙ block_with s k new img (sized-block k z h) long)) (f e))
      (λ t. subst P (sym (other_with s k new img (sized-block k z h) long j (eqb-false j k t))) p)

  pub still_lessers : Lessers N s (with_block s k new img) v.journal.time m
  still_lessers =
      record {
        older = λ j g n. each_block (Harmless v.journal.time) j (λ _. y) (q.older j g n);
        one = q.one;
        blanks = λ j g n o.
            each_block (λ (l : List ℕ). l ≡ replicate s 255) j (λ e. b (ap (λ (i : ℕ). block s i img) (sym e) ∙ q.blanks j g n o)) (q.blanks j g n o);
      }

  pub still_safe : Safe N s (with_block s k new img) os u
  still_safe = some_valid m l still still_lessers

module _ {N : ℕ} {s : ℕ} {img : List ℕ} {os : List Object} (u : Track) (z : Sized N s img) (m k : ℕ) (l : m < N) (h : k < N) (d : m ≡ k → ⊥)
    (v : Valid u.tight s img m os) (q : Lessers N s img v.journal.time m) where
  -- its erase is cut
  pub cut_safe : CutSafe N s os u (erase k) img
  cut_safe new r =
      still_safe u z m k l h d v q new (r.long ∙ block-long k z h) (harmless_raised v.journal.time (block s k img) new r (q.older k h (λ e. d (sym e))))
      (λ e. raised-blank s new (subst (λ (l : List ℕ). Raised l new) e r))

  ones : List ℕ
  ones = replicate (length (block s k img)) 255

  ones_long : length ones ≡ s
  unfolding ones
  ones_long = length-replicate (length (block s k img)) 255 ∙ block-long k z h

  ones_blank : ones ≡ replicate s 255
  unfolding ones
  ones_blank = ap (λ (n : ℕ). replicate n 255) (block-long k z h)

  ones_harmless : Harmless v.journal.time ones
  ones_harmless = blank_harmless s v.journal.time ones (omega (arith, z.low)) ones_blank

  -- it is erased
  pub erase_lessers : Lessers N s (erase_block s k img) v.journal.time m
  unfolding ones
  erase_lessers = still_lessers u z m k l h d v q ones ones_long ones_harmless (λ _. ones_blank)

-- ---- erases of a list of blocks

abbrev pub In : ℕ → List ℕ → Type 0
In j [] = ⊥
In j (k ∷ ks) = (j ≡ k) ⊎ In j ks

pub erases-blank : {N : ℕ} {s : ℕ} (j : ℕ) (ks : List ℕ) (img : List ℕ) → Sized N s img → Blocks N ks → (block s j img ≡ replicate s 255) ⊎ In j ks
    → block s j (apply_all s (map erase ks) img) ≡ replicate s 255
unfolding apply_all
erases-blank j [] img z b (inl e) = e
erases-blank j [] img z b (inr i) = absurd i
erases-blank {N} {s} j (k ∷ ks) img z (h, b) c = erases-blank j ks (erase_block s k img) (sized_erase z k h) b (go c)
  where
    go : (block s j img ≡ replicate s 255) ⊎ ((j ≡ k) ⊎ In j ks) → (block s j (erase_block s k img) ≡ replicate s 255) ⊎ In j ks
    go (inl e) =
        on_test (eqb j k)
        (λ t. inl (ap (λ (m : ℕ). block s m (erase_block s k img)) (eqb-true j k t) ∙ erased z k h))
        (λ t. inl (other-erase s j k img (eqb-false j k t) ∙ e))
    go (inr (inl e)) = inl (ap (λ (m : ℕ). block s m (erase_block s k img)) e ∙ erased z k h)
    go (inr (inr i)) = inr i

pub erases-land : (s : ℕ) (ks : List ℕ) (img : List ℕ) → Each s (StepLands s) (map erase ks) img
unfolding apply_all
erases-land s [] img j h = absurd (omega arith)
erases-land s (k ∷ ks) img zero h = tt
erases-land s (k ∷ ks) img (suc j) h = erases-land s ks (erase_block s k img) j (omega arith)

-- others than the current one: cut or not, each keeps what a mount finds
pub erases_guard : {N : ℕ} {s : ℕ} {os : List Object} (u : Track) (n : ℕ) (ks : List ℕ) (img : List ℕ) → Sized N s img → n < N → Besides N n ks
    → (v : Valid u.tight s img n os) → Lessers N s img v.journal.time n → Each s (Guard N s os u) (map erase ks) img
unfolding apply_all
erases_guard u n [] img z l b v q j h = absurd (omega arith)
erases_guard u n (k ∷ ks) img z l (g, d, b) v q zero h = (some_valid n l v q, cut_safe u z n k l g d v q)
erases_guard {N} {s} u n (k ∷ ks) img z l (g, d, b) v q (suc j) h =
    erases_guard u n ks (erase_block s k img) (sized_erase z k g) l b (valid-kept (erase_block s k img) (other-erase s n k img d) v)
    (erase_lessers u z n k l g d v q) j (omega arith)

-- the valid block is then alone
pub erases-alone : {N : ℕ} {s : ℕ} {n : ℕ} {w : Journal} (ks : List ℕ) (img : List ℕ) → Sized N s img → n < N
    → Contents (block s n img) w → Besides N n ks
    → Others N (λ j. (block s j img ≡ replicate s 255) ⊎ In j ks) n → Alone N s (apply_all s (map erase ks) img) n w
erases-alone {N} {s} {n} {w} ks img z l x b o =
    record {
      sized = sized-as (apply_all s (map erase ks) img) (length-all-steps s (map erase ks) img) z;
      there = l;
      contents = subst (λ (y : List ℕ). Contents y w) (sym (besides_kept N s n ks img b)) x;
      others = λ j h d. erases-blank j ks img z (besides_blocks N n ks b) (o j h d);
    }
