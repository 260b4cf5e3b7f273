-- A transfer: each of its bytes lands, every prefix keeps what a mount finds, and the next block is then the only one.
use mathlib.Core.Path.{◌≡◌, refl, sym, ap, subst, ◌∙◌}
use mathlib.Core.List.{List, [], ◌∷◌}
use Prim.Native.Nat.{ℕ, zero, suc, ◌+◌, ◌-◌, ◌≤◌, ◌<◌}
use native.Mathlib.Omega.{arith}
use lib.Dec.{eqb}
use lib.ListN.{length, get_or, take, replicate, length-replicate}
use borrow.Author.Tests.{eqb-true, eqb-false}
use Rattle.flash.specs.Flash.{erase, erase_block, apply_all, block, Write, write, write_all}
use Rattle.flash.proofs.Cases.{on_test}
use Rattle.flash.proofs.Image.{block-erase, other-erase, length-erase}
use Rattle.flash.proofs.Offsets.{Below}
use Rattle.frame.specs.declared.Edition.{Edition}
use Rattle.frame.specs.Frame.{Frame, total, AllMayStand, next_of, edition_number}
use Rattle.frame.specs.Reader.{clean}
use Rattle.frame.proofs.Scanning.{scan-blank}
use Rattle.journal.specs.Block.{Journal, header_len, last_time, block_state, build, journal}
use Rattle.journal.specs.Replay.{Object, State, is_open_of, frames_of, settled_only}
use Rattle.journal.specs.Room.{claimed, counts_in}
use Rattle.journal.proofs.Blocks.{layout-size}
use Rattle.journal.proofs.States.{Contents, contents-valid}
use Rattle.journal.proofs.Raising.{Harmless, blank_harmless, progress_harmless, valid_harmless}
use Rattle.journal.proofs.Building.{Lands, below-build, built, making, lands}
use Rattle.journal.proofs.Replaying.{replay_frames_of, stands-settled}
use Rattle.journal.proofs.Room.{frames-total, used-claimed, claimed-settled, claimed-replay}
use Rattle.journal.specs.Index.{places_of}
use Rattle.board.specs.declared.Rest.{Rest}
use Rattle.board.specs.Record.{landing, idle}
use Rattle.board.specs.Mount.{next_block, replay_of}
use Rattle.board.specs.Plan.{on_block, transfer_plan}
use Rattle.board.specs.Claim.{Track}
use Rattle.board.proofs.Numbers.{next-there, next-other}
use Rattle.board.proofs.Images.{Sized, sized-as, sized-block, apply-append, length-all-steps, block_writes, other-writes}
use Rattle.board.proofs.Invariant.{StepLands, Valid, Lesser, Lessers, Safe, some_valid, CutSafe, Guard}
use Rattle.board.proofs.Prefixes.{Each, each_append, each-one, each-writes, below-take}
use Rattle.board.proofs.Current.{Alone, After, Roomy, Keeps, block-long, alone-after, blank_lesser, valid-of}
use Rattle.board.proofs.Erasing.{cut_safe}

-- a state that a block of an edition may be made of, after one of the journal w
pub record Moves (s : ℕ) (ed : Edition) (w : Journal) (st : State) : Type 0 where
  pub young : w.time < last_time
  pub stands : AllMayStand ed 0 (frames_of st)
  pub short : claimed ed st ≤ s

-- what a mount leaves: the settled objects alone
pub roomy-settled : {N : ℕ} {s k : ℕ} {img : List ℕ} {w : Journal} → Alone N s img k w
    → Roomy s w.edition (settled_only (replay_of w))
unfolding is_open_of
roomy-settled {N} {k = k} {w = w} a =
    omega (
      arith,
      claimed-settled w.edition (replay_of w),
      used-claimed w.edition (replay_of w),
      claimed-replay w.edition w.frames,
      layout-size a.contents.layout,
      block-long k a.sized a.there,
    )

pub moves-settled : {N : ℕ} {s k : ℕ} {img : List ℕ} {w : Journal} → Alone N s img k w → w.time < last_time
    → Moves s w.edition w (settled_only (replay_of w))
moves-settled {N} {w = w} a y =
    record { young = y; stands = stands-settled w.edition w.frames a.contents.layout.stands; short = omega (arith, roomy-settled a) }

-- the writes of a transfer
abbrev copy_writes : Edition → Journal → State → List Write
copy_writes ed w st = build ed (suc w.time) (frames_of st)

-- the journal that it makes
abbrev pub next-journal : Edition → Journal → State → Journal
next-journal ed w st = journal ed (suc w.time) (frames_of st) clean

copied : (s : ℕ) (ed : Edition) (w : Journal) (st : State) → Moves s ed w st → Contents (write_all (replicate s 255) (copy_writes ed w st)) (next-journal ed w st)
copied s ed w st x =
    let fs : List Frame = frames_of st in
    let n : ℕ = s - (header_len + total ed fs) in
    record {
      rest = replicate n 255;
      layout = record {
        is = built ed s (suc w.time) fs (omega (arith, x.short, frames-total ed st)) x.stands;
        stands = x.stands;
        time_lo = omega arith;
        time_hi = x.young;
        size = refl;
      };
      reads = scan-blank ed (next_of 0 fs) (header_len + total ed fs) n;
      okay = tt;
      clean_is = λ q. ap (λ (m : ℕ). replicate m 255) (sym (length-replicate n 255));
    }

module _ {N : ℕ} {s k : ℕ} {img : List ℕ} {w : Journal} (a : Alone N s img k w) (ed : Edition) (st : State) (x : Moves s ed w st) where
  -- the image after j bytes of the copy
  abbrev during : ℕ → List ℕ
  during j = apply_all s (on_block (next_block N k) (take j (copy_writes ed w st))) img

  abbrev copy : List ℕ
  copy = apply_all s (on_block (next_block N k) (copy_writes ed w st)) img

  fits : header_len + total ed (frames_of st) ≤ s
  fits = omega (arith, x.short, frames-total ed st)

  below : Below s (copy_writes ed w st)
  below = below-build ed s (suc w.time) (frames_of st) fits

  there : next_block N k < N
  there = next-there k a.there

  apart : next_block N k ≡ k → ⊥
  apart = next-other k a.sized.few a.there

  -- the block that is made, the one that it is made of, and the rest
  made_part : (ws : List Write) → Below s ws → block s (next_block N k) (apply_all s (on_block (next_block N k) ws) img) ≡ write_all (replicate s 255) ws
  made_part ws b = block_writes s (next_block N k) ws img b ∙ ap (λ (l : List ℕ). write_all l ws) (a.others (next_block N k) there apart)

  kept_part : (ws : List Write) → Below s ws → block s k (apply_all s (on_block (next_block N k) ws) img) ≡ block s k img
  kept_part ws b = other-writes s k (next_block N k) ws img (λ e. apart (sym e)) b

  blank_part : (ws : List Write) → Below s ws → (i : ℕ) → i < N → (i ≡ k → ⊥) → (i ≡ next_block N k → ⊥)
      → block s i (apply_all s (on_block (next_block N k) ws) img) ≡ replicate s 255
  blank_part ws b i l m n = other-writes s i (next_block N k) ws img n b ∙ a.others i l m

  sized_part : (ws : List Write) → Sized N s (apply_all s (on_block (next_block N k) ws) img)
  sized_part ws = sized-as (apply_all s (on_block (next_block N k) ws) img) (length-all-steps s (on_block (next_block N k) ws) img) a.sized

  -- beside one of the two, the other and the rest
  beside : (ws : List Write) → Below s ws → (u : ℕ) (m n : ℕ) → ((i : ℕ) → (i ≡ m → ⊥) → (i ≡ n → ⊥) → (i ≡ k → ⊥) × (i ≡ next_block N k → ⊥))
      → Lesser s (apply_all s (on_block (next_block N k) ws) img) u n → Lessers N s (apply_all s (on_block (next_block N k) ws) img) u m
  beside ws b u m n f o =
      let img' : List ℕ = apply_all s (on_block (next_block N k) ws) img in
      let rest : (i : ℕ) → i < N → (i ≡ m → ⊥) → (i ≡ n → ⊥) → block s i img' ≡ replicate s 255 =
      λ i l x y. let g = f i x y in blank_part ws b i l g.0 g.1 in
      record {
        older = λ i l x.
            on_test (eqb i n) (λ e. subst (Lesser s img' u) (sym (eqb-true i n e)) o)
            (λ e. blank_lesser (sized_part ws) u i (rest i l x (eqb-false i n e)));
        one = n;
        blanks = rest;
      }

  new : Contents (block s (next_block N k) copy) (next-journal ed w st)
  new = subst (λ (b : List ℕ). Contents b (next-journal ed w st)) (sym (made_part (copy_writes ed w st) below)) (copied s ed w st x)

  pub transfer_lands : Each s (StepLands s) (transfer_plan ed N k w st) img
  transfer_lands =
      each_append s (StepLands s) (on_block (next_block N k) (copy_writes ed w st)) (erase k ∷ []) img
      (each-writes s (next_block N k) (StepLands s) (copy_writes ed w st) (write 0 0) img go) (each-one s (StepLands s) (erase k) copy tt)
    where
      go : (j : ℕ) → j < length (copy_writes ed w st) → Lands (block s (next_block N k) (during j)) (get_or (copy_writes ed w st) j (write 0 0))
      go j h =
          subst (λ (b : List ℕ). Lands b (get_or (copy_writes ed w st) j (write 0 0)))
          (sym (made_part (take j (copy_writes ed w st)) (below-take s j (copy_writes ed w st) below)))
          (lands ed s (suc w.time) j (frames_of st) (write 0 0) fits x.stands h)

  pub transfer_guard : {os : List Object} (u : Track) → Keeps u.tight s w.edition (replay_of w) os → Keeps u.tight s ed st os
      → Each s (Guard N s os u) (transfer_plan ed N k w st) img
  unfolding write_all
  transfer_guard {os} u p q =
      each_append s (Guard N s os u) (on_block (next_block N k) (copy_writes ed w st)) (erase k ∷ []) img
      (each-writes s (next_block N k) (Guard N s os u) (copy_writes ed w st) (write 0 0) img (λ j h. (go j h, tt)))
      (each-one s (Guard N s os u) (erase k) copy (some_valid (next_block N k) there made old, cut))
    where
      -- while the copy is made, the old block is the current one
      part : ℕ → List ℕ
      part j = write_all (replicate s 255) (take j (copy_writes ed w st))

      half_made : (j : ℕ) → j < length (copy_writes ed w st) → Harmless w.time (part j)
      half_made zero h = blank_harmless s w.time (replicate s 255) (omega (arith, a.sized.low)) refl
      half_made (suc j) h = progress_harmless w.time (part (suc j)) (making ed s (suc w.time) (suc j) (frames_of st) fits (omega arith) h)

      go : (j : ℕ) → j < length (copy_writes ed w st) → Safe N s (during j) os u
      go j h =
          let b : Below s (take j (copy_writes ed w st)) = below-take s j (copy_writes ed w st) below in
          some_valid k a.there (valid-of (subst (λ (l : List ℕ). Contents l w) (sym (kept_part (take j (copy_writes ed w st)) b)) a.contents) p)
          (beside (take j (copy_writes ed w st)) b w.time k (next_block N k) (λ i x y. (x, y))
          (subst (Harmless w.time) (sym (made_part (take j (copy_writes ed w st)) b)) (half_made j h)))

      -- then the new one is
      made : Valid u.tight s copy (next_block N k) os
      made = valid-of new (subst (λ (z : State). Keeps u.tight s ed z os) (sym (replay_frames_of st)) q)

      old : Lessers N s copy (suc w.time) (next_block N k)
      old =
          beside (copy_writes ed w st) below (suc w.time) (next_block N k) k (λ i x y. (y, x))
          (valid_harmless (block s k copy) (ap block_state (kept_part (copy_writes ed w st) below) ∙ contents-valid a.contents) (omega arith))

      cut : CutSafe N s os u (erase k) copy
      cut = cut_safe u (sized_part (copy_writes ed w st)) (next_block N k) k there a.there apart made old

  pub transfer_alone : Alone N s (apply_all s (transfer_plan ed N k w st) img) (next_block N k) (next-journal ed w st)
  unfolding apply_all
  transfer_alone = subst (λ (i : List ℕ). Alone N s i (next_block N k) (next-journal ed w st)) (sym all_is) dropped
    where
      all_is : apply_all s (transfer_plan ed N k w st) img ≡ erase_block s k copy
      all_is = apply-append s (on_block (next_block N k) (copy_writes ed w st)) (erase k ∷ []) img

      sized : Sized N s copy
      sized = sized_part (copy_writes ed w st)

      -- the old one was erased, and the rest were blank before
      blank : (j : ℕ) → j < N → (j ≡ next_block N k → ⊥) → block s j (erase_block s k copy) ≡ replicate s 255
      blank j h n =
          on_test (eqb j k)
          (λ e. ap (λ (i : ℕ). block s i (erase_block s k copy)) (eqb-true j k e) ∙ block-erase s k copy (sized-block k sized a.there))
          (λ e. let d : j ≡ k → ⊥ = eqb-false j k e in other-erase s j k copy d ∙ blank_part (copy_writes ed w st) below j h d n)

      dropped : Alone N s (erase_block s k copy) (next_block N k) (next-journal ed w st)
      dropped =
          record {
            sized = sized-as (erase_block s k copy) (length-erase s k copy) sized;
            there = there;
            contents = subst (λ (b : List ℕ). Contents b (next-journal ed w st)) (sym (other-erase s (next_block N k) k copy apart)) new;
            others = blank;
          }

  pub transferred : (z : Rest) → z.blocks ≡ N → length img ≡ suc z.last → z.pending ≡ counts_in ed st → Roomy s ed st
      → After N s ed (apply_all s (transfer_plan ed N k w st) img) (idle (places_of ed (frames_of st)) (landing z (edition_number ed) (next_block N k) (claimed ed st))) st
  transferred z b e counts room =
      subst (λ (n : ℕ). After N s ed (apply_all s (transfer_plan ed N k w st) img) (idle (places_of ed (frames_of st)) (landing z (edition_number ed) (next_block N k) n)) st)
      (frames-total ed st) (alone-after z st transfer_alone refl b (length-all-steps s (transfer_plan ed N k w st) img ∙ e) (replay_frames_of st) counts room)
