-- Two blocks: a mount takes the half that it took before and erases the other, a format erases the two in the same order; and the whole comparison.
use mathlib.Core.Path.{◌≡◌, refl, sym, ap, subst, subst₂, ◌∙◌}
use mathlib.Core.List.{List, [], ◌∷◌}
use mathlib.Core.Bool.{true, false, ◌&&◌, cond}
use Prim.Native.Nat.{ℕ, zero, suc, ◌-◌, ◌<◌}
use native.Mathlib.Omega.{arith}
use lib.Dec.{eqb, ltb}
use lib.ListN.{length}
use borrow.Author.Tests.{eq-eqb, ne_eqb, lt-ltb, le-ltb}
use Rattle.flash.specs.Bytes.{Bytes}
use Rattle.flash.specs.Flash.{numbers_from, block, size_of}
use Rattle.flash.proofs.Cases.{on_test, on-order, and_both}
use Rattle.flash.proofs.Image.{bytes-block}
use Rattle.journal.specs.Block.{Journal, BlockState, blank, in_progress, valid, foreign, block_state, last_time}
use Rattle.journal.proofs.States.{Contents, valid_inv}
use Rattle.wire.specs.declared.Refusal.{Refusal}
use Rattle.wire.specs.declared.Refusal.TheVariants as refusal
use Rattle.board.specs.Record.{allowed, unmounted, Out, refuse}
use Rattle.board.specs.Mount.{next_block, Found, all_found, is_blank, Store, stores, wipe_list, moves, upkeep_of, transfers, mount_at, mount_stores, mount_on}
use Rattle.board.specs.Mount.{order_for, format_order, format_on}
use Rattle.board.specs.Exec.{exec}
use Rattle.board.specs.Plan.{Work, Performs, format_in, format_work, mount_in, convert_in}
use Rattle.board.specs.Two.{size_two, Choice, takes, refuses, allowed_two, state_two, beside, choose_two, mount_two, last_two, format_two, TwoBlocks}
use Rattle.board.proofs.Images.{Sized, sized_of}
use Rattle.board.proofs.Blocks.{Besides, wiped_besides}
use Rattle.board.proofs.Found.{found_all, store}
use Rattle.board.proofs.Current.{block-long}
use Rattle.board.proofs.Replies.{standing-of}
use Rattle.board.proofs.Outcomes.{mount-stores, mount_worn, mount-begins, format-begins}
use Rattle.board.proofs.Mounting.{closing, closed_fits}
use Rattle.board.proofs.Accepted.{follows-format, follows_mount}
use Rattle.board.proofs.Two.{two-lengths, two-sizes, two-fresh, two-frame, two-framed, two-step, next-beside}

-- ---- what the two states decide

abbrev both : BlockState → BlockState → List Found
both a b = record { number = 0; state = a } ∷ record { number = 1; state = b } ∷ []

all_two : (img : List ℕ) → all_found 2 img ≡ both (state_two img 0) (state_two img 1)
unfolding numbers_from
all_two img = found_all 2 img (two-sizes img)

-- a mount of blocks with the states f does what was chosen
abbrev Chooses : List ℕ → (ℕ → BlockState) → List Found → Choice → Type 0
Chooses img f xs (takes k w) =
    (k < 2) × (f k ≡ valid w) × (mount_stores 2 img xs (stores xs) ≡ mount_at 2 img xs (store k w))
Chooses img f xs (refuses n) = mount_stores 2 img xs (stores xs) ≡ refuse n img unmounted []

-- a format erases this block last
abbrev Erases : List Found → ℕ → Type 0
Erases xs k = order_for 2 (stores xs) ≡ beside k ∷ k ∷ []

-- one valid block
erases-low : (w : Journal) → order_for 2 (store 0 w ∷ []) ≡ 1 ∷ 0 ∷ []
unfolding numbers_from
erases-low w = rw (eq-eqb w.time w.time refl)

erases-high : (w : Journal) → order_for 2 (store 1 w ∷ []) ≡ 0 ∷ 1 ∷ []
unfolding numbers_from
erases-high w = rw (eq-eqb w.time w.time refl)

erases-none : order_for 2 [] ≡ 0 ∷ 1 ∷ []
unfolding numbers_from
erases-none = refl

-- two
erases-later : (w v : Journal) → Erases (both (valid w) (valid v)) (last_two (valid w) (valid v))
unfolding numbers_from
erases-later w v =
    let t : ℕ = w.time in
    let u : ℕ = v.time in
    on-order t u (λ _ h. rw (lt-ltb t u h, ne_eqb u t (λ e. omega arith), eq-eqb u u refl, le-ltb u t (omega arith)))
    (λ _ h. rw (le-ltb t u (omega arith), eq-eqb t t refl, eq-eqb t u h, le-ltb u t (omega arith)))
    (λ _ h. rw (le-ltb t u (omega arith), eq-eqb t t refl, ne_eqb t u (λ e. omega arith), lt-ltb u t h))

module _ (img : List ℕ) (f : ℕ → BlockState) where
  chooses_later : (w v : Journal) → f 0 ≡ valid w → f 1 ≡ valid v
      → Chooses img f (both (valid w) (valid v)) (choose_two (valid w) (valid v))
  chooses_later w v p q =
      on_test (eqb w.time v.time) (λ e. rw e (rw e))
      (λ e. on_test (ltb w.time v.time) (λ l. rw (e, l) (omega arith, q, rw (e, l))) (λ l. rw (e, l) (omega arith, p, rw (e, l))))

  decides : (a b : BlockState) → f 0 ≡ a → f 1 ≡ b → Chooses img f (both a b) (choose_two a b) × Erases (both a b) (last_two a b)
  decides (valid w) (valid v) p q = (chooses_later w v p q, erases-later w v)
  decides (valid w) blank p q = ((omega arith, p, refl), erases-low w)
  decides (valid w) in_progress p q = ((omega arith, p, refl), erases-low w)
  decides (valid w) (foreign e) p q = ((omega arith, p, refl), erases-low w)
  decides blank (valid w) p q = ((omega arith, q, refl), erases-high w)
  decides in_progress (valid w) p q = ((omega arith, q, refl), erases-high w)
  decides (foreign e) (valid w) p q = ((omega arith, q, refl), erases-high w)
  decides blank blank p q = (refl, erases-none)
  decides blank in_progress p q = (refl, erases-none)
  decides blank (foreign e) p q = (refl, erases-none)
  decides in_progress blank p q = (refl, erases-none)
  decides in_progress in_progress p q = (refl, erases-none)
  decides in_progress (foreign e) p q = (refl, erases-none)
  decides (foreign e) blank p q = (refl, erases-none)
  decides (foreign e) in_progress p q = (refl, erases-none)
  decides (foreign e) (foreign w) p q = (refl, erases-none)

-- ---- a mount's steps

-- the block beside, if it isn't blank
wipes-beside : (k : ℕ) (f : ℕ → BlockState) → k < 2
    → wipe_list k (both (f 0) (f 1)) ≡ cond (is_blank (f (beside k))) [] (beside k ∷ [])
wipes-beside zero f h = on_test (is_blank (f 1)) (λ t. rw t) (λ t. rw t)
wipes-beside (suc zero) f h = on_test (is_blank (f 0)) (λ t. rw t) (λ t. rw t)
wipes-beside (suc (suc k)) f h = absurd (omega arith)

-- ---- a call

module _ (img : List ℕ) (t : allowed_two (length img) ≡ true) where
  ok : allowed 2 (length img) ≡ true
  ok = two-lengths (length img) ∙ t

  abbrev states : List Found
  states = both (state_two img 0) (state_two img 1)

  mount-two : mount_on 2 img ≡ mount_stores 2 img states (stores states)
  mount-two = mount-stores 2 img ok ∙ ap (λ (xs : List Found). mount_stores 2 img xs (stores xs)) (all_two img)

  chosen : {x : Choice} → choose_two (state_two img 0) (state_two img 1) ≡ x → Chooses img (state_two img) states x
  chosen e = subst (Chooses img (state_two img) states) e (decides img (state_two img) (state_two img 0) (state_two img 1) refl refl).0

  two_refused : (n : Refusal) → choose_two (state_two img 0) (state_two img 1) ≡ refuses n → mount_on 2 img ≡ refuse n img unmounted []
  two_refused n e = mount-two ∙ chosen e

  module _ (k : ℕ) (w : Journal) (e : choose_two (state_two img 0) (state_two img 1) ≡ takes k w) where
    two_takes : mount_on 2 img ≡ mount_at 2 img states (store k w)
    two_takes = mount-two ∙ (chosen e).2

    -- the block that is taken holds its frames
    two_journal : Bytes img → Contents (block (size_of 2 img) k img) w
    two_journal by =
        let s : ℕ = size_of 2 img in
        let z : Sized 2 s img = sized_of 2 img ok in
        let v : block_state (block s k img) ≡ valid w = ap (λ (n : ℕ). block_state (block n k img)) (two-sizes img) ∙ (chosen e).1 in
        valid_inv (block s k img) w (bytes-block s k img by) (omega (arith, block-long k z (chosen e).0, z.low)) v

    two_worn : w.time ≡ last_time → upkeep_of (size_two img) w ≡ moves → mount_on 2 img ≡ refuse refusal.Worn img unmounted []
    two_worn l n =
        two_takes
        ∙ mount_worn 2 img states (store k w) (and_both (transfers (upkeep_of (size_of 2 img) w)) (eqb w.time last_time)
        (ap (λ (s : ℕ). transfers (upkeep_of s w)) (two-sizes img) ∙ ap transfers n) (eq-eqb w.time last_time l))

    two_mounts : Bytes img → (transfers (upkeep_of (size_two img) w) && eqb w.time last_time) ≡ false
        → Performs 2 (exec 2) img (mount_on 2 img).board (mount_two img k w)
    two_mounts by n =
        let x : Store = store k w in
        let here : k < 2 = (chosen e).0 in
        let does : List ℕ → ℕ → Work = λ ks j. mount_in 2 img ks j x in
        let n' : (transfers (upkeep_of (size_of 2 img) w) && eqb w.time last_time) ≡ false =
        ap (λ (s : ℕ). transfers (upkeep_of s w) && eqb w.time last_time) (two-sizes img) ∙ n in
        subst₂ (λ (ks : List ℕ) (j : ℕ). Performs 2 (exec 2) img (mount_on 2 img).board (does ks j))
        (wipes-beside k (state_two img) here) (next-beside k here)
        (subst (λ (o : Out). Performs 2 (exec 2) img o.board (does (wipe_list k states) (next_block 2 k)))
        (sym (two_takes ∙ mount-begins 2 img states x n'))
        (follows_mount img x (wipe_list k states) ok here
        (subst (λ (xs : List Found). Besides 2 k (wipe_list k xs)) (all_two img) (wiped_besides 2 k img)) (standing-of (two_journal by))
        (closing x (sized_of 2 img ok) by here (two_journal by)) (closed_fits x (sized_of 2 img ok) by here (two_journal by))))

  order_two : format_order 2 img ≡ beside (last_two (state_two img 0) (state_two img 1)) ∷ last_two (state_two img 0) (state_two img 1) ∷ []
  unfolding format_order
  order_two =
      ap (λ (xs : List Found). order_for 2 (stores xs)) (all_two img) ∙ (decides img (state_two img) (state_two img 0) (state_two img 1) refl refl).1

  two_formats : Performs 2 (exec 2) img (format_on 2 img).board (format_two img)
  two_formats =
      let does : List ℕ → Work = format_in 2 (length img - 1) in
      subst (λ (ks : List ℕ). Performs 2 (exec 2) img (format_on 2 img).board (does ks)) order_two
      (subst (λ (o : Out). Performs 2 (exec 2) img o.board (format_work 2 img)) (sym (format-begins 2 img ok)) (follows-format 2 img ok))

-- ---- "N = 2 gives the same bytes and steps as before"

pub two_blocks : TwoBlocks
two_blocks =
    record {
      lengths = two-lengths;
      sizes = two-sizes;
      mount_refused = λ img n t e. two_refused img t n e;
      mount_worn = λ img k w t e l n. two_worn img t k w e l n;
      mount_steps = λ img k w by t e n. two_mounts img t k w e by n;
      format_steps = two_formats;
      fresh = two-fresh;
      frame_steps = two-frame;
      frame_record = two-framed;
      convert-work = λ img r x h. ap (λ (j : ℕ). convert_in j r.rest x) (next-beside r.rest.block h);
      steps = two-step;
    }
