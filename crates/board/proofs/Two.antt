-- Two blocks: what the definitions over N say of N = 2 is what was said of two halves.
use mathlib.Core.Path.{◌≡◌, refl, sym, ap, ap₂, ◌∙◌}
use mathlib.Core.List.{List, []}
use mathlib.Core.Option.{none}
use mathlib.Core.Bool.{Bool, true, false, ◌&&◌, cond}
use Prim.Native.Nat.{ℕ, zero, suc, ◌+◌, ◌/◌, ◌%◌, ◌≤◌, ◌<◌}
use native.Mathlib.Omega.{arith}
use lib.Dec.{eqb, ltb, leb}
use lib.ListN.{length}
use borrow.Author.Tests.{eqb-true, eq-eqb, leb-true, le-leb, ltb-true}
use Rattle.flash.specs.Bytes.{all_ff}
use Rattle.flash.specs.Flash.{numbers_from, block_numbers, size_of, block, Step, block_of, offset_of, apply}
use Rattle.flash.proofs.Cases.{on_test, clash, and_left, and_right, and_both}
use Rattle.flash.proofs.Sizes.{size-some}
use Rattle.frame.specs.Frame.{Frame, frame_len}
use Rattle.journal.specs.Block.{Journal, block_state}
use Rattle.wire.specs.declared.Refusal.TheVariants as refusal
use Rattle.board.specs.declared.Phase.{Phase}
use Rattle.board.specs.declared.Phase.TheVariants.{Unmounted, Idle, Busy}
use Rattle.board.specs.declared.Rest.{Rest}
use Rattle.board.specs.declared.Record.{Record}
use Rattle.board.specs.Record.{allowed, rest, Out, refuse}
use Rattle.board.specs.Step.{action, advance, stepped, step_in, step_busy, step_on}
use Rattle.board.specs.Mount.{next_block}
use Rattle.board.specs.Queue.{held, held_by_of, held_in_of, same_image, others_blank, counted}
use Rattle.board.specs.Plan.{Work, stayed_work, moved_work, frame_in, frame_work}
use Rattle.board.specs.Two.{allowed_two, size_two, state_two, beside, held_two, frame_two, step_two}
use Rattle.board.proofs.Images.{AllowedAs, allowed_tests, allowed-from}

-- ---- the image

allowed_then : (n : ℕ) → allowed_two n ≡ true → allowed 2 n ≡ true
allowed_then n t =
    let ab : (leb 512 n && leb n 65536) ≡ true = and_left (leb 512 n && leb n 65536) (eqb (n % 256) 0) t in
    let l : 512 ≤ n = leb-true 512 n (and_left (leb 512 n) (leb n 65536) ab) in
    let h : n ≤ 65536 = leb-true n 65536 (and_right (leb 512 n) (leb n 65536) ab) in
    let m : n % 256 ≡ 0 = eqb-true (n % 256) 0 (and_right (leb 512 n && leb n 65536) (eqb (n % 256) 0) t) in
    allowed-from 2 n (n / 2) (omega arith) (omega arith) h (omega arith) (omega arith) (omega arith)

then-allowed : (n : ℕ) → allowed 2 n ≡ true → allowed_two n ≡ true
then-allowed n t =
    let y : AllowedAs 2 n = allowed_tests 2 n t in
    and_both (leb 512 n && leb n 65536) (eqb (n % 256) 0)
    (and_both (leb 512 n) (leb n 65536) (le-leb 512 n (omega (arith, y.all, y.low))) (le-leb n 65536 y.short))
    (eq-eqb (n % 256) 0 (omega (arith, y.all, y.multiple)))

pub two-lengths : (n : ℕ) → allowed 2 n ≡ allowed_two n
two-lengths n =
    on_test (allowed_two n) (λ t. allowed_then n t ∙ sym t)
    (λ t. on_test (allowed 2 n) (λ a. absurd (clash (allowed_two n) (then-allowed n a) t)) (λ a. a ∙ sym t))

pub two-sizes : (img : List ℕ) → size_of 2 img ≡ size_two img
two-sizes img = sym (size-some 2 (length img) (λ e. omega arith))

-- ---- the block beside

pub next-beside : (k : ℕ) → k < 2 → next_block 2 k ≡ beside k
next-beside zero h = refl
next-beside (suc zero) h = refl
next-beside (suc (suc k)) h = absurd (omega arith)

-- ---- refusal 11

and_true : (b : Bool) → (b && true) ≡ b
and_true true = refl
and_true false = refl

-- each block but k is blank: the one beside it
others-beside : (k : ℕ) (img : List ℕ) → (ltb k 2 && others_blank 2 k img (block_numbers 2)) ≡ (ltb k 2 && all_ff (block (size_of 2 img) (beside k) img))
unfolding numbers_from
others-beside zero img = and_true (all_ff (block (size_of 2 img) 1 img))
others-beside (suc zero) img = and_true (all_ff (block (size_of 2 img) 0 img))
others-beside (suc (suc k)) img =
    on_test (ltb (suc (suc k)) 2) (λ t. let h : suc (suc k) < 2 = ltb-true (suc (suc k)) 2 t in absurd (omega arith)) (λ t. rw t)

same-two : (img : List ℕ) (r : Record) → r.rest.blocks ≡ 2
    → same_image 2 img r ≡ (eqb (length img) (suc r.rest.last) && (ltb r.rest.block 2 && all_ff (block (size_two img) (beside r.rest.block) img)))
same-two img r e =
    let long : Bool = eqb (length img) (suc r.rest.last) in
    ap₂ (λ (a b : Bool). (long && a) && b) (eq-eqb 2 r.rest.blocks (sym e)) (others-beside r.rest.block img)
    ∙ ap₂ (λ (a : Bool) (n : ℕ). a && (ltb r.rest.block 2 && all_ff (block n (beside r.rest.block) img))) (and_true long) (two-sizes img)

pub two-fresh : (img : List ℕ) (r : Record) → r.rest.blocks ≡ 2 → held 2 img r ≡ held_two img r
unfolding held
two-fresh img r e =
    ap (λ (b : Bool). held_by_of 2 b img r) (same-two img r e)
    ∙ by (eqb (length img) (suc r.rest.last) && (ltb r.rest.block 2 && all_ff (block (size_two img) (beside r.rest.block) img)))
  where
    by : (b : Bool) → held_by_of 2 b img r ≡ cond b (held_in_of (size_two img) r (state_two img r.rest.block)) none
    by true = ap (λ (n : ℕ). held_in_of n r (block_state (block n r.rest.block img))) (two-sizes img)
    by false = refl

-- ---- a frame appended

-- the same but for the block that a transfer goes to
frame-beside : (img : List ℕ) (r : Record) (x : Journal) (f : Frame) → r.rest.block < 2
    → frame_work 2 img r x f ≡ frame_in (size_two img) (beside r.rest.block) (counted r.rest x f) x f
frame-beside img r x f h = ap₂ (λ (n k : ℕ). frame_in n k (counted r.rest x f) x f) (two-sizes img) (next-beside r.rest.block h)

pub two-frame : (img : List ℕ) (r : Record) (x : Journal) (f : Frame) → r.rest.block < 2 → (frame_work 2 img r x f).steps ≡ (frame_two img r x f).steps
two-frame img r x f h = ap (λ (w : Work). w.steps) (frame-beside img r x f h) ∙ by (ltb (size_two img) (r.rest.end + frame_len x.edition f))
  where
    z : Rest
    z = counted (rest 2 r.rest.last r.rest.block r.rest.end r.rest.edition) x f

    by : (b : Bool) → (cond b (moved_work (beside r.rest.block) (counted r.rest x f) x f) (stayed_work (counted r.rest x f) x f)).steps
        ≡ (cond b (moved_work (beside r.rest.block) z x f) (stayed_work z x f)).steps
    by true = refl
    by false = refl

pub two-framed : (img : List ℕ) (r : Record) (x : Journal) (f : Frame) → r.rest.blocks ≡ 2 → r.rest.block < 2
    → (frame_work 2 img r x f).last ≡ (frame_two img r x f).last
two-framed img r x f e h =
    ap (λ (w : Work). w.last) (frame-beside img r x f h)
    ∙ ap (λ (n : ℕ). (frame_in (size_two img) (beside r.rest.block)
    (counted (rest n r.rest.last r.rest.block r.rest.end r.rest.edition) x f) x f).last) e

-- ---- a step

pub two-step : (img : List ℕ) (r : Record) → r.rest.blocks ≡ 2 → step_on 2 img r ≡ step_two r.phase img r
unfolding step_on step_busy
two-step img r e = go r.phase
  where
    go : (p : Phase) → step_in 2 p img r ≡ step_two p img r
    go Unmounted = refl
    go Idle = refl
    go (Busy s) =
        let x : Step = action s r in
        let long : Bool = eqb (length img) (suc r.rest.last) in
        let goes : Bool → ℕ → Out = λ b n. cond b (stepped (apply n x img) (advance 2 s (apply n x img) r)) (refuse refusal.Stale img r []) in
        ap₂ (λ (a : Bool) (n : ℕ). goes ((long && a) && (ltb (block_of x) 2 && ltb (offset_of x) n)) n) (eq-eqb 2 r.rest.blocks (sym e)) (two-sizes img)
        ∙ ap (λ (a : Bool). goes (a && (ltb (block_of x) 2 && ltb (offset_of x) (size_two img))) (size_two img)) (and_true long)
