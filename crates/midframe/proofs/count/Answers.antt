-- The cursor counts a byte of the frame that is copied or appended.
use mathlib.Core.Path.{refl, ap, subst, ◌∙◌}
use mathlib.Core.List.{List}
use Prim.Native.Nat.{ℕ, ◌+◌}
use native.Mathlib.Omega.{arith}
use lib.ListN.{set}
use borrow.Author.Tests.{lt-ltb}
use borrow.Rule.Slice.PartMut.{put_mid}
use Rattle.midframe.specs.Code.{Ready}
use Rattle.midframe.proofs.Middle.{two_laid, counts_on, copied, appended}
use Rattle.midframe.proofs.count.Goals as goal

pub overflow_add-next : goal.overflow_add-next
overflow_add-next c =
    let b = c.args.board.now in
    omega (arith, counts_on b b (λ i. (c.slice_known-1.given i).fits) c.word_in-next.result (subst (Ready b) c.in-Copy.is c.requires) c.word_in-next.ensures)

pub returns-then-on : goal.returns-then-on
returns-then-on c =
    let b = c.args.board.now in
    let laid = ap (put_mid 572 2 b) (c.copy_from_slice.ensures.after ∙ c.to_le_bytes.ensures) ∙ two_laid b 572 _ _ (omega (arith, c.requires.size)) in
    rw (c.in-Copy.is, lt-ltb _ _ c.if-on.true)
    (copied b _ (λ i. (c.slice_known-1.given i).fits) _ _ _ _ _ (subst (Ready b) c.in-Copy.is c.requires) c.byte_at-off.ensures c.byte_at.ensures
    c.if-on.true c.word_in-next.ensures refl refl (ap (λ (l : List ℕ). set l 579 (c.byte_at-off.result + 1)) laid))

pub returns-then-on-2 : goal.returns-then-on-2
returns-then-on-2 c =
    let b = c.args.board.now in
    rw (c.in-Append.is, lt-ltb _ _ c.if-on-2.true)
    (appended b _ (λ i. (c.slice_known-1.given i).fits) _ _ (subst (Ready b) c.in-Append.is c.requires) c.byte_at-index.ensures
    c.byte_at-in-Append.ensures c.if-on-2.true refl)
