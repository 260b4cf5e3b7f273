-- The block's states in their order.
use mathlib.Core.Path.{refl, sym, ap, ◌∙◌}
use Prim.Native.Nat.{ℕ}
use lib.Dec.{eqb}
use borrow.Author.Rules.{rules}
use borrow.Author.Tests.{eq-eqb}
use Rattle.survey.specs.Survey.{state_of}
use Rattle.journal.specs.Block.{block_state}
use Rattle.survey.proofs.Surveying.{is_blank, is_progress, judged_foreign}
use Rattle.survey.proofs.block.judge.Goals as goal

pub returns-then-is_blank : goal.returns-then-is_blank
returns-then-is_blank c =
    is_blank c.args.block.now (c.if-block-lt-HEADER_LEN.false, c.if-block-gt-BLOCK_MAX.false) (sym c.is_blank.ensures ∙ c.if-is_blank.true) _ _
    c.empty.ensures (search rules)

pub returns-then-byte_at-eq-IN_TRANSFER : goal.returns-then-byte_at-eq-IN_TRANSFER
returns-then-byte_at-eq-IN_TRANSFER c =
    is_progress c.args.block.now (c.if-block-lt-HEADER_LEN.false, c.if-block-gt-BLOCK_MAX.false) (sym c.is_blank.ensures ∙ c.if-is_blank.false)
    (ap (λ (x : ℕ). eqb x 254) (sym c.byte_at.ensures) ∙ eq-eqb _ _ c.if-byte_at-eq-IN_TRANSFER.true) _ _
    c.empty-then-byte_at-eq-IN_TRANSFER.ensures (search rules)

pub returns-then-block-lt-HEADER_LEN : goal.returns-then-block-lt-HEADER_LEN
unfolding state_of
returns-then-block-lt-HEADER_LEN c = judged_foreign _ _ _ _ refl (search rules) (search rules)

pub returns-in_err-header_fault : goal.returns-in_err-header_fault
unfolding state_of block_state
returns-in_err-header_fault c = judged_foreign _ c.in_err-header_fault.field-0.0 _ _ (search rules) (search rules) (search rules)
