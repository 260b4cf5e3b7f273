-- The next pending frame: from where the loop stands it is the same as from the source on.
use Rattle.frame.proofs.Heads.{value-end}
use mathlib.Core.Path.{sym, ap, ◌∙◌}
use native.Mathlib.Omega.{arith}
use Rattle.fetch.proofs.HeadLaws.{no_other, skip_pending, fetch_pending}
use Rattle.fetch.specs.Fetch.{fetched_of}
use Rattle.fetch.proofs.FrameReads.{read-inside}
use Rattle.fetch.proofs.next_pending.Goals as goal

pub overflow_add-next : goal.overflow_add-next
overflow_add-next c =
    omega (
      arith,
      read-inside c.args.edition 0 c.loop-head.at c.args.part.now _
          (sym c.read_frame.ensures ∙ c.in-Whole.is),
      c.frame_len.ensures,
      c.requires,
    )

pub overflow_add-result : goal.overflow_add-result
overflow_add-result c =
    omega (
      arith,
      read-inside c.args.edition 0 c.loop-head.at c.args.part.now _
          (sym c.read_frame.ensures ∙ c.in-Whole.is),
      c.value_offset.ensures,
      value-end c.args.edition c.in-Whole.head,
      c.requires,
    )

pub overflow_cast-result : goal.overflow_cast-result
overflow_cast-result c =
    omega (
      arith,
      read-inside c.args.edition 0 c.loop-head.at c.args.part.now _
          (sym c.read_frame.ensures ∙ c.in-Whole.is),
      c.frame_len.ensures,
      c.requires,
    )

pub returns-then-is_pending : goal.returns-then-is_pending
unfolding fetched_of
returns-then-is_pending c =
    λ b places. rw (c.value_offset.ensures, c.frame_len.ensures)
    (fetch_pending c.args.edition c.args.since c.loop-head.at c.args.part.now _ (sym c.read_frame.ensures ∙ c.in-Whole.is)
    (sym c.is_pending.ensures ∙ c.if-is_pending.true) b places ∙ ap (fetched_of c.args.edition b places) c.loop-head.invariant)

pub loop-head-smaller : goal.loop-head-smaller
unfolding fetched_of
loop-head-smaller c =
    omega (
      arith,
      read-inside c.args.edition 0 c.loop-head.at c.args.part.now _ (sym c.read_frame.ensures ∙ c.in-Whole.is),
      c.frame_len.ensures,
    )

pub loop-head-preserved : goal.loop-head-preserved
unfolding fetched_of
loop-head-preserved c =
    rw c.frame_len.ensures (sym (skip_pending c.args.edition c.args.since c.loop-head.at c.args.part.now _
    (sym c.read_frame.ensures ∙ c.in-Whole.is) (sym c.is_pending.ensures ∙ c.if-is_pending.false)) ∙ c.loop-head.invariant)

pub returns : goal.returns
unfolding fetched_of
returns c =
    λ b places. ap (fetched_of c.args.edition b places) (sym (no_other c.args.edition c.args.since c.loop-head.at c.args.part.now
    (λ h e. c.in_default.not-Whole h (c.read_frame.ensures ∙ e))) ∙ c.loop-head.invariant)
