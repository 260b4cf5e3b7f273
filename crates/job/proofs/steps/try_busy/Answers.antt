-- A step call in a job.
use mathlib.Core.Path.{sym, ◌∙◌}
use native.Mathlib.Omega.{arith}
use lib.ListN.{length}
use Rattle.job.specs.Code.{flash_step}
use Rattle.job.proofs.Acting.{same_parts}
use Rattle.job.proofs.Advancing.{offset_low, by_hand, other_shape, other_place, step_done}
use Rattle.job.proofs.steps.try_busy.Goals.{else-same_shape-via-then-same_shape+else-act, else-same_shape-via-else-same_shape}
use Rattle.job.proofs.steps.try_busy.Goals as goal

pub advance-requires : goal.advance-requires
advance-requires c =
    let s = same_parts c.args.blocks (length c.args.image.now) c.args.n.rest (rw c.of-shape.ensures at (sym c.same_shape.ensures ∙ c.if-same_shape.true)) in
    offset_low c.args.stage c.args.blocks (length c.args.image.now) c.args.n c.args.byte
    (rw c.next_action-next.ensures at (sym c.act.ensures.0 ∙ c.if-act.true)) (omega (arith, s.0, c.well_formed))

pub returns-then-act : goal.returns-then-act
returns-then-act c =
    λ p u f e. step_done c.args.blocks p u f c.args.stage c.args.image.now c.args.n (flash_step c.next_action-next.result)
    (c.next_action-next.ensures ∙ by_hand c.args.stage c.args.n c.args.byte p u f e) (rw c.of-shape.ensures at (sym c.same_shape.ensures ∙ c.if-same_shape.true))
    (sym c.act.ensures.0 ∙ c.if-act.true) _ c.act.ensures.1 c.advance.result (c.advance.ensures c.args.blocks _ p u f)

pub returns : goal.returns
returns c =
    λ p u f e. rw c.stale.ensures (elim c.else-same_shape.branch [
      | else-same_shape-via-then-same_shape+else-act w ↦ rw w.image-is
          (other_place c.args.blocks p u f c.args.stage c.args.image.now c.args.n (flash_step c.next_action-next.result)
          (c.next_action-next.ensures ∙ by_hand c.args.stage c.args.n c.args.byte p u f e)
          (sym w.act.ensures.0 ∙ w.if-act.false) _ w.act.ensures.1)
      | else-same_shape-via-else-same_shape w ↦ rw w.image-is
          (other_shape c.args.blocks p u f c.args.stage c.args.image.now c.args.n (rw c.of-shape.ensures at (sym c.same_shape.ensures ∙ w.if-same_shape.false)))
    ])
