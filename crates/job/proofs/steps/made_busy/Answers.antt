-- The record moved on in a job.
use native.Mathlib.Omega.{arith}
use Rattle.job.specs.Code.{action_by}
use Rattle.job.proofs.Acting.{takes-parts}
use Rattle.job.proofs.Advancing.{offset_low, made_done, made_stale}
use Rattle.job.proofs.steps.made_busy.Goals as goal

pub advance-requires : goal.advance-requires
advance-requires c =
    let t = takes-parts c.args.shape.blocks c.args.shape.len c.args.n.rest (action_by c.args.stage c.args.n 0)
    (rw c.next_action-next.ensures at c.in-Some.ensures.0) in
    offset_low c.args.stage c.args.shape.blocks c.args.shape.len c.args.n 0 t.1 (omega (arith, t.0, c.well_formed))

pub returns-in-Some : goal.returns-in-Some
returns-in-Some c =
    λ img p u f e. made_done c.args.shape.blocks img p u f c.args.stage c.args.n c.args.shape.len 0 e
    (rw c.next_action-next.ensures at c.in-Some.ensures.0)
    c.advance.result (c.advance.ensures c.args.shape.blocks img p u f)

pub returns-in-None : goal.returns-in-None
returns-in-None c =
    λ img p u f e. rw c.stale.ensures (made_stale c.args.shape.blocks img p u f c.args.stage c.args.n c.args.shape.len 0 e
    (rw c.next_action-next.ensures at c.in-None.ensures))
