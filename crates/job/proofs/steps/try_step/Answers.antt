-- A step call by a record's numbers.
use mathlib.Core.Path.{refl}
use Rattle.board.specs.declared.Phase.{Phase}
use Rattle.board.specs.Step.{step_on, step_in}
use Rattle.job.specs.Code.{assemble}
use Rattle.job.proofs.Advancing.{in_phase, stays_in, busy_hand}
use Rattle.job.proofs.steps.try_step.Goals as goal

pub returns-in-Unmounted : goal.returns-in-Unmounted
unfolding step_on
returns-in-Unmounted c =
    λ p u f e. rw c.rests.ensures (stays_in (λ (x : Phase). step_in c.args.blocks x c.args.image.now (assemble c.args.n p u f)) _ _ _
    c.in-Unmounted.is (refl, refl))

pub returns-in-Busy : goal.returns-in-Busy
unfolding step_on
returns-in-Busy c =
    λ p u f e. in_phase (λ (x : Phase). step_in c.args.blocks x c.args.image.now (assemble c.args.n p u f)) _ _ c.in-Busy.is _ _ _ _
    (c.try_busy.ensures p u f (busy_hand c.args.n c.args.n.phase _ c.args.byte u f c.in-Busy.is e))
