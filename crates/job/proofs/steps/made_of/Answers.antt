-- The record moved on by a step that the caller made.
use mathlib.Core.Path.{refl}
use Rattle.board.specs.declared.Phase.{Phase}
use Rattle.board.specs.Drive.{made_in_of, made_on}
use Rattle.job.specs.Code.{assemble}
use Rattle.job.proofs.Advancing.{in_phase, stays_in}
use Rattle.job.proofs.steps.made_of.Goals as goal

pub returns-in-Unmounted : goal.returns-in-Unmounted
unfolding made_on
returns-in-Unmounted c =
    λ img p u f e. rw c.rests.ensures (stays_in (λ (x : Phase). made_in_of c.args.shape.blocks x img (assemble c.args.n p u f)) _ _ _
    c.in-Unmounted.is (refl, refl))

pub returns-in-Busy : goal.returns-in-Busy
unfolding made_on
returns-in-Busy c =
    λ img p u f e. in_phase (λ (x : Phase). made_in_of c.args.shape.blocks x img (assemble c.args.n p u f)) _ _ c.in-Busy.is _ _ _ _
    (c.made_busy.ensures img p u f e)
