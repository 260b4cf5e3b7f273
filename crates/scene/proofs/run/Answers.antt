-- `scene::run` does a job's steps, at most so many.
use native.Mathlib.Omega.{arith}
use Rattle.scene.proofs.Stepping.{one_more, no_more, all_done}
use Rattle.scene.proofs.run.Goals as goal

pub loop-steps-preserved : goal.loop-steps-preserved
loop-steps-preserved c =
    one_more _ _ _ _ _ _ _ c.step-now.result _ c.loop-steps-test.true c.in-More.is c.step-now.ensures c.loop-steps.invariant

pub returns-in_default : goal.returns-in_default
returns-in_default c = no_more _ _ _ _ _ _ _ c.in_default.not-More c.loop-steps.invariant

pub returns : goal.returns
returns c = all_done _ _ _ _ _ _ _ (omega arith) c.loop-steps.invariant
