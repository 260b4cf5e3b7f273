-- A step call by a record's numbers, its arrays lent.
use Rattle.job.proofs.Advancing.{hands, load_steps}
use Rattle.job.proofs.steps.step_core.Goals as goal

pub returns : goal.returns
returns c =
    load_steps _ _ _ c.args.frame.now _ _ c.try_step-m.result (c.try_step-m.ensures _ c.args.unit.now c.args.frame.now (hands c.args.n _ c.args.unit.now c.args.frame.now c.in_hand-byte.ensures)) _ _ _ c.load_due.ensures
