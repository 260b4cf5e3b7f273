-- A step call.
use Rattle.job.proofs.steps.step.Goals as goal

pub returns : goal.returns
returns c =
    let s = rw c.numbers_of.ensures at c.step_core-s.ensures in rw c.give_back.ensures
    (s.image, s.answers, s.gives)
