-- A run call.
use Rattle.drive.proofs.runs.run.Goals as goal

pub returns : goal.returns
returns c =
    let s = rw c.numbers_of.ensures at c.run_core-ran.ensures in rw c.give_back.ensures
    (record { steps = s.steps; image = s.image; answers = s.answers; gives = s.gives })
