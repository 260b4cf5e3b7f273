-- The step is done on the image and the record that are lent.
use Rattle.inplace.proofs.step_in_place.Goals as goal

pub returns : goal.returns
returns c = c.step-out.ensures
