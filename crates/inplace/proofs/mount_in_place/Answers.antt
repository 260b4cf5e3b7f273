-- The record that the mount gives back is stored, whatever it answers.
use Rattle.inplace.proofs.mount_in_place.Goals as goal

pub returns : goal.returns
returns c = c.mount-out.ensures
