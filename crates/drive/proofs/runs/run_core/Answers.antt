-- A run call by a record's numbers, its arrays lent.
use Rattle.drive.proofs.Running.{run_rests}
use Rattle.drive.proofs.runs.run_core.Goals as goal

pub returns-in-Unmounted : goal.returns-in-Unmounted
returns-in-Unmounted c =
    rw c.staying.ensures (run_rests c.args.blocks c.args.most c.args.places.now c.args.unit.now c.args.frame.now c.args.image.now
    c.args.n c.in-Unmounted.is)
