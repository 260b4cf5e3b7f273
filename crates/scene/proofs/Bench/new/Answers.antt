-- `Bench::new` is a bench before any call.
use Rattle.scene.proofs.Bench.new.Goals as goal

pub returns : goal.returns
returns c = rw c.unmounted.ensures
