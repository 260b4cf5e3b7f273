-- No place for any id.
use mathlib.Core.Path.{refl}
use Rattle.board.specs.Record.{no_places}
use Rattle.job.proofs.records.no_places.Goals as goal

pub returns : goal.returns
unfolding no_places
returns c = refl
