-- An empty frame buffer.
use mathlib.Core.Path.{refl}
use Rattle.board.specs.Record.{no_frame}
use Rattle.job.proofs.records.no_frame.Goals as goal

pub returns : goal.returns
unfolding no_frame
returns c = refl
