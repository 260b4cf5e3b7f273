-- The next frame, read by the places in the buffer.
use mathlib.Core.Path.{refl}
use Rattle.edge.proofs.Driven.{frame-loaded}
use Rattle.edge.proofs.steps.load.Goals as goal

pub returns : goal.returns
returns c =
    frame-loaded c.args.blocks c.args.image.now c.args.n _ c.args.board.now _ _ _ _ _ c.enter_copy-s.result
    (rw (c.committer-committer.ensures, c.append_byte-kind.ensures, c.append_byte.ensures) refl) c.places-places.ensures c.unit-unit.ensures c.enter_copy-s.ensures c.write_loaded.ensures
