-- A format: the record it gives back is written.
use borrow.Author.Tests.{ne_eqb}
use Rattle.board.specs.Mount.{format_on}
use Rattle.edge.specs.Edge.{edge_format}
use Rattle.edge.proofs.Begun.{replaced}
use Rattle.grommetide.proofs.grommetide_format.Goals as goal

pub returns-then-board-ne-RECORD_SIZE : goal.returns-then-board-ne-RECORD_SIZE
unfolding edge_format
returns-then-board-ne-RECORD_SIZE c = let t = ne_eqb _ _ c.if-board-ne-RECORD_SIZE.true in record { answered = (rw t, rw t); back = λ l. absurd (c.if-board-ne-RECORD_SIZE.true l) }

pub returns : goal.returns
unfolding edge_format
returns c =
    let z = replaced _ _ _ _ _ _ c.format_core.result (format_on c.args.blocks c.args.image.now) c.if-board-ne-RECORD_SIZE.false c.format_core.ensures (
      rw (c.no_places-places.ensures, c.no_frame-frame.ensures) at c.new_record.ensures.value,
      rw (c.no_places-places.ensures, c.no_frame-frame.ensures) at c.new_record.ensures.back,
    ) in
    record { answered = z.0; back = z.1 }
