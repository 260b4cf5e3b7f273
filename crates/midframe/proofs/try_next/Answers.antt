-- The byte that is next, by its place.
use Rattle.midframe.proofs.Middle.{finds_if}
use Rattle.midframe.proofs.try_next.Goals as goal

pub returns : goal.returns
returns c = finds_if c.args.shape.blocks c.args.shape.len c.args.board.now c.in_ok-spot.field-0 c.placed.result (λ i. (c.type_inv.board i).fits)
    c.if-board-ne-RECORD_SIZE.false (c.stands.ensures c.if-not-stands.false) c.in_ok-spot.ensures c.placed.ensures
