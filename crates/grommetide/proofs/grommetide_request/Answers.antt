-- A request: by where the record in the buffer stands.
use borrow.Author.Tests.{eq-eqb, ne_eqb}
use Rattle.board.specs.Queue.{asking, request_on}
use Rattle.lent.specs.Layout.{record_in}
use Rattle.edge.specs.Edge.{edge_request}
use Rattle.edge.proofs.Begun.{begun-is, done-rests}
use Rattle.grommetide.proofs.grommetide_request.Goals as goal

pub returns-then-board-ne-RECORD_SIZE : goal.returns-then-board-ne-RECORD_SIZE
unfolding edge_request
returns-then-board-ne-RECORD_SIZE c = let t = ne_eqb _ _ c.if-board-ne-RECORD_SIZE.true in record { answered = (rw t, rw t, rw t); back = λ l. absurd (c.if-board-ne-RECORD_SIZE.true l) }

pub returns : goal.returns
unfolding edge_request
returns c =
    let a = asking c.args.blocks c.args.image.now (record_in c.args.board.now) (record { 0 = c.args.host }) c.args.message.now c.args.reply.now in
    let q = rw (c.phase_of-phase.ensures, c.rest_of-rest.ensures, c.read_places.ensures) at (c.request_core-s.ensures (record_in c.args.board.now)) in
    let z = begun-is c.args.board.now _ _ _ _ c.request_core-s.result (request_on a) c.if-board-ne-RECORD_SIZE.false q.0 (done-rests a) (c.begun.ensures.value, c.begun.ensures.back) in
    record { answered = rw (eq-eqb _ _ c.if-board-ne-RECORD_SIZE.false) (z.0.0, z.0.1, q.1); back = λ _. z.1 }
