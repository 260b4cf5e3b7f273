-- A run: on the record that the buffer holds.
use borrow.Author.Tests.{eq-eqb, ne_eqb}
use Rattle.edge.specs.Edge.{edge_run}
use Rattle.edge.proofs.Driving.{ran_none, ran_some}
use Rattle.grommetide.proofs.steps.grommetide_run.Goals as goal
use Rattle.grommetide.proofs.steps.grommetide_run.Goals.{then-ran-ne0, else-ran-ne0}

pub returns-then-board-ne-RECORD_SIZE : goal.returns-then-board-ne-RECORD_SIZE
unfolding edge_run
returns-then-board-ne-RECORD_SIZE c = let t = ne_eqb _ _ c.if-board-ne-RECORD_SIZE.true in record { board_after = rw t; back = λ l. absurd (c.if-board-ne-RECORD_SIZE.true l) }

pub returns : goal.returns
unfolding edge_run
returns c =
    let t = eq-eqb _ _ c.if-board-ne-RECORD_SIZE.false in
    let q = rw (c.numbers-n.ensures, c.read_places.ensures, c.unit-unit.ensures, c.append-frame.ensures) at c.run_core-ran.ensures in
    elim c.if-ran-ne0.branch [
      | then-ran-ne0 w ↦ let z = ran_some c.args.blocks c.args.image.now _ c.args.board.now _ _ _ _ c.args.most c.run_core-ran.result
          c.if-board-ne-RECORD_SIZE.false q c.number.ensures w.if-ran-ne0.true w.write_loaded.ensures in
          record { board_after = rw (t, w.board-is) z.0; back = λ _. rw w.board-is z.1 }
      | else-ran-ne0 w ↦ let z = ran_none c.args.blocks c.args.image.now _ c.args.board.now _ _ _ _ c.args.most c.run_core-ran.result
          c.if-board-ne-RECORD_SIZE.false q c.number.ensures w.if-ran-ne0.false w.board-is in
          record { board_after = rw t z.0; back = λ _. z.1 }
    ]
