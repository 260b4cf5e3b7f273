-- A mount: the record it gives back is written.
use borrow.Author.Tests.{ne_eqb}
use Rattle.board.specs.Mount.{mount_on}
use Rattle.edge.specs.Edge.{edge_mount}
use Rattle.edge.proofs.Begun.{replaced}
use Rattle.grommetide.proofs.grommetide_mount.Goals as goal

pub returns-then-board-ne-RECORD_SIZE : goal.returns-then-board-ne-RECORD_SIZE
unfolding edge_mount
returns-then-board-ne-RECORD_SIZE c = let t = ne_eqb _ _ c.if-board-ne-RECORD_SIZE.true in record { answered = (rw t, rw t); back = λ l. absurd (c.if-board-ne-RECORD_SIZE.true l) }

pub returns : goal.returns
unfolding edge_mount
returns c =
    let z = replaced _ _ _ _ _ _ c.mount_core-s.result (mount_on c.args.blocks c.args.image.now) c.if-board-ne-RECORD_SIZE.false c.mount_core-s.ensures
    (c.new_record.ensures.value, c.new_record.ensures.back) in
    record { answered = z.0; back = z.1 }
