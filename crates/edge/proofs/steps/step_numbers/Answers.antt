-- A step: on the record that the buffer holds.
use mathlib.Core.Path.{refl}
use borrow.Author.Tests.{eq-eqb, ne_eqb}
use Rattle.board.specs.Step.{step_on}
use Rattle.job.proofs.Advancing.{hands}
use Rattle.lent.specs.Layout.{record_in}
use Rattle.edge.specs.Edge.{edge_step}
use Rattle.edge.proofs.Kept.{step_keeps}
use Rattle.edge.proofs.Driven.{driven}
use Rattle.edge.proofs.steps.step_numbers.Goals as goal

pub returns-then-board-ne-RECORD_SIZE : goal.returns-then-board-ne-RECORD_SIZE
unfolding edge_step
returns-then-board-ne-RECORD_SIZE c =
    let t = ne_eqb _ _ c.if-board-ne-RECORD_SIZE.true in
    record { answer = rw t refl; image = rw t refl; board = rw t refl; back = λ l. absurd (c.if-board-ne-RECORD_SIZE.true l) }

pub returns : goal.returns
unfolding edge_step
returns c =
    let r = record_in c.args.board.now in
    let h = hands c.numbers-n.result _ r.unit r.frame c.in_hand.ensures in
    let s = rw c.numbers-n.ensures at (c.try_step-m.ensures r.places r.unit r.frame h) in
    let w = rw c.numbers-n.ensures at c.go_on.ensures in
    let z = driven _ c.args.board.now _ _ c.try_step-m.result (step_on c.args.blocks c.args.image.now r) c.if-board-ne-RECORD_SIZE.false s (step_keeps _ _ _) w in
    let t = eq-eqb _ _ c.if-board-ne-RECORD_SIZE.false in
    record { answer = rw t z.0.0; image = rw t s.image; board = rw t z.0.1; back = λ _. z.1 }
