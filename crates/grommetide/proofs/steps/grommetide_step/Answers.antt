-- A step: in the middle of a frame, or by the numbers.
use Rattle.edge.proofs.Driven.{middle}
use Rattle.grommetide.proofs.steps.grommetide_step.Goals as goal

pub returns-then-try_byte : goal.returns-then-try_byte
returns-then-try_byte c =
    let d = middle c.args.image.now c.args.board.now _ _ _ c.number.ensures (c.try_byte.ensures.made c.if-try_byte.true) in
    record { answered = (d.answer, d.image, d.board); back = d.back }
