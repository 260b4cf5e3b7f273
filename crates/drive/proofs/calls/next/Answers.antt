-- A next call.
use Rattle.job.proofs.Advancing.{hands}
use Rattle.drive.proofs.calls.next.Goals as goal

pub returns : goal.returns
returns c =
    let s = c.next_of.ensures c.args.board.places c.args.board.unit c.args.board.frame (hands c.numbers_of-n.result _ c.args.board.unit c.args.board.frame c.in_hand-byte.ensures) in rw c.numbers_of-n.ensures at s
