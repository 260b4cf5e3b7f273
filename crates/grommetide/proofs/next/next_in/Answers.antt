-- What is next, in the middle of a frame or by the numbers.
use mathlib.Core.Path.{sym}
use Rattle.job.proofs.Advancing.{hands}
use Rattle.lent.specs.Layout.{record_in}
use Rattle.grommetide.proofs.next.next_in.Goals as goal

pub returns-in-Some : goal.returns-in-Some
returns-in-Some c = sym c.in-Some.ensures.next

pub returns : goal.returns
returns c = let r = record_in c.args.board.now in
    let h = hands c.numbers-n.result _ r.unit r.frame c.in_hand.ensures in
    rw c.numbers-n.ensures at (c.next_of.ensures r.places r.unit r.frame h)
