-- What is next is counted and programmed.
use mathlib.Core.Path.{refl}
use Rattle.midframe.proofs.Middle.{nothing, done, step-on}
use Rattle.midframe.proofs.try_byte.Goals as goal

pub returns-then-counts : goal.returns-then-counts
returns-then-counts c =
    let f = rw c.of.ensures at c.in-Some.ensures in
    let m = step-on c.args.blocks c.args.board.now _ _ _ _ _ f.ready (c.count-counts.ensures c.args.blocks) c.args.image.now f.next c.if-counts.true in
    rw c.if-counts.true (done _ _ _ _ _ (rw c.program.ensures m))

pub returns-else-counts : goal.returns-else-counts
returns-else-counts c =
    rw c.if-counts.false (nothing _ _ _ _ _ refl ((c.count-counts.ensures c.args.blocks c.args.image.now).left c.if-counts.false).1)
