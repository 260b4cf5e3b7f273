-- Entering the first stage.
use borrow.Author.Tests.{lt-ltb, le-ltb}
use Rattle.job.specs.Code.{go_wipe}
use Rattle.job.proofs.records.Numbers.enter_wipe.Goals as goal

pub returns-then-self-gt0 : goal.returns-then-self-gt0
unfolding go_wipe
returns-then-self-gt0 c = rw (lt-ltb _ _ c.if-self-gt0.true) c.enter.ensures

pub returns : goal.returns
unfolding go_wipe
returns c = rw (le-ltb _ _ c.if-self-gt0.false) c.enter_open.ensures
