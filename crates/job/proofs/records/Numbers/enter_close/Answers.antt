-- Entering the stage that closes a torn frame.
use borrow.Author.Tests.{lt-ltb, le-ltb}
use Rattle.job.specs.Code.{go_close}
use Rattle.job.proofs.records.Numbers.enter_close.Goals as goal

pub returns-then-self-gt0 : goal.returns-then-self-gt0
unfolding go_close
returns-then-self-gt0 c = rw (lt-ltb _ _ c.if-self-gt0.true) c.enter.ensures

pub returns : goal.returns
unfolding go_close
returns c = rw (le-ltb _ _ c.if-self-gt0.false) c.enter_append.ensures
