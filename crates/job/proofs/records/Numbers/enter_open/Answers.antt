-- Entering the stage that opens a new block.
use mathlib.Core.Path.{◌∙◌}
use Rattle.job.proofs.Entering.{when_true, when_false}
use Rattle.job.specs.Code.{go_open}
use Rattle.job.proofs.records.Numbers.enter_open.Goals as goal

pub returns-then-self : goal.returns-then-self
unfolding go_open
returns-then-self c = c.enter.ensures ∙ when_true _ _ _ c.if-self.true

pub returns : goal.returns
unfolding go_open
returns c = c.enter_close.ensures ∙ when_false _ _ _ c.if-self.false
