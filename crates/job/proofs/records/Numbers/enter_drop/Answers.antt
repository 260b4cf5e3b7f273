-- Entering the stage that erases the old block.
use mathlib.Core.Path.{◌∙◌, ap}
use Rattle.job.proofs.Entering.{when_true, when_false}
use Rattle.job.specs.Code.{go_append, go_drop}
use Rattle.job.proofs.records.Numbers.enter_drop.Goals as goal

pub returns-then-self : goal.returns-then-self
unfolding go_drop
returns-then-self c = c.enter.ensures ∙ when_true _ _ _ c.if-self.true

pub returns : goal.returns
unfolding go_drop
returns c = c.enter_append.ensures ∙ ap go_append c.landed.ensures ∙ when_false _ _ _ c.if-self.false
