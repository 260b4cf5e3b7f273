-- The length that a head tells, whatever stands there.
use mathlib.Core.Path.{ap, ◌∙◌}
use Rattle.frame.specs.Code.{value_len_of}
use Rattle.survey.proofs.block.Block.length_at.Goals as goal

pub returns : goal.returns
returns c = c.value_len.ensures ∙ ap value_len_of c.peek.ensures
