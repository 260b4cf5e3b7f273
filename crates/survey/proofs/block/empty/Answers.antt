-- A survey of no frames.
use mathlib.Core.Path.{refl}
use Rattle.survey.specs.Pass.{empty_survey}
use Rattle.survey.proofs.block.empty.Goals as goal

pub returns : goal.returns
unfolding empty_survey
returns c = refl
