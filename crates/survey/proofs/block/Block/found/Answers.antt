-- A valid block's survey, from the pass and the tally.
use Rattle.survey.specs.Pass.{found_survey}
use Rattle.survey.proofs.block.Block.found.Goals as goal

pub returns : goal.returns
unfolding found_survey
returns c = rw (c.created.ensures, c.tally-count.ensures, c.unwrap_or.ensures)
