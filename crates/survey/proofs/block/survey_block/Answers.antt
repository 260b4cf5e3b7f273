-- What was found out, or a foreign block's survey.
use mathlib.Core.Path.{sym, ◌∙◌}
use Rattle.survey.proofs.Surveying.{err_right}
use Rattle.survey.proofs.block.survey_block.Goals as goal

pub returns-in-Err : goal.returns-in-Err
returns-in-Err c =
    (err_right _ _ _ (sym c.in-Err.is ∙ c.judge.ensures.0) c.empty.ensures, c.judge.ensures.1)
