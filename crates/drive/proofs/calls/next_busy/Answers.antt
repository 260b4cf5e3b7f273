-- What is next in a job.
use mathlib.Core.Path.{◌∙◌}
use mathlib.Core.Bool.{true}
use Rattle.job.specs.Code.{assemble, flash_step}
use Rattle.job.proofs.Advancing.{by_hand}
use Rattle.drive.proofs.Telling.{next_is, placed-program}
use Rattle.drive.proofs.calls.next_busy.Goals as goal

pub returns-in-Program : goal.returns-in-Program
returns-in-Program c =
    λ p u f e. placed-program _ _ _ _ _ _ c.in-Program.is c.in-Some.ensures.1
    ∙ next_is c.args.shape.blocks c.args.shape.len (assemble c.args.n p u f) c.args.stage (flash_step c.next_action-a.result) true
    (c.next_action-a.ensures ∙ by_hand c.args.stage c.args.n c.args.byte p u f e) c.in-Some.ensures.0
