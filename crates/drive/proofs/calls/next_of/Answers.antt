-- What is next, by a record's numbers.
use mathlib.Core.Path.{sym, ap, ◌∙◌}
use Rattle.board.specs.declared.Phase.{Phase}
use Rattle.board.specs.Drive.{next_in, next_on}
use Rattle.job.specs.Code.{assemble}
use Rattle.job.proofs.Advancing.{busy_hand}
use Rattle.drive.proofs.Telling.{nothing_next}
use Rattle.drive.proofs.calls.next_of.Goals as goal

pub returns-in-Unmounted : goal.returns-in-Unmounted
unfolding next_on
returns-in-Unmounted c =
    λ p u f e. nothing_next c.args.shape.blocks c.args.shape.len (assemble c.args.n p u f) c.args.n.phase c.in-Unmounted.is

pub returns-in-Busy : goal.returns-in-Busy
unfolding next_on
returns-in-Busy c =
    λ p u f e. c.next_busy.ensures p u f (busy_hand c.args.n c.args.n.phase _ c.args.byte u f c.in-Busy.is e)
    ∙ sym (ap (λ (x : Phase). next_in c.args.shape.blocks x c.args.shape.len (assemble c.args.n p u f)) c.in-Busy.is)
