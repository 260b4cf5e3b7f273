-- After the old block erased.
use Rattle.job.specs.Code.{landed_on}
use Rattle.board.specs.Step.{advance}
use Rattle.job.proofs.Entering.{append_leaves}
use Rattle.job.proofs.moves.after_drop.Goals as goal

pub returns : goal.returns
unfolding advance
returns c =
    λ N i p u f. rw (c.enter_append.ensures, c.landed.ensures) (append_leaves p u f (landed_on c.args.n))
