-- After a block erased first.
use mathlib.Core.Path.{sym, ◌∙◌}
use Rattle.board.specs.declared.Stage.TheVariants.{Wipe}
use Rattle.board.specs.Step.{advance}
use Rattle.job.proofs.Entering.{open_leaves}
use Rattle.job.proofs.Advancing.{some_leaves, none_leaves}
use Rattle.job.proofs.moves.after_wipe.Goals as goal

pub returns-in-Some : goal.returns-in-Some
unfolding advance
returns-in-Some c =
    λ N i p u f. some_leaves p u f Wipe c.args.n.job.wipes c.args.n c.in-Some.next c.going.result _ (sym c.in-Some.is ∙ c.next_cursor.ensures) c.going.ensures

pub returns-in-None : goal.returns-in-None
unfolding advance
returns-in-None c =
    λ N i p u f. none_leaves p u f Wipe c.args.n.job.wipes c.args.n c.enter_open.result _ _ (sym c.in-None.is ∙ c.next_cursor.ensures) c.enter_open.ensures (open_leaves p u f c.args.n)
