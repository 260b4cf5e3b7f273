-- After a byte that closes a torn frame.
use mathlib.Core.Path.{sym, ◌∙◌}
use Rattle.board.specs.declared.Stage.TheVariants.{Close}
use Rattle.board.specs.Step.{advance}
use Rattle.job.proofs.Entering.{append_leaves}
use Rattle.job.proofs.Advancing.{some_leaves, none_leaves}
use Rattle.job.proofs.moves.after_close.Goals as goal

pub returns-in-Some : goal.returns-in-Some
unfolding advance
returns-in-Some c =
    λ N i p u f. some_leaves p u f Close c.args.n.job.closes c.args.n c.in-Some.next c.going.result _ (sym c.in-Some.is ∙ c.next_cursor.ensures) c.going.ensures

pub returns-in-None : goal.returns-in-None
unfolding advance
returns-in-None c =
    λ N i p u f. none_leaves p u f Close c.args.n.job.closes c.args.n c.enter_append.result _ _ (sym c.in-None.is ∙ c.next_cursor.ensures) c.enter_append.ensures (append_leaves p u f c.args.n)
