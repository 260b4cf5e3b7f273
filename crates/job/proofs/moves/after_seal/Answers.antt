-- After a write that seals a block.
use mathlib.Core.Path.{sym, ◌∙◌}
use Rattle.board.specs.declared.Stage.TheVariants.{Seal}
use Rattle.board.specs.Step.{advance}
use Rattle.job.proofs.Entering.{drop_leaves}
use Rattle.job.proofs.Advancing.{some_leaves, none_leaves}
use Rattle.job.proofs.moves.after_seal.Goals as goal

pub returns-in-Some : goal.returns-in-Some
unfolding advance
returns-in-Some c =
    λ N i p u f. some_leaves p u f Seal 5 c.args.n c.in-Some.next c.going.result _ (sym c.in-Some.is ∙ c.next_cursor.ensures) c.going.ensures

pub returns-in-None : goal.returns-in-None
unfolding advance
returns-in-None c =
    λ N i p u f. none_leaves p u f Seal 5 c.args.n c.enter_drop.result _ _ (sym c.in-None.is ∙ c.next_cursor.ensures) c.enter_drop.ensures (drop_leaves p u f c.args.n)
