-- After a write that opens a block.
use mathlib.Core.Path.{sym, ◌∙◌}
use Rattle.board.specs.declared.Stage.TheVariants.{Open}
use Rattle.board.specs.Step.{advance}
use Rattle.journal.specs.Block.{mark_writes}
use Rattle.job.proofs.Advancing.{some_leaves, none_moves, still_moves}
use Rattle.job.proofs.moves.after_open.Goals as goal

pub returns-in-Some : goal.returns-in-Some
unfolding advance
returns-in-Some c =
    λ N i p u f. still_moves N i p u f c.going.result _
    (some_leaves p u f Open mark_writes c.args.n c.in-Some.next c.going.result _ (sym c.in-Some.is ∙ c.next_cursor.ensures) c.going.ensures)

pub returns-in-None : goal.returns-in-None
returns-in-None c = λ N i p u f. none_moves N i p u f c.args.n c.staying.result (sym c.in-None.is ∙ c.next_cursor.ensures) c.staying.ensures
