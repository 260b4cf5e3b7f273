-- After a byte appended.
use mathlib.Core.Path.{sym, ◌∙◌}
use borrow.Author.Rules.{rules}
use Prim.Native.Nat.{◌+◌}
use Rattle.board.specs.Record.{ending}
use Rattle.board.specs.declared.Stage.TheVariants.{Append}
use Rattle.board.specs.Step.{advance}
use Rattle.job.specs.Code.{over}
use Rattle.job.proofs.Entering.{over_leaves}
use Rattle.job.proofs.Advancing.{some_leaves, none_leaves}
use Rattle.job.proofs.moves.after_append.Goals as goal

pub returns-in-Some : goal.returns-in-Some
unfolding advance
returns-in-Some c =
    λ N i p u f. some_leaves p u f Append c.args.n.job.size c.args.n c.in-Some.next c.going.result _ (sym c.in-Some.is ∙ c.next_cursor.ensures) c.going.ensures

pub returns-in-None : goal.returns-in-None
unfolding advance
returns-in-None c =
    let z = ending c.args.n.rest (c.args.n.rest.end + c.args.n.job.size) in
    λ N i p u f. none_leaves p u f Append c.args.n.job.size c.args.n c.over.result (over z) _ (sym c.in-None.is ∙ c.next_cursor.ensures) (search rules)
    (over_leaves p u f z)
