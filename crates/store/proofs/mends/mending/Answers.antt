-- A transfer, or what is closed and appended.
use mathlib.Core.Path.{sym, ◌∙◌}
use Rattle.store.specs.Mends.{mend_in}
use Rattle.store.proofs.mends.mending.Goals as goal

pub returns-then-moves : goal.returns-then-moves
unfolding mend_in
returns-then-moves c = rw (sym c.moves.ensures ∙ c.if-moves.true)

pub returns : goal.returns
unfolding mend_in
returns c =
    rw (sym c.moves.ensures ∙ c.if-moves.false, c.closing.ensures, c.due_len.ensures)
