-- What is next, by the record that the buffer holds.
use mathlib.Core.Path.{ap, ◌∙◌}
use borrow.Author.Tests.{eq-eqb, ne_eqb}
use Rattle.edge.specs.Edge.{tells, edge_next}
use Rattle.grommetide.proofs.next.grommetide_next.Goals as goal

pub returns-then-board-ne-RECORD_SIZE : goal.returns-then-board-ne-RECORD_SIZE
unfolding edge_next
returns-then-board-ne-RECORD_SIZE c = rw (ne_eqb _ _ c.if-board-ne-RECORD_SIZE.true)

pub returns : goal.returns
unfolding edge_next
returns c = rw (eq-eqb _ _ c.if-board-ne-RECORD_SIZE.false) (c.tell-t.ensures ∙ ap tells c.next_in.ensures)
