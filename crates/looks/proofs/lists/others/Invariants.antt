-- The blocks below k are passed.
use Rattle.looks.proofs.Listing.{Listed}
use Rattle.looks.proofs.lists.others.Given as goal

abbrev pub invariant-loop-k : goal.invariant-loop-k
invariant-loop-k l = Listed l.blocks l.current l.skips l.k l.list
