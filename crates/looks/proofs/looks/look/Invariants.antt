-- From the last block down: what is kept tells of the blocks from k on.
use Prim.Native.Nat.{◌≤◌}
use Rattle.looks.proofs.Looked.{Looked}
use Rattle.looks.proofs.looks.look.Given as goal

abbrev pub invariant-loop-k : goal.invariant-loop-k
invariant-loop-k l = Looked l.image.blocks l.image.bytes.now l.initial.places l.k l.seen l.places × (l.k ≤ l.image.blocks)
