-- The walk: what was read so far are the first frames of the scan.
use Prim.Native.Nat.{◌-◌}
use lib.ListN.{length}
use Rattle.survey.proofs.Passing.{Reached}
use Rattle.survey.proofs.block.Block.walk.Given as goal

abbrev pub invariant-loop-head : goal.invariant-loop-head
invariant-loop-head l = Reached l.self.edition l.self.bytes.now l.places l.p

abbrev pub decreases-loop-head : goal.decreases-loop-head
decreases-loop-head l = length l.self.bytes.now - l.p.end
