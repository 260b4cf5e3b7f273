-- The next pending frame: from where the loop stands it is the same as from the source on.
use mathlib.Core.Path.{◌≡◌}
use Prim.Native.Nat.{◌-◌}
use lib.ListN.{length, drop}
use Rattle.journal.specs.Index.{next_pending}
use Rattle.fetch.proofs.next_pending.Given as goal

abbrev pub invariant-loop-head : goal.invariant-loop-head
invariant-loop-head l = next_pending l.edition l.since l.at 0 (drop l.at l.part) ≡ next_pending l.edition l.since l.source 0 (drop l.source l.part)

abbrev pub decreases-loop-head : goal.decreases-loop-head
decreases-loop-head l = length l.part - l.at
