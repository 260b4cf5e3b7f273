-- A commit: the heads from here on do what the heads from `since` on did.
use mathlib.Core.Path.{◌≡◌}
use Prim.Native.Nat.{◌-◌}
use lib.ListN.{length, drop}
use Rattle.survey.specs.Pass.{commit_heads, recommit}
use Rattle.survey.proofs.pass.commit.Given as goal

abbrev pub invariant-loop-at : goal.invariant-loop-at
invariant-loop-at l = commit_heads l.block.edition l.host l.at 0 l.places (drop l.at l.part) ≡ recommit l.block.edition l.part l.host l.initial.at l.initial.places

abbrev pub decreases-loop-at : goal.decreases-loop-at
decreases-loop-at l = length l.part - l.at
