-- The tally: what was counted and what is left make the whole.
use mathlib.Core.Path.{◌≡◌}
use Prim.Native.Nat.{◌+◌, ◌-◌, ◌≤◌}
use lib.ListN.{length}
use Rattle.survey.specs.Pass.{lengths_at, settled_total}
use Rattle.survey.proofs.block.Block.tally.Given as goal

abbrev pub invariant-loop-place : goal.invariant-loop-place
invariant-loop-place l =
    (l.count + length (lengths_at l.self.edition l.self.bytes.now l.places (256 - l.place-index) l.place-index) ≡ length (lengths_at l.self.edition l.self.bytes.now l.places 256 0))
    × (l.used + settled_total l.self.edition (lengths_at l.self.edition l.self.bytes.now l.places (256 - l.place-index) l.place-index) ≡ 16 + settled_total l.self.edition (lengths_at l.self.edition l.self.bytes.now l.places 256 0))
    × (l.count ≤ l.place-index)
