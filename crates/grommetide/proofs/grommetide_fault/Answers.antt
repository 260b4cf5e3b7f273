-- Where a refused mount broke: a mount's answer, in numbers.
use mathlib.Core.Path.{ap, ap₂, ◌∙◌}
use Prim.Native.Nat.{ℕ}
use Rattle.wire.specs.declared.Spot.{Spot}
use Rattle.wire.specs.Answer.{refused_number, spot_of}
use Rattle.edge.specs.Edge.{broken, edge_fault}
use Rattle.grommetide.proofs.grommetide_fault.Goals as goal

pub returns : goal.returns
unfolding edge_fault
returns c =
    let a = c.mount_core-answer.ensures.answers in
    ap₂ (λ (n : ℕ) (s : Spot). broken n s.half s.field s.place) (c.refused.ensures ∙ ap refused_number a)
    (c.spot_of-spot.ensures ∙ ap spot_of a)
