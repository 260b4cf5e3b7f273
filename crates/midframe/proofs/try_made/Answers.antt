-- What is next is counted.
use mathlib.Core.Path.{ap, ◌∙◌}
use Prim.Native.Nat.{ℕ}
use Rattle.board.specs.Drive.{next_on}
use Rattle.lent.specs.Layout.{record_in}
use Rattle.midframe.proofs.Middle.{made-on}
use Rattle.midframe.proofs.try_made.Goals as goal

pub returns : goal.returns
returns c =
    let f = c.in-Some.ensures in
    λ img e. made-on c.args.shape.blocks c.args.board.now _ _ _ _ _ f.ready (c.count.ensures c.args.shape.blocks) img
    (ap (λ (n : ℕ). next_on c.args.shape.blocks n (record_in c.args.board.now)) e ∙ f.next)
