-- What there is, and zeros after it.
use mathlib.Core.Path.{◌∙◌}
use Rattle.unpack.proofs.Parts.{laid-on-zeros}
use Rattle.unpack.proofs.bytes_in.Goals as goal

pub returns : goal.returns
returns g c = c.lay.ensures ∙ rw c.front.ensures (laid-on-zeros g.row.N c.args.bytes.now)
