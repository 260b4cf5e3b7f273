-- A front of the value is short.
use mathlib.Core.Path.{ap}
use native.Mathlib.Omega.{arith}
use lib.ListN.{length}
use Rattle.frame.specs.Frame.{value_max}
use Rattle.frame.proofs.Stores.{front_short}
use Rattle.frame.proofs.bytes.encode_frame.Goals as goal

pub assemble-requires : goal.assemble-requires
assemble-requires c =
    (omega (arith, ap length c.change_fields.ensures), rw c.front-value.ensures (front_short value_max c.args.value.now))

pub assemble-requires-in-Settled : goal.assemble-requires-in-Settled
assemble-requires-in-Settled c =
    (omega (arith, ap length c.to_le_bytes.ensures), rw c.front-value.ensures (front_short value_max c.args.value.now))

pub assemble-requires-in-Closed : goal.assemble-requires-in-Closed
assemble-requires-in-Closed c = (omega arith, rw c.front-value.ensures (front_short value_max c.args.value.now))
