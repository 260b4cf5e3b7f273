-- A put's value is short.
use mathlib.Core.Path.{ap, ◌∙◌}
use Prim.Native.Nat.{◌≤◌}
use native.Mathlib.Omega.{arith}
use lib.ListN.{length}
use Rattle.std.specs.Prelude.{Some}
use Rattle.wire.specs.declared.Request.TheVariants.{Put}
use Rattle.wire.proofs.Parsing.{in_range}
use Rattle.serving.proofs.serve.Goals as goal
use Rattle.serving.proofs.serve.Goals.{After-value}

short : (c : After-value) → length c.value.result.now ≤ 240
short c =
    omega (arith, ap length c.value.ensures.value, (in_range c.args.message.now (Put c.in-Put.field-0) (c.requires.0 ∙ ap Some c.in-Put.is)).1)

pub overflow_cast-v : goal.overflow_cast-v
overflow_cast-v c = omega (arith, short c)

pub overflow_add-n : goal.overflow_add-n
overflow_add-n c = omega (arith, short c, c.change_len-n.ensures.1)
