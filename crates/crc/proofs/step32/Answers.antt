-- Eight shifts.
use Rattle.std.specs.Int.Bits.{bit_xor}
use Rattle.std.proofs.Common.{ap, ◌∙◌}
use Rattle.crc.specs.Crc.{shifted32}
use Rattle.crc.proofs.step32.Goals as goal

pub returns : goal.returns
unfolding shifted32
returns c = c.shifts.ensures ∙ ap (λ x. shifted32 (bit_xor c.args.c x)) c.from.ensures
