-- Sixteen shifts.
use Rattle.std.specs.Int.Bits.{bit_xor}
use Rattle.std.proofs.Common.{ap, ◌∙◌, arith}
use Rattle.crc.specs.Crc.{times, shift32}
use Rattle.crc.proofs.Linear.{by_two}
use Rattle.crc.proofs.two32.Goals as goal

pub returns : goal.returns
returns c =
    let args' = c.args in
    c.shifts.ensures ∙ ap (λ x. times 16 shift32 (bit_xor args'.c x)) (c.from.ensures ∙ c.from_le_bytes.ensures) ∙ by_two args'.c args'.a args'.b (omega arith)
