-- What the bytes that are left make of c is the CRC of them all.
use Rattle.std.proofs.Common.{sym, ap, ◌+◌, ◌∙◌, arith}
use Rattle.std.specs.Int.Bits.{bit_xor}
use Rattle.std.proofs.Math.ListN.{drop}
use Rattle.crc.specs.Crc.{crc32_from}
use Rattle.crc.proofs.Folds.{next32, end32, pair32, odd-pair, odd-end, inverted, odd_byte}
use Rattle.crc.proofs.crc32.Goals as goal

pub loop-pair-preserved : goal.loop-pair-preserved
loop-pair-preserved c =
    let loop' = c.loop-pair in
    let pair = c.in-Some.pair.now in
    let after = c.next.new.self.rest.now in
    let steps = c.in-Some.ensures.steps in
    let long = steps.1.1 ∙ loop'.invariant.2 in (
      ap (λ x. crc32_from x after) c.two32-c.ensures ∙ sym (pair32 loop'.c pair after long) ∙ ap (crc32_from loop'.c) (sym steps.1.0) ∙ loop'.invariant.0,
      loop'.invariant.1 ∙ ap odd_byte steps.1.0 ∙ odd-pair pair after long,
      steps.0 ∙ loop'.invariant.2,
      c.two32-c.type_inv,
    )

pub loop-byte-init : goal.loop-byte-init
loop-byte-init c =
    let loop' = c.loop-pair in
    let few = odd-end loop'.pair-iterator.rest.now (omega (arith, c.in-None.ensures.steps.1.0, loop'.invariant.2)) in
    (ap (crc32_from loop'.c) (loop'.invariant.1 ∙ few) ∙ loop'.invariant.0, loop'.invariant.3)

pub loop-byte-preserved : goal.loop-byte-preserved
loop-byte-preserved c =
    let loop' = c.loop-byte in
    let last = c.remainder-last.result.now in (
      ap (λ x. crc32_from x (drop (loop'.byte-index + 1) last)) c.step32-c.ensures ∙ sym (next32 last loop'.c loop'.byte-index c.loop-byte-test.true) ∙ loop'.invariant.0,
      c.step32-c.type_inv,
    )

pub returns : goal.returns
returns c =
    let loop' = c.loop-byte in
    inverted loop'.c loop'.invariant.1
    ∙ ap (λ x. bit_xor x 0xFFFFFFFF) (sym (end32 c.remainder-last.result.now loop'.c loop'.byte-index c.loop-byte-test.false) ∙ loop'.invariant.0)
