-- Bytes programmed from a place on.
use mathlib.Core.Path.{refl, sym, ◌∙◌}
use native.Mathlib.Omega.{arith}
use lib.ListN.{length-set}
use Rattle.drive.proofs.Telling.{write_first, write_one, write_last}
use Rattle.drive.proofs.bursts.program_all.Goals as goal

pub loop-i-init : goal.loop-i-init
loop-i-init c = (write_first c.args.image.now c.args.at c.args.bytes.now, refl)

pub loop-i-preserved : goal.loop-i-preserved
loop-i-preserved c = (
  sym (write_one c.loop-i.image c.args.at c.args.bytes.now c.loop-i.i
      c.loop-i-test.true) ∙ c.loop-i.invariant.0,
  simp length-set (omega arith),
)

pub returns : goal.returns
returns c =
    sym (write_last c.loop-i.image c.args.at c.args.bytes.now c.loop-i.i (omega arith))
    ∙ c.loop-i.invariant.0
