-- The tally: what was counted and what is left make the whole.
use mathlib.Core.List.{List}
use mathlib.Core.Path.{ap}
use native.Mathlib.Omega.{arith}
use Prim.Native.Nat.{ℕ}
use lib.ListN.{length}
use Rattle.survey.specs.Pass.{lengths_at, settled_total}
use Rattle.survey.proofs.HeadLaws.{tally_end, tally_no, tally_yes, same_tally}
use Rattle.survey.proofs.block.Block.tally.Goals as goal
use Rattle.survey.proofs.block.Block.tally.Goals.{then-place-ne0, else-place-ne0}

-- what is counted here is a part of the whole
pub overflow_add-used-then-place-ne0 : goal.overflow_add-used-then-place-ne0
overflow_add-used-then-place-ne0 c =
    let z = tally_yes c.args.self.edition c.args.self.bytes.now c.args.places.now c.loop-place.place-index c.loop-place-test.true c.if-place-ne0.true in
    omega (arith, c.loop-place.invariant.1, ap (settled_total c.args.self.edition) z, c.length_at.ensures, c.check_len.ensures, c.requires)

pub overflow_add-used : goal.overflow_add-used
overflow_add-used c = omega (arith, overflow_add-used-then-place-ne0 c)

pub overflow_cast-used : goal.overflow_cast-used
overflow_cast-used c = omega (arith, overflow_add-used-then-place-ne0 c)

pub loop-place-preserved : goal.loop-place-preserved
loop-place-preserved c =
    elim c.if-place-ne0.branch [
      | then-place-ne0 w ↦
          let z = tally_yes c.args.self.edition c.args.self.bytes.now c.args.places.now c.loop-place.place-index c.loop-place-test.true w.if-place-ne0.true in (
            omega (arith, c.loop-place.invariant.0, ap length z, w.count-is),
            omega (arith, c.loop-place.invariant.1, ap (settled_total c.args.self.edition) z, w.used-is, w.length_at.ensures, c.check_len.ensures),
            omega (arith, c.loop-place.invariant.2, w.count-is),
          )
      | else-place-ne0 w ↦
          let z = tally_no c.args.self.edition c.args.self.bytes.now c.args.places.now c.loop-place.place-index c.loop-place-test.true w.if-place-ne0.false in (
            omega (arith, c.loop-place.invariant.0, ap length z, w.count-is),
            omega (arith, c.loop-place.invariant.1, ap (settled_total c.args.self.edition) z, w.used-is),
            omega (arith, c.loop-place.invariant.2, w.count-is),
          )
    ]

pub returns : goal.returns
returns c =
    let ns : List ℕ = lengths_at c.args.self.edition c.args.self.bytes.now c.args.places.now 256 0 in
    let z = tally_end c.args.self.edition c.args.self.bytes.now c.args.places.now c.loop-place.place-index c.loop-place-test.false in
    same_tally c.args.self.edition ns _ _ (omega (arith, c.loop-place.invariant.0, ap length z)) (omega (arith, c.loop-place.invariant.1, ap (settled_total c.args.self.edition) z))
