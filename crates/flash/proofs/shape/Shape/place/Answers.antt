-- A place in the image is below its length.
use Prim.Native.Nat.{suc}
use native.Mathlib.Omega.{arith}
use Rattle.flash.proofs.Sizes.{place-most}
use Rattle.flash.proofs.shape.Shape.place.Goals as goal

pub overflow_mul-result : goal.overflow_mul-result
overflow_mul-result c =
    rw c.from.ensures
    (omega (
      arith,
      place-most c.args.self.blocks c.args.self.len c.size-size.result c.args.block (suc c.args.at) c.size-size.ensures c.if-block-self.true
          (omega (arith, c.if-at-size.true)),
      c.well_formed,
    ))

pub overflow_add-result : goal.overflow_add-result
overflow_add-result c =
    rw c.from.ensures
    (omega (
      arith,
      place-most c.args.self.blocks c.args.self.len c.size-size.result c.args.block (suc c.args.at) c.size-size.ensures c.if-block-self.true
          (omega (arith, c.if-at-size.true)),
      c.well_formed,
    ))
