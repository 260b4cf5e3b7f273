-- The product is the length at most.
use Prim.Native.Nat.{◌*◌, ◌≤◌}
use native.Mathlib.Omega.{arith}
use Rattle.std.proofs.lemmas.Bool.Decides.{nat_tests}
use Rattle.flash.proofs.Sizes.{size-within}
use Rattle.looks.proofs.image.is_size_allowed.Goals as goal

pub overflow_mul-from : goal.overflow_mul-from
overflow_mul-from c =
    let l : c.from.result * c.size-size.result ≤ c.args.shape.len = rw (c.from.ensures, c.size-size.ensures) (size-within c.args.shape.blocks c.args.shape.len) in omega arith
