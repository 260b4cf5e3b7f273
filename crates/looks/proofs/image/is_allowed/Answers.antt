-- The tests in their order.
use native.Mathlib.Omega.{arith}
use mathlib.Core.Path.{refl}
use Rattle.std.proofs.lemmas.Bool.Decides.{nat_tests}
use Rattle.flash.specs.Flash.{size_in}
use Rattle.looks.proofs.Images.{allowed-by}
use Rattle.looks.proofs.image.is_allowed.Goals as goal

pub returns-then-shape-le65536 : goal.returns-then-shape-le65536
returns-then-shape-le65536 c =
    rw (allowed-by c.args.shape.blocks c.args.shape.len (size_in c.args.shape.blocks c.args.shape.len) c.is_count_allowed.result c.is_count_allowed.ensures refl, c.is_size_allowed.ensures) (grind (arith, nat_tests))

pub returns-else-shape-le65536 : goal.returns-else-shape-le65536
returns-else-shape-le65536 c =
    rw (allowed-by c.args.shape.blocks c.args.shape.len (size_in c.args.shape.blocks c.args.shape.len) c.is_count_allowed.result c.is_count_allowed.ensures refl) (grind (arith, nat_tests))
