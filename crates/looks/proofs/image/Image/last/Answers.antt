-- An allowed length is at least one byte and at most 65536.
use native.Mathlib.Omega.{arith}
use Rattle.looks.proofs.Images.{length_within}
use Rattle.looks.proofs.image.Image.last.Goals as goal

pub overflow_sub-result : goal.overflow_sub-result
overflow_sub-result c = omega (arith, length_within _ _ c.args.self.now.is_allowed)

pub overflow_cast-result : goal.overflow_cast-result
overflow_cast-result c = omega (arith, length_within _ _ c.args.self.now.is_allowed)
