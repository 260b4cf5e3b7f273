-- x stays below the modulus.
use Rattle.std.proofs.Common.{◌<◌}
use Rattle.crcs.proofs.mixed.Given as goal

abbrev pub invariant-loop-byte : goal.invariant-loop-byte
invariant-loop-byte l = l.x < 65537
