-- Bytes programmed from a place on.
use mathlib.Core.Path.{◌≡◌}
use Prim.Native.Nat.{◌+◌}
use lib.ListN.{length, drop}
use Rattle.flash.specs.Flash.{writes, write_all}
use Rattle.drive.proofs.bursts.program_all.Given as goal

abbrev pub invariant-loop-i : goal.invariant-loop-i
invariant-loop-i l =
    (write_all l.image (writes (l.at + l.i) (drop l.i l.bytes)) ≡ write_all l.initial.image (writes l.at l.bytes)) × (length l.image ≡ length l.initial.image)
