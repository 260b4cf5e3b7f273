-- Bytes of a frame programmed, but its last.
use mathlib.Core.Path.{refl}
use Prim.Native.Nat.{◌<◌}
use native.Mathlib.Omega.{arith}
use lib.ListN.{length-take, length-drop}
use Rattle.drive.proofs.Telling.{lane_ends}
use Rattle.drive.proofs.bursts.lay.Goals as goal

pub program_all-requires : goal.program_all-requires
program_all-requires c =
    let h : 0 < c.burst_len-k.result = omega (arith, c.if-k-eq0.false) in
    let ends = rw c.of-shape.ensures at (lane_ends _ _ _ _ _ _ refl (c.burst_len-k.ensures.1 h)) in
    let at = rw c.of-shape.ensures at c.in-Some.ensures.1 in simp (length-take, length-drop) (omega arith)
