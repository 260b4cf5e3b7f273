-- The tables that are left are the first ones, and the shifts that they stand for are still to be done.
use Rattle.std.proofs.Common.{◌≡◌, ◌*◌, ◌≤◌, take, length}
use Rattle.std.specs.Int.Bits.{bit_xor}
use Rattle.crc.specs.Crc.{shift32, times}
use Rattle.crc.specs.declared.TheConstants.{LEFT}
use Rattle.crc.proofs.shifts.Given as goal

abbrev pub invariant-loop-table : goal.invariant-loop-table
invariant-loop-table g l =
    let rest = l.table-iterator.iter.rest.now in
    (rest ≡ take (length rest) LEFT) × (length rest ≤ g.row.N) × (bit_xor (times (length rest * 4) shift32 l.above) l.left ≡ times (g.row.N * 4) shift32 l.x)
