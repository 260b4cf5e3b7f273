-- What the bytes that are left make of c is the CRC of them all.
use Rattle.std.proofs.Common.{◌≡◌, ◌<◌, drop}
use Rattle.crc.specs.Crc.{crc32_from}
use Rattle.crc.proofs.Folds.{odd_byte}
use Rattle.crc.proofs.crc32.Given as goal

abbrev pub invariant-loop-pair : goal.invariant-loop-pair
invariant-loop-pair l =
    let rest = l.pair-iterator.rest.now in
    (crc32_from l.c rest ≡ crc32_from 0xFFFFFFFF l.s) × (l.last ≡ odd_byte rest) × (l.pair-iterator.size ≡ 2) × (l.c < 0x100000000)

abbrev pub invariant-loop-byte : goal.invariant-loop-byte
invariant-loop-byte l = (crc32_from l.c (drop l.byte-index l.last) ≡ crc32_from 0xFFFFFFFF l.s) × (l.c < 0x100000000)
