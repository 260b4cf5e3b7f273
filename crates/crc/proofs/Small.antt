-- A CRC-32 of bytes is a number of four bytes.
use mathlib.Core.List.{List, [], ◌∷◌}
use Prim.Native.Nat.{ℕ, zero, suc, ◌/◌, ◌<◌}
use native.Mathlib.Omega.{arith}
use lib.Bits.{bit_xor, xor_lt}
use Rattle.flash.specs.Bytes.{Bytes}
use Rattle.crc.specs.Crc.{times, shift32, shifted32, crc32_from, crc32_of}

shift_small : (c : ℕ) → c < 4294967296 → shift32 c < 4294967296
unfolding shift32
shift_small c h = xor_lt 32 (c / 2) _ (omega arith) (omega arith)

times-small : (n : ℕ) (c : ℕ) → c < 4294967296 → times n shift32 c < 4294967296
times-small zero c h = h
times-small (suc n) c h = times-small n (shift32 c) (shift_small c h)

pub crc-small : (x : List ℕ) (c : ℕ) → Bytes x → c < 4294967296 → crc32_from c x < 4294967296
unfolding crc32_from shifted32
crc-small [] c y h = h
crc-small (b ∷ x) c (p, y) h = crc-small x (shifted32 (bit_xor c b)) y (times-small 8 (bit_xor c b) (xor_lt 32 c b h (omega arith)))

pub crc32_small : (x : List ℕ) → Bytes x → crc32_of x < 4294967296
crc32_small x y = xor_lt 32 (crc32_from 0xFFFFFFFF x) 0xFFFFFFFF (crc-small x 0xFFFFFFFF y (omega arith)) (omega arith)
