-- "CRC-32 (IEEE 802.3)" (document 02, K9), bit by bit: reflected, from all ones, and inverted at the end.
use Rattle.std.specs.Prelude.{List, [], ◌∷◌, ℕ, zero, suc, ◌*◌, ◌/◌, ◌%◌}
use Rattle.std.specs.Int.Bits.{bit_xor}

-- f, n times
abbrev pub times : ℕ → (ℕ → ℕ) → ℕ → ℕ
times zero f x = x
times (suc n) f x = times n f (f x)

-- one bit: the lowest goes out, and where it was set the polynomial comes in, its bits reversed
unfoldable pub shift32 : ℕ → ℕ
shift32 c = bit_xor (c / 2) (c % 2 * 0xEDB88320)

-- one byte
unfoldable pub shifted32 : ℕ → ℕ
unfolding shift32
shifted32 c = times 8 shift32 c

unfoldable pub crc32_from : ℕ → List ℕ → ℕ
crc32_from c [] = c
crc32_from c (b ∷ bs) = crc32_from (shifted32 (bit_xor c b)) bs

abbrev pub crc32_of : List ℕ → ℕ
crc32_of bs = bit_xor (crc32_from 0xFFFFFFFF bs) 0xFFFFFFFF
