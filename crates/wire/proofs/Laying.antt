-- A list from a place to its end; a number's bytes, lowest first, as std has them and as the log page does.
use mathlib.Core.Path.{◌≡◌, sym, ◌∙◌}
use mathlib.Core.List.{List}
use Prim.Native.Nat.{ℕ, ◌-◌, ◌/◌, ◌%◌, ◌≤◌, ◌<◌}
use native.Mathlib.Omega.{arith}
use lib.ListN.{length, take, drop, length-drop, drop_of_length-le}
use lib.Seq.{take-length}
use Rattle.std.specs.Int.{w16, w32, to_le_bytes}
use Rattle.flash.specs.Bytes.{u16le, u32le}

pub to_end : (k : ℕ) (l : List ℕ) → take (length l - k) (drop k l) ≡ drop k l
to_end k l = rw (← length-drop k l, take-length)

pub past_end : (i j : ℕ) (l : List ℕ) → length l ≤ i → length l ≤ j → drop i l ≡ drop j l
past_end i j l h k = drop_of_length-le l h ∙ sym (drop_of_length-le l k)

pub two_le : (n : ℕ) → n < 65536 → to_le_bytes w16 n ≡ u16le n
two_le n h = let e : n / 256 % 256 ≡ n / 256 = omega arith in rw e

pub four_le : (n : ℕ) → n < 4294967296 → to_le_bytes w32 n ≡ u32le n
four_le n h = let e : n / 16777216 % 256 ≡ n / 16777216 = omega arith in rw e
