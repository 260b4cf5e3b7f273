-- An erase that is cut, document 02, K4.
use Rattle.std.specs.Prelude.{List, ◌↔◌, ◌≡◌, ℕ, ◌+◌, ◌/◌, ◌%◌, ◌^◌, ◌≤◌, length, get_or, replicate}
use Rattle.std.specs.Int.Bits.{bit_and}
use Rattle.flash.specs.Bytes.{Bytes, le32}

-- "power lost inside an erase leaves each bit as it was or 1, freely": what a block of the old bytes may be then, any new ones that have every
-- 1 of the old
pub record Raised (old new : List ℕ) : Type 0 where
  pub long : length new ≡ length old
  pub bytes : Bytes new
  pub bits : (i : ℕ) → bit_and (get_or new i 0) (get_or old i 0) ≡ get_or old i 0

-- the number that four bytes from an offset on are
abbrev pub word_in : List ℕ → ℕ → ℕ
word_in b i = le32 (get_or b i 0) (get_or b (i + 1) 0) (get_or b (i + 2) 0) (get_or b (i + 3) 0)

pub record RaisedLaws : Type 0 where
  -- "each bit as it was or 1": no bit that was 1 is 0
  pub each_bit : (a b : List ℕ) → length b ≡ length a → Bytes b
      → Raised a b ↔ ((i j : ℕ) → get_or a i 0 / 2 ^ j % 2 ≤ get_or b i 0 / 2 ^ j % 2)
  -- the erase has not begun; it is done; it is cut again
  pub untouched : (b : List ℕ) → Bytes b → Raised b b
  pub erased : (b : List ℕ) → Bytes b → Raised b (replicate (length b) 255)
  pub again : (a b c : List ℕ) → Raised a b → Raised b c → Raised a c
  -- of a block that is all 0, as no store leaves one, any bytes at all
  pub from_zeros : (b : List ℕ) → Bytes b → Raised (replicate (length b) 0) b
  -- a blank block stays blank
  pub stays_blank : (n : ℕ) (b : List ℕ) → Raised (replicate n 255) b → b ≡ replicate n 255
  -- "has only gained ones": the number is not smaller
  pub not_smaller : (a b : List ℕ) (i : ℕ) → Raised a b → word_in a i ≤ word_in b i
