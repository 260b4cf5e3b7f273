-- The flash, document 01, "What the board holds": an image is blocks of one size; a step changes one byte or one block.
use Rattle.std.specs.Prelude.{List, [], ◌∷◌, ◌++◌, Bool, ◌&&◌, cond, ℕ, zero, suc, ◌+◌, ◌*◌, ◌/◌, eqb, ltb, leb, length, get_or, take, drop, set, replicate}
use Rattle.std.specs.Int.Bits.{bit_and}

-- document 02, K14: "The image is N blocks of S bytes, N given by the caller". Document 01's half is a block here; blocks are known by number.
abbrev pub max_blocks : ℕ
max_blocks = 16

unfoldable pub numbers_from : ℕ → ℕ → List ℕ
numbers_from k zero = []
numbers_from k (suc n) = k ∷ numbers_from (suc k) n

abbrev pub block_numbers : ℕ → List ℕ
block_numbers N = numbers_from 0 N

-- S, of an image of so many bytes; what N doesn't divide is a rest that belongs to no block, and with no block there is no size
unfoldable pub size_in : ℕ → ℕ → ℕ
size_in N n = cond (eqb N 0) 0 (n / N)

abbrev pub size_of : ℕ → List ℕ → ℕ
size_of N img = size_in N (length img)

-- "if N isn't 2 to 16"
abbrev pub is_count : ℕ → Bool
is_count N = leb 2 N && leb N max_blocks

-- block k of an image of blocks of s bytes
abbrev pub block : ℕ → ℕ → List ℕ → List ℕ
block s k img = take s (drop (k * s) img)

-- "A step does one thing: program one byte (new value = old AND given), erase one half (all bytes 0xFF), or nothing."
-- A step that does nothing is none: a call that takes no step leaves the image as it is.
pub data Step : Type 0 where
  program : ℕ → ℕ → ℕ → Step  -- block, offset, byte
  erase : ℕ → Step  -- block

-- "new value = old AND given"; a place past the end changes nothing
abbrev pub program_at : List ℕ → ℕ → ℕ → List ℕ
program_at l i v = set l i (bit_and (get_or l i 0) v)

-- an image with other bytes in block k
abbrev pub with_block : ℕ → ℕ → List ℕ → List ℕ → List ℕ
with_block s k new img = take (k * s) img ++ (new ++ drop (k * s + s) img)

-- "all bytes 0xFF": as many as are there, so that an image keeps its length whatever the block's number
abbrev pub erase_block : ℕ → ℕ → List ℕ → List ℕ
erase_block s k img = with_block s k (replicate (length (block s k img)) 255) img

-- an image of blocks of s bytes after one step, and after some in order
abbrev pub apply : ℕ → Step → List ℕ → List ℕ
apply s (program k o v) img = program_at img (k * s + o) v
apply s (erase k) img = erase_block s k img

unfoldable pub apply_all : ℕ → List Step → List ℕ → List ℕ
apply_all s [] img = img
apply_all s (x ∷ xs) img = apply_all s xs (apply s x img)

-- a step's place; an erase has offset 0
abbrev pub block_of : Step → ℕ
block_of (program k o v) = k
block_of (erase k) = k

abbrev pub offset_of : Step → ℕ
offset_of (program k o v) = o
offset_of (erase k) = 0

-- the place lies in an image of N blocks of s bytes: its block is there and its offset is below the block's size
abbrev pub within : ℕ → ℕ → Step → Bool
within N s x = is_count N && (ltb (block_of x) N && ltb (offset_of x) s)

-- ---- writes to one block

-- one byte programmed at an offset of a block
pub record Write : Type 0 where
  pub at : ℕ
  pub byte : ℕ

abbrev pub write : ℕ → ℕ → Write
write o b = record { at = o; byte = b }

-- the flash step that a write to block k is
abbrev pub write_step : ℕ → Write → Step
write_step k w = program k w.at w.byte

-- "Bytes are programmed in address order, each one a step, 0xFF bytes too."
unfoldable pub writes : ℕ → List ℕ → List Write
writes o [] = []
writes o (b ∷ bs) = write o b ∷ writes (suc o) bs

-- a block's bytes after writes in order
unfoldable pub write_all : List ℕ → List Write → List ℕ
write_all l [] = l
write_all l (w ∷ ws) = write_all (program_at l w.at w.byte) ws
