-- The image's blocks.
use mathlib.Core.Path.{◌≡◌}
use mathlib.Core.List.{List}
use mathlib.Core.Bool.{Bool, true, ◌&&◌}
use Prim.Native.Nat.{ℕ, ◌*◌, ◌%◌, ◌≤◌, ◌<◌}
use native.Mathlib.Omega.{arith}
use lib.Dec.{eqb, leb}
use lib.ListN.{length}
use Rattle.flash.specs.Flash.{size_in, is_count, block, size_of}
use Rattle.flash.proofs.Image.{length-block}
use Rattle.board.specs.Record.{allowed}
use Rattle.board.proofs.Images.{Sized, sized_of, sized-block}

-- refusal 4, by the answers of the code's tests
pub allowed-by : (N n s : ℕ) (b : Bool) → b ≡ is_count N → s ≡ size_in N n
    → allowed N n ≡ (b && (leb n 65536 && (eqb (N * s) n && (eqb (s % 128) 0 && leb 256 s))))
unfolding allowed
allowed-by N n s b e f = rw (e, f, allowed)

module _ (N : ℕ) (img : List ℕ) (k : ℕ) (a : allowed N (length img) ≡ true) (h : k < N) where
  pub block_length : length (block (size_of N img) k img) ≡ size_of N img
  block_length = length-block (size_of N img) k img (sized-block k (sized_of N img a) h)

  -- what a survey asks of a block
  pub block_fits : (16 ≤ length (block (size_of N img) k img)) × (length (block (size_of N img) k img) ≤ 32768)
  block_fits = let z : Sized N (size_of N img) img = sized_of N img a in omega (arith, z.low, z.high, block_length)

-- its length less one fits the record
pub length_within : (N : ℕ) (img : List ℕ) → allowed N (length img) ≡ true → (1 ≤ length img) × (length img ≤ 65536)
length_within N img a =
    let z : Sized N (size_of N img) img = sized_of N img a in omega (arith, z.low, z.short, sized-block 0 z (omega (arith, z.few)))
