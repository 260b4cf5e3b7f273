-- A flash step by its block and offset; the writes that open and seal a block, by number.
use mathlib.Core.Path.{◌≡◌, refl, ap, ◌∙◌}
use mathlib.Core.List.{List, [], ◌∷◌}
use mathlib.Core.Bool.{true, ◌&&◌}
use Prim.Native.Nat.{ℕ, zero, suc, ◌+◌, ◌-◌, ◌*◌, ◌/◌, ◌%◌, ◌<◌, ◌≤◌}
use native.Mathlib.Omega.{arith}
use lib.Dec.{eqb, ltb}
use lib.ListN.{get_or}
use borrow.Author.Tests.{eqb-true, ltb-true}
use Rattle.flash.specs.Flash.{Step, max_blocks, is_count, size_in, within, block_of, offset_of, write, writes}
use Rattle.flash.proofs.Cases.{and_left, and_right, between}
use Rattle.flash.proofs.Sizes.{size-half}
use Rattle.frame.specs.declared.Edition.{Edition}
use Rattle.frame.specs.declared.Edition.TheVariants as edition
use Rattle.frame.specs.Frame.{edition_number, kind_at}
use Rattle.flash.specs.Bytes.{u32le}
use Rattle.journal.specs.Block.{open_write, seal_write, last_time, time_at, state_at, in_transfer, valid_data}
use Rattle.board.specs.declared.Rest.{Rest}
use Rattle.job.specs.Code.{fits, takes}

-- ---- a step's place

pub in_parts : (N s : ℕ) (x : Step) → within N s x ≡ true → (is_count N ≡ true) × (block_of x < N) × (offset_of x < s)
in_parts N s x e =
    let t = and_right (is_count N) (ltb (block_of x) N && ltb (offset_of x) s) e in (
      and_left (is_count N) (ltb (block_of x) N && ltb (offset_of x) s) e,
      ltb-true (block_of x) N (and_left (ltb (block_of x) N) (ltb (offset_of x) s) t),
      ltb-true (offset_of x) s (and_right (ltb (block_of x) N) (ltb (offset_of x) s) t),
    )

-- the record's image, and a step's place in it
pub same_parts : (N n : ℕ) (z : Rest) → fits N n z ≡ true → (n ≡ suc z.last) × (N ≡ z.blocks)
same_parts N n z e = (
  eqb-true n (suc z.last) (and_left (eqb n (suc z.last)) (eqb N z.blocks) e),
  eqb-true N z.blocks (and_right (eqb n (suc z.last)) (eqb N z.blocks) e),
)

pub takes-parts : (N n : ℕ) (z : Rest) (x : Step) → takes N n z x ≡ true → (n ≡ suc z.last) × (within N (size_in N n) x ≡ true)
takes-parts N n z x e = (
  (same_parts N n z (and_left (fits N n z) (within N (size_in N n) x) e)).0,
  and_right (fits N n z) (within N (size_in N n) x) e,
)

-- a block is at most half of an image
pub size_low : (N n : ℕ) → is_count N ≡ true → 2 * size_in N n ≤ n
size_low N n c = size-half N n (between 2 N max_blocks c).0

-- ---- the writes of a header

-- the kind's low byte is the edition's number, its high byte that of either edition
pub open_low : (ed : Edition) → write kind_at (edition_number ed) ≡ open_write ed 3
unfolding writes
open_low edition.First = refl
open_low edition.Second = refl

pub open_high : (ed : Edition) → write 3 0x4A ≡ open_write ed 4
unfolding writes
open_high edition.First = refl
open_high edition.Second = refl

pub open_rest : (ed : Edition) (i : ℕ) → (i ≡ 1 → ⊥) → (i ≡ 2 → ⊥) → (i ≡ 3 → ⊥) → (i ≡ 4 → ⊥) → write state_at in_transfer ≡ open_write ed i
unfolding writes
open_rest ed zero a b c d = refl
open_rest ed (suc zero) a b c d = absurd (a refl)
open_rest ed (suc (suc zero)) a b c d = absurd (b refl)
open_rest ed (suc (suc (suc zero))) a b c d = absurd (c refl)
open_rest ed (suc (suc (suc (suc zero)))) a b c d = absurd (d refl)
open_rest ed (suc (suc (suc (suc (suc i))))) a b c d = refl

-- of the four bytes of a number the last one is below 256 by itself
seal_bytes : (n : ℕ) → n < 4294967296 → n % 256 ∷ n / 256 % 256 ∷ n / 65536 % 256 ∷ n / 16777216 % 256 ∷ [] ≡ u32le n
seal_bytes n h =
    let e : n / 16777216 % 256 ≡ n / 16777216 = omega arith in
    ap (λ (d : ℕ). n % 256 ∷ n / 256 % 256 ∷ n / 65536 % 256 ∷ d ∷ []) e

seal_at : (time i : ℕ) → i < 4 → write (time_at + i) (get_or (u32le (last_time - time)) i 0) ≡ seal_write time i
unfolding writes
seal_at t zero l = refl
seal_at t (suc zero) l = refl
seal_at t (suc (suc zero)) l = refl
seal_at t (suc (suc (suc zero))) l = refl
seal_at t (suc (suc (suc (suc i)))) l = absurd (omega arith)

pub seal_byte : (time i : ℕ) (bs : List ℕ)
    → (let n = last_time - time in bs ≡ n % 256 ∷ n / 256 % 256 ∷ n / 65536 % 256 ∷ n / 16777216 % 256 ∷ [])
    → i < 4 → write (time_at + i) (get_or bs i 0) ≡ seal_write time i
seal_byte t i bs e l =
    ap (λ (b : List ℕ). write (time_at + i) (get_or b i 0)) (e ∙ seal_bytes (last_time - t) (omega arith)) ∙ seal_at t i l

pub seal_last : (time i : ℕ) → 4 ≤ i → write state_at valid_data ≡ seal_write time i
unfolding writes
seal_last t zero l = absurd (omega arith)
seal_last t (suc zero) l = absurd (omega arith)
seal_last t (suc (suc zero)) l = absurd (omega arith)
seal_last t (suc (suc (suc zero))) l = absurd (omega arith)
seal_last t (suc (suc (suc (suc zero)))) l = refl
seal_last t (suc (suc (suc (suc (suc i))))) l = refl
