-- Images of an allowed length, and what a list of steps does to each block.
use mathlib.Core.Path.{◌≡◌, refl, sym, ap, subst, ◌∙◌}
use mathlib.Core.List.{List, [], ◌∷◌}
use mathlib.Core.Bool.{Bool, true, ◌&&◌}
use Prim.Native.Nat.{ℕ, suc, ◌+◌, ◌-◌, ◌*◌, ◌%◌, ◌≤◌, ◌<◌}
use native.Mathlib.Omega.{arith}
use lib.Dec.{eqb, leb}
use lib.ListN.{length}
use borrow.Author.Tests.{eqb-true, leb-true, le-leb, eq-eqb}
use Rattle.flash.specs.Bytes.{Bytes}
use Rattle.flash.specs.Flash.{max_blocks, size_in, is_count, Step, apply, apply_all, block, size_of, program_at, Write, write_all}
use Rattle.flash.proofs.Cases.{and_left, and_right, and_both}
pub use Rattle.flash.proofs.Applied.{apply-append, length-all-steps}
use Rattle.flash.proofs.Image.{in_image, bytes-apply, block-program, other-program}
use Rattle.flash.proofs.Offsets.{Below}
use Rattle.flash.proofs.Sizes.{size_is, size-half}
use Rattle.board.specs.Record.{allowed}
use Rattle.board.specs.Plan.{on_block}

-- N blocks of s bytes
pub record Sized (N : ℕ) (s : ℕ) (img : List ℕ) : Type 0 where
  pub count : is_count N ≡ true
  pub few : 2 ≤ N
  pub most : N ≤ max_blocks
  pub all : length img ≡ N * s
  pub short : length img ≤ 65536
  pub low : 256 ≤ s
  pub high : s ≤ 32768
  pub size : size_of N img ≡ s
  pub ok : allowed N (length img) ≡ true

pub size-of : {N : ℕ} {s : ℕ} {img : List ℕ} → Sized N s img → size_of N img ≡ s
size-of z = z.size

-- what an allowed length is
pub record AllowedAs (N n : ℕ) : Type 0 where
  pub count : is_count N ≡ true
  pub few : 2 ≤ N
  pub most : N ≤ max_blocks
  pub short : n ≤ 65536
  pub all : N * size_in N n ≡ n
  pub multiple : size_in N n % 128 ≡ 0
  pub low : 256 ≤ size_in N n

pub allowed_tests : (N n : ℕ) → allowed N n ≡ true → AllowedAs N n
unfolding allowed
allowed_tests N n t =
    let s : ℕ = size_in N n in
    let e : Bool = eqb (s % 128) 0 && leb 256 s in
    let d : Bool = eqb (N * s) n && e in
    let c : Bool = leb n 65536 && d in
    let tc : c ≡ true = and_right (is_count N) c t in
    let td : d ≡ true = and_right (leb n 65536) d tc in
    let te : e ≡ true = and_right (eqb (N * s) n) e td in
    let k : is_count N ≡ true = and_left (is_count N) c t in
    record {
      count = k;
      few = leb-true 2 N (and_left (leb 2 N) (leb N max_blocks) k);
      most = leb-true N max_blocks (and_right (leb 2 N) (leb N max_blocks) k);
      short = leb-true n 65536 (and_left (leb n 65536) d tc);
      all = eqb-true (N * s) n (and_left (eqb (N * s) n) e td);
      multiple = eqb-true (s % 128) 0 (and_left (eqb (s % 128) 0) (leb 256 s) te);
      low = leb-true 256 s (and_right (eqb (s % 128) 0) (leb 256 s) te);
    }

pub allowed-from : (N n s : ℕ) → 2 ≤ N → N ≤ max_blocks → n ≤ 65536 → n ≡ N * s → s % 128 ≡ 0 → 256 ≤ s → allowed N n ≡ true
unfolding allowed
allowed-from N n s few most short whole multiple low =
    let z : ℕ = size_in N n in
    let q : z ≡ s = ap (size_in N) whole ∙ size_is N s (omega arith) in
    let e : Bool = eqb (z % 128) 0 && leb 256 z in
    and_both (is_count N) (leb n 65536 && (eqb (N * z) n && e)) (and_both (leb 2 N) (leb N max_blocks) (le-leb 2 N few) (le-leb N max_blocks most))
    (and_both (leb n 65536) (eqb (N * z) n && e) (le-leb n 65536 short)
    (and_both (eqb (N * z) n) e (eq-eqb (N * z) n (ap (λ (k : ℕ). N * k) q ∙ sym whole))
    (and_both (eqb (z % 128) 0) (leb 256 z) (eq-eqb (z % 128) 0 (ap (λ (k : ℕ). k % 128) q ∙ multiple)) (le-leb 256 z (omega arith)))))

pub sized_of : (N : ℕ) (img : List ℕ) → allowed N (length img) ≡ true → Sized N (size_of N img) img
sized_of N img t =
    let y : AllowedAs N (length img) = allowed_tests N (length img) t in
    record {
      count = y.count;
      few = y.few;
      most = y.most;
      all = sym y.all;
      short = y.short;
      low = y.low;
      high = omega (arith, size-half N (length img) y.few, y.short);
      size = refl;
      ok = t;
    }

pub sized-as : {N : ℕ} {s : ℕ} {img : List ℕ} (after : List ℕ) → length after ≡ length img → Sized N s img → Sized N s after
sized-as {N} {s} after e z =
    record {
      count = z.count;
      few = z.few;
      most = z.most;
      all = e ∙ z.all;
      short = subst (λ (n : ℕ). n ≤ 65536) (sym e) z.short;
      low = z.low;
      high = z.high;
      size = ap (size_in N) e ∙ z.size;
      ok = ap (allowed N) e ∙ z.ok;
    }

pub sized-block : {N : ℕ} {s : ℕ} {img : List ℕ} (k : ℕ) → Sized N s img → k < N → k * s + s ≤ length img
sized-block {N} {s} {img} k z h = in_image s N k img z.all h

-- some bytes
pub sized-last : {N : ℕ} {s : ℕ} {img : List ℕ} → Sized N s img → length img ≡ suc (length img - 1)
sized-last z = omega (arith, sized-block 0 z (omega (arith, z.few)), z.low)

-- ---- lists of steps

pub bytes-all-steps : (s : ℕ) (xs : List Step) (img : List ℕ) → Bytes img → Bytes (apply_all s xs img)
unfolding apply_all
bytes-all-steps s [] img b = b
bytes-all-steps s (x ∷ xs) img b = bytes-all-steps s xs (apply s x img) (bytes-apply s x img b)

pub block_writes : (s k : ℕ) (ws : List Write) (img : List ℕ) → Below s ws → block s k (apply_all s (on_block k ws) img) ≡ write_all (block s k img) ws
unfolding apply_all write_all
block_writes s k [] img b = refl
block_writes s k (w ∷ ws) img (h, b) =
    block_writes s k ws (program_at img (k * s + w.at) w.byte) b ∙ ap (λ (l : List ℕ). write_all l ws) (block-program s k w.at w.byte img h)

pub other-writes : (s j k : ℕ) (ws : List Write) (img : List ℕ) → (j ≡ k → ⊥) → Below s ws → block s j (apply_all s (on_block k ws) img) ≡ block s j img
unfolding apply_all
other-writes s j k [] img n b = refl
other-writes s j k (w ∷ ws) img n (h, b) =
    other-writes s j k ws (program_at img (k * s + w.at) w.byte) n b ∙ other-program s j k w.at w.byte img n h
