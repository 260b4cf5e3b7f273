-- An erase that is cut: laws of raised bytes, and what becomes of each block of the image.
use mathlib.Core.Path.{◌≡◌, refl, sym, ap, ap₂, subst₂, ◌∙◌}
use mathlib.Core.List.{List, [], ◌∷◌, ◌++◌, append_assoc}
use mathlib.Core.Bool.{Bool, true, false, ◌&&◌, false≢true}
use mathlib.Core.Logic.{◌⊎◌, inl, inr}
use Prim.Native.Nat.{ℕ, zero, suc, ◌+◌, ◌*◌, ◌/◌, ◌%◌, ◌^◌, ◌≤◌, ◌<◌}
use native.Mathlib.Omega.{arith}
use native.Mathlib.Nat.{min-eq_right, le_trans, pow-succ', div-div-eq-div-mul}
use lib.Arith.{bin_ind}
use lib.Dec.{eqb, ltb}
use borrow.Author.Tests.{eqb-true, ltb-true}
use lib.Bits.{bit_and, and_step, and_le_l, and_shr, and_mod, and_zero_r}
use lib.ListN.{length, get_or, take, drop, replicate, take-append-drop, get_or-replicate, get_or-eq_default}
use lib.ListN.{length-append, length-take, length-drop, length-replicate}
use lib.Seq.{ext_get_or, take_at, drop_at, drop-drop, length-take-le, get_or-take, get_or-drop}
use Rattle.flash.specs.Bytes.{Bytes}
use Rattle.flash.specs.Flash.{Step, program, erase, block, with_block, erase_block, apply}
use Rattle.flash.specs.Raised.{Raised, RaisedLaws}
use Rattle.flash.proofs.Cases.{on-order, and_left, and_right}
use Rattle.flash.proofs.Blank.{bytes-append, bytes_take, bytes_drop, bytes-replicate, byte_at}
use Rattle.flash.proofs.Programming.{and_ff, only-clears}
use Rattle.flash.proofs.Image.{length-block, other-kept, clears, block-erase, other-erase}

-- ---- bit by bit

-- bit j of the one is not above bit j of the other
abbrev Up : ℕ → ℕ → Type 0
Up n m = (j : ℕ) → n / 2 ^ j % 2 ≤ m / 2 ^ j % 2

bits_up : (n m : ℕ) → bit_and m n ≡ n → Up n m
bits_up n m e j =
    let p : ℕ = m / 2 ^ j in
    let q : ℕ = n / 2 ^ j in
    let f : q ≡ bit_and p q = ap (λ (x : ℕ). x / 2 ^ j) (sym e) ∙ and_shr m n j in
    omega (arith, ap (λ (x : ℕ). x % 2) f, and_mod p q 1, and_le_l (p % 2) (q % 2))

half-bit : (n j : ℕ) → n / 2 / 2 ^ j ≡ n / 2 ^ suc j
half-bit n j = div-div-eq-div-mul n 2 (2 ^ j) ∙ ap (λ (x : ℕ). n / x) (sym (pow-succ' 2 j))

up-bits : (n m : ℕ) → Up n m → bit_and m n ≡ n
up-bits =
    bin_ind (λ (n : ℕ). (m : ℕ) → Up n m → bit_and m n ≡ n) (λ m u. and_zero_r m)
    (λ n ih m u.
    let rest : bit_and (m / 2) (n / 2) ≡ n / 2 =
    ih (m / 2) (λ j. subst₂ (λ (x y : ℕ). x % 2 ≤ y % 2) (sym (half-bit n j)) (sym (half-bit m j)) (u (suc j))) in
    let low : n % 2 ≤ m % 2 = omega (arith, u 0) in
    and_step m n ∙ ap₂ (λ (x y : ℕ). x * 2 + y) rest (min-eq_right low) ∙ omega arith)

-- a byte that has every 1 of another is not smaller
pub byte-up : (a b : List ℕ) (i : ℕ) → Raised a b → get_or a i 0 ≤ get_or b i 0
byte-up a b i x = omega (arith, x.bits i, and_le_l (get_or b i 0) (get_or a i 0))

-- and keeps one of the two low bits
pub low_bits : (a b : List ℕ) (i : ℕ) → Raised a b → 0 < get_or a i 0 % 4 → 0 < get_or b i 0 % 4
low_bits a b i x h =
    let u : Up (get_or a i 0) (get_or b i 0) = bits_up (get_or a i 0) (get_or b i 0) (x.bits i) in
    let low : get_or a i 0 % 2 ≤ get_or b i 0 % 2 = omega (arith, u 0) in
    let next : get_or a i 0 / 2 % 2 ≤ get_or b i 0 / 2 % 2 = u 1 in
    omega arith

-- ---- the laws

untouched : (b : List ℕ) → Bytes b → Raised b b
untouched b y = record { long = refl; bytes = y; bits = λ i. up-bits (get_or b i 0) (get_or b i 0) (λ j. omega arith) }

erased : (b : List ℕ) → Bytes b → Raised b (replicate (length b) 255)
erased b y =
    record {
      long = length-replicate (length b) 255;
      bytes = bytes-replicate (length b);
      bits = λ i.
          on-order i (length b)
          (λ e h. ap (λ (x : ℕ). bit_and x (get_or b i 0)) (get_or-replicate (length b) i 255 0 h) ∙ and_ff (get_or b i 0) (byte_at b i y))
          (λ e h. past i (omega arith))
          (λ e h. past i (omega arith));
    }
  where
    past : (i : ℕ) → length b ≤ i → bit_and (get_or (replicate (length b) 255) i 0) (get_or b i 0) ≡ get_or b i 0
    past i h =
        let e : get_or b i 0 ≡ 0 = get_or-eq_default b 0 h in
        ap (bit_and (get_or (replicate (length b) 255) i 0)) e ∙ and_zero_r (get_or (replicate (length b) 255) i 0) ∙ sym e

pub raised-again : (a b c : List ℕ) → Raised a b → Raised b c → Raised a c
raised-again a b c x y =
    record {
      long = y.long ∙ x.long;
      bytes = y.bytes;
      bits = λ i.
          up-bits (get_or a i 0) (get_or c i 0)
          (λ j. le_trans (bits_up (get_or a i 0) (get_or b i 0) (x.bits i) j) (bits_up (get_or b i 0) (get_or c i 0) (y.bits i) j));
    }

pub raised-blank : (n : ℕ) (b : List ℕ) → Raised (replicate n 255) b → b ≡ replicate n 255
raised-blank n b x =
    ext_get_or 0 b (replicate n 255) x.long
    (λ i h.
    let ff : List ℕ = replicate n 255 in
    let e : get_or ff i 0 ≡ 255 = get_or-replicate n i 255 0 (omega (arith, x.long, length-replicate {A = ℕ} n 255)) in
    let top : get_or b i 0 ≡ 255 = omega (arith, byte-up ff b i x, byte_at b i x.bytes) in
    top ∙ sym e)

from_zeros : (b : List ℕ) → Bytes b → Raised (replicate (length b) 0) b
from_zeros b y =
    record {
      long = sym (length-replicate (length b) 0);
      bytes = y;
      bits = λ i. ap (bit_and (get_or b i 0)) (none i) ∙ and_zero_r (get_or b i 0) ∙ sym (none i);
    }
  where
    zeros : List ℕ
    zeros = replicate (length b) 0

    past : (i : ℕ) → length b ≤ i → get_or zeros i 0 ≡ 0
    past i h = get_or-eq_default zeros 0 (omega (arith, length-replicate {A = ℕ} (length b) 0))

    none : (i : ℕ) → get_or zeros i 0 ≡ 0
    none i = on-order i (length b) (λ e h. get_or-replicate (length b) i 0 0 h) (λ e h. past i (omega arith)) (λ e h. past i (omega arith))

-- two lists of numbers, tested
abbrev pub raises : List ℕ → List ℕ → Bool
raises [] [] = true
raises [] (y ∷ ys) = false
raises (x ∷ xs) [] = false
raises (x ∷ xs) (y ∷ ys) = ltb y 256 && (eqb (bit_and y x) x && raises xs ys)

pub raises-raised : (a b : List ℕ) → raises a b ≡ true → Raised a b
raises-raised [] [] e = untouched [] tt
raises-raised [] (y ∷ ys) e = absurd (false≢true e)
raises-raised (x ∷ xs) [] e = absurd (false≢true e)
raises-raised (x ∷ xs) (y ∷ ys) e =
    let f : (eqb (bit_and y x) x && raises xs ys) ≡ true = and_right (ltb y 256) (eqb (bit_and y x) x && raises xs ys) e in
    let r : Raised xs ys = raises-raised xs ys (and_right (eqb (bit_and y x) x) (raises xs ys) f) in
    record {
      long = ap suc r.long;
      bytes = (ltb-true y 256 (and_left (ltb y 256) (eqb (bit_and y x) x && raises xs ys) e), r.bytes);
      bits = λ i. at i r (eqb-true (bit_and y x) x (and_left (eqb (bit_and y x) x) (raises xs ys) f));
    }
  where
    at : (i : ℕ) → Raised xs ys → bit_and y x ≡ x → bit_and (get_or (y ∷ ys) i 0) (get_or (x ∷ xs) i 0) ≡ get_or (x ∷ xs) i 0
    at zero r g = g
    at (suc i) r g = r.bits i

pub raised_laws : RaisedLaws
raised_laws =
    record {
      each_bit = λ a b l y. (
        λ x i. bits_up (get_or a i 0) (get_or b i 0) (x.bits i),
        λ u. record { long = l; bytes = y; bits = λ i. up-bits (get_or a i 0) (get_or b i 0) (u i) },
      );
      untouched = untouched;
      erased = erased;
      again = raised-again;
      from_zeros = from_zeros;
      stays_blank = raised-blank;
      not_smaller = λ a b i x. omega (arith, byte-up a b i x, byte-up a b (i + 1) x, byte-up a b (i + 2) x, byte-up a b (i + 3) x);
    }

-- ---- a block with other bytes

module _ (s k : ℕ) (new img : List ℕ) (h : k * s + s ≤ length img) (l : length new ≡ s) where
  front : length (take (k * s) img) ≡ k * s
  front = length-take-le (k * s) img (omega arith)

  pub block_with : block s k (with_block s k new img) ≡ new
  block_with = ap (take s) (drop_at (take (k * s) img) (new ++ drop (k * s + s) img) (k * s) front) ∙ take_at new (drop (k * s + s) img) s l

  pub length_with : length (with_block s k new img) ≡ length img
  length_with = simp (length-append, length-take, length-drop) (omega arith)

  pub other_with : (j : ℕ) → (j ≡ k → ⊥) → block s j (with_block s k new img) ≡ block s j img
  other_with j n =
      other-kept s j k img (with_block s k new img) n (take_at (take (k * s) img) (new ++ drop (k * s + s) img) (k * s) front)
      (ap (drop (k * s + s)) (sym (append_assoc (take (k * s) img) new (drop (k * s + s) img)))
      ∙ drop_at (take (k * s) img ++ new) (drop (k * s + s) img) (k * s + s) (length-append (take (k * s) img) new ∙ omega (arith, front)))

pub bytes_with_lem : (s k : ℕ) (new img : List ℕ) → Bytes new → Bytes img → Bytes (with_block s k new img)
bytes_with_lem s k new img b y =
    bytes-append (take (k * s) img) (new ++ drop (k * s + s) img) (bytes_take (k * s) img y)
    (bytes-append new (drop (k * s + s) img) b (bytes_drop (k * s + s) img y))

-- with its own nothing changes
pub with_same : (s k : ℕ) (img : List ℕ) → with_block s k (block s k img) img ≡ img
with_same s k img =
    ap (λ (l : List ℕ). take (k * s) img ++ l)
    (ap (λ (l : List ℕ). block s k img ++ l) (sym (drop-drop s (k * s) img)) ∙ take-append-drop s (drop (k * s) img))
    ∙ take-append-drop (k * s) img

-- ---- a step that does what an erase would do is that erase, or finds the block blank

module _ (s k : ℕ) (img : List ℕ) (y : Bytes img) (h : k * s + s ≤ length img) where
  all_ones : ((i : ℕ) → i < s → get_or (block s k img) i 0 ≡ 255) → block s k img ≡ replicate s 255
  all_ones f =
      let l : length (block s k img) ≡ s = length-block s k img h in
      ext_get_or 0 (block s k img) (replicate s 255) (l ∙ sym (length-replicate s 255))
      (λ i g. f i (omega arith) ∙ sym (get_or-replicate s i 255 0 (omega arith)))

  in_block : (l : List ℕ) (i : ℕ) → i < s → get_or (block s k l) i 0 ≡ get_or l (k * s + i) 0
  in_block l i g = get_or-take s (drop (k * s) l) i 0 g ∙ get_or-drop (k * s) l i 0

  pub as_erase : (x : Step) → apply s x img ≡ erase_block s k img → (x ≡ erase k) ⊎ (block s k img ≡ replicate s 255)
  as_erase (erase j) e =
      on-order j k (λ _ g. inr (blank (λ q. omega arith))) (λ _ g. inl (ap erase g)) (λ _ g. inr (blank (λ q. omega arith)))
    where
      blank : (k ≡ j → ⊥) → block s k img ≡ replicate s 255
      blank n = sym (other-erase s k j img n) ∙ ap (block s k) e ∙ block-erase s k img h
  as_erase (program j o v) e = inr (all_ones (λ i g. in_block img i g ∙ was i g (clears img (j * s + o) v (k * s + i))))
    where
      now : (i : ℕ) → i < s → get_or (apply s (program j o v) img) (k * s + i) 0 ≡ 255
      now i g =
          ap (λ (l : List ℕ). get_or l (k * s + i) 0) e ∙ sym (in_block (erase_block s k img) i g)
          ∙ ap (λ (l : List ℕ). get_or l i 0) (block-erase s k img h) ∙ get_or-replicate s i 255 0 g

      was : (i : ℕ) → i < s
          → (get_or (apply s (program j o v) img) (k * s + i) 0 ≡ get_or img (k * s + i) 0)
          ⊎ (get_or (apply s (program j o v) img) (k * s + i) 0 ≡ bit_and (get_or img (k * s + i) 0) v)
          → get_or img (k * s + i) 0 ≡ 255
      was i g (inl f) = sym f ∙ now i g
      was i g (inr f) =
          omega (arith, now i g, only-clears (get_or img (k * s + i) 0) v, byte_at img (k * s + i) y)
