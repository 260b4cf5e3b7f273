-- Stores: a frame that is put together in a buffer.
use mathlib.Core.Path.{◌≡◌, refl, sym, ap, ap₂, ◌∙◌}
use mathlib.Core.List.{List, [], ◌∷◌, ◌++◌, append_assoc}
use Prim.Native.Nat.{ℕ, zero, suc, ◌+◌, ◌-◌, ◌/◌, ◌%◌, ◌≤◌, ◌<◌}
use native.Mathlib.Omega.{arith}
use native.Mathlib.Numerals.{add-one}
use borrow.Rule.Slice.PartMut.{put_mid}
use lib.ListN.{length, get_or, take, drop, set, replicate, length-append, length-take}
use lib.Seq.{drop-cons, take-suc, take_at, drop_at, set_at, drop-drop, drop-append-add, length-take-le}
use Rattle.std.specs.Int.{w32, to_le_bytes}
use Rattle.flash.specs.Bytes.{u16le, u32le}
use Rattle.crc.specs.Crc.{crc32_of}
use Rattle.frame.specs.declared.Edition.{Edition}
use Rattle.frame.specs.declared.Edition.TheVariants as edition
use Rattle.frame.specs.Frame.{check_len, finish, sealed}
use Rattle.frame.proofs.Encode.{length-sealed}

-- a byte more of a copy: for wire
pub copy_more : (s d : List ℕ) (i : ℕ) → i < length s → i < length d → set (take i s ++ drop i d) i (get_or s i 0) ≡ take (i + 1) s ++ drop (i + 1) d
copy_more s d i l m =
    rw (drop-cons d i 0 m, set_at {A = ℕ} _ _ _ (get_or s i 0) i (length-take-le i s (omega arith)), add-one, take-suc s i 0 l)
    (simp append_assoc)

-- a seal put after the first m bytes of a buffer
abbrev pub seal_at : Edition → ℕ → List ℕ → List ℕ
seal_at e m f = sealed e (take m f) ++ drop (m + check_len e + 1) f

pub drop-replicate : (a n m : ℕ) → drop {A = ℕ} n (replicate m a) ≡ replicate (m - n) a
drop-replicate a zero m = let e : m - 0 ≡ m = omega arith in rw e
drop-replicate a (suc n) zero = let e : 0 - suc n ≡ 0 = omega arith in rw e
drop-replicate a (suc n) (suc m) = let e : suc m - suc n ≡ m - n = omega arith in rw e (drop-replicate a n m)

-- a front p, then a value v stored into m zeros: f is the list after the first store, g the one after the second
module _ (p v f g : List ℕ) (m : ℕ) (l : length p + length v < m)
    (hf : f ≡ p ++ drop (length p) (replicate m 0)) (hg : g ≡ put_mid (length p) (length v) f v) where
  zeros : List ℕ
  zeros = replicate (m - length p) 0

  front_is : f ≡ p ++ zeros
  unfolding zeros
  front_is = hf ∙ ap (λ (x : List ℕ). p ++ x) (drop-replicate 0 (length p) m)

  joined : g ≡ (p ++ v) ++ replicate (m - (length p + length v)) 0
  unfolding zeros
  joined =
      let e : m - length p - length v ≡ m - (length p + length v) = omega arith in
      let z : List ℕ = replicate (m - (length p + length v)) 0 in
      hg
      ∙ ap₂ (λ (x y : List ℕ). x ++ (v ++ drop (length v) y))
      (ap (take (length p)) front_is ∙ take_at p zeros (length p) refl) (ap (drop (length p)) front_is ∙ drop_at p zeros (length p) refl)
      ∙ ap (λ (x : List ℕ). p ++ (v ++ x)) {y = z} (drop-replicate 0 (length v) (m - length p) ∙ ap (λ (n : ℕ). replicate n 0) e)
      ∙ sym (append_assoc p v z)

  -- and the seal after them
  pub assembled : (e : Edition) → seal_at e (length p + length v) g ≡ sealed e (p ++ v) ++ replicate (m - length (sealed e (p ++ v))) 0
  assembled e =
      let x : List ℕ = p ++ v in
      let k : ℕ = length p + length v in
      let z : List ℕ = replicate (m - k) 0 in
      let lx : length x ≡ k = length-append p v in
      let r : length (sealed e x) ≡ k + check_len e + 1 = length-sealed e x ∙ omega arith in
      let n1 : k + check_len e + 1 ≡ length x + (check_len e + 1) = omega arith in
      let n2 : m - k - (check_len e + 1) ≡ m - length (sealed e x) = omega (arith, r) in
      ap (seal_at e k) joined
      ∙ ap₂ (λ (y w : List ℕ). sealed e y ++ w) (take_at x z k lx)
      (ap (λ (n : ℕ). drop n (x ++ z)) n1
      ∙ drop-append-add x z (check_len e + 1)
      ∙ drop-replicate 0 (check_len e + 1) (m - k)
      ∙ ap (λ (n : ℕ). replicate n 0) n2)

-- the same at the places that the code has
pub assembled_at : (e : Edition) (p v f s : List ℕ) (m a z : ℕ) → length p ≡ a → a + length v ≡ z → z < m
    → f ≡ p ++ drop (length p) (replicate m 0) → s ≡ v
    → seal_at e z (put_mid a (z - a) f s) ≡ sealed e (p ++ v) ++ replicate (m - length (sealed e (p ++ v))) 0
assembled_at e p v f s m a z qa qz h hf hs =
    let q : length p + length v ≡ z = omega arith in
    let r : z - a ≡ length v = omega arith in
    ap₂ (λ (x : ℕ) (y : List ℕ). seal_at e z (put_mid x (z - x) f y)) (sym qa) hs
    ∙ ap₂ (λ (x y : ℕ). seal_at e x (put_mid (length p) y f v)) (sym q) (ap (λ (x : ℕ). z - x) qa ∙ r)
    ∙ assembled p v f (put_mid (length p) (length v) f v) m (omega arith) hf refl e

-- a front that is worked out
pub front_bytes : (n k : ℕ) (b : List ℕ) → n < 256 → k < 256 → n ∷ 0 ∷ k ∷ 0 ∷ b ≡ u16le n ++ (u16le k ++ b)
front_bytes n k b h l =
    let q1 : n % 256 ≡ n = omega arith in
    let q2 : n / 256 ≡ 0 = omega arith in
    let q3 : k % 256 ≡ k = omega arith in
    let q4 : k / 256 ≡ 0 = omega arith in
    simp (q1, q2, q3, q4)

pub front_short : (n : ℕ) (x : List ℕ) → length (take n x) ≤ n
front_short n x = simp length-take (omega arith)

-- std's bytes of a number
pub four_bytes : (n : ℕ) → n < 4294967296 → to_le_bytes w32 n ≡ u32le n
four_bytes n h = let q : n / 16777216 % 256 ≡ n / 16777216 = omega arith in rw q

-- ---- the seal's bytes, one store each

-- the check's bytes in one store, the finish byte in another
pub sealed-second : (f s : List ℕ) (m k c : ℕ) → k ≡ 4 → s ≡ u32le c → c ≡ crc32_of (take m f) → m + 4 < length f
    → set (put_mid m k f s) (m + 4) finish ≡ seal_at edition.Second m f
sealed-second f s m k c z q r h =
    let x : List ℕ = take m f in
    let lx : length x ≡ m = length-take-le m f (omega arith) in
    let ly : length (x ++ u32le c) ≡ m + 4 = length-append x (u32le c) ∙ omega (arith, lx) in
    let e : suc (m + 4) ≡ m + 4 + 1 = omega arith in
    ap₂ (λ (i : ℕ) (y : List ℕ). set (x ++ (y ++ drop i (drop m f))) (m + 4) finish) z q
    ∙ ap (λ (y : List ℕ). set (x ++ (u32le c ++ y)) (m + 4) finish) (drop-drop 4 m f ∙ drop-cons f (m + 4) 0 h)
    ∙ ap (λ (y : List ℕ). set y (m + 4) finish) (sym (append_assoc x (u32le c) (get_or f (m + 4) 0 ∷ drop (suc (m + 4)) f)))
    ∙ set_at (x ++ u32le c) (get_or f (m + 4) 0) (drop (suc (m + 4)) f) finish (m + 4) ly
    ∙ append_assoc x (u32le c) (finish ∷ drop (suc (m + 4)) f)
    ∙ ap₂ (λ (i n : ℕ). x ++ (u32le i ++ (finish ∷ drop n f))) r e
    ∙ sym (append_assoc x (u32le (crc32_of x) ++ (finish ∷ [])) (drop (m + 4 + 1) f))
