-- Laws of blank lists, of lists that are the same, and of lists of bytes.
use mathlib.Core.Path.{◌≡◌, refl, ap, ap₂, ◌∙◌}
use mathlib.Core.List.{List, [], ◌∷◌, ◌++◌}
use mathlib.Core.Bool.{true, false, false≢true}
use Prim.Native.Nat.{ℕ, zero, suc, ◌/◌, ◌%◌, ◌<◌}
use native.Mathlib.Omega.{arith}
use lib.Dec.{eqb}
use lib.ListN.{length, get_or, take, drop, set, replicate}
use borrow.Author.Tests.{eqb-true, eq-eqb, ne_eqb}
use Rattle.flash.specs.Bytes.{Bytes, u32le, le16, le32, all_ff, same_bytes_of}
use Rattle.flash.proofs.Cases.{on_test}

-- ---- blank

pub all_ff-no : (b : ℕ) (t : List ℕ) → (b ≡ 255 → ⊥) → all_ff (b ∷ t) ≡ false
unfolding all_ff
all_ff-no b t h = rw (ne_eqb b 255 h, all_ff)

pub all_ff-all : (m : ℕ) → all_ff (replicate m 255) ≡ true
unfolding all_ff
all_ff-all zero = refl
all_ff-all (suc m) = all_ff-all m

pub all_ff_lem : (l : List ℕ) → all_ff l ≡ true → l ≡ replicate (length l) 255
unfolding all_ff
all_ff_lem [] e = refl
all_ff_lem (b ∷ l) e =
    on_test (eqb b 255)
    (λ t. let r : all_ff l ≡ true = rw (t, all_ff) at e in ap₂ (λ (x : ℕ) (y : List ℕ). x ∷ y) (eqb-true b 255 t) (all_ff_lem l r))
    (λ t. let r : false ≡ true = rw (t, all_ff) at e in absurd (false≢true r))

pub is_ff : (l : List ℕ) → l ≡ replicate (length l) 255 → all_ff l ≡ true
is_ff l e = ap all_ff e ∙ all_ff-all (length l)

-- one other byte is enough
pub all_ff-at : (l : List ℕ) (i : ℕ) → i < length l → (get_or l i 0 ≡ 255 → ⊥) → all_ff l ≡ false
unfolding all_ff
all_ff-at [] i h n = absurd (omega arith)
all_ff-at (b ∷ l) zero h n = all_ff-no b l n
all_ff-at (b ∷ l) (suc i) h n = on_test (eqb b 255) (λ e. rw (e, all_ff) (all_ff-at l i (omega arith) n)) (λ e. rw (e, all_ff))

-- ---- the same

pub same_refl : (l : List ℕ) → same_bytes_of l l ≡ true
unfolding same_bytes_of
same_refl [] = refl
same_refl (b ∷ l) = rw (eq-eqb b b refl, same_bytes_of) (same_refl l)

pub same-is : (a b : List ℕ) → same_bytes_of a b ≡ true → a ≡ b
unfolding same_bytes_of
same-is [] [] e = refl
same-is [] (y ∷ b) e = absurd (false≢true e)
same-is (x ∷ a) [] e = absurd (false≢true e)
same-is (x ∷ a) (y ∷ b) e =
    on_test (eqb x y)
    (λ t. let r : same_bytes_of a b ≡ true = rw (t, same_bytes_of) at e in ap₂ (λ (u : ℕ) (v : List ℕ). u ∷ v) (eqb-true x y t) (same-is a b r))
    (λ t. let r : false ≡ true = rw (t, same_bytes_of) at e in absurd (false≢true r))

-- ---- bytes

pub bytes-append : (a b : List ℕ) → Bytes a → Bytes b → Bytes (a ++ b)
bytes-append [] b h k = k
bytes-append (x ∷ a) b (p, h) k = (p, bytes-append a b h k)

pub bytes_right : (a b : List ℕ) → Bytes (a ++ b) → Bytes b
bytes_right [] b h = h
bytes_right (x ∷ a) b (p, h) = bytes_right a b h

pub bytes_drop : (n : ℕ) (l : List ℕ) → Bytes l → Bytes (drop n l)
bytes_drop zero l h = h
bytes_drop (suc n) [] h = tt
bytes_drop (suc n) (x ∷ l) (p, h) = bytes_drop n l h

pub bytes_take : (n : ℕ) (l : List ℕ) → Bytes l → Bytes (take n l)
bytes_take zero l h = tt
bytes_take (suc n) [] h = tt
bytes_take (suc n) (x ∷ l) (p, h) = (p, bytes_take n l h)

pub bytes-replicate : (n : ℕ) → Bytes (replicate n 255)
bytes-replicate zero = tt
bytes-replicate (suc n) = (omega arith, bytes-replicate n)

pub bytes-set : (l : List ℕ) (i b : ℕ) → b < 256 → Bytes l → Bytes (set l i b)
bytes-set [] i b h r = tt
bytes-set (x ∷ l) zero b h (p, r) = (h, r)
bytes-set (x ∷ l) (suc i) b h (p, r) = (p, bytes-set l i b h r)

pub byte_at : (l : List ℕ) (i : ℕ) → Bytes l → get_or l i 0 < 256
byte_at [] i h = omega arith
byte_at (b ∷ l) zero (h, r) = h
byte_at (b ∷ l) (suc i) (h, r) = byte_at l i r

pub bytes_u32 : (x : ℕ) → x < 4294967296 → Bytes (u32le x)
bytes_u32 x h = (omega arith, (omega arith, (omega arith, (omega arith, tt))))

-- a number's bytes are the number
pub le16_u16 : (x : ℕ) → le16 (x % 256) (x / 256) ≡ x
le16_u16 x = omega arith

pub le32_u32 : (x : ℕ) → le32 (x % 256) (x / 256 % 256) (x / 65536 % 256) (x / 16777216) ≡ x
le32_u32 x = omega arith

pub le32-small : (a b c d : ℕ) → a < 256 → b < 256 → c < 256 → d < 256 → le32 a b c d < 4294967296
le32-small a b c d h k l m = omega arith

-- a slice's elements are bytes
pub bytes_of : (t : List ℕ) → ((i : ℕ) → get_or t i 0 < 256) → Bytes t
bytes_of [] h = tt
bytes_of (b ∷ t) h = (h 0, bytes_of t (λ i. h (suc i)))
