-- A CRC byte by byte: what one more byte, two more, and the end of the bytes mean.
use mathlib.Core.Path.{◌≡◌, refl, sym, ap, ◌∙◌}
use mathlib.Core.List.{List, [], ◌∷◌, ◌++◌}
use Prim.Native.Nat.{ℕ, zero, suc, ◌+◌, ◌-◌, ◌%◌, ◌<◌, ◌≤◌}
use native.Mathlib.Nat.{not-suc-le-zero, le_of_suc-le-suc, mod-eq_of_lt, suc-add}
use native.Mathlib.Omega.{arith}
use lib.Bits.{bit_xor, and_mask}
use lib.ListN.{length, get_or, drop}
use Rattle.std.specs.Int.Bits.{xor_add_and}
use Rattle.crc.specs.Crc.{shifted32, crc32_from}

pub next32 : (l : List ℕ) (c i : ℕ) → i < length l → crc32_from c (drop i l) ≡ crc32_from (shifted32 (bit_xor c (get_or l i 0))) (drop (i + 1) l)
unfolding crc32_from
next32 [] c i h = absurd (not-suc-le-zero h)
next32 (b ∷ l) c zero h = refl
next32 (b ∷ l) c (suc i) h =
    next32 l c i (le_of_suc-le-suc h) ∙ ap (λ (j : ℕ). crc32_from (shifted32 (bit_xor c (get_or l i 0))) (drop j (b ∷ l))) (sym (suc-add i 1))

pub end32 : (l : List ℕ) (c i : ℕ) → length l ≤ i → crc32_from c (drop i l) ≡ c
unfolding crc32_from
end32 [] c zero h = refl
end32 [] c (suc i) h = refl
end32 (b ∷ l) c zero h = absurd (not-suc-le-zero h)
end32 (b ∷ l) c (suc i) h = end32 l c i (le_of_suc-le-suc h)

pub pair32 : (c : ℕ) (pair after : List ℕ) → length pair ≡ 2
    → crc32_from c (pair ++ after) ≡ crc32_from (shifted32 (bit_xor (shifted32 (bit_xor c (get_or pair 0 0))) (get_or pair 1 0))) after
unfolding crc32_from
pair32 c [] after h = absurd (omega arith)
pair32 c (a ∷ []) after h = absurd (omega arith)
pair32 c (a ∷ (b ∷ [])) after h = refl
pair32 c (a ∷ (b ∷ (x ∷ l))) after h = absurd (omega arith)

-- the byte that no pair has
abbrev pub odd_byte : List ℕ → List ℕ
odd_byte l = drop (length l - length l % 2) l

pub odd-pair : (pair after : List ℕ) → length pair ≡ 2 → odd_byte (pair ++ after) ≡ odd_byte after
odd-pair [] after h = absurd (omega arith)
odd-pair (a ∷ []) after h = absurd (omega arith)
odd-pair (a ∷ (b ∷ [])) after h =
    let even : suc (suc (length after)) - suc (suc (length after)) % 2 ≡ suc (suc (length after - length after % 2)) = omega arith in
    ap (λ (n : ℕ). drop n (a ∷ (b ∷ after))) even
odd-pair (a ∷ (b ∷ (x ∷ l))) after h = absurd (omega arith)

pub odd-end : (l : List ℕ) → length l < 2 → odd_byte l ≡ l
odd-end l h = let none : length l - length l % 2 ≡ 0 = omega arith in ap (λ (n : ℕ). drop n l) none

-- inverted
pub inverted : (c : ℕ) → c < 4294967296 → 4294967295 - c ≡ bit_xor c 4294967295
inverted c h = omega (arith, xor_add_and c 4294967295, and_mask c 32, mod-eq_of_lt h)
