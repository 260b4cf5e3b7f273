-- A head, a plan and a cursor, laid field by field over zeros.
use mathlib.Core.Path.{◌≡◌, refl, ap}
use mathlib.Core.List.{List, [], ◌∷◌, ◌++◌}
use Prim.Native.Nat.{ℕ, ◌/◌, ◌%◌, ◌<◌}
use native.Mathlib.Omega.{arith}
use lib.ListN.{length, set, replicate}
use mathlib.Core.Bool.{Bool, true, false}
use Rattle.std.specs.Int.{w16, w32, to_le_bytes, from_bool}
use Rattle.flash.specs.Bytes.{u16le, u32le}
use Rattle.wire.specs.Code.{overlay}
use Rattle.board.specs.declared.Rest.{Rest}
use Rattle.board.specs.declared.Job.{Job}
use Rattle.board.specs.declared.Cursor.{Cursor}
use Rattle.lent.specs.Layout.{word_bytes, flag_byte, rest_bytes, plan_bytes, cursor_bytes}
use Rattle.pack.specs.Code.{laid_at}

-- the bytes of a number that fits, and a flag's
pub word_le : (n : ℕ) → n < 65536 → to_le_bytes w16 n ≡ u16le n
word_le n h = let e : n / 256 % 256 ≡ n / 256 = omega (arith, h) in ap (λ (k : ℕ). n % 256 ∷ k ∷ []) e

pub number_le : (n : ℕ) → n < 4294967296 → to_le_bytes w32 n ≡ u32le n
number_le n h =
    let e : n / 16777216 % 256 ≡ n / 16777216 = omega (arith, h) in
    ap (λ (k : ℕ). n % 256 ∷ n / 256 % 256 ∷ n / 65536 % 256 ∷ k ∷ []) e

pub flag_is : (b : Bool) → from_bool b ≡ flag_byte b
flag_is true = refl
flag_is false = refl

-- four words
four : (P : List ℕ → Type 0) → ((a b c d : ℕ) → P (a ∷ b ∷ c ∷ d ∷ [])) → (s : List ℕ) → length s ≡ 4 → P s
four P h [] e = absurd (omega arith)
four P h (a ∷ []) e = absurd (omega arith)
four P h (a ∷ b ∷ []) e = absurd (omega arith)
four P h (a ∷ b ∷ c ∷ []) e = absurd (omega arith)
four P h (a ∷ b ∷ c ∷ d ∷ []) e = h a b c d
four P h (a ∷ b ∷ c ∷ d ∷ x ∷ s) e = absurd (omega arith)

-- the fields of a head over zeros, with these words pending
abbrev head_with : ℕ → Rest → List ℕ → List ℕ
head_with p r s =
    set (laid_at 7 (word_bytes s) (set (laid_at 4 (word_bytes (r.end ∷ [])) (set (laid_at 1 (word_bytes (r.last ∷ [])) (set (replicate 16 0) 0 p)) 3 r.block)) 6 r.blocks)) 15 r.edition

pub head-laid : (p : ℕ) (r : Rest) → length r.pending ≡ 4 → head_with p r r.pending ≡ p ∷ rest_bytes r
unfolding laid_at overlay word_bytes
head-laid p r e =
    four (λ s. head_with p r s ≡ p ∷ (u16le r.last ++ (r.block ∷ (u16le r.end ++ (r.blocks ∷ (word_bytes s ++ (r.edition ∷ [])))))))
    (λ a b c d. refl) r.pending e

-- the fields of a plan over zeros, with these marks and these offsets that close a frame
abbrev plan_with : Job → List ℕ → List ℕ → List ℕ
plan_with j s t =
    laid_at 19 (word_bytes t)
    (set (set (set (laid_at 8 (word_bytes s) (laid_at 4 (u32le j.time)
    (set (set (set (set (replicate 27 0) 0 j.wipes) 1 (flag_byte j.moves)) 2 (flag_byte j.drops)) 3 j.target))) 16 j.size) 17 j.edition) 18 j.closes)

pub plan-laid : (j : Job) → length j.since ≡ 4 → length j.close ≡ 4 → plan_with j j.since j.close ≡ plan_bytes j
unfolding laid_at overlay word_bytes
plan-laid j e f =
    let bytes : List ℕ → List ℕ → List ℕ = λ s t. j.wipes ∷ flag_byte j.moves ∷ flag_byte j.drops ∷ j.target
    ∷ (u32le j.time ++ (word_bytes s ++ (j.size ∷ j.edition ∷ j.closes ∷ word_bytes t))) in
    four (λ s. plan_with j s j.close ≡ bytes s j.close)
    (λ a b c d. four (λ t. plan_with j (a ∷ b ∷ c ∷ d ∷ []) t ≡ bytes (a ∷ b ∷ c ∷ d ∷ []) t) (λ k l m n. refl) j.close f) j.since e

pub cursor-laid : (c : Cursor)
    → set (set (laid_at 1 (word_bytes (c.at ∷ c.id ∷ c.source ∷ [])) (set (replicate 9 0) 0 c.index)) 7 c.size) 8 c.off
    ≡ cursor_bytes c
unfolding laid_at overlay word_bytes
cursor-laid c = refl
