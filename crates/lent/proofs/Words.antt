-- Words read from bytes one after the other, and words as bytes.
use mathlib.Core.Path.{◌≡◌, refl, sym, ap, ◌∙◌}
use mathlib.Core.List.{List, [], ◌∷◌, ◌++◌}
use Prim.Native.Nat.{ℕ, zero, suc, ◌+◌, ◌*◌, ◌/◌, ◌%◌, ◌≤◌, ◌<◌}
use native.Mathlib.Omega.{arith}
use native.Mathlib.Nat.{add-zero}
use native.Mathlib.Numerals.{add-one}
use lib.ListN.{length, get_or, take, drop, set, length-append}
use lib.Seq.{take-suc-set, take_all, drop-drop, get_or-drop}
use Rattle.flash.specs.Bytes.{Bytes, u16le}
use Rattle.flash.proofs.Blank.{le16_u16}
use Rattle.wire.specs.Message.{word_at}
use Rattle.board.specs.declared.Job.{Job}
use Rattle.lent.specs.Layout.{plan_size, words_in, word_bytes, plan_bytes, Words}

-- one word more, at the end
next_word : (n : ℕ) (l : List ℕ) → words_in (suc n) l ≡ words_in n l ++ (word_at (drop (2 * n) l) 0 ∷ [])
unfolding words_in
next_word zero l = refl
next_word (suc n) l =
    let e : 2 + 2 * n ≡ 2 * suc n = omega arith in
    ap (λ (t : List ℕ). word_at l 0 ∷ t) (next_word n (drop 2 l)) ∙ rw (drop-drop (2 * n) 2 l, e)

-- the first word past some bytes
first_past : (k : ℕ) (l : List ℕ) → word_at (drop k l) 0 ≡ word_at l k
first_past k l = rw (get_or-drop k l 0 0, get_or-drop k l 1 0, add-zero)

-- one of n words, and of those from a place on
word_of : (n : ℕ) (l : List ℕ) (i : ℕ) → i < n → get_or (words_in n l) i 0 ≡ word_at l (2 * i)
unfolding words_in
word_of zero l i h = absurd (omega arith)
word_of (suc n) l zero h = refl
word_of (suc n) l (suc i) h =
    let e : 2 + 2 * i ≡ 2 * suc i = omega arith in
    let f : 2 + (2 * i + 1) ≡ 2 * suc i + 1 = omega arith in
    word_of n (drop 2 l) i (omega arith) ∙ rw (get_or-drop 2 l (2 * i) 0, get_or-drop 2 l (2 * i + 1) 0, e, f)

pub word_from : (at n : ℕ) (l : List ℕ) (i : ℕ) → i < n → word_at l (at + 2 * i) ≡ get_or (words_in n (drop at l)) i 0
word_from at n l i h =
    let e : at + (2 * i + 1) ≡ at + 2 * i + 1 = omega arith in
    sym (word_of n (drop at l) i h ∙ rw (get_or-drop at l (2 * i) 0, get_or-drop at l (2 * i + 1) 0, e))

-- the array with its first i words read; w is the next one
pub read_more : (l a : List ℕ) (i w : ℕ) → take i a ≡ words_in i l → i < length a → w ≡ word_at l (2 * i)
    → take (i + 1) (set a i w) ≡ words_in (i + 1) l
read_more l a i w e h v = rw (add-one, take-suc-set a i w h, e, v, ← first_past (2 * i) l, next_word)

pub read_all : (l a : List ℕ) (i : ℕ) → take i a ≡ words_in i l → i ≡ 256 → length a ≡ 256 → a ≡ words_in 256 l
read_all l a i e h k = rw (take_all i a (omega arith), h) at e

pub length_word_bytes : (ws : List ℕ) → length (word_bytes ws) ≡ 2 * length ws
unfolding word_bytes
length_word_bytes [] = refl
length_word_bytes (w ∷ ws) = omega (arith, length_word_bytes ws)

pub next_word_bytes : (ws : List ℕ) (w : ℕ) → word_bytes (ws ++ (w ∷ [])) ≡ word_bytes ws ++ u16le w
unfolding word_bytes
next_word_bytes [] w = refl
next_word_bytes (v ∷ ws) w = ap (λ (t : List ℕ). u16le v ++ t) (next_word_bytes ws w)

pub length-plan : (j : Job) → length j.since ≡ 4 → length j.close ≡ 4 → length (plan_bytes j) ≡ plan_size
length-plan j q p = simp (length-append, length_word_bytes) (omega arith)

-- ---- words and their bytes, there and back

pub words_back : (ws t : List ℕ) (n : ℕ) → length ws ≡ n → words_in n (word_bytes ws ++ t) ≡ ws
unfolding word_bytes words_in
words_back [] t zero e = refl
words_back [] t (suc n) e = absurd (omega arith)
words_back (w ∷ ws) t zero e = absurd (omega arith)
words_back (w ∷ ws) t (suc n) e = rw (le16_u16 w, words_back ws t n (omega arith))

pub word_bytes_lem : (ws : List ℕ) → Words ws → Bytes (word_bytes ws)
unfolding word_bytes
word_bytes_lem [] h = tt
word_bytes_lem (w ∷ ws) h = (omega arith, (omega arith, word_bytes_lem ws h.1))

pub words_own : (n : ℕ) (l : List ℕ) → ((i : ℕ) → get_or l i 0 < 256) → 2 * n ≤ length l → word_bytes (words_in n l) ≡ take (2 * n) l
unfolding words_in word_bytes
words_own zero l b h = refl
words_own (suc n) [] b h = absurd (omega arith)
words_own (suc n) (x ∷ []) b h = absurd (omega arith)
words_own (suc n) (x ∷ y ∷ l) b h =
    let low : (x + y * 256) % 256 ≡ x = omega (arith, b 0) in
    let high : (x + y * 256) / 256 ≡ y = omega (arith, b 0) in
    let e : 2 * suc n ≡ suc (suc (2 * n)) = omega arith in
    rw (low, high, words_own n l (λ i. b (suc (suc i))) (omega arith)) (ap (λ (k : ℕ). take k (x ∷ y ∷ l)) (sym e))
