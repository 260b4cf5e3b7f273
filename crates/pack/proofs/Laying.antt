-- A stretch of a buffer written: what stood before it, the stretch, what stood after it.
use mathlib.Core.Path.{◌≡◌, refl, sym, ap, ◌∙◌}
use mathlib.Core.List.{List, [], ◌∷◌, ◌++◌, append_assoc, append-nil}
use Prim.Native.Nat.{ℕ, zero, suc, ◌+◌, ◌-◌, ◌*◌, ◌/◌, ◌%◌, ◌≤◌, ◌<◌}
use native.Mathlib.Omega.{arith}
use native.Mathlib.Numerals.{add-one}
use lib.ListN.{length, get_or, take, drop, set, length-append, length-drop, take-append-drop, drop_of_length-le}
use lib.Seq.{take_at, drop_at, drop-drop, drop-length, take-suc, take_all, length-take-le}
use borrow.Author.Tests.{lt-ltb, le-ltb}
use Rattle.flash.specs.Bytes.{u16le}
use Rattle.wire.specs.Code.{overlay}
use Rattle.wire.proofs.Laying.{to_end}
use Rattle.lent.specs.Layout.{word_bytes}
use Rattle.pack.specs.Code.{laid_at}
use Rattle.lent.proofs.Words.{length_word_bytes, next_word_bytes}

laid : (at : ℕ) (p s t : List ℕ) → length p ≡ at → length s ≤ length t → laid_at at s (p ++ t) ≡ (p ++ s) ++ drop (length s) t
unfolding laid_at overlay
laid at p s t e h = rw (take_at p t at e) (ap (λ (x : List ℕ). p ++ overlay s x) (drop_at p t at e) ∙ rw (le-ltb (length t) (length s) h, overlay)
    (sym (append_assoc p s (drop (length s) t))))

overlay-none : (s : List ℕ) → overlay s [] ≡ []
unfolding overlay
overlay-none [] = refl
overlay-none (b ∷ s) = rw (lt-ltb 0 (length (b ∷ s)) (omega arith), overlay)

-- the first bytes written up to a place, and one stretch more
pub laid_next : (at : ℕ) (p s l : List ℕ) → length p ≡ at → at + length s ≤ length l
    → laid_at at s (p ++ drop at l) ≡ (p ++ s) ++ drop (at + length s) l
laid_next at p s l e h =
    let k : length s ≤ length (drop at l) = simp length-drop (omega arith) in
    laid at p s (drop at l) e k ∙ rw drop-drop

pub laid-here : (at : ℕ) (s l : List ℕ) → at + length s ≤ length l → laid_at at s l ≡ (take at l ++ s) ++ drop (at + length s) l
laid-here at s l h =
    ap (laid_at at s) (sym (take-append-drop at l)) ∙ laid_next at (take at l) s l (length-take-le at l (omega arith)) h

-- the part from a place on, given back as y
pub put_back : (at : ℕ) (l y s : List ℕ) → at ≤ length l → y ≡ overlay s (take (length l - at) (drop at l))
    → take at l ++ (y ++ drop (length l - at) (drop at l)) ≡ laid_at at s l
unfolding laid_at
put_back at l y s h e =
    let k : at + (length l - at) ≡ length l = omega arith in
    rw (e, to_end at l, drop-drop (length l - at) at l, k, drop-length l, append-nil)

pub too_far : (at : ℕ) (s l : List ℕ) → length l < at → l ≡ laid_at at s l
unfolding laid_at
too_far at s l h = rw (take_all at l (omega arith), drop_of_length-le l {i = at} (omega arith)) (on_none s)
  where
    on_none : (s : List ℕ) → l ≡ l ++ overlay s []
    on_none s = rw overlay-none (sym (append-nil l))

-- words, after i of them
abbrev pub words_to : ℕ → List ℕ → List ℕ → ℕ → List ℕ
words_to at ws l i = (take at l ++ word_bytes (take i ws)) ++ drop (at + 2 * i) l

pub no_words : (at : ℕ) (ws l : List ℕ) → l ≡ words_to at ws l 0
unfolding word_bytes
no_words at ws l = let e : at + 2 * 0 ≡ at = omega arith in rw (e, append-nil) (sym (take-append-drop at l))

-- two bytes set
set-two : (k a b : ℕ) (l : List ℕ) → k + 2 ≤ length l → set (set l k a) (k + 1) b ≡ laid_at k (a ∷ b ∷ []) l
unfolding laid_at overlay
set-two k a b [] h = absurd (omega arith)
set-two k a b (x ∷ []) h = absurd (omega arith)
set-two zero a b (x ∷ y ∷ l) h = rw (le-ltb (length (x ∷ y ∷ l)) 2 (omega arith), overlay)
set-two (suc k) a b (x ∷ y ∷ l) h =
    let e : suc k + 1 ≡ suc (k + 1) = omega arith in rw e (ap (λ (t : List ℕ). x ∷ t) (set-two k a b (y ∷ l) (omega arith)))

pub word_more : (at : ℕ) (ws l : List ℕ) (i : ℕ) → i < length ws → at + 2 * i + 2 ≤ length l → length (words_to at ws l i) ≡ length l
    → set (set (words_to at ws l i) (at + 2 * i) (get_or ws i 0 % 256)) (at + 2 * i + 1) (get_or ws i 0 / 256) ≡ words_to at ws l (i + 1)
word_more at ws l i h k same =
    let n : length (take at l ++ word_bytes (take i ws)) ≡ at + 2 * i =
    rw (length-append, length_word_bytes, length-take-le at l (omega arith), length-take-le i ws (omega arith)) in
    let e : at + 2 * i + 2 ≡ at + 2 * (i + 1) = omega arith in
    set-two (at + 2 * i) (get_or ws i 0 % 256) (get_or ws i 0 / 256) (words_to at ws l i) (omega (arith, same))
    ∙ laid_next (at + 2 * i) (take at l ++ word_bytes (take i ws)) (u16le (get_or ws i 0)) l n k
    ∙ rw (e, add-one, take-suc ws i 0 h, next_word_bytes) (ap (λ (t : List ℕ). t ++ drop (at + 2 * suc i) l)
    (append_assoc (take at l) (word_bytes (take i ws)) (u16le (get_or ws i 0))))

pub words_all : (at : ℕ) (ws l : List ℕ) (i : ℕ) → i ≡ length ws → at + 2 * length ws ≤ length l → words_to at ws l i ≡ laid_at at (word_bytes ws) l
words_all at ws l i h k =
    let n = length_word_bytes ws in
    rw (h, take_all (length ws) ws (omega arith), ← n) (sym (laid-here at (word_bytes ws) l (omega (arith, n))))

-- ---- a record's bytes

-- x is the buffer l with its first bytes written, p
pub record Upto (at : ℕ) (p l x : List ℕ) : Type 0 where
  pub written : x ≡ p ++ drop at l
  pub size : length p ≡ at

pub next : (at n : ℕ) (s : List ℕ) {p l x y : List ℕ} → Upto at p l x → y ≡ laid_at at s x → length s ≡ n → at + n ≤ length l
    → Upto (at + n) (p ++ s) l y
next at n s {p} {l} {x} {y} u v e k =
    record {
      written = v ∙ ap (laid_at at s) u.written ∙ laid_next at p s l u.size (omega arith) ∙ rw e;
      size = length-append p s ∙ rw (u.size, e);
    }

pub whole : (at : ℕ) {p l x : List ℕ} → Upto at p l x → length l ≡ at → x ≡ p
whole at {p} {l} {x} u e = u.written ∙ rw (drop_of_length-le l {i = at} (omega arith), append-nil)
