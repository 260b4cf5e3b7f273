-- The bytes of where a record stands: read back, bytes, and a buffer's own.
use mathlib.Core.Path.{◌≡◌, refl, sym, ap, ◌∙◌}
use mathlib.Core.List.{List, [], ◌∷◌, ◌++◌, append_assoc}
use Prim.Native.Nat.{ℕ, ◌+◌, ◌*◌, ◌/◌, ◌%◌, ◌≤◌, ◌<◌}
use native.Mathlib.Omega.{arith}
use native.Mathlib.Numerals.{add-one}
use lib.ListN.{length, get_or, take, drop, take-append-drop, length-drop}
use lib.Seq.{drop-cons, drop-drop, get_or_at, get_or-drop}
use Rattle.flash.specs.Bytes.{Bytes, u16le}
use Rattle.flash.proofs.Blank.{bytes-append, le16_u16}
use Rattle.wire.specs.Message.{word_at}
use Rattle.board.specs.declared.Rest.{Rest}
use Rattle.lent.specs.Layout.{last_at, block_at, end_at, blocks_at, pending_at, pending_size, edition_at, places_at}
use Rattle.lent.specs.Layout.{words_in, word_bytes, rest_in, rest_bytes, RestFits}
use Rattle.lent.proofs.Words.{length_word_bytes, words_back, word_bytes_lem, words_own}

pub rest_back : (p : ℕ) (z : Rest) (x : List ℕ) → length z.pending ≡ 4 → rest_in (p ∷ (rest_bytes z ++ x)) ≡ z
rest_back p z x q =
    let s = word_bytes z.pending in
    let n : length s ≡ pending_size = length_word_bytes z.pending ∙ rw q in
    rw (
      append_assoc s (z.edition ∷ []) x,
      words_back z.pending (z.edition ∷ x) 4 q,
      get_or_at s z.edition x 0 pending_size n,
      le16_u16 z.last,
      le16_u16 z.end,
    )

pub rest-bytes : (z : Rest) → RestFits z → Bytes (rest_bytes z)
rest-bytes z h =
    let a = h.last in
    let b = h.end in
    let last = bytes-append (word_bytes z.pending) (z.edition ∷ []) (word_bytes_lem z.pending h.pending.1) (h.edition, tt) in
    (omega arith, (omega arith, (h.block, (omega arith, (omega arith, (h.blocks, last))))))

-- parts that are a buffer's own, from the last one on
module _ (b : List ℕ) (ok : (i : ℕ) → get_or b i 0 < 256) where
  pub one : (at x : ℕ) (t : List ℕ) → at < length b → x ≡ get_or b at 0 → t ≡ drop (at + 1) b → x ∷ t ≡ drop at b
  one at x t h e f = rw (e, f, add-one) (sym (drop-cons b at 0 h))

  pub some : (at n : ℕ) (s t : List ℕ) → s ≡ take n (drop at b) → t ≡ drop (at + n) b → s ++ t ≡ drop at b
  some at n s t e f = rw (e, f) (ap (λ (x : List ℕ). take n (drop at b) ++ x) (sym (drop-drop n at b)) ∙ take-append-drop n (drop at b))

  pub two : (at k i : ℕ) (t : List ℕ) → k + i ≡ at → at + 2 ≤ length b → t ≡ drop (at + 2) b → u16le (word_at (drop k b) i) ++ t ≡ drop at b
  two at k i t e h f =
      let x = ok at in
      let w : word_at (drop k b) i ≡ get_or b at 0 + get_or b (at + 1) 0 * 256 =
      (let g : k + (i + 1) ≡ at + 1 = omega arith in rw (get_or-drop k b i 0, get_or-drop k b (i + 1) 0, e, g)) in
      one at (word_at (drop k b) i % 256) (word_at (drop k b) i / 256 ∷ t) (omega arith) (omega (arith, w))
      (one (at + 1) (word_at (drop k b) i / 256) t (omega arith) (omega (arith, w)) (let g : at + 1 + 1 ≡ at + 2 = omega arith in rw g f))

-- where a record stands, with what follows it
pub rest-own : (b : List ℕ) (ok : (i : ℕ) → get_or b i 0 < 256) (t : List ℕ) → places_at ≤ length b → t ≡ drop places_at b
    → rest_bytes (rest_in b) ++ t ≡ drop last_at b
rest-own b ok t h f =
    two b ok last_at 0 last_at _ refl (omega arith)
    (one b ok block_at _ _ (omega arith) refl (two b ok end_at 0 end_at _ refl (omega arith) (one b ok blocks_at _ _ (omega arith) refl
    (append_assoc (word_bytes (words_in 4 (drop pending_at b))) (get_or b edition_at 0 ∷ []) t
    ∙ some b ok pending_at pending_size (word_bytes (words_in 4 (drop pending_at b))) (get_or b edition_at 0 ∷ t)
    (words_own 4 (drop pending_at b) (λ i. rw get_or-drop (ok (pending_at + i))) (simp length-drop (omega arith)))
    (one b ok edition_at _ _ (omega arith) refl f)))))
