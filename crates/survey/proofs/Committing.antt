-- A commit's pass over frames that were read before, by their heads alone.
use mathlib.Core.Path.{◌≡◌, refl, sym, ap, ap₂, ◌∙◌}
use mathlib.Core.List.{List, [], ◌∷◌, ◌++◌}
use Prim.Native.Nat.{ℕ, zero, suc, ◌+◌, ◌-◌, ◌≤◌, ◌<◌}
use native.Mathlib.Omega.{arith}
use lib.Dec.{eqb}
use lib.ListN.{length, get_or, drop, length-take, length-drop, drop_of_length-le}
use lib.Seq.{get_or-drop, drop_at, drop-drop}
use borrow.Author.Tests.{le-leb}
use Rattle.flash.proofs.Cases.{on_test}
use Rattle.frame.specs.declared.Edition.{Edition}
use Rattle.frame.specs.declared.Host.{Host}
use Rattle.frame.specs.declared.Head.{Head}
use Rattle.frame.specs.declared.Head.TheVariants as head
use Rattle.frame.specs.Frame.{put, delete, Frame, change, commit, abort, settled, closed, reset, encode, frame_len, encode_all, AllMayStand, next_after}
use Rattle.frame.specs.Frame.{kind_at, body_at, put_value_at, settled_value_at, put_len, settled_len, closed_len}
use Rattle.frame.specs.Reader.{decode}
use Rattle.frame.specs.Code.{head_of, peek_at, head_len}
use Rattle.frame.proofs.Encode.{check-short, length-encode}
use Rattle.frame.proofs.Exact.{read_back}
use Rattle.frame.proofs.Heads.{head_len_lem, peek_whole}
use Rattle.journal.proofs.Tables.{place_frame, commit_places}
use Rattle.survey.specs.Pass.{place_head, commit_heads}

place-head : (h : Host) (d o : ℕ) (f : Frame) (t : List ℕ) → d ≤ o → place_frame h d o f t ≡ place_head h o (head_of f) t
unfolding place_head
place-head h d o (change g (put i v)) t l = on_test (eqb h.0 g.0) (λ u. rw (u, le-leb d o l)) (λ u. rw u)
place-head h d o (change g (delete i)) t l = on_test (eqb h.0 g.0) (λ u. rw (u, le-leb d o l)) (λ u. rw u)
place-head h d o (commit g) t l = refl
place-head h d o (abort g) t l = refl
place-head h d o (settled i v) t l = refl
place-head h d o (closed v) t l = refl
place-head h d o reset t l = refl

pub head-least : (ed : Edition) (k : Head) → 5 ≤ head_len ed k
head-least ed (head.Put h i n) = omega arith
head-least ed (head.Delete h i) = omega arith
head-least ed (head.Commit h) = omega arith
head-least ed (head.Abort h) = omega arith
head-least ed (head.Settled i n) = omega arith
head-least ed (head.Closed n) = omega arith
head-least ed head.Reset = omega arith

-- ---- a head's length, of any bytes

head_decoded : (ed : Edition) (k n : ℕ) (l : List ℕ) → n ≤ 255 → head_len ed (head_of (decode ed k n l)) ≤ 255
head_decoded ed zero n l g = omega (arith, length-take (n - closed_len 0) (drop body_at l))
head_decoded ed (suc zero) n l g = omega (arith, check-short ed, length-take (n - put_len ed 0) (drop put_value_at l))
head_decoded ed (suc (suc zero)) n l g = omega (arith, check-short ed)
head_decoded ed (suc (suc (suc zero))) n l g = omega (arith, check-short ed)
head_decoded ed (suc (suc (suc (suc zero)))) n l g = omega (arith, check-short ed)
head_decoded ed (suc (suc (suc (suc (suc zero))))) n l g = omega (arith, check-short ed, length-take (n - settled_len ed 0) (drop settled_value_at l))
head_decoded ed (suc (suc (suc (suc (suc (suc k)))))) n l g = omega (arith, check-short ed)

pub head-most : (ed : Edition) (l : List ℕ) (o : ℕ) → ((i : ℕ) → get_or l i 0 < 256) → head_len ed (peek_at ed l o) ≤ 255
unfolding peek_at
head-most ed l o b =
    head_decoded ed (get_or (drop o l) kind_at 0) (get_or (drop o l) 0 0) (drop o l) (omega (arith, get_or-drop o l 0 0, b (o + 0)))

-- ---- the pass

module _ (ed : Edition) (h : Host) where
  heads_skip : (o k : ℕ) (t l : List ℕ) → commit_heads ed h o k t l ≡ commit_heads ed h (o + k) 0 t (drop k l)
  unfolding commit_heads
  heads_skip o zero t l = let e : o ≡ o + 0 = omega arith in ap (λ (n : ℕ). commit_heads ed h n 0 t l) e
  heads_skip o (suc k) t [] = refl
  heads_skip o (suc k) t (b ∷ l) =
      let e : suc o + k ≡ o + suc k = omega arith in heads_skip (suc o) k t l ∙ ap (λ (n : ℕ). commit_heads ed h n 0 t (drop k l)) e

  -- past the frame whose head is k
  abbrev onward : ℕ → List ℕ → List ℕ → Head → List ℕ
  onward o t l k = commit_heads ed h (o + head_len ed k) 0 (place_head h o k t) (drop (head_len ed k) l)

  heads_next : (o : ℕ) (t l : List ℕ) → 0 < length l → commit_heads ed h o 0 t l ≡ onward o t l (peek_at ed l 0)
  unfolding commit_heads
  heads_next o t [] g = absurd (omega arith)
  heads_next o t (b ∷ l) g =
      let k : Head = peek_at ed (b ∷ l) 0 in
      let u : List ℕ = place_head h o k t in
      let m : ℕ = head_len ed k - 1 in
      let q : head_len ed k ≡ suc m = omega (arith, head-least ed k) in
      let p : suc o + m ≡ o + head_len ed k = omega (arith, q) in
      heads_skip (suc o) m u l ∙ ap (λ (n : ℕ). commit_heads ed h n 0 u (drop m l)) p
      ∙ ap (λ (n : ℕ). commit_heads ed h (o + head_len ed k) 0 u (drop n (b ∷ l))) (sym q)

  -- the heads of frames that stand there do what the frames do
  pub heads_whole : (d o n : ℕ) (t : List ℕ) (fs : List Frame) → d ≤ o → AllMayStand ed n fs
      → commit_heads ed h o 0 t (encode_all ed fs) ≡ commit_places ed h d o t fs
  unfolding commit_heads commit_places encode_all
  heads_whole d o n t [] q g = refl
  heads_whole d o n t (f ∷ fs) q (g, gs) =
      let l : List ℕ = encode ed f ++ encode_all ed fs in
      let w : drop (frame_len ed f) l ≡ encode_all ed fs = drop_at (encode ed f) (encode_all ed fs) (frame_len ed f) (length-encode ed f) in
      heads_next o t l (omega arith)
      ∙ ap (onward o t l) (peek_whole ed n 0 l f (read_back ed n 0 f (encode_all ed fs) g))
      ∙ ap (λ (m : ℕ). commit_heads ed h (o + m) 0 (place_head h o (head_of f) t) (drop m l)) (head_len_lem ed f)
      ∙ ap₂ (λ (u x : List ℕ). commit_heads ed h (o + frame_len ed f) 0 u x) (sym (place-head h d o f t q)) w
      ∙ heads_whole d (o + frame_len ed f) (next_after f) (place_frame h d o f t) fs (omega arith) gs

  -- from offset o of some bytes on
  pub heads_on : (o : ℕ) (t l : List ℕ) → o < length l
      → commit_heads ed h o 0 t (drop o l)
      ≡ commit_heads ed h (o + head_len ed (peek_at ed l o)) 0 (place_head h o (peek_at ed l o) t) (drop (o + head_len ed (peek_at ed l o)) l)
  unfolding peek_at
  heads_on o t l g =
      let k : Head = peek_at ed l o in
      heads_next o t (drop o l) (omega (arith, length-drop o l))
      ∙ ap (commit_heads ed h (o + head_len ed k) 0 (place_head h o k t)) (drop-drop (head_len ed k) o l)

  pub heads_end : (o : ℕ) (t l : List ℕ) → length l ≤ o → commit_heads ed h o 0 t (drop o l) ≡ t
  unfolding commit_heads
  heads_end o t l g = rw (drop_of_length-le l {i = o} g)
