-- A torn frame is closed in place, document 02, K11: what it has, that each step of the closing leaves it torn, and that the last closes it. A reset's bytes.
use mathlib.Core.Path.{◌≡◌, refl, sym, ap, ap₂, subst, ◌∙◌}
use mathlib.Core.List.{List, [], ◌∷◌, ◌++◌, append_assoc}
use mathlib.Core.Logic.{◌⊎◌, inl, inr}
use Prim.Native.Nat.{ℕ, suc, ◌+◌, ◌-◌, ◌/◌, ◌%◌, ◌≤◌, ◌<◌}
use native.Mathlib.Omega.{arith}
use lib.Bits.{bit_and, and_zero_r}
use lib.Dec.{leb}
use lib.ListN.{length, get_or, take, drop, set, replicate, length-append, length-drop, length-replicate, get_or-replicate, get_or-append, take-append-drop}
use lib.Seq.{get_or-append-add, get_or-take, get_or-drop, drop_at, drop-append-add, length-take-le, set_at, set-get_or, drop-set-lt, drop-set-add}
use borrow.Author.Tests.{leb-true, leb-false}
use Rattle.flash.specs.Bytes.{Bytes}
use Rattle.flash.specs.Flash.{program_at}
use Rattle.flash.proofs.Cases.{on_test}
use Rattle.flash.proofs.Blank.{is_ff, bytes_drop, bytes_take}
use Rattle.flash.proofs.Image.{length-program, program-same, program-other}
use Rattle.frame.specs.declared.Edition.{Edition}
use Rattle.frame.specs.Frame.{Frame, change, commit, abort, settled, closed, reset, put, delete, finish, encode, frame_len, reset_len, ClosedLength}
use Rattle.frame.specs.Frame.{MayStand, Tears}
use Rattle.frame.specs.Reader.{whole, torn, read_frame}
use Rattle.frame.specs.Sentences.{CutShort, BeingClosed, Torn, cut_short, being-closed}
use Rattle.frame.proofs.Encode.{frame_small, kind-small, length-encode}
use Rattle.frame.proofs.Stores.{drop-replicate}
use Rattle.frame.proofs.Own.{closed-least, closed-other}
use Rattle.frame.proofs.BeingClosed.{being_sound}
use Rattle.frame.proofs.Exact.{read_back, read-torn, length_cut}

-- ---- what a torn frame has

-- Its length is a closed frame's. The high bytes of length and kind are 0 or not programmed yet, and without the length's the kind isn't either. Its finish
-- byte and what follows are 0xFF.
pub record Closable (e : Edition) (t : List ℕ) (n : ℕ) : Type 0 where
  pub first : get_or t 0 0 ≡ n
  pub has-length : ClosedLength e n
  pub least : 5 ≤ n
  pub fits : n ≤ length t
  pub long : (get_or t 1 0 ≡ 0) ⊎ (get_or t 1 0 ≡ 255)
  pub high : (get_or t 3 0 ≡ 0) ⊎ (get_or t 3 0 ≡ 255)
  pub unseen : get_or t 1 0 ≡ 255 → (get_or t 2 0 ≡ 255) × (get_or t 3 0 ≡ 255)
  pub unfinished : get_or t (n - 1) 0 ≡ 255
  pub blank : drop (n - 1) t ≡ replicate (length t - (n - 1)) 255

tears-length : (e : Edition) (next : ℕ) (f : Frame) → Tears f → MayStand e next f → ClosedLength e (frame_len e f)
tears-length e next (change h (put i v)) u (hh, hi, (hv, hb)) = inr (inr (omega arith, omega arith))
tears-length e next (change h (delete i)) u g = inr (inr (omega arith, omega arith))
tears-length e next (commit h) u g = inr (inl (omega arith))
tears-length e next (abort h) u g = inr (inl (omega arith))
tears-length e next (settled i v) u g = absurd u
tears-length e next (closed v) u g = absurd u
tears-length e next reset u g = inl (omega arith)

last-blank : (t : List ℕ) (m : ℕ) → m < length t → drop m t ≡ replicate (length t - m) 255 → get_or t m 0 ≡ 255
last-blank t m h q =
    let z : m + 0 ≡ m = omega arith in
    ap (λ (i : ℕ). get_or t i 0) (sym z) ∙ sym (get_or-drop m t 0 0) ∙ ap (λ (l : List ℕ). get_or l 0 0) q ∙ get_or-replicate (length t - m) 0 255 0 (omega arith)

-- the bytes of a cut frame
module _ (e : Edition) (next : ℕ) (t : List ℕ) (n : ℕ) (y : CutShort e next t n) where
  abbrev x : List ℕ
  x = encode e y.frame

  cut_len : length (take y.k x) ≡ y.k
  cut_len = length-take-le y.k x (omega (arith, length-encode e y.frame, y.not_all))

  cut_all : length t ≡ y.k + y.left
  cut_all = ap length y.bytes ∙ length_cut y.k x y.left (omega (arith, length-encode e y.frame, y.not_all))

  cut_seen : (i : ℕ) → i < y.k → get_or t i 0 ≡ get_or x i 0
  cut_seen i h =
      ap (λ (l : List ℕ). get_or l i 0) y.bytes
      ∙ get_or-append (take y.k x) (replicate y.left 255) 0 i (omega (arith, cut_len))
      ∙ get_or-take y.k x i 0 h

  cut_ff : (i : ℕ) → y.k ≤ i → i < length t → get_or t i 0 ≡ 255
  cut_ff i h l =
      let q : i ≡ length (take y.k x) + (i - y.k) = omega (arith, cut_len) in
      ap₂ (λ (j : ℕ) (z : List ℕ). get_or z j 0) q y.bytes
      ∙ get_or-append-add (take y.k x) (replicate y.left 255) (i - y.k) 0
      ∙ get_or-replicate y.left (i - y.k) 255 0 (omega (arith, cut_all))

  cut_blank : drop (n - 1) t ≡ replicate (length t - (n - 1)) 255
  cut_blank =
      let q : n - 1 ≡ length (take y.k x) + (n - 1 - y.k) = omega (arith, cut_len, y.long, y.not_all) in
      let r : y.left - (n - 1 - y.k) ≡ length t - (n - 1) = omega (arith, cut_all, y.long, y.not_all) in
      ap₂ (λ (j : ℕ) (z : List ℕ). drop j z) q y.bytes
      ∙ drop-append-add (take y.k x) (replicate y.left 255) (n - 1 - y.k)
      ∙ drop-replicate 255 (n - 1 - y.k) y.left
      ∙ ap (λ (j : ℕ). replicate j 255) r

  cut_zero : (i : ℕ) → i < length t → get_or x i 0 ≡ 0 → (get_or t i 0 ≡ 0) ⊎ (get_or t i 0 ≡ 255)
  cut_zero i l z = on_test (leb y.k i) (λ h. inr (cut_ff i (leb-true y.k i h) l)) (λ h. inl (cut_seen i (leb-false y.k i h) ∙ z))

  small : frame_len e y.frame < 255
  small = frame_small e next y.frame y.legal

  has : ClosedLength e n
  has = subst (ClosedLength e) (sym y.long) (tears-length e next y.frame y.tears y.legal)

  five : (5 ≤ n) × (n ≤ length t)
  five = (closed-least e n has, omega (arith, y.would_fit, y.long))

  cut_closable : Closable e t n
  cut_closable =
      let b1 : get_or x 1 0 ≡ 0 = omega (arith, small) in
      let b3 : get_or x 3 0 ≡ 0 = omega (arith, kind-small y.frame) in
      record {
        first = cut_seen 0 (omega (arith, y.some)) ∙ omega (arith, small, y.long);
        has-length = has;
        least = five.0;
        fits = five.1;
        long = cut_zero 1 (omega (arith, five.0, five.1)) b1;
        high = cut_zero 3 (omega (arith, five.0, five.1)) b3;
        unseen = λ q. on_test (leb y.k 1)
            (λ h. let k : y.k ≤ 1 = leb-true y.k 1 h in
            (cut_ff 2 (omega arith) (omega (arith, five.0, five.1)), cut_ff 3 (omega arith) (omega (arith, five.0, five.1))))
            (λ h. let z : 0 ≡ 255 = sym (cut_seen 1 (leb-false y.k 1 h) ∙ b1) ∙ q in absurd (omega arith));
        unfinished = last-blank t (n - 1) (omega (arith, five.0, five.1)) cut_blank;
        blank = cut_blank;
      }

being_closable : (e : Edition) (t : List ℕ) (n : ℕ) → BeingClosed e t n → Closable e t n
being_closable e t n y =
    let ff : List ℕ = replicate (suc y.left) 255 in
    let u : List ℕ = n ∷ 0 ∷ 0 ∷ y.high ∷ (y.body ++ ff) in
    let five : 5 ≤ n = closed-least e n y.has-length in
    let l : length u ≡ n + y.left = omega (arith, length-append y.body ff, length-replicate {A = ℕ} (suc y.left) 255, y.size) in
    let k : n - 1 ≡ suc (suc (suc (suc (length y.body)))) = omega (arith, y.size) in
    let r : suc y.left ≡ length u - (n - 1) = omega arith in
    let b : drop (n - 1) u ≡ replicate (length u - (n - 1)) 255 =
    ap (λ (i : ℕ). drop i u) k ∙ drop_at y.body ff (length y.body) refl ∙ ap (λ (i : ℕ). replicate i 255) r in
    subst (λ (z : List ℕ). Closable e z n) (sym y.bytes) (record {
      first = refl;
      has-length = y.has-length;
      least = five;
      fits = omega arith;
      long = inl refl;
      high = y.high_is;
      unseen = λ q. absurd (omega arith);
      unfinished = last-blank u (n - 1) (omega arith) b;
      blank = b;
    })

pub torn-closable : (e : Edition) (next : ℕ) (t : List ℕ) (n : ℕ) → Torn e next t n → Closable e t n
torn-closable e next t n (cut_short y) = cut_closable e next t n y
torn-closable e next t n (being-closed y) = being_closable e t n y

-- ---- the steps

pub clear-same : (t : List ℕ) (i : ℕ) → get_or t i 0 ≡ 0 → program_at t i 0 ≡ t
clear-same t i q = ap (set t i) (and_zero_r (get_or t i 0) ∙ sym q) ∙ set-get_or t i 0

cleared : (t : List ℕ) (i : ℕ) → get_or (program_at t i 0) i 0 ≡ 0
cleared t i = program-same t i 0 ∙ and_zero_r (get_or t i 0)

-- in a block
pub drop-program : (a : ℕ) (l : List ℕ) (i v : ℕ) → drop a (program_at l (a + i) v) ≡ program_at (drop a l) i v
drop-program a l i v =
    drop-set-add a l i (bit_and (get_or l (a + i) 0) v) ∙ ap (λ (b : ℕ). set (drop a l) i (bit_and b v)) (sym (get_or-drop a l i 0))

-- "length's high byte to 0"
pub closing-length : (e : Edition) (next : ℕ) (t : List ℕ) (n : ℕ) → Torn e next t n → Torn e next (program_at t 1 0) n
closing-length e next t n (being-closed y) =
    subst (λ (z : List ℕ). Torn e next z n) (sym (clear-same t 1 (ap (λ (l : List ℕ). get_or l 1 0) y.bytes))) (being-closed y)
closing-length e next t n (cut_short y) =
    let f : Frame = y.frame in
    let small' : frame_len e f < 255 = small e next t n y in
    on_test (leb y.k 1)
    (λ h.
    let one : y.k ≡ 1 = omega (arith, leb-true y.k 1 h, y.some) in
    let m : ℕ = y.left - 1 in
    let left : y.left ≡ suc m = omega (arith, cut_all e next t n y, (five e next t n y).0, (five e next t n y).1) in
    let was : t ≡ frame_len e f % 256 ∷ replicate (suc m) 255 =
    y.bytes ∙ ap₂ (λ (i j : ℕ). take i (encode e f) ++ replicate j 255) one left in
    let zero_high : frame_len e f / 256 ≡ 0 = omega arith in
    let now : program_at t 1 0 ≡ take 2 (encode e f) ++ replicate m 255 =
    ap (λ (z : List ℕ). program_at z 1 0) was ∙ ap (λ (b : ℕ). frame_len e f % 256 ∷ b ∷ replicate m 255) (and_zero_r 255 ∙ sym zero_high) in
    cut_short (record {
      frame = f;
      k = 2;
      left = m;
      tears = y.tears;
      legal = y.legal;
      some = omega arith;
      not_all = omega (arith, (five e next t n y).0, y.long);
      would_fit = omega (arith, length-program t 1 0, y.would_fit);
      bytes = now;
      long = y.long;
    }))
    (λ h. subst (λ (z : List ℕ). Torn e next z n)
    (sym (clear-same t 1 (cut_seen e next t n y 1 (leb-false y.k 1 h) ∙ omega (arith, small')))) (cut_short y))

-- bytes whose first three are a closing frame's and whose finish byte is not programmed
still-torn : (e : Edition) (next : ℕ) (t u : List ℕ) (n : ℕ) → Closable e t n → length u ≡ length t → get_or u 0 0 ≡ get_or t 0 0 → get_or u 1 0 ≡ 0
    → get_or u 2 0 ≡ 0 → (get_or u 3 0 ≡ 0) ⊎ (get_or u 3 0 ≡ 255) → drop (n - 1) u ≡ drop (n - 1) t → Torn e next u n
still-torn e next t u n y l b0 b1 b2 b3 d =
    let s : length t - (n - 1) ≡ length (drop (n - 1) u) = omega (arith, length-drop (n - 1) u) in
    being-closed (being_sound e n u (sym (b0 ∙ y.first)) (omega (arith, y.fits)) y.has-length (record {
      kind = b2;
      long = b1;
      high = b3;
      other = closed-other e n y.has-length;
      blank = is_ff (drop (n - 1) u) (d ∙ y.blank ∙ ap (λ (i : ℕ). replicate i 255) s);
    }))

-- "kind to 0x0000 low byte first"
pub closing-kind : (e : Edition) (next : ℕ) (t : List ℕ) (n : ℕ) → Closable e t n → get_or t 1 0 ≡ 0 → Torn e next (program_at t 2 0) n
closing-kind e next t n y b1 =
    let high : get_or (program_at t 2 0) 3 0 ≡ get_or t 3 0 = program-other t 2 0 3 (omega arith) in
    still-torn e next t (program_at t 2 0) n y (length-program t 2 0) (program-other t 2 0 0 (omega arith)) (program-other t 2 0 1 (omega arith) ∙ b1)
    (cleared t 2) (subst (λ (b : ℕ). (b ≡ 0) ⊎ (b ≡ 255)) (sym high) y.high)
    (drop-set-lt (n - 1) t 2 (bit_and (get_or t 2 0) 0) (omega (arith, y.least)))

pub closing-high : (e : Edition) (next : ℕ) (t : List ℕ) (n : ℕ) → Closable e t n → get_or t 1 0 ≡ 0 → get_or t 2 0 ≡ 0 → Torn e next (program_at t 3 0) n
closing-high e next t n y b1 b2 =
    still-torn e next t (program_at t 3 0) n y (length-program t 3 0) (program-other t 3 0 0 (omega arith)) (program-other t 3 0 1 (omega arith) ∙ b1)
    (program-other t 3 0 2 (omega arith) ∙ b2) (inl (cleared t 3)) (drop-set-lt (n - 1) t 3 (bit_and (get_or t 3 0) 0) (omega (arith, y.least)))

-- "then its finish byte"
abbrev pub ignored : List ℕ → ℕ → List ℕ
ignored t n = take (n - 5) (drop 4 t)

pub record Closes (e : Edition) (next at : ℕ) (t : List ℕ) (n : ℕ) : Type 0 where
  pub stands : MayStand e next (closed (ignored t n))
  pub long : frame_len e (closed (ignored t n)) ≡ n
  pub bytes : program_at t (n - 1) finish ≡ encode e (closed (ignored t n)) ++ replicate (length t - n) 255
  pub reads : read_frame e next at (program_at t (n - 1) finish) ≡ whole (closed (ignored t n))
  pub after : drop n (program_at t (n - 1) finish) ≡ replicate (length t - n) 255

finished : (t : List ℕ) (m : ℕ) → suc (suc (suc (suc m))) < length t → drop (suc (suc (suc (suc m)))) t ≡ replicate (length t - suc (suc (suc (suc m)))) 255
    → get_or t 1 0 ≡ 0 → get_or t 2 0 ≡ 0 → get_or t 3 0 ≡ 0
    → program_at t (suc (suc (suc (suc m)))) finish
    ≡ get_or t 0 0 ∷ 0 ∷ 0 ∷ 0 ∷ (take m (drop 4 t) ++ (finish ∷ replicate (length t - suc (suc (suc (suc (suc m))))) 255))
finished (a ∷ b ∷ c ∷ d ∷ r) m h q b1 b2 b3 =
    let left : ℕ = length r - suc m in
    let s : length r - m ≡ suc left = omega arith in
    let n1 : suc (suc (suc (suc (length r)))) - suc (suc (suc (suc m))) ≡ length r - m = omega arith in
    let n2 : left ≡ suc (suc (suc (suc (length r)))) - suc (suc (suc (suc (suc m)))) = omega arith in
    let ff : drop m r ≡ 255 ∷ replicate left 255 = q ∙ ap (λ (i : ℕ). replicate i 255) (n1 ∙ s) in
    let r-is : r ≡ take m r ++ (255 ∷ replicate left 255) = sym (take-append-drop m r) ∙ ap (λ (l : List ℕ). take m r ++ l) ff in
    let len : length (take m r) ≡ m = length-take-le m r (omega arith) in
    let was : get_or r m 0 ≡ 255 = last-blank r m (omega arith) (ff ∙ ap (λ (i : ℕ). replicate i 255) (sym s)) in
    let now : set r m (bit_and (get_or r m 0) finish) ≡ take m r ++ (finish ∷ replicate left 255) =
    ap (λ (x : ℕ). set r m (bit_and x finish)) was
    ∙ ap (λ (l : List ℕ). set l m (bit_and 255 finish)) r-is
    ∙ set_at (take m r) 255 (replicate left 255) (bit_and 255 finish) m len in
    let rest : set r m (bit_and (get_or r m 0) finish)
    ≡ take m r ++ (finish ∷ replicate (suc (suc (suc (suc (length r)))) - suc (suc (suc (suc (suc m))))) 255) =
    now ∙ ap (λ (i : ℕ). take m r ++ (finish ∷ replicate i 255)) n2 in
    cc
finished [] m h q b1 b2 b3 = absurd (omega arith)
finished (a ∷ []) m h q b1 b2 b3 = absurd (omega arith)
finished (a ∷ b ∷ []) m h q b1 b2 b3 = absurd (omega arith)
finished (a ∷ b ∷ c ∷ []) m h q b1 b2 b3 = absurd (omega arith)

pub closing-finish : (e : Edition) (next at : ℕ) (t : List ℕ) (n : ℕ) → Bytes t → Closable e t n → get_or t 1 0 ≡ 0 → get_or t 2 0 ≡ 0 → get_or t 3 0 ≡ 0
    → Closes e next at t n
closing-finish e next at t n bt y b1 b2 b3 =
    let m : ℕ = n - 5 in
    let v : List ℕ = take m (drop 4 t) in
    let len : length v ≡ m = length-take-le m (drop 4 t) (omega (arith, length-drop 4 t, y.least, y.fits)) in
    let long : frame_len e (closed v) ≡ n = omega (arith, y.least) in
    let stands : MayStand e next (closed v) = (subst (ClosedLength e) (sym long) y.has-length, bytes_take m (drop 4 t) (bytes_drop 4 t bt)) in
    let k : n - 1 ≡ suc (suc (suc (suc m))) = omega (arith, y.least) in
    let k1 : length t - suc (suc (suc (suc (suc m)))) ≡ length t - n = omega (arith, y.least) in
    let most : frame_len e (closed v) < 255 = frame_small e next (closed v) stands in
    let low : get_or t 0 0 ≡ frame_len e (closed v) % 256 = y.first ∙ omega arith in
    let up : 0 ≡ frame_len e (closed v) / 256 = omega arith in
    let ff : List ℕ = replicate (length t - n) 255 in
    let bytes : program_at t (n - 1) finish ≡ encode e (closed v) ++ ff =
    ap (λ (i : ℕ). program_at t i finish) k
    ∙ finished t m (omega (arith, y.least, y.fits))
    (ap (λ (i : ℕ). drop i t) (sym k) ∙ y.blank ∙ ap (λ (i : ℕ). replicate (length t - i) 255) k) b1 b2 b3
    ∙ ap (λ (i : ℕ). get_or t 0 0 ∷ 0 ∷ 0 ∷ 0 ∷ (v ++ (finish ∷ replicate i 255))) k1
    ∙ ap₂ (λ (a b : ℕ). a ∷ b ∷ 0 ∷ 0 ∷ (v ++ (finish ∷ ff))) low up
    ∙ ap (λ (z : List ℕ). frame_len e (closed v) % 256 ∷ frame_len e (closed v) / 256 ∷ 0 ∷ 0 ∷ z) (sym (append_assoc v (finish ∷ []) ff)) in
    record {
      stands = stands;
      long = long;
      bytes = bytes;
      reads = ap (read_frame e next at) bytes ∙ read_back e next at (closed v) ff stands;
      after = ap (drop n) bytes ∙ drop_at (encode e (closed v)) ff n (length-encode e (closed v) ∙ long);
    }

-- ---- a reset

pub reset-whole : (e : Edition) (next at : ℕ) (rest : List ℕ) → read_frame e next at (encode e reset ++ rest) ≡ whole reset
reset-whole e next at rest = read_back e next at reset rest tt

pub reset-torn : (e : Edition) (next at k left : ℕ) → 1 ≤ k → k < reset_len e → reset_len e ≤ k + left
    → read_frame e next at (take k (encode e reset) ++ replicate left 255) ≡ torn (reset_len e)
reset-torn e next at k left some not_all fits =
    let l : frame_len e reset ≡ reset_len e = omega arith in
    read-torn e next at reset k left tt tt some (omega arith) (omega arith) ∙ ap torn l
