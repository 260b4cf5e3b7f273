-- Any bytes read as a journal: they are the frames' bytes and a rest, and the tail says what the rest is.
use mathlib.Core.Path.{◌≡◌, refl, sym, ap, subst, ◌∙◌}
use mathlib.Core.List.{List, [], ◌∷◌, ◌++◌, append_assoc}
use Prim.Native.Nat.{ℕ, zero, suc, ◌+◌, ◌-◌}
use native.Mathlib.Omega.{arith}
use native.Mathlib.Nat.{add-zero}
use lib.ListN.{length, drop, length-append}
use lib.Seq.{drop_at}
use Rattle.frame.specs.declared.Edition.{Edition}
use Rattle.frame.specs.Frame.{Frame, encode, frame_len, encode_all, total, AllMayStand, next_after, next_of}
use Rattle.frame.specs.Reader.{Read, blank, whole, torn, wrong, read_frame, Tail, clean, cut, bad, Scan, push, ends, scan}
use Rattle.frame.specs.Sentences.{Whole, Torn, Blank}
use Rattle.frame.specs.declared.Fault.{Fault}
use Rattle.frame.proofs.Encode.{length-encode, length-all}
use Rattle.frame.proofs.Exact.{read-blank, whole-sound, torn-sound, blank-sound}
use Rattle.frame.proofs.Scanning.{scan_nil, scan-read-blank, scan-read-whole, scan-read-torn, scan-read-wrong}

-- ---- a scan that ends at once

abbrev tail_read : Tail → Read
tail_read clean = blank
tail_read (cut n) = torn n
tail_read (bad e) = wrong e

ends_read : (ed : Edition) (next at : ℕ) (l : List ℕ) (c : Tail) → scan ed next at 0 l ≡ ends c → read_frame ed next at l ≡ tail_read c
ends_read ed next at [] c e = read-blank ed next at 0 ∙ ap (λ (s : Scan). tail_read s.tail) (sym (scan_nil ed next at 0) ∙ e)
ends_read ed next at (b ∷ t) c e = go (read_frame ed next at (b ∷ t)) refl
  where
    same : (d : Tail) → scan ed next at 0 (b ∷ t) ≡ ends d → tail_read d ≡ tail_read c
    same d q = ap (λ (s : Scan). tail_read s.tail) (sym q ∙ e)

    go : (r : Read) → read_frame ed next at (b ∷ t) ≡ r → read_frame ed next at (b ∷ t) ≡ tail_read c
    go blank q = q ∙ same clean (scan-read-blank ed next at b t q)
    go (whole f) q =
        let z : (push f (scan ed (next_after f) (suc at) (frame_len ed f - 1) t)).frames ≡ [] =
        ap (λ (s : Scan). s.frames) (sym (scan-read-whole ed next at b t f q) ∙ e) in
        let w : ◌≡◌ {A = ℕ} 0 1 = cc in absurd (omega arith)
    go (torn n) q = q ∙ same (cut n) (scan-read-torn ed next at b t n q)
    go (wrong x) q = q ∙ same (bad x) (scan-read-wrong ed next at b t x q)

pub tail-clean : (ed : Edition) (next at : ℕ) (l : List ℕ) → scan ed next at 0 l ≡ ends clean → Blank l
tail-clean ed next at l e = blank-sound ed next at l (ends_read ed next at l clean e)

pub tail-cut : (ed : Edition) (next at : ℕ) (l : List ℕ) (n : ℕ) → scan ed next at 0 l ≡ ends (cut n) → Torn ed next l n
tail-cut ed next at l n e = torn-sound ed next at l n (ends_read ed next at l (cut n) e)

pub tail-bad : (ed : Edition) (next at : ℕ) (l : List ℕ) (e : Fault) → scan ed next at 0 l ≡ ends (bad e) → read_frame ed next at l ≡ wrong e
tail-bad ed next at l e q = ends_read ed next at l (bad e) q

-- ---- any scan

pub record Scanned (ed : Edition) (next at : ℕ) (l : List ℕ) (s : Scan) : Type 0 where
  pub rest : List ℕ
  pub is : l ≡ encode_all ed s.frames ++ rest
  pub stands : AllMayStand ed next s.frames
  pub tail : scan ed (next_of next s.frames) (at + total ed s.frames) 0 rest ≡ ends s.tail

at_once : (ed : Edition) (next at : ℕ) (l : List ℕ) (c : Tail) → scan ed next at 0 l ≡ ends c → Scanned ed next at l (ends c)
unfolding encode_all total
at_once ed next at l c e = record { rest = l; is = refl; stands = tt; tail = ap (λ (x : ℕ). scan ed next x 0 l) (add-zero at) ∙ e }

one_more : (ed : Edition) (next at : ℕ) (l : List ℕ) (f : Frame) (s : Scan) (w : Whole ed next l f)
    → Scanned ed (next_after f) (at + frame_len ed f) w.rest s
    → Scanned ed next at l (push f s)
unfolding encode_all total
one_more ed next at l f s w y =
    let e : at + frame_len ed f + total ed s.frames ≡ at + (frame_len ed f + total ed s.frames) = omega arith in
    record {
      rest = y.rest;
      is = w.bytes ∙ ap (λ (x : List ℕ). encode ed f ++ x) y.is ∙ sym (append_assoc (encode ed f) (encode_all ed s.frames) y.rest);
      stands = (w.stands, y.stands);
      tail = ap (λ (x : ℕ). scan ed (next_of (next_after f) s.frames) x 0 y.rest) (sym e) ∙ y.tail;
    }

scanned-from : (l : List ℕ) (ed : Edition) (next at k : ℕ) → Scanned ed next (at + k) (drop k l) (scan ed next at k l)
unfolding scan
scanned-from [] ed next at zero = at_once ed next (at + 0) [] clean refl
scanned-from [] ed next at (suc k) = at_once ed next (at + suc k) [] clean refl
scanned-from (b ∷ t) ed next at (suc k) =
    let e : suc at + k ≡ at + suc k = omega arith in
    subst (λ (x : ℕ). Scanned ed next x (drop k t) (scan ed next (suc at) k t)) e (scanned-from t ed next (suc at) k)
scanned-from (b ∷ t) ed next at zero =
    subst (λ (x : ℕ). Scanned ed next x (b ∷ t) (scan ed next at 0 (b ∷ t))) (sym (add-zero at))
    (go (read_frame ed next at (b ∷ t)) refl (λ f. scanned-from t ed (next_after f) (suc at) (frame_len ed f - 1)))
  where
    over : (s : Scan) → scan ed next at 0 (b ∷ t) ≡ s → Scanned ed next at (b ∷ t) s → Scanned ed next at (b ∷ t) (scan ed next at 0 (b ∷ t))
    over s e y = subst (Scanned ed next at (b ∷ t)) (sym e) y

    go : (r : Read) → read_frame ed next at (b ∷ t) ≡ r
        → ((f : Frame) → Scanned ed (next_after f) (suc at + (frame_len ed f - 1)) (drop (frame_len ed f - 1) t)
        (scan ed (next_after f) (suc at) (frame_len ed f - 1) t)) → Scanned ed next at (b ∷ t) (scan ed next at 0 (b ∷ t))
    go blank q ih = let e = scan-read-blank ed next at b t q in over (ends clean) e (at_once ed next at (b ∷ t) clean e)
    go (torn n) q ih = let e = scan-read-torn ed next at b t n q in over (ends (cut n)) e (at_once ed next at (b ∷ t) (cut n) e)
    go (wrong x) q ih = let e = scan-read-wrong ed next at b t x q in over (ends (bad x)) e (at_once ed next at (b ∷ t) (bad x) e)
    go (whole f) q ih =
        let s : Scan = scan ed (next_after f) (suc at) (frame_len ed f - 1) t in
        let w : Whole ed next (b ∷ t) f = whole-sound ed next at (b ∷ t) f q in
        let p : List ℕ = drop 1 (encode ed f) in
        let l : length p ≡ frame_len ed f - 1 = omega (arith, length-encode ed f) in
        let e1 : suc at + (frame_len ed f - 1) ≡ at + frame_len ed f = omega arith in
        let e2 : drop (frame_len ed f - 1) t ≡ w.rest =
        ap (λ (x : List ℕ). drop (frame_len ed f - 1) (drop 1 x)) w.bytes ∙ drop_at p w.rest (frame_len ed f - 1) l in
        over (push f s) (scan-read-whole ed next at b t f q)
        (one_more ed next at (b ∷ t) f s w (subst (λ (x : List ℕ). Scanned ed (next_after f) (at + frame_len ed f) x s) e2
        (subst (λ (x : ℕ). Scanned ed (next_after f) x (drop (frame_len ed f - 1) t) s) e1 (ih f))))

pub scan_inv : (ed : Edition) (next at : ℕ) (l : List ℕ) → Scanned ed next at l (scan ed next at 0 l)
scan_inv ed next at l = subst (λ (x : ℕ). Scanned ed next x l (scan ed next at 0 l)) (add-zero at) (scanned-from l ed next at 0)

-- a clean tail is blank
pub scan-clean : (ed : Edition) (next at : ℕ) (l : List ℕ) (s : Scan) (y : Scanned ed next at l s) → s.tail ≡ clean → Blank y.rest
scan-clean ed next at l s y e = tail-clean ed (next_of next s.frames) (at + total ed s.frames) y.rest (y.tail ∙ ap ends e)

pub scan-length : (ed : Edition) (next at : ℕ) (l : List ℕ) (s : Scan) (y : Scanned ed next at l s) → length l ≡ total ed s.frames + length y.rest
scan-length ed next at l s y =
    ap length y.is ∙ length-append (encode_all ed s.frames) y.rest ∙ ap (λ (x : ℕ). x + length y.rest) (length-all ed s.frames)
