-- The journal read: whole frames, and after them a blank tail or a torn frame.
use mathlib.Core.Path.{◌≡◌, refl, sym, ap, ap₂, ◌∙◌}
use mathlib.Core.List.{List, [], ◌∷◌, ◌++◌, append_assoc}
use Prim.Native.Nat.{ℕ, zero, suc, ◌+◌, ◌-◌, ◌%◌, ◌≤◌, ◌<◌}
use native.Mathlib.Omega.{arith}
use native.Mathlib.Nat.{add-zero}
use lib.ListN.{length, take, drop, replicate}
use lib.Seq.{drop_at}
use Rattle.frame.specs.declared.Edition.{Edition}
use Rattle.frame.specs.Frame.{Frame, encode, frame_len, encode_all, total, MayStand, AllMayStand, Tears, next_after, next_of}
use Rattle.frame.specs.Reader.{blank, whole, torn, wrong, read_frame, Tail, clean, cut, bad, Scan, push, ends, scan}
use Rattle.frame.specs.declared.Fault.{Fault}
use Rattle.frame.proofs.Encode.{length-encode}
use Rattle.frame.proofs.Exact.{read_back, read-torn, read-blank}

-- ---- the steps of a scan

pub scan-read-blank : (ed : Edition) (next at b : ℕ) (t : List ℕ) → read_frame ed next at (b ∷ t) ≡ blank → scan ed next at 0 (b ∷ t) ≡ ends clean
unfolding scan
scan-read-blank ed next at b t e = rw (e, scan)

pub scan-read-whole : (ed : Edition) (next at b : ℕ) (t : List ℕ) (f : Frame) → read_frame ed next at (b ∷ t) ≡ whole f
    → scan ed next at 0 (b ∷ t) ≡ push f (scan ed (next_after f) (suc at) (frame_len ed f - 1) t)
unfolding scan
scan-read-whole ed next at b t f e = rw (e, scan)

pub scan-read-torn : (ed : Edition) (next at b : ℕ) (t : List ℕ) (n : ℕ) → read_frame ed next at (b ∷ t) ≡ torn n → scan ed next at 0 (b ∷ t) ≡ ends (cut n)
unfolding scan
scan-read-torn ed next at b t n e = rw (e, scan)

pub scan-read-wrong : (ed : Edition) (next at b : ℕ) (t : List ℕ) (e : Fault) → read_frame ed next at (b ∷ t) ≡ wrong e
    → scan ed next at 0 (b ∷ t) ≡ ends (bad e)
unfolding scan
scan-read-wrong ed next at b t e q = rw (q, scan)

pub scan_nil : (ed : Edition) (next at k : ℕ) → scan ed next at k [] ≡ ends clean
unfolding scan
scan_nil ed next at k = refl

-- the bytes that are left of a frame are passed over
pub scan-skip : (ed : Edition) (next at k : ℕ) (l : List ℕ) → scan ed next at k l ≡ scan ed next (at + k) 0 (drop k l)
unfolding scan
scan-skip ed next at zero l = ap (λ (x : ℕ). scan ed next x 0 l) (sym (add-zero at))
scan-skip ed next at (suc k) [] = refl
scan-skip ed next at (suc k) (b ∷ l) =
    let e : suc at + k ≡ at + suc k = omega arith in
    scan-skip ed next (suc at) k l ∙ ap (λ (x : ℕ). scan ed next x 0 (drop k l)) e

-- ---- whole frames

-- where a frame is read the scan goes on behind it
pub scan-push : (ed : Edition) (next at : ℕ) (f : Frame) (rest : List ℕ) → read_frame ed next at (encode ed f ++ rest) ≡ whole f
    → scan ed next at 0 (encode ed f ++ rest) ≡ push f (scan ed (next_after f) (at + frame_len ed f) 0 rest)
scan-push ed next at f rest r =
    let p : List ℕ = drop 1 (encode ed f) in
    let l : length p ≡ frame_len ed f - 1 = omega (arith, length-encode ed f) in
    let e : suc at + (frame_len ed f - 1) ≡ at + frame_len ed f = omega arith in
    scan-read-whole ed next at (frame_len ed f % 256) (p ++ rest) f r
    ∙ ap (push f) (scan-skip ed (next_after f) (suc at) (frame_len ed f - 1) (p ++ rest)
    ∙ ap₂ (λ (x : ℕ) (y : List ℕ). scan ed (next_after f) x 0 y) e (drop_at p rest (frame_len ed f - 1) l))

pub scan-frame : (ed : Edition) (next at : ℕ) (f : Frame) (rest : List ℕ) → MayStand ed next f
    → scan ed next at 0 (encode ed f ++ rest) ≡ push f (scan ed (next_after f) (at + frame_len ed f) 0 rest)
scan-frame ed next at f rest g = scan-push ed next at f rest (read_back ed next at f rest g)

abbrev pub push_all : List Frame → Scan → Scan
push_all [] s = s
push_all (f ∷ fs) s = push f (push_all fs s)

pub push-ends : (fs : List Frame) (t : Tail) → push_all fs (ends t) ≡ record { frames = fs; tail = t }
push-ends [] t = refl
push-ends (f ∷ fs) t = ap (push f) (push-ends fs t)

pub scan-frames : (ed : Edition) (next at : ℕ) (fs : List Frame) (rest : List ℕ) → AllMayStand ed next fs
    → scan ed next at 0 (encode_all ed fs ++ rest) ≡ push_all fs (scan ed (next_of next fs) (at + total ed fs) 0 rest)
unfolding encode_all total
scan-frames ed next at [] rest g = ap (λ (x : ℕ). scan ed next x 0 rest) (sym (add-zero at))
scan-frames ed next at (f ∷ fs) rest g =
    let e : at + frame_len ed f + total ed fs ≡ at + (frame_len ed f + total ed fs) = omega arith in
    rw (append_assoc (encode ed f) (encode_all ed fs) rest)
    (scan-frame ed next at f (encode_all ed fs ++ rest) g.0
    ∙ ap (push f) (scan-frames ed (next_after f) (at + frame_len ed f) fs rest g.1
    ∙ ap (λ (x : ℕ). push_all fs (scan ed (next_of (next_after f) fs) x 0 rest)) e))

-- ---- the tail

pub scan-blank : (ed : Edition) (next at m : ℕ) → scan ed next at 0 (replicate m 255) ≡ ends clean
scan-blank ed next at zero = scan_nil ed next at 0
scan-blank ed next at (suc m) = scan-read-blank ed next at 255 (replicate m 255) (read-blank ed next at (suc m))

pub scan-cut : (ed : Edition) (next at : ℕ) (f : Frame) (k m : ℕ) → Tears f → MayStand ed next f → 1 ≤ k → k < frame_len ed f → frame_len ed f ≤ k + m
    → scan ed next at 0 (take k (encode ed f) ++ replicate m 255) ≡ ends (cut (frame_len ed f))
scan-cut ed next at f zero m u g p lo hi = absurd (omega arith)
scan-cut ed next at f (suc j) m u g p lo hi =
    scan-read-torn ed next at (frame_len ed f % 256) (take j (drop 1 (encode ed f)) ++ replicate m 255) (frame_len ed f)
    (read-torn ed next at f (suc j) m u g p lo hi)

-- frames and a tail of their own
pub scan_with : (ed : Edition) (next at : ℕ) (fs : List Frame) (rest : List ℕ) (t : Tail) → AllMayStand ed next fs
    → scan ed (next_of next fs) (at + total ed fs) 0 rest ≡ ends t
    → scan ed next at 0 (encode_all ed fs ++ rest) ≡ record { frames = fs; tail = t }
scan_with ed next at fs rest t g e = scan-frames ed next at fs rest g ∙ ap (push_all fs) e ∙ push-ends fs t
