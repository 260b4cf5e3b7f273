-- A frame read somewhere in a block: what its head says, what it is followed by, and where its value stands.
use mathlib.Core.Path.{◌≡◌, refl, sym, ap, ◌∙◌}
use mathlib.Core.List.{List, [], ◌∷◌, ◌++◌}
use Prim.Native.Nat.{ℕ, zero, suc, ◌+◌, ◌-◌, ◌≤◌, min}
use native.Mathlib.Omega.{arith}
use native.Mathlib.Nat.{sub-zero}
use lib.ListN.{length, take, drop, length-append, length-take, length-drop}
use lib.Seq.{drop_at, drop-drop, take-take, take-nil}
use Rattle.frame.specs.declared.Edition.{Edition}
use Rattle.frame.specs.declared.Head.{Head}
use Rattle.frame.specs.declared.FrameRead.TheVariants as read
use Rattle.frame.specs.declared.Fault.{Fault}
use Rattle.frame.specs.Frame.{Frame, value_max, encode, frame_len, MayStand, next_after}
use Rattle.frame.specs.Reader.{Read, blank, whole, torn, wrong, read_frame, clean, cut, bad, push, ends, scan}
use Rattle.frame.specs.Sentences.{Whole}
use Rattle.frame.specs.Code.{head_of, value_of, read_of, head_len, value_len_of, value_start}
use Rattle.frame.proofs.Encode.{NotClosed, length-encode}
use Rattle.frame.proofs.Exact.{whole-sound, read-blank}
use Rattle.frame.proofs.Heads.{head_len_lem, value-stands}
use Rattle.frame.proofs.Scanning.{scan_nil, scan-skip, scan-read-blank, scan-read-whole}
use Rattle.frame.proofs.Scanning.{scan-read-torn, scan-read-wrong}
use Rattle.frame.proofs.Heads.{value-end, value-small}

-- ---- what the code read

pub whole_is : (r : Read) (h : Head) → read_of r ≡ read.Whole h → (f : Frame) × (r ≡ whole f) × (head_of f ≡ h)
whole_is blank h e = let z : ◌≡◌ {A = ℕ} 0 1 = cc in absurd (omega arith)
whole_is (whole f) h e = (f, refl, cc)
whole_is (torn n) h e = let z : ◌≡◌ {A = ℕ} 0 1 = cc in absurd (omega arith)
whole_is (wrong x) h e = let z : ◌≡◌ {A = ℕ} 0 1 = cc in absurd (omega arith)

pub blank-is : (r : Read) → read_of r ≡ read.Blank → r ≡ blank
blank-is blank e = refl
blank-is (whole f) e = let z : ◌≡◌ {A = ℕ} 0 1 = cc in absurd (omega arith)
blank-is (torn n) e = let z : ◌≡◌ {A = ℕ} 0 1 = cc in absurd (omega arith)
blank-is (wrong x) e = let z : ◌≡◌ {A = ℕ} 0 1 = cc in absurd (omega arith)

pub torn_is : (r : Read) (n : ℕ) → read_of r ≡ read.Torn n → r ≡ torn n
torn_is blank n e = let z : ◌≡◌ {A = ℕ} 0 1 = cc in absurd (omega arith)
torn_is (whole f) n e = let z : ◌≡◌ {A = ℕ} 0 1 = cc in absurd (omega arith)
torn_is (torn m) n e = cc
torn_is (wrong x) n e = let z : ◌≡◌ {A = ℕ} 0 1 = cc in absurd (omega arith)

-- ---- a whole frame

module _ (ed : Edition) (next at : ℕ) (l : List ℕ) (f : Frame) (e : read_frame ed next at l ≡ whole f) where
  sound : Whole ed next l f
  sound = whole-sound ed next at l f e

  pub whole_stands : MayStand ed next f
  whole_stands = sound.stands

  pub whole_bytes : l ≡ encode ed f ++ drop (frame_len ed f) l
  whole_bytes =
      sound.bytes ∙ ap (λ (x : List ℕ). encode ed f ++ x)
      (sym (ap (drop (frame_len ed f)) sound.bytes ∙ drop_at (encode ed f) sound.rest (frame_len ed f) (length-encode ed f)))

  pub whole_fits : frame_len ed f ≤ length l
  whole_fits =
      omega (arith, ap length whole_bytes ∙ length-append (encode ed f) (drop (frame_len ed f) l), length-encode ed f)

-- by the head alone
pub read-inside : (ed : Edition) (next at : ℕ) (l : List ℕ) (h : Head) → read_of (read_frame ed next at (drop at l)) ≡ read.Whole h
    → (at + head_len ed h ≤ length l) × (5 ≤ head_len ed h)
read-inside ed next at l h e =
    let w : (f : Frame) × (read_frame ed next at (drop at l) ≡ whole f) × (head_of f ≡ h) = whole_is (read_frame ed next at (drop at l)) h e in
    let f : Frame = w.0 in
    let n : head_len ed h ≡ frame_len ed f = ap (head_len ed) (sym w.2) ∙ head_len_lem ed f in
    let k : frame_len ed f ≤ length l - at = omega (arith, whole_fits ed next at (drop at l) f w.1, length-drop at l) in
    (omega (arith, n, k), omega (arith, n))

not_whole : (ed : Edition) (next at : ℕ) (f : Frame) → read_frame ed next at [] ≡ whole f → ⊥
not_whole ed next at f e = let q : blank ≡ whole f = sym (read-blank ed next at 0) ∙ e in let z : ◌≡◌ {A = ℕ} 0 1 = cc in omega arith

-- ---- a scan by what is read first

pub scan-blank-at : (ed : Edition) (next at : ℕ) (l : List ℕ) → read_frame ed next at l ≡ blank → scan ed next at 0 l ≡ ends clean
scan-blank-at ed next at [] e = scan_nil ed next at 0
scan-blank-at ed next at (b ∷ t) e = scan-read-blank ed next at b t e

pub scan-torn-at : (ed : Edition) (next at : ℕ) (l : List ℕ) (n : ℕ) → read_frame ed next at l ≡ torn n → scan ed next at 0 l ≡ ends (cut n)
scan-torn-at ed next at [] n e = let q : blank ≡ torn n = sym (read-blank ed next at 0) ∙ e in let z : ◌≡◌ {A = ℕ} 0 1 = cc in absurd (omega arith)
scan-torn-at ed next at (b ∷ t) n e = scan-read-torn ed next at b t n e

pub scan-wrong-at : (ed : Edition) (next at : ℕ) (l : List ℕ) (x : Fault) → read_frame ed next at l ≡ wrong x → scan ed next at 0 l ≡ ends (bad x)
scan-wrong-at ed next at [] x e = let q : blank ≡ wrong x = sym (read-blank ed next at 0) ∙ e in let z : ◌≡◌ {A = ℕ} 0 1 = cc in absurd (omega arith)
scan-wrong-at ed next at (b ∷ t) x e = scan-read-wrong ed next at b t x e

frame_len_pos : (ed : Edition) (f : Frame) (n : ℕ) → n ≡ frame_len ed f → n ≡ suc (frame_len ed f - 1)
frame_len_pos ed f n e = omega arith

pub scan-whole-at : (ed : Edition) (next at : ℕ) (l : List ℕ) (f : Frame) → read_frame ed next at l ≡ whole f
    → scan ed next at 0 l ≡ push f (scan ed (next_after f) (at + frame_len ed f) 0 (drop (frame_len ed f) l))
scan-whole-at ed next at [] f e = absurd (not_whole ed next at f e)
scan-whole-at ed next at (b ∷ t) f e =
    let p : suc at + (frame_len ed f - 1) ≡ at + frame_len ed f = omega arith in
    let q : drop (frame_len ed f) (b ∷ t) ≡ drop (frame_len ed f - 1) t = ap (λ (n : ℕ). drop n (b ∷ t)) (frame_len_pos ed f (frame_len ed f) refl) in
    scan-read-whole ed next at b t f e
    ∙ ap (push f) (scan-skip ed (next_after f) (suc at) (frame_len ed f - 1) t)
    ∙ ap (λ (x : ℕ). push f (scan ed (next_after f) x 0 (drop (frame_len ed f - 1) t))) p
    ∙ ap (λ (x : List ℕ). push f (scan ed (next_after f) (at + frame_len ed f) 0 x)) (sym q)

-- ---- parts of a block

pub drop-take : (m e : ℕ) (l : List ℕ) → drop m (take e l) ≡ take (e - m) (drop m l)
drop-take zero e l = rw (sub-zero e)
drop-take (suc m) zero l = let z : 0 - suc m ≡ 0 = omega arith in rw z
drop-take (suc m) (suc e) [] = sym (take-nil (suc e - suc m))
drop-take (suc m) (suc e) (x ∷ l) = let z : suc e - suc m ≡ e - m = omega arith in rw z (drop-take m e l)

pub part_same : (m n e : ℕ) (b : List ℕ) → m + n ≤ e → take n (drop m (take e b)) ≡ take n (drop m b)
part_same m n e b h = rw (drop-take m e b) (take-take n (e - m) (drop m b) (omega arith))

-- a frame at offset `at` of a block cut off at e
module _ (ed : Edition) (next at o e : ℕ) (b : List ℕ) (f : Frame) (r : read_frame ed next o (drop at (take e b)) ≡ whole f) where
  room : at + frame_len ed f ≤ length (take e b)
  room = omega (arith, whole_fits ed next o (drop at (take e b)) f r, length-drop at (take e b), frame_len_pos ed f (frame_len ed f) refl)

  pub frame_inside : at + frame_len ed f ≤ min e (length b)
  frame_inside = omega (arith, room, length-take e b)

  value_in_frame : value_start (head_of f) + value_len_of (head_of f) ≤ frame_len ed f
  value_in_frame = omega (arith, value-end ed (head_of f), head_len_lem ed f)

  pub value_there : take (value_len_of (head_of f)) (drop (at + value_start (head_of f)) b) ≡ value_of f
  value_there =
      let n : ℕ = value_len_of (head_of f) in
      let s : ℕ = value_start (head_of f) in
      sym (part_same (at + s) n e b (omega (arith, frame_inside, value_in_frame)))
      ∙ ap (take n) (sym (drop-drop s at (take e b)))
      ∙ value-stands ed next o (drop at (take e b)) f r

  pub value_inside : NotClosed f → (at + value_start (head_of f) + value_len_of (head_of f) ≤ length b) × (value_len_of (head_of f) ≤ value_max)
  value_inside u = (omega (arith, frame_inside, value_in_frame), value-small ed next f u (whole_stands ed next o (drop at (take e b)) f r))
