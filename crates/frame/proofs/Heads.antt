-- Heads and values: a frame is its head and its value, where in its bytes the value stands, and another value in its place.
use mathlib.Core.Path.{◌≡◌, refl, ap}
use mathlib.Core.List.{List, [], ◌∷◌, ◌++◌}
use Prim.Native.Nat.{ℕ, ◌+◌, ◌≤◌}
use native.Mathlib.Omega.{arith}
use lib.ListN.{length, take, drop}
use Rattle.frame.specs.declared.Edition.{Edition}
use Rattle.frame.specs.declared.Edition.TheVariants as edition
use Rattle.frame.specs.declared.Head.{Head}
use Rattle.frame.specs.declared.Head.TheVariants as head
use Rattle.frame.specs.Frame.{Frame, change, commit, abort, settled, closed, reset, put, delete, check, finish, front, encode, frame_len}
use Rattle.frame.specs.Frame.{FrameOf, map_frame, value_max, max_frame, MayStand}
use Rattle.frame.specs.Reader.{whole, read_frame}
use Rattle.frame.specs.Sentences.{Whole}
use Rattle.frame.specs.Code.{head_of, peek_at, value_of, frame_of, head_len, value_len_of, value_start}
use Rattle.frame.proofs.Encode.{NotClosed}
use Rattle.frame.proofs.Own.{value-back}
use Rattle.frame.proofs.Exact.{whole_decoded, whole-sound}

pub frame-of-head : (f : Frame) → frame_of (head_of f) (value_of f) ≡ f
frame-of-head (change h (put i v)) = refl
frame-of-head (change h (delete i)) = refl
frame-of-head (commit h) = refl
frame-of-head (abort h) = refl
frame-of-head (settled i v) = refl
frame-of-head (closed v) = refl
frame-of-head reset = refl

pub head_len_lem : (e : Edition) (f : Frame) → head_len e (head_of f) ≡ frame_len e f
head_len_lem e (change h (put i v)) = omega arith
head_len_lem e (change h (delete i)) = omega arith
head_len_lem e (commit h) = omega arith
head_len_lem e (abort h) = omega arith
head_len_lem e (settled i v) = omega arith
head_len_lem e (closed v) = omega arith
head_len_lem e reset = omega arith

pub value_len : (f : Frame) → value_len_of (head_of f) ≡ length (value_of f)
value_len (change h (put i v)) = refl
value_len (change h (delete i)) = refl
value_len (commit h) = refl
value_len (abort h) = refl
value_len (settled i v) = refl
value_len (closed v) = refl
value_len reset = refl

-- a head by itself
pub len_of : (e : Edition) (h : Head) (v : List ℕ) → length v ≡ value_len_of h → head_len e h ≡ frame_len e (frame_of h v)
len_of e (head.Put g i n) v q = omega arith
len_of e (head.Delete g i) v q = omega arith
len_of e (head.Commit g) v q = omega arith
len_of e (head.Abort g) v q = omega arith
len_of e (head.Settled i n) v q = omega arith
len_of e (head.Closed n) v q = omega arith
len_of e head.Reset v q = omega arith

pub head-short : (e : Edition) (h : Head) → value_len_of h ≤ value_max → head_len e h ≤ max_frame e
head-short e (head.Put g i n) l = omega arith
head-short e (head.Delete g i) l = omega arith
head-short e (head.Commit g) l = omega arith
head-short e (head.Abort g) l = omega arith
head-short e (head.Settled i n) l = omega arith
head-short e (head.Closed n) l = omega arith
head-short e head.Reset l = omega arith

pub value-end : (e : Edition) (h : Head) → value_start h + value_len_of h ≤ head_len e h
value-end e (head.Put g i n) = omega arith
value-end e (head.Delete g i) = omega arith
value-end e (head.Commit g) = omega arith
value-end e (head.Abort g) = omega arith
value-end e (head.Settled i n) = omega arith
value-end e (head.Closed n) = omega arith
value-end e head.Reset = omega arith

-- the value of a frame that may stand; what a closed frame ignores can be longer
pub value-small : (e : Edition) (next : ℕ) (f : Frame) → NotClosed f → MayStand e next f → value_len_of (head_of f) ≤ value_max
value-small e next (change h (put i v)) u (a, b, (c, d)) = c
value-small e next (change h (delete i)) u g = omega arith
value-small e next (commit h) u g = omega arith
value-small e next (abort h) u g = omega arith
value-small e next (settled i v) u (a, b, (c, d)) = c
value-small e next (closed v) u g = absurd u
value-small e next reset u g = omega arith

value_in : (e : Edition) (f : Frame) (rest : List ℕ) → take (length (value_of f)) (drop (value_start (head_of f)) (encode e f ++ rest)) ≡ value_of f
value_in e (change h (put i v)) rest = value-back v (check e (front e (change h (put i v))) ++ (finish ∷ [])) rest (length v) refl
value_in e (change h (delete i)) rest = refl
value_in e (commit h) rest = refl
value_in e (abort h) rest = refl
value_in e (settled i v) rest = value-back v (check e (front e (settled i v)) ++ (finish ∷ [])) rest (length v) refl
value_in e (closed v) rest = value-back v (check edition.First (front e (closed v)) ++ (finish ∷ [])) rest (length v) refl
value_in e reset rest = refl

-- the value of a whole frame, by its head
pub value-stands : (e : Edition) (next at : ℕ) (t : List ℕ) (f : Frame) → read_frame e next at t ≡ whole f
    → take (value_len_of (head_of f)) (drop (value_start (head_of f)) t) ≡ value_of f
value-stands e next at t f q =
    let w : Whole e next t f = whole-sound e next at t f q in
    rw (value_len f, w.bytes) (value_in e f w.rest)

-- and its head, with no test
pub peek_whole : (e : Edition) (next at : ℕ) (b : List ℕ) (f : Frame) → read_frame e next at (drop at b) ≡ whole f → peek_at e b at ≡ head_of f
unfolding peek_at
peek_whole e next at b f q = ap head_of (whole_decoded e next at (drop at b) f q)

-- ---- another value

pub map-twice : {A B C : Type 0} (g : B → C) (f : A → B) (x : FrameOf A) → map_frame g (map_frame f x) ≡ map_frame (λ v. g (f v)) x
map-twice g f (change h (put i v)) = refl
map-twice g f (change h (delete i)) = refl
map-twice g f (commit h) = refl
map-twice g f (abort h) = refl
map-twice g f (settled i v) = refl
map-twice g f (closed v) = refl
map-twice g f reset = refl

pub map-plain : {A : Type 0} (x : FrameOf A) → map_frame (λ v. v) x ≡ x
map-plain (change h (put i v)) = refl
map-plain (change h (delete i)) = refl
map-plain (commit h) = refl
map-plain (abort h) = refl
map-plain (settled i v) = refl
map-plain (closed v) = refl
map-plain reset = refl
