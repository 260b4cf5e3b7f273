-- The bytes of frames: how many, that they are bytes, and one frame more.
use mathlib.Core.Path.{◌≡◌, refl, sym, ap, ◌∙◌}
use mathlib.Core.List.{List, [], ◌∷◌, ◌++◌, append_assoc, append-nil}
use mathlib.Core.Logic.{inl, inr}
use Prim.Native.Nat.{ℕ, ◌+◌, ◌≤◌, ◌<◌}
use native.Mathlib.Omega.{arith}
use lib.ListN.{length, length-append}
use Rattle.flash.specs.Bytes.{Bytes}
use Rattle.flash.proofs.Blank.{bytes-append}
use Rattle.crc.specs.Crc.{crc32_of}
use Rattle.crc.proofs.Small.{crc32_small}
use Rattle.frame.specs.declared.Edition.{Edition}
use Rattle.frame.specs.declared.Edition.TheVariants as edition
use Rattle.frame.specs.Frame.{Frame, change, commit, abort, settled, closed, reset, put, delete, kind_of, body, check, check_len, sealed}
use Rattle.frame.specs.Frame.{seal_of, finish, edition_number, edition_by, buffer_len}
use Rattle.frame.specs.Frame.{front, encode, frame_len, encode_all, total, max_frame, MayStand, AllMayStand, Tears, next_after, next_of}
use Rattle.frame.specs.Sentences.{LengthShows}

pub edition-back : (e : Edition) → edition_by (edition_number e) ≡ e
edition-back edition.First = refl
edition-back edition.Second = refl

-- ---- the check: all that is used of it is how many bytes it has

pub check-length : (s : Edition) (x : List ℕ) → length (check s x) ≡ check_len s
check-length edition.First x = refl
check-length edition.Second x = refl

pub check-short : (s : Edition) → check_len s ≤ 4
check-short edition.First = omega arith
check-short edition.Second = omega arith

check-bytes : (s : Edition) (x : List ℕ) → Bytes x → Bytes (check s x)
check-bytes edition.First x y = tt
check-bytes edition.Second x y =
    let h : crc32_of x < 4294967296 = crc32_small x y in (omega arith, (omega arith, (omega arith, (omega arith, tt))))

-- ---- by kind

pub frame-short : (e : Edition) (next : ℕ) (f : Frame) → MayStand e next f → frame_len e f ≤ max_frame e
frame-short e next (change h (put i v)) (hh, hi, (hv, hb)) = omega arith
frame-short e next (change h (delete i)) g = omega arith
frame-short e next (commit h) g = omega arith
frame-short e next (abort h) g = omega arith
frame-short e next (settled i v) (hn, hi, (hv, hb)) = omega arith
frame-short e next (closed v) (inl h, hb) = omega arith
frame-short e next (closed v) (inr (inl h), hb) = omega arith
frame-short e next (closed v) (inr (inr h), hb) = omega arith
frame-short e next reset g = omega arith

pub kind-small : (f : Frame) → kind_of f < 255
kind-small (change h (put i v)) = omega arith
kind-small (change h (delete i)) = omega arith
kind-small (commit h) = omega arith
kind-small (abort h) = omega arith
kind-small (settled i v) = omega arith
kind-small (closed v) = omega arith
kind-small reset = omega arith

body_bytes : (e : Edition) (next : ℕ) (f : Frame) → MayStand e next f → Bytes (body f)
body_bytes e next (change h (put i v)) (hh, hi, (hv, hb)) = (omega arith, (omega arith, (omega arith, hb)))
body_bytes e next (change h (delete i)) (hh, hi) = omega arith
body_bytes e next (commit h) hh = omega arith
body_bytes e next (abort h) hh = omega arith
body_bytes e next (settled i v) (hn, hi, (hv, hb)) = (omega arith, (omega arith, hb))
body_bytes e next (closed v) (h, hb) = hb
body_bytes e next reset g = tt

-- frames that may be cut short may stand anywhere
pub stands_any : (e : Edition) (a b : ℕ) (f : Frame) → Tears f → MayStand e a f → MayStand e b f
stands_any e a b (change h (put i v)) u g = g
stands_any e a b (change h (delete i)) u g = g
stands_any e a b (commit h) u g = g
stands_any e a b (abort h) u g = g
stands_any e a b (settled i v) u g = absurd u
stands_any e a b (closed v) u g = absurd u
stands_any e a b reset u g = g

pub tears-kind : (f : Frame) → Tears f → kind_of f ≡ 0 → ⊥
tears-kind (change h (put i v)) u q = omega arith
tears-kind (change h (delete i)) u q = omega arith
tears-kind (commit h) u q = omega arith
tears-kind (abort h) u q = omega arith
tears-kind (settled i v) u q = absurd u
tears-kind (closed v) u q = absurd u
tears-kind reset u q = omega arith

-- what may stand somewhere may stand first
pub stands-zero : (e : Edition) (n : ℕ) (f : Frame) → MayStand e n f → MayStand e 0 f
stands-zero e n (change h c) g = stands_any e n 0 (change h c) tt g
stands-zero e n (commit h) g = g
stands-zero e n (abort h) g = g
stands-zero e n (settled i v) (a, b, c) = (omega arith, b, c)
stands-zero e n (closed v) g = g
stands-zero e n reset g = g

-- ---- one frame

-- a frame's length is one byte, and not 0xFF
pub length-shows : LengthShows
length-shows e = omega (arith, check-short e)

pub frame_small : (e : Edition) (next : ℕ) (f : Frame) → MayStand e next f → frame_len e f < 255
frame_small e next f g = omega (arith, frame-short e next f g, length-shows e)

pub length-sealed : (s : Edition) (x : List ℕ) → length (sealed s x) ≡ length x + check_len s + 1
length-sealed s x = simp length-append (omega (arith, check-length s x))

pub length-encode : (e : Edition) (f : Frame) → length (encode e f) ≡ frame_len e f
length-encode e f = length-sealed (seal_of e f) (front e f) ∙ omega arith

pub bytes-encode : (e : Edition) (next : ℕ) (f : Frame) → MayStand e next f → Bytes (encode e f)
bytes-encode e next f g =
    let n : frame_len e f < 255 = frame_small e next f g in
    let k : kind_of f < 255 = kind-small f in
    let b : Bytes (front e f) = (omega arith, (omega arith, (omega arith, (omega arith, body_bytes e next f g)))) in
    bytes-append (front e f) (check (seal_of e f) (front e f) ++ (finish ∷ [])) b
    (bytes-append (check (seal_of e f) (front e f)) (finish ∷ []) (check-bytes (seal_of e f) (front e f) b) (omega arith, tt))

-- ---- frames one after the other

pub length-all : (e : Edition) (fs : List Frame) → length (encode_all e fs) ≡ total e fs
unfolding encode_all total
length-all e [] = refl
length-all e (f ∷ fs) = length-append (encode e f) (encode_all e fs) ∙ omega (arith, length-encode e f, length-all e fs)

pub bytes-all : (e : Edition) (next : ℕ) (fs : List Frame) → AllMayStand e next fs → Bytes (encode_all e fs)
unfolding encode_all
bytes-all e next [] g = tt
bytes-all e next (f ∷ fs) (g, gs) = bytes-append (encode e f) (encode_all e fs) (bytes-encode e next f g) (bytes-all e (next_after f) fs gs)

pub encode-append : (e : Edition) (fs gs : List Frame) → encode_all e (fs ++ gs) ≡ encode_all e fs ++ encode_all e gs
unfolding encode_all
encode-append e [] gs = refl
encode-append e (f ∷ fs) gs =
    ap (λ (x : List ℕ). encode e f ++ x) (encode-append e fs gs) ∙ sym (append_assoc (encode e f) (encode_all e fs) (encode_all e gs))

pub encode_snoc : (e : Edition) (fs : List Frame) (f : Frame) → encode_all e (fs ++ (f ∷ [])) ≡ encode_all e fs ++ encode e f
unfolding encode_all
encode_snoc e fs f = encode-append e fs (f ∷ []) ∙ ap (λ (x : List ℕ). encode_all e fs ++ x) (append-nil (encode e f))

pub total-append : (e : Edition) (fs gs : List Frame) → total e (fs ++ gs) ≡ total e fs + total e gs
unfolding total
total-append e [] gs = omega arith
total-append e (f ∷ fs) gs = omega (arith, total-append e fs gs)

pub total_snoc : (e : Edition) (fs : List Frame) (f : Frame) → total e (fs ++ (f ∷ [])) ≡ total e fs + frame_len e f
unfolding total
total_snoc e fs f = omega (arith, total-append e fs (f ∷ []))

pub stands-append : (e : Edition) (next : ℕ) (fs gs : List Frame) → AllMayStand e next fs → AllMayStand e (next_of next fs) gs
    → AllMayStand e next (fs ++ gs)
stands-append e next [] gs u w = w
stands-append e next (f ∷ fs) gs (g, u) w = (g, stands-append e (next_after f) fs gs u w)

pub next-append : (next : ℕ) (fs gs : List Frame) → next_of next (fs ++ gs) ≡ next_of (next_of next fs) gs
next-append next [] gs = refl
next-append next (f ∷ fs) gs = next-append (next_after f) fs gs

-- ---- from one edition to another

-- a closed frame's legal lengths are its edition's
abbrev pub NotClosed : Frame → Type 0
NotClosed (change h c) = Unit {0}
NotClosed (commit h) = Unit {0}
NotClosed (abort h) = Unit {0}
NotClosed (settled i v) = Unit {0}
NotClosed (closed v) = ⊥
NotClosed reset = Unit {0}

abbrev pub NoneClosed : List Frame → Type 0
NoneClosed [] = Unit {0}
NoneClosed (f ∷ fs) = NotClosed f × NoneClosed fs

-- any other that is legal in one edition is so in any
pub may_edition : (d e : Edition) (n : ℕ) (f : Frame) → NotClosed f → MayStand d n f → MayStand e n f
may_edition d e n (change h (put i v)) u g = g
may_edition d e n (change h (delete i)) u g = g
may_edition d e n (commit h) u g = g
may_edition d e n (abort h) u g = g
may_edition d e n (settled i v) u g = g
may_edition d e n (closed v) u g = absurd u
may_edition d e n reset u g = tt

pub stands-edition : (d e : Edition) (n : ℕ) (fs : List Frame) → NoneClosed fs → AllMayStand d n fs → AllMayStand e n fs
stands-edition d e n [] u g = tt
stands-edition d e n (f ∷ fs) (u, us) (g, gs) = (may_edition d e n f u g, stands-edition d e (next_after f) fs us gs)

-- every frame that may stand fits a buffer, whichever edition it is then written in
pub frame-fits : (d e : Edition) (n : ℕ) (f : Frame) → MayStand d n f → frame_len e f ≤ buffer_len
frame-fits d e n (change h (put i v)) (hh, hi, (hv, hb)) = omega (arith, check-short e)
frame-fits d e n (change h (delete i)) g = omega (arith, check-short e)
frame-fits d e n (commit h) g = omega (arith, check-short e)
frame-fits d e n (abort h) g = omega (arith, check-short e)
frame-fits d e n (settled i v) (hn, hi, (hv, hb)) = omega (arith, check-short e)
frame-fits d e n (closed v) g = omega (arith, check-short d, frame-short d n (closed v) g)
frame-fits d e n reset g = omega (arith, check-short e)
