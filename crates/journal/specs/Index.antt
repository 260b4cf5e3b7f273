-- Where a journal's frames stand: what a read and a transfer find without a replay.
use Rattle.std.specs.Prelude.{List, [], ◌∷◌, Bool, true, false, ℕ, zero, suc, ◌+◌, ◌-◌, eqb, leb, get_or, take, drop, set}
use Rattle.std.proofs.Math.Option.{Option, none, some}
use Rattle.frame.specs.declared.Edition.{Edition}
use Rattle.frame.specs.declared.Host.{Host}
use Rattle.frame.specs.declared.ObjectId.{ObjectId}
use Rattle.frame.specs.Frame.{host_of, id_of, ChangeOf, put, delete, FrameOf, Frame, change, commit, abort, settled, closed, reset, map_change, map_frame, frame_len}
use Rattle.frame.specs.Frame.{put_value_at, settled_value_at}
use Rattle.frame.specs.Reader.{Read, blank, whole, torn, wrong, read_frame}
use Rattle.journal.specs.Replay.{ObjectOf, lookup, replay}
use Rattle.journal.specs.Block.{header_len}

-- the frames with each value's frame's offset for the value: replay of them finds where each settled object stands
unfoldable pub sited : Edition → ℕ → List Frame → List (FrameOf ℕ)
sited ed o [] = []
sited ed o (f ∷ fs) = map_frame (λ v. o) f ∷ sited ed (o + frame_len ed f) fs

-- 0, in the header, is no frame's place
abbrev pub or_zero : Option ℕ → ℕ
or_zero none = 0
or_zero (some p) = p

-- one place for each of n ids from i on
unfoldable pub places_from : ℕ → ℕ → List (ObjectOf ℕ) → List ℕ
places_from zero i os = []
places_from (suc n) i os = or_zero (lookup (id_of i) os) ∷ places_from n (suc i) os

-- for every id the offset of the frame that its settled value stands in; 0 where it has none
abbrev pub places_of : Edition → List Frame → List ℕ
places_of ed fs = places_from 256 0 (replay (sited ed header_len fs)).objects

-- the frame ends a host's pending list: a reset every host's
abbrev pub is_end : Host → Frame → Bool
is_end h (change g c) = false
is_end h (commit g) = eqb h.0 g.0
is_end h (abort g) = eqb h.0 g.0
is_end h (settled i v) = false
is_end h (closed v) = false
is_end h reset = true

abbrev pub pick : Bool → ℕ → ℕ → ℕ
pick true a b = a
pick false a b = b

-- the offset past a host's last commit or abort, or a reset, of frames that start at o; d where there is none
unfoldable pub since_from : Edition → Host → ℕ → ℕ → List Frame → ℕ
since_from ed h o d [] = d
since_from ed h o d (f ∷ fs) = since_from ed h (o + frame_len ed f) (pick (is_end h f) (o + frame_len ed f) d) fs

abbrev pub since_host : Edition → Host → List Frame → ℕ
since_host ed h fs = since_from ed h header_len header_len fs

-- one such offset for each host: what stands below it of that host's is no longer pending
abbrev pub since_of : Edition → List Frame → List ℕ
since_of ed fs = since_host ed (host_of 0) fs ∷ since_host ed (host_of 1) fs ∷ since_host ed (host_of 2) fs ∷ since_host ed (host_of 3) fs ∷ []

-- ---- a value by its place

-- a value and its offset in the block
pub record Value : Type 0 where
  pub at : ℕ
  pub bytes : List ℕ

abbrev pub only_if : {A : Type 0} → Bool → A → Option A
only_if true x = some x
only_if false x = none

-- the value of an id that a frame at offset p holds: a put's or a settled frame's
abbrev pub frame_value : ObjectId → ℕ → Frame → Option Value
frame_value i p (change h (put j v)) = only_if (eqb i.0 j.0) (record { at = p + put_value_at; bytes = v })
frame_value i p (change h (delete j)) = none
frame_value i p (commit h) = none
frame_value i p (abort h) = none
frame_value i p (settled j v) = only_if (eqb i.0 j.0) (record { at = p + settled_value_at; bytes = v })
frame_value i p (closed v) = none
frame_value i p reset = none

-- only a whole frame holds a value
abbrev pub value_read : ObjectId → ℕ → Read → Option Value
value_read i p blank = none
value_read i p (whole f) = frame_value i p f
value_read i p (torn n) = none
value_read i p (wrong e) = none

-- the value of an id at a place of a block; place 0, in the header, is none
unfoldable pub value_at : Edition → List ℕ → ObjectId → ℕ → Option Value
value_at ed b i p = elim (eqb p 0) [ true ↦ none | false ↦ value_read i p (read_frame ed 0 p (drop p b)) ]

-- ---- the frames of a state, one at a time: what is left from a cursor on

-- a frame to copy, and the cursor after it: the next id, and the next offset of the journal
pub record Load : Type 0 where
  pub frame : Frame
  pub id : ℕ
  pub source : ℕ

abbrev pub load : Frame → ℕ → ℕ → Load
load f i s = record { frame = f; id = i; source = s }

-- the settled frame of the first of n ids from i on whose place holds its value
unfoldable pub next_settled : Edition → List ℕ → List ℕ → ℕ → ℕ → ℕ → Option Load
next_settled ed b places source zero i = none
next_settled ed b places source (suc n) i =
    elim (value_at ed b (id_of i) (get_or places i 0)) [
      | some x ↦ some (load (settled (id_of i) x.bytes) (suc i) source)
      | none ↦ next_settled ed b places source n (suc i)
    ]

-- a put or delete at or past its host's `since`
abbrev pub is_pending : List ℕ → ℕ → Frame → Bool
is_pending since at (change h c) = leb (get_or since h.0 0) at
is_pending since at (commit h) = false
is_pending since at (abort h) = false
is_pending since at (settled i v) = false
is_pending since at (closed v) = false
is_pending since at reset = false

-- the first pending frame of a journal's bytes, which start at offset `at` of the block; k as in `scan`; settled frames are passed over
unfoldable pub next_pending : Edition → List ℕ → ℕ → ℕ → List ℕ → Option Load
next_pending ed since at k [] = none
next_pending ed since at zero (b ∷ t) =
    elim (read_frame ed 0 at (b ∷ t)) [
      | blank ↦ none
      | whole f ↦ elim (is_pending since at f) [
        | true ↦ some (load f 256 (at + frame_len ed f))
        | false ↦ next_pending ed since (suc at) (frame_len ed f - 1) t
      ]
      | torn n ↦ none
      | wrong e ↦ none
    ]
next_pending ed since at (suc k) (b ∷ t) = next_pending ed since (suc at) k t

-- settled frames go before pending ones
abbrev pub or_else : Option Load → Option Load → Option Load
or_else (some u) o = some u
or_else none o = o

-- the next frame that a transfer of block b writes, whose whole frames run to `end`
unfoldable pub next_load_of : Edition → List ℕ → ℕ → List ℕ → List ℕ → ℕ → ℕ → Option Load
next_load_of ed b end places since id source =
    or_else (next_settled ed b places source (256 - id) id) (next_pending ed since source 0 (drop source (take end b)))

-- ---- the places while a transfer copies, document 02, K8

-- what a change of a frame at offset p does: a put's place is p, and a delete leaves none
abbrev pub place_change : ChangeOf ℕ → List ℕ → List ℕ
place_change (put i p) t = set t i.0 p
place_change (delete i) t = set t i.0 0

abbrev pub place_if : Bool → ChangeOf ℕ → List ℕ → List ℕ
place_if true c t = place_change c t
place_if false c t = t

-- a frame that is copied to offset o: a settled object stands there, and a change of a host whose commit the job ends with
abbrev pub place_copied : (Host → Bool) → ℕ → Frame → List ℕ → List ℕ
place_copied ends o (change h c) t = place_if (ends h) (map_change (λ v. o) c) t
place_copied ends o (commit h) t = t
place_copied ends o (abort h) t = t
place_copied ends o (settled i v) t = set t i.0 o
place_copied ends o (closed v) t = t
place_copied ends o reset t = t

-- frames one after the other, the first to offset o
unfoldable pub place_all : Edition → (Host → Bool) → ℕ → List Frame → List ℕ → List ℕ
place_all ed ends o [] t = t
place_all ed ends o (f ∷ fs) t = place_all ed ends (o + frame_len ed f) fs (place_copied ends o f t)

-- whose commit a frame is
abbrev pub commits : Frame → Host → Bool
commits (change g c) h = false
commits (commit g) h = eqb g.0 h.0
commits (abort g) h = false
commits (settled i v) h = false
commits (closed v) h = false
commits reset h = false
