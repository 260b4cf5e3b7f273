-- Frames, document 01, "Frames": what they say and their bytes, over the edition of document 02's K9.
use Rattle.std.specs.Prelude.{List, [], ◌∷◌, ◌++◌, Bool, true, false, ◌⊎◌, ◌≡◌, ℕ, suc, ◌+◌, ◌-◌, ◌≤◌, eqb, length, replicate}
use Rattle.flash.specs.Bytes.{Bytes, u16le, u32le}
use Rattle.crc.specs.Crc.{crc32_of}
use Rattle.frame.specs.declared.Edition.{Edition}
use Rattle.frame.specs.declared.Edition.TheVariants as edition
use Rattle.frame.specs.declared.Host.{Host}
use Rattle.frame.specs.declared.ObjectId.{ObjectId}

-- "Hosts 0 to 3. Object ids 0 to 255; neither number may ever stand in for the other."
abbrev pub host_max : ℕ
host_max = 3

abbrev pub id_max : ℕ
id_max = 255

abbrev pub host_of : ℕ → Host
host_of n = record { 0 = n }

abbrev pub id_of : ℕ → ObjectId
id_of n = record { 0 = n }

-- "Raise the value limit from 64 to 240" (document 02, K2). "An empty value is an object."
abbrev pub value_max : ℕ
value_max = 240

-- a change to the objects; A stands for the value, by itself its bytes
pub data ChangeOf (A : Type 0) : Type 0 where
  put : ObjectId → A → ChangeOf A
  delete : ObjectId → ChangeOf A

-- the kinds of frame; a put and a delete are the changes. A closed frame (document 02, K11) is a torn one closed in place: its body and check are
-- ignored, and stand here as its value. A reset drops what is pending.
pub data FrameOf (A : Type 0) : Type 0 where
  change : Host → ChangeOf A → FrameOf A
  commit : Host → FrameOf A
  abort : Host → FrameOf A
  settled : ObjectId → A → FrameOf A
  closed : A → FrameOf A
  reset : FrameOf A

-- with the bytes for the value
abbrev pub Change : Type 0
Change = ChangeOf (List ℕ)

abbrev pub Frame : Type 0
Frame = FrameOf (List ℕ)

-- the same with something else for the values
abbrev pub map_change : {A B : Type 0} → (A → B) → ChangeOf A → ChangeOf B
map_change f (put i v) = put i (f v)
map_change f (delete i) = delete i

abbrev pub map_frame : {A B : Type 0} → (A → B) → FrameOf A → FrameOf B
map_frame f (change h c) = change h (map_change f c)
map_frame f (commit h) = commit h
map_frame f (abort h) = abort h
map_frame f (settled i v) = settled i (f v)
map_frame f (closed v) = closed (f v)
map_frame f reset = reset

-- the number of an edition; 2 is the second's, any other the first's
abbrev pub edition_number : Edition → ℕ
edition_number edition.First = 1
edition_number edition.Second = 2

abbrev pub second_if : Bool → Edition
second_if true = edition.Second
second_if false = edition.First

abbrev pub edition_by : ℕ → Edition
edition_by n = second_if (eqb n 2)

-- ---- the table of kinds

-- the table's columns Kind and Body
abbrev pub kind_of : Frame → ℕ
kind_of (change h (put i v)) = 1
kind_of (change h (delete i)) = 2
kind_of (commit h) = 3
kind_of (abort h) = 4
kind_of (settled i v) = 5
kind_of (closed v) = 0
kind_of reset = 7

abbrev pub body : Frame → List ℕ
body (change h (put i v)) = h.0 ∷ (u16le i.0 ++ v)
body (change h (delete i)) = h.0 ∷ u16le i.0
body (commit h) = h.0 ∷ []
body (abort h) = h.0 ∷ []
body (settled i v) = u16le i.0 ++ v
body (closed v) = v
body reset = []

-- ---- the seal: the check and the finish byte

-- "each frame has four bytes of CRC-32 (IEEE 802.3), over all that precedes them in the frame, before the finish byte" (document 02, K9);
-- in the first edition there is no check
abbrev pub check_len : Edition → ℕ
check_len edition.First = 0
check_len edition.Second = 4

abbrev pub check : Edition → List ℕ → List ℕ
check edition.First x = []
check edition.Second x = u32le (crc32_of x)

-- "finish byte 0xFE"
abbrev pub finish : ℕ
finish = 0xFE

-- bytes with the seal that they determine
abbrev pub sealed : Edition → List ℕ → List ℕ
sealed s x = x ++ (check s x ++ (finish ∷ []))

-- the edition whose check a frame has: of every kind the journal's own, but a closed frame's is ignored
abbrev pub seal_of : Edition → Frame → Edition
seal_of e (change h c) = e
seal_of e (commit h) = e
seal_of e (abort h) = e
seal_of e (settled i v) = e
seal_of e (closed v) = edition.First
seal_of e reset = e

-- "Length (2, whole frame), kind (2), body, finish byte 0xFE."
abbrev pub overhead : Edition → ℕ
overhead e = 5 + check_len e

abbrev pub frame_len : Edition → Frame → ℕ
frame_len e f = overhead (seal_of e f) + length (body f)

-- what the check is over
abbrev pub front : Edition → Frame → List ℕ
front e f = u16le (frame_len e f) ++ (u16le (kind_of f) ++ body f)

abbrev pub encode : Edition → Frame → List ℕ
encode e f = sealed (seal_of e f) (front e f)

-- the offsets in a frame: kind, body, and the value, a put's past its host and id, a settled frame's past its id
abbrev pub kind_at : ℕ
kind_at = 2

abbrev pub body_at : ℕ
body_at = 4

abbrev pub put_value_at : ℕ
put_value_at = body_at + 3

abbrev pub settled_value_at : ℕ
settled_value_at = body_at + 2

-- the lengths by kind: 8+v, 8, 6, 6, 7+v, and in the second edition four more
abbrev pub put_len : Edition → ℕ → ℕ
put_len e v = overhead e + 3 + v

abbrev pub delete_len : Edition → ℕ
delete_len e = overhead e + 3

abbrev pub end_len : Edition → ℕ  -- a commit's or an abort's
end_len e = overhead e + 1

abbrev pub settled_len : Edition → ℕ → ℕ
settled_len e v = overhead e + 2 + v

-- "kind 7, no body, length 5 or in edition 2 nine"
abbrev pub reset_len : Edition → ℕ
reset_len e = overhead e

abbrev pub closed_len : ℕ → ℕ
closed_len v = overhead edition.First + v

-- a put of the longest value: 248 or 252
abbrev pub max_frame : Edition → ℕ
max_frame e = put_len e value_max

-- ---- legal frames

-- "v at most 64", by K2 240, and each a byte
abbrev pub LegalValue : List ℕ → Type 0
LegalValue v = (length v ≤ value_max) × Bytes v

-- a closed frame's "length is one of kinds 1 to 4 or 7"
abbrev pub ClosedLength : Edition → ℕ → Type 0
ClosedLength e n = (n ≡ reset_len e) ⊎ ((n ≡ end_len e) ⊎ ((put_len e 0 ≤ n) × (n ≤ put_len e value_max)))

-- "A frame is legal if its length fits its kind, its host is at most 3, its id at most 255, v at most 64 and its last byte 0xFE." (K2: 240.)
-- Length and last byte are `encode`'s. "Settled frames stand first, ids strictly rising": a settled frame may stand where
-- its id is at least `next`, which is 256 where none may stand.
abbrev pub MayStand : Edition → ℕ → Frame → Type 0
MayStand e next (change h (put i v)) = (h.0 ≤ host_max) × (i.0 ≤ id_max) × LegalValue v
MayStand e next (change h (delete i)) = (h.0 ≤ host_max) × (i.0 ≤ id_max)
MayStand e next (commit h) = h.0 ≤ host_max
MayStand e next (abort h) = h.0 ≤ host_max
MayStand e next (settled i v) = (next ≤ i.0) × (i.0 ≤ id_max) × LegalValue v
MayStand e next (closed v) = ClosedLength e (closed_len (length v)) × Bytes v
MayStand e next reset = Unit {0}

-- the least id that a settled frame may have after this frame
abbrev pub next_after : Frame → ℕ
next_after (change h c) = 256
next_after (commit h) = 256
next_after (abort h) = 256
next_after (settled i v) = suc i.0
next_after (closed v) = 256
next_after reset = 256

-- kinds 1 to 4 may be cut short; "a cut reset, is torn too" (document 02, K11)
abbrev pub Tears : Frame → Type 0
Tears (change h c) = Unit {0}
Tears (commit h) = Unit {0}
Tears (abort h) = Unit {0}
Tears (settled i v) = ⊥
Tears (closed v) = ⊥
Tears reset = Unit {0}

-- ---- frames one after the other

-- their bytes, and how many those are
unfoldable pub encode_all : Edition → List Frame → List ℕ
encode_all e [] = []
encode_all e (f ∷ fs) = encode e f ++ encode_all e fs

unfoldable pub total : Edition → List Frame → ℕ
total e [] = 0
total e (f ∷ fs) = frame_len e f + total e fs

-- each is legal where it stands, the settled ones placed as said
abbrev pub AllMayStand : Edition → ℕ → List Frame → Type 0
AllMayStand e next [] = Unit {0}
AllMayStand e next (f ∷ fs) = MayStand e next f × AllMayStand e (next_after f) fs

-- the least id that a settled frame may have after these frames
abbrev pub next_of : ℕ → List Frame → ℕ
next_of next [] = next
next_of next (f ∷ fs) = next_of (next_after f) fs

-- bytes at the front of a frame buffer, which holds a frame of either edition, and zeros after them
abbrev pub buffer_len : ℕ
buffer_len = max_frame edition.Second

abbrev pub buffer : List ℕ → List ℕ
buffer bs = bs ++ replicate (buffer_len - length bs) 0
