-- Document 01's sentences about one frame's bytes, and the statement that the reader says exactly these.
use Rattle.std.specs.Prelude.{List, [], ◌∷◌, ◌++◌, ◌↔◌, ◌⊎◌, ◌≡◌, ℕ, suc, ◌+◌, ◌≤◌, ◌<◌, length, take, replicate}
use Rattle.flash.specs.Bytes.{Bytes}
use Rattle.frame.specs.declared.Edition.{Edition}
use Rattle.frame.specs.declared.Edition.TheVariants as edition
use Rattle.frame.specs.Frame.{Frame, change, commit, abort, settled, closed, reset, id_of, id_max, body, check_len, seal_of, body_at}
use Rattle.frame.specs.Frame.{LegalValue, ClosedLength, encode, frame_len, max_frame, MayStand, Tears, next_after}
use Rattle.frame.specs.Reader.{blank, whole, torn, wrong, fault, read_frame}
use Rattle.frame.specs.declared.Fault.{Fault}
use Rattle.frame.specs.declared.Field.{Field}
use Rattle.frame.specs.declared.Field.TheVariants as field
use Rattle.frame.specs.declared.ObjectId.{ObjectId}

-- a legal frame that may stand there stands there, whatever follows
pub record Whole (e : Edition) (next : ℕ) (t : List ℕ) (f : Frame) : Type 0 where
  pub rest : List ℕ
  pub stands : MayStand e next f
  pub bytes : t ≡ encode e f ++ rest

-- "Torn means: the first k bytes, k at least 1 and fewer than all, of some legal frame of kinds 1 to 4 that would fit, then 0xFF only.";
-- "or a cut reset, is torn too" (document 02, K11)
pub record CutShort (e : Edition) (next : ℕ) (t : List ℕ) (n : ℕ) : Type 0 where
  pub frame : Frame
  pub k : ℕ
  pub left : ℕ
  pub tears : Tears frame
  pub legal : MayStand e next frame
  pub some : 1 ≤ k
  pub not_all : k < frame_len e frame
  pub would_fit : frame_len e frame ≤ length t
  pub bytes : t ≡ take k (encode e frame) ++ replicate left 255
  pub long : n ≡ frame_len e frame

-- "A frame cut while being closed" (document 02, K11): "length's high byte to 0, kind to 0x0000 low byte first, then its finish byte". "Once its kind's low
-- byte is 0, its body and CRC are ignored and its length is one of kinds 1 to 4 or 7." Its finish byte and all that follows are still 0xFF.
pub record BeingClosed (e : Edition) (t : List ℕ) (n : ℕ) : Type 0 where
  pub high : ℕ  -- the kind's high byte
  pub body : List ℕ
  pub left : ℕ
  pub has-length : ClosedLength e n
  pub size : n ≡ 5 + length body
  pub high_is : (high ≡ 0) ⊎ (high ≡ 0xFF)
  pub bytes : t ≡ n ∷ 0 ∷ 0 ∷ high ∷ (body ++ replicate (suc left) 0xFF)

pub data Torn (e : Edition) (next : ℕ) (t : List ℕ) (n : ℕ) : Type 0 where
  cut_short : CutShort e next t n → Torn e next t n
  being-closed : BeingClosed e t n → Torn e next t n

-- "all 0xFF"
abbrev pub Blank : List ℕ → Type 0
Blank t = t ≡ replicate (length t) 255

-- "a low length byte is still never 0xFF" (document 02, K2). A frame starts with its length's low byte. In a frame of 255 bytes that is 0xFF,
-- as in blank flash: programming it leaves no trace, so a tail of 0xFF only would be blank and, with this one byte programmed, torn too.
-- A limit on values that is raised too far breaks this law.
abbrev pub LengthShows : Type 0
LengthShows = (e : Edition) → max_frame e < 255

-- none of the three
pub record Wrong (e : Edition) (next : ℕ) (t : List ℕ) : Type 0 where
  pub not_blank : Blank t → ⊥
  pub not_whole : (f : Frame) → Whole e next t f → ⊥
  pub not_torn : (n : ℕ) → Torn e next t n → ⊥

-- ---- where it is wrong: "the first bad field, up to whose end the bytes begin no legal frame that may stand there" (document 02, K5)

-- a field with its first offset and its end
pub record Span : Type 0 where
  pub field : Field
  pub start : ℕ
  pub end : ℕ

abbrev pub span : Field → ℕ → ℕ → Span
span f s e = record { field = f; start = s; end = e }

abbrev pub Among : Span → List Span → Type 0
Among s [] = ⊥
Among s (x ∷ l) = (s ≡ x) ⊎ Among s l

-- the fields of a body, from offset 4 on: "host 1, id 2"; "host 1"; "id 2". Of a value any bytes are legal: it is never bad.
abbrev pub body_fields : Frame → List Span
body_fields (change h c) = span field.Host 4 5 ∷ span field.Id 5 7 ∷ []
body_fields (commit h) = span field.Host 4 5 ∷ []
body_fields (abort h) = span field.Host 4 5 ∷ []
body_fields (settled i v) = span field.Id 4 6 ∷ []
body_fields (closed v) = []
body_fields reset = []

-- the check and the finish byte, from offset o on
abbrev pub check_fields : Edition → ℕ → List Span
check_fields edition.First o = []
check_fields edition.Second o = span field.Crc o (o + 4) ∷ []

abbrev pub seal_fields : Edition → ℕ → List Span
seal_fields s o = check_fields s o ++ (span field.Finish (o + check_len s) (o + check_len s + 1) ∷ [])

-- "Length (2, whole frame), kind (2), body, finish byte 0xFE."
abbrev pub fields_of : Edition → Frame → List Span
fields_of e f = span field.Length 0 2 ∷ span field.Kind 2 4 ∷ (body_fields f ++ seal_fields (seal_of e f) (body_at + length (body f)))

-- the bytes up to j begin this legal frame, which may stand there and fits
pub record Begins (e : Edition) (next : ℕ) (t : List ℕ) (j : ℕ) (f : Frame) : Type 0 where
  pub stands : MayStand e next f
  pub fits : frame_len e f ≤ length t
  pub bytes : take j t ≡ take j (encode e f)

-- the first bad field: up to its end the bytes begin no frame; up to its start, where the field before it ends, they begin one that has it.
-- Before the length there is no field.
pub record FirstBad (e : Edition) (next : ℕ) (t : List ℕ) (s : Span) : Type 0 where
  pub frame : Frame
  pub has : Among s (fields_of e frame)
  pub before : 0 < s.start → Begins e next t s.start frame
  pub none : (f : Frame) → Begins e next t s.end f → ⊥

-- wrong, with this fault, at offset `at` of the half: "Its place is its offset in the half." What is torn is not wrong, whatever field is bad.
pub record WrongAt (e : Edition) (next at : ℕ) (t : List ℕ) (x : Fault) : Type 0 where
  pub wrong : Wrong e next t
  pub span : Span
  pub bad : FirstBad e next t span
  pub is : x ≡ fault span.field (at + span.start)

-- the reader says blank, whole, torn or wrong exactly as the sentences do; its answer being one, they exclude each other
pub record ReaderExact (e : Edition) : Type 0 where
  pub is-blank : (next at : ℕ) (t : List ℕ) → (read_frame e next at t ≡ blank) ↔ Blank t
  pub is-whole : (next at : ℕ) (t : List ℕ) (f : Frame) → (read_frame e next at t ≡ whole f) ↔ Whole e next t f
  pub is-torn : (next at : ℕ) (t : List ℕ) (n : ℕ) → (read_frame e next at t ≡ torn n) ↔ Torn e next t n
  pub is_wrong : (next at : ℕ) (t : List ℕ) → ((x : Fault) × (read_frame e next at t ≡ wrong x)) ↔ Wrong e next t
  pub is_wrong_at : (next at : ℕ) (t : List ℕ) (x : Fault) → Bytes t → (read_frame e next at t ≡ wrong x) ↔ WrongAt e next at t x

-- "Settled frames stand first, ids strictly rising", and after id 255 no further id rises: a settled frame there is wrong at its kind, or at its
-- length if that is 7 (in the second edition 11), which no other kind has
abbrev pub last_fault : ℕ → List ℕ → Fault
last_fault at [] = fault field.Length at
last_fault at (b ∷ v) = fault field.Kind (at + 2)

-- and no settled frame is torn: a cut settled frame is wrong once its kind can be seen, or its length 7 (11)
pub record SettledWrong (e : Edition) : Type 0 where
  pub after_last : (at : ℕ) (i : ObjectId) (v w rest : List ℕ) → i.0 ≤ id_max → LegalValue v
      → read_frame e (next_after (settled (id_of id_max) w)) at (encode e (settled i v) ++ rest) ≡ wrong (last_fault at v)
  pub cut : (next at : ℕ) (i : ObjectId) (v : List ℕ) (k left : ℕ) → MayStand e next (settled i v) → (3 ≤ k) ⊎ ((1 ≤ k) × (v ≡ []))
      → k < frame_len e (settled i v) → frame_len e (settled i v) ≤ k + left
      → (x : Fault) × (read_frame e next at (take k (encode e (settled i v)) ++ replicate left 255) ≡ wrong x)
