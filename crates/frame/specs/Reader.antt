-- Reading one frame, and the frames of a journal, out of any bytes.
use Rattle.std.specs.Prelude.{List, [], ◌∷◌, ◌++◌, Bool, true, false, not, ◌&&◌, ◌||◌, ℕ, zero, suc, ◌+◌, ◌-◌, eqb, leb, length, get_or, take, drop}
use Rattle.flash.specs.Bytes.{le16, all_ff}
use Rattle.frame.specs.declared.Edition.{Edition}
use Rattle.frame.specs.declared.Edition.TheVariants as edition
use Rattle.frame.specs.declared.Host.{Host}
use Rattle.frame.specs.declared.ObjectId.{ObjectId}
use Rattle.frame.specs.declared.Fault.{Fault}
use Rattle.frame.specs.declared.Field.{Field}
use Rattle.frame.specs.declared.Field.TheVariants as field
use Rattle.frame.specs.Frame.{Frame, change, commit, abort, settled, closed, reset, put, delete, host_max, id_max, value_max, finish, check, check_len}
use Rattle.frame.specs.Frame.{kind_at, body_at, put_value_at, settled_value_at, frame_len, put_len, delete_len, end_len, settled_len, reset_len, closed_len}
use Rattle.frame.specs.Frame.{next_after}

-- a bad field and its offset in the block
abbrev pub fault : Field → ℕ → Fault
fault f p = record { field = f; place = p }

-- the frame at the front of some bytes; of a torn frame its length, of wrong bytes the first bad field
pub data Read : Type 0 where
  blank : Read
  whole : Frame → Read
  torn : ℕ → Read
  wrong : Fault → Read

-- ---- layouts: what each byte of a frame may be

-- a number from lo to hi, in a field that starts at an offset of the frame
pub record Slot : Type 0 where
  pub lo : ℕ
  pub hi : ℕ
  pub field : Field
  pub start : ℕ

abbrev pub slot : Field → ℕ → ℕ → ℕ → Slot
slot f o a b = record { lo = a; hi = b; field = f; start = o }

-- the byte may stand there
abbrev pub fits : Slot → ℕ → Bool
fits p b = leb p.lo b && leb b p.hi

-- a value of v bytes, at offset o: any bytes, so never bad
abbrev pub value_slots : ℕ → ℕ → List Slot
value_slots o zero = []
value_slots o (suc v) = slot field.Finish o 0 255 ∷ value_slots (suc o) v

-- a layout: some kinds whose bodies have these slots, the edition by which they are sealed, and whether they may be cut short
pub record Layout : Type 0 where
  pub from : ℕ
  pub to : ℕ
  pub body : List Slot
  pub seal : Edition
  pub tears : Bool

-- a put or a delete of n bytes: only one of a delete's length can be a delete
abbrev pub last_kind : Bool → ℕ
last_kind true = 2
last_kind false = 1

abbrev pub change_layout : Edition → ℕ → Layout
change_layout e n = record {
  from = 1;
  to = last_kind (eqb n (delete_len e));
  body = slot field.Host body_at 0 host_max ∷ slot field.Id (body_at + 1) 0 id_max ∷ slot field.Id (body_at + 1) 0 0 ∷ value_slots put_value_at (n - put_len e 0);
  seal = e;
  tears = true;
}

-- a commit or an abort
abbrev pub end_layout : Edition → Layout
end_layout e = record { from = 3; to = 4; body = slot field.Host body_at 0 host_max ∷ []; seal = e; tears = true }

-- a settled frame of n bytes whose id is at least next. Only "kinds 1 to 4" and 7 are cut short: a settled frame that is cut off is wrong.
abbrev pub settled_layout : Edition → ℕ → ℕ → Layout
settled_layout e next n = record {
  from = 5;
  to = 5;
  body = slot field.Id body_at next id_max ∷ slot field.Id body_at 0 0 ∷ value_slots settled_value_at (n - settled_len e 0);
  seal = e;
  tears = false;
}

-- a closed frame of n bytes: its body and check are ignored. What is `being_closed` is never held against it.
abbrev pub closed_layout : ℕ → Layout
closed_layout n = record { from = 0; to = 0; body = value_slots body_at (n - closed_len 0); seal = edition.First; tears = false }

abbrev pub reset_layout : Edition → Layout
reset_layout e = record { from = 7; to = 7; body = []; seal = e; tears = true }

-- a settled frame may stand: after id 255 none may
abbrev pub id_left : ℕ → Bool
id_left next = leb next id_max

-- some frame that may stand has n bytes
abbrev pub has_length : Edition → ℕ → ℕ → Bool
has_length e next n =
    eqb n (reset_len e) || (eqb n (end_len e) || ((leb (put_len e 0) n && leb n (put_len e value_max)) || (id_left next && eqb n (settled_len e 0))))

-- the bytes can only be a settled frame's: by their kind, or by a length that no other kind has
abbrev pub only_settled : Edition → ℕ → ℕ → ℕ → Bool
only_settled e next n k = id_left next && (leb (settled_len e 0) n && leb n (settled_len e value_max)) && (eqb k 5 || eqb n (settled_len e 0))

-- kinds 1 to 4 and 7: the length tells a reset, then a commit and an abort, from a put and a delete
unfoldable pub host_layout : Edition → ℕ → Layout
host_layout e n =
    elim (eqb n (reset_len e)) [
      | true ↦ reset_layout e
      | false ↦ elim (eqb n (end_len e)) [ true ↦ end_layout e | false ↦ change_layout e n ]
    ]

-- the layout of frames of n bytes, where the kind's low byte is k
unfoldable pub layout_of : Edition → ℕ → ℕ → ℕ → Layout
layout_of e next n k =
    elim (only_settled e next n k) [
      | true ↦ settled_layout e next n
      | false ↦ elim (eqb k 0) [ true ↦ closed_layout n | false ↦ host_layout e n ]
    ]

-- length and kind, both with a high byte of 0, and the body
abbrev pub front_slots : ℕ → Layout → List Slot
front_slots n l = slot field.Length 0 n n ∷ slot field.Length 0 0 0 ∷ slot field.Kind kind_at l.from l.to ∷ slot field.Kind kind_at 0 0 ∷ l.body

-- the check and the finish byte, at offset o, after a front: each can only be one byte
abbrev pub check_slots : ℕ → List ℕ → List Slot
check_slots o [] = []
check_slots o (c ∷ cs) = slot field.Crc o c c ∷ check_slots o cs

abbrev pub finish_slot : ℕ → Slot
finish_slot o = slot field.Finish o finish finish

abbrev pub seal_slots : Edition → ℕ → List ℕ → List Slot
seal_slots s o x = check_slots o (check s x) ++ (finish_slot (o + check_len s) ∷ [])

-- the slots against which t is held: what the seal can be is told by the bytes that stand before it
abbrev pub laid : ℕ → Layout → List ℕ → List Slot
laid n l t = front_slots n l ++ seal_slots l.seal (body_at + length l.body) (take (body_at + length l.body) t)

-- ---- the reader

-- every byte fits; from the first that doesn't on all are 0xFF; or others follow it
pub data Match : Type 0 where
  all : Match
  part : Slot → Match
  misfit : Slot → Match

-- bytes held against a layout
unfoldable pub match : List Slot → List ℕ → Match
match [] t = all
match (p ∷ ps) [] = misfit p
match (p ∷ ps) (b ∷ t) = elim (fits p b) [ true ↦ match ps t | false ↦ elim (all_ff (b ∷ t)) [ true ↦ part p | false ↦ misfit p ] ]

-- host and id at an offset of a frame
abbrev pub host_at : List ℕ → ℕ → Host
host_at t i = record { 0 = get_or t i 0 }

abbrev pub id_at : List ℕ → ℕ → ObjectId
id_at t i = record { 0 = le16 (get_or t i 0) (get_or t (suc i) 0) }

-- the frame that bytes are, by their low kind byte and their length; used only where they fit its layout, so kind 6 never is
abbrev pub decode : Edition → ℕ → ℕ → List ℕ → Frame
decode e zero n t = closed (take (n - closed_len 0) (drop body_at t))
decode e (suc zero) n t = change (host_at t body_at) (put (id_at t (body_at + 1)) (take (n - put_len e 0) (drop put_value_at t)))
decode e (suc (suc zero)) n t = change (host_at t body_at) (delete (id_at t (body_at + 1)))
decode e (suc (suc (suc zero))) n t = commit (host_at t body_at)
decode e (suc (suc (suc (suc zero)))) n t = abort (host_at t body_at)
decode e (suc (suc (suc (suc (suc zero))))) n t = settled (id_at t body_at) (take (n - settled_len e 0) (drop settled_value_at t))
decode e (suc (suc (suc (suc (suc (suc k)))))) n t = reset

-- a bad slot of a frame that starts at an offset of the block
abbrev pub fault_at : ℕ → Slot → Fault
fault_at at p = fault p.field (at + p.start)

-- "Torn means: the first k bytes, k at least 1 and fewer than all, of some legal frame of kinds 1 to 4 that would fit, then 0xFF only.";
-- "or a cut reset" (document 02, K11)
abbrev pub of_match : ℕ → ℕ → Bool → Frame → Match → Read
of_match at n tears f all = whole f
of_match at n true f (part p) = torn n
of_match at n false f (part p) = wrong (fault_at at p)
of_match at n tears f (misfit p) = wrong (fault_at at p)

-- n and k: the low bytes of length and kind
abbrev pub read_laid : Edition → ℕ → ℕ → ℕ → ℕ → List ℕ → Read
read_laid e next at n k t = of_match at n (layout_of e next n k).tears (decode e k n t) (match (laid n (layout_of e next n k) t) t)

-- "A frame cut while being closed": the high byte of its length and the low byte of its kind are 0, the kind's high byte is 0 or still 0xFF, its length n is
-- no settled frame's alone, and from the finish byte on all is 0xFF. "Once its kind's low byte is 0, its body and CRC are ignored."
abbrev pub being_closed : Edition → ℕ → List ℕ → Bool
being_closed e n t =
    eqb (get_or t kind_at 0) 0 && (eqb (get_or t 1 0) 0 && ((eqb (get_or t (kind_at + 1) 0) 0 || eqb (get_or t (kind_at + 1) 0) 255)
    && (not (eqb n (settled_len e 0)) && all_ff (drop (n - 1) t))))

-- the frame at the front of t, which runs to the block's end and starts at offset `at` of it; settled ids from `next` on.
-- A frame longer than t would not fit: it is neither whole nor torn.
unfoldable pub read_frame : Edition → ℕ → ℕ → List ℕ → Read
read_frame e next at t =
    elim (all_ff t) [
      | true ↦ blank
      | false ↦ elim (leb (get_or t 0 0) (length t) && has_length e next (get_or t 0 0)) [
        | true ↦ elim (being_closed e (get_or t 0 0) t) [
          | true ↦ torn (get_or t 0 0)
          | false ↦ read_laid e next at (get_or t 0 0) (get_or t kind_at 0) t
        ]
        | false ↦ wrong (fault field.Length at)
      ]
    ]

-- ---- the journal: frame after frame up to the tail

-- what follows the whole frames: only 0xFF, a torn frame of that length, or something else
pub data Tail : Type 0 where
  clean : Tail
  cut : ℕ → Tail
  bad : Fault → Tail

-- the whole frames and what follows them
pub record Scan : Type 0 where
  pub frames : List Frame
  pub tail : Tail

abbrev pub push : Frame → Scan → Scan
push f s = record { frames = f ∷ s.frames; tail = s.tail }

abbrev pub ends : Tail → Scan
ends t = record { frames = []; tail = t }

-- "whole legal frames .. run to a tail"; the first k bytes belong to a frame that was read already
unfoldable pub scan : Edition → ℕ → ℕ → ℕ → List ℕ → Scan
scan e next at k [] = ends clean
scan e next at zero (b ∷ t) =
    elim (read_frame e next at (b ∷ t)) [
      | blank ↦ ends clean
      | whole f ↦ push f (scan e (next_after f) (suc at) (frame_len e f - 1) t)
      | torn n ↦ ends (cut n)
      | wrong x ↦ ends (bad x)
    ]
scan e next at (suc k) (b ∷ t) = scan e next (suc at) k t
