-- A block's header and its state, document 01, "Half header" and "Frames".
use Rattle.std.specs.Prelude.{List, [], ◌∷◌, ◌++◌, Bool, true, false, cond, ℕ, suc, ◌+◌, ◌-◌, eqb, get_or, take, drop}
use Rattle.std.proofs.Math.Option.{Option, none, some}
use Rattle.flash.specs.Bytes.{u16le, u32le, le32, all_ff, same_bytes_of}
use Rattle.flash.specs.Flash.{Write, write, writes}
use Rattle.frame.specs.declared.Edition.{Edition}
use Rattle.frame.specs.declared.Edition.TheVariants as edition
use Rattle.frame.specs.declared.Fault.{Fault}
use Rattle.frame.specs.declared.Field.TheVariants as field
use Rattle.frame.specs.Frame.{Frame, encode_all, kind_at, finish}
use Rattle.frame.specs.Reader.{fault, Tail, clean, cut, bad, Scan, scan}

-- header bytes 0-1 and 2-3: "length, 16", "kind, 0x4A01"; document 02, K9: "In edition 2 the header kind is 0x4A02"
abbrev pub header_len : ℕ
header_len = 16

abbrev pub header_kind : Edition → ℕ
header_kind edition.First = 0x4A01
header_kind edition.Second = 0x4A02

-- a half is at most 32,768 bytes long
abbrev pub block_max : ℕ
block_max = 32768

-- "1 to 4,294,967,295"
abbrev pub last_time : ℕ
last_time = 4294967295

-- "bitwise inverse of the creation time" in bytes 4-7
abbrev pub time_at : ℕ
time_at = 4

-- byte 8: "0xFF ready, 0xFE transfer in progress, 0xFC valid data"
abbrev pub state_at : ℕ
state_at = 8

abbrev pub in_transfer : ℕ
in_transfer = 0xFE

abbrev pub valid_data : ℕ
valid_data = 0xFC

-- bytes 9-15: 0xFF
abbrev pub spare_at : ℕ
spare_at = 9

-- the sixteen bytes for an edition, a creation time and a state: "bitwise inverse of the creation time" in bytes 4-7, 0xFF in bytes 9-15
abbrev pub header : Edition → ℕ → ℕ → List ℕ
header ed time mark =
    u16le header_len ++ (u16le (header_kind ed) ++ (u32le (last_time - time) ++ (mark ∷ 255 ∷ 255 ∷ 255 ∷ 255 ∷ 255 ∷ 255 ∷ 255 ∷ [])))

-- the creation time that those bytes are the inverse of
abbrev pub created_at : List ℕ → ℕ
created_at b = last_time - le32 (get_or b time_at 0) (get_or b (time_at + 1) 0) (get_or b (time_at + 2) 0) (get_or b (time_at + 3) 0)

-- the edition that the header's kind is of; any kind but the second's is held against the first's
unfoldable pub edition_in : List ℕ → Edition
edition_in b =
    elim (same_bytes_of (take 2 (drop kind_at b)) (u16le (header_kind edition.Second))) [ true ↦ edition.Second | false ↦ edition.First ]

-- the first field of a header that isn't as above, in address order
unfoldable pub header_fault : List ℕ → Option Fault
header_fault b =
    elim (same_bytes_of (take 2 b) (u16le header_len)) [
      | false ↦ some (fault field.Length 0)
      | true ↦ elim (same_bytes_of (take 2 (drop kind_at b)) (u16le (header_kind (edition_in b)))) [
        | false ↦ some (fault field.Kind kind_at)
        | true ↦ elim (eqb (created_at b) 0) [
          | true ↦ some (fault field.Created time_at)
          | false ↦ elim (eqb (get_or b state_at 0) valid_data) [
            | false ↦ some (fault field.State state_at)
            | true ↦ elim (all_ff (take (header_len - spare_at) (drop spare_at b))) [ false ↦ some (fault field.Spare spare_at) | true ↦ none ]
          ]
        ]
      ]
    ]

-- what stands in a valid block, as one value
pub record Journal : Type 0 where
  pub edition : Edition
  pub time : ℕ  -- its creation time
  pub frames : List Frame
  pub tail : Tail

abbrev pub journal : Edition → ℕ → List Frame → Tail → Journal
journal ed t fs c = record { edition = ed; time = t; frames = fs; tail = c }

-- "A half is blank if every byte is 0xFF; in progress if byte 8 is 0xFE; valid if byte 8 is 0xFC, the header is as above, and
-- whole legal frames, the settled ones placed as said above, run to a tail that is all 0xFF or torn. .. Any other half is foreign."
pub data BlockState : Type 0 where
  blank : BlockState
  in_progress : BlockState
  valid : Journal → BlockState
  foreign : Fault → BlockState

-- "a tail that is all 0xFF or torn": with any other the half is foreign
abbrev pub of_tail : Journal → Tail → BlockState
of_tail j clean = valid j
of_tail j (cut n) = valid j
of_tail j (bad e) = foreign e

abbrev pub of_journal : Journal → BlockState
of_journal j = of_tail j j.tail

-- "the header is as above", and the frames run from its end
abbrev pub of_header : List ℕ → Option Fault → BlockState
of_header b (some e) = foreign e
of_header b none =
    let s : Scan = scan (edition_in b) 0 header_len 0 (drop header_len b) in
    of_journal (journal (edition_in b) (created_at b) s.frames s.tail)

-- every block has exactly one state; byte 8 alone says in progress, whatever else stands there
unfoldable pub block_state : List ℕ → BlockState
block_state b =
    elim (all_ff b) [
      | true ↦ blank
      | false ↦ elim (eqb (get_or b state_at 0) in_transfer) [ true ↦ in_progress | false ↦ of_header b (header_fault b) ]
    ]

-- edition, frames and creation time of a valid block; the first, no frames and 0 of any other
abbrev pub edition_of : BlockState → Edition
edition_of blank = edition.First
edition_of in_progress = edition.First
edition_of (valid j) = j.edition
edition_of (foreign e) = edition.First

abbrev pub frames_in : BlockState → List Frame
frames_in blank = []
frames_in in_progress = []
frames_in (valid j) = j.frames
frames_in (foreign e) = []

abbrev pub time_in : BlockState → ℕ
time_in blank = 0
time_in in_progress = 0
time_in (valid j) = j.time
time_in (foreign e) = 0

-- ---- a block made, document 01, "Transfer": "byte 8 to 0xFE, header bytes 0-3, .., inverse of (time + 1), byte 8 to 0xFC"

abbrev pub open_writes : Edition → List Write
open_writes ed = write state_at in_transfer ∷ writes 0 (u16le header_len ++ u16le (header_kind ed))

abbrev pub seal_writes : ℕ → List Write
seal_writes time = writes time_at (u32le (last_time - time)) ++ (write state_at valid_data ∷ [])

-- each of them by its number, which only a forged record has too large
abbrev pub open_write : Edition → ℕ → Write
open_write ed i = get_or (open_writes ed) i (write state_at in_transfer)

abbrev pub seal_write : ℕ → ℕ → Write
seal_write time i = get_or (seal_writes time) i (write state_at valid_data)

abbrev pub mark_writes : ℕ  -- how many of each there are
mark_writes = 5

-- all writes that make a blank block a valid one of these frames
abbrev pub build : Edition → ℕ → List Frame → List Write
build ed time fs = open_writes ed ++ (writes header_len (encode_all ed fs) ++ seal_writes time)

-- ---- a torn frame closed in place, document 02, K11

-- how long it is; 0 where there is none
abbrev pub torn_len : Tail → ℕ
torn_len clean = 0
torn_len (cut n) = n
torn_len (bad e) = 0

-- "length's high byte to 0, kind to 0x0000 low byte first, then its finish byte": of a frame of n bytes at an offset of the block
abbrev pub closing : ℕ → ℕ → List Write
closing at n = write (at + 1) 0 ∷ write (at + kind_at) 0 ∷ write (at + suc kind_at) 0 ∷ write (at + (n - 1)) finish ∷ []

-- "each a step only if it must change": those of some writes that are not what block b has there
unfoldable pub changing : List ℕ → List Write → List Write
changing b [] = []
changing b (w ∷ ws) = cond (eqb (get_or b w.at 0) w.byte) (changing b ws) (w ∷ changing b ws)

-- all write zeros, except that the last writes the finish byte
abbrev pub close_byte : Bool → ℕ
close_byte true = finish
close_byte false = 0

-- the writes that close what follows the whole frames, which end at an offset
abbrev pub close_writes : List ℕ → ℕ → Tail → List Write
close_writes b at clean = []
close_writes b at (cut n) = changing b (closing at n)
close_writes b at (bad e) = []
