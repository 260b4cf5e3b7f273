-- The board record as bytes, for the edge to C: one byte for each u8, numbers little-endian.
use Rattle.std.specs.Prelude.{◌≡◌, List, [], ◌∷◌, ◌++◌, Bool, not, cond, ℕ, zero, suc, ◌+◌, ◌-◌, ◌*◌, ◌<◌, eqb, length, get_or, take, drop, replicate}
use Rattle.flash.specs.Bytes.{Bytes, u16le, u32le, le32}
use Rattle.flash.specs.Flash.{max_blocks}
use Rattle.frame.specs.Frame.{buffer_len}
use Rattle.wire.specs.Message.{word_at}
use Rattle.board.specs.declared.Stage.{Stage}
use Rattle.board.specs.declared.Stage.TheVariants.{Wipe, Open, Copy, Seal, Drop, Append, Close}
use Rattle.board.specs.declared.Phase.{Phase}
use Rattle.board.specs.declared.Phase.TheVariants.{Unmounted, Idle, Busy}
use Rattle.board.specs.declared.Job.{Job}
use Rattle.board.specs.declared.Cursor.{Cursor}
use Rattle.board.specs.declared.Rest.{Rest}
use Rattle.board.specs.declared.Record.{Record}
use Rattle.board.specs.Record.{cursor, rest, counting}

-- ---- places: each field stands right after the one before it

-- in the cursor: step 1, next offset of the block made 2, next id 2, next journal offset 2, copied frame's length 1, next byte 1
abbrev pub made_at : ℕ
made_at = 1

abbrev pub id_at : ℕ
id_at = made_at + 2

abbrev pub source_at : ℕ
source_at = id_at + 2

abbrev pub copy_at : ℕ
copy_at = source_at + 2

abbrev pub off_at : ℕ
off_at = copy_at + 1

abbrev pub cursor_size : ℕ
cursor_size = off_at + 1

-- in a job's plan, which is what follows its blocks to erase: how many of them 1, two flags 1 each, target 1, time 4, each host's mark 2,
-- length of the frame to append 1, number of the edition of the block that is made 1, how many bytes close a torn frame 1, each one's offset 2
abbrev pub moves_at : ℕ
moves_at = 1

abbrev pub drops_at : ℕ
drops_at = moves_at + 1

abbrev pub target_at : ℕ
target_at = drops_at + 1

abbrev pub time_at : ℕ
time_at = target_at + 1

abbrev pub since_at_of : ℕ
since_at_of = time_at + 4

abbrev pub since_size : ℕ
since_size = 2 * 4

abbrev pub append_at_of : ℕ
append_at_of = since_at_of + since_size

abbrev pub makes_at : ℕ
makes_at = append_at_of + 1

abbrev pub closes_at : ℕ
closes_at = makes_at + 1

abbrev pub close_at : ℕ
close_at = closes_at + 1

abbrev pub close_size : ℕ
close_size = 2 * 4

abbrev pub plan_size : ℕ
plan_size = close_at + close_size

-- in the record: phase 1, last 2, block 1, end 2, blocks 1, each host's pending bytes 2, number of the current block's edition 1, each place 2,
-- the job, the cursor, two frame buffers
abbrev pub last_at : ℕ
last_at = 1

abbrev pub block_at : ℕ
block_at = last_at + 2

abbrev pub end_at : ℕ
end_at = block_at + 1

abbrev pub blocks_at : ℕ
blocks_at = end_at + 2

abbrev pub pending_at : ℕ
pending_at = blocks_at + 1

abbrev pub pending_size : ℕ
pending_size = 2 * 4

abbrev pub edition_at : ℕ
edition_at = pending_at + pending_size

abbrev pub places_at : ℕ
places_at = edition_at + 1

abbrev pub places_size : ℕ
places_size = 2 * 256

abbrev pub job_at : ℕ
job_at = places_at + places_size

abbrev pub plan_at : ℕ
plan_at = job_at + max_blocks

abbrev pub cursor_at : ℕ
cursor_at = plan_at + plan_size

abbrev pub unit_at : ℕ
unit_at = cursor_at + cursor_size

abbrev pub frame_at : ℕ
frame_at = unit_at + buffer_len

abbrev pub record_size : ℕ
record_size = frame_at + buffer_len

-- ---- from bytes: every list is some record; past the list's end stand zeros

-- the phase by its number; any number past these is unmounted
abbrev pub phases : List Phase
phases = Unmounted ∷ Idle ∷ Busy Wipe ∷ Busy Open ∷ Busy Copy ∷ Busy Seal ∷ Busy Drop ∷ Busy Append ∷ Busy Close ∷ []

abbrev pub phase_in : ℕ → Phase
phase_in b = get_or phases b Unmounted

-- n bytes; n numbers of two bytes; a number of four; a flag, set unless its byte is 0
abbrev pub bytes_in : ℕ → List ℕ → List ℕ
bytes_in n l = take n l ++ replicate (n - length (take n l)) 0

unfoldable pub words_in : ℕ → List ℕ → List ℕ
words_in zero l = []
words_in (suc n) l = word_at l 0 ∷ words_in n (drop 2 l)

abbrev pub number_in : List ℕ → ℕ
number_in l = le32 (get_or l 0 0) (get_or l 1 0) (get_or l 2 0) (get_or l 3 0)

abbrev pub flag_in : ℕ → Bool
flag_in b = not (eqb b 0)

-- job, cursor and record: each field at its offset, in the order in which they are declared
abbrev pub plan_in : List ℕ → List ℕ → Job
plan_in wipe l =
    record {
      wipe = wipe;
      wipes = get_or l 0 0;
      moves = flag_in (get_or l moves_at 0);
      drops = flag_in (get_or l drops_at 0);
      target = get_or l target_at 0;
      time = number_in (drop time_at l);
      since = words_in 4 (drop since_at_of l);
      size = get_or l append_at_of 0;
      edition = get_or l makes_at 0;
      closes = get_or l closes_at 0;
      close = words_in 4 (drop close_at l);
    }

abbrev pub job_in : List ℕ → Job
job_in l = plan_in (bytes_in max_blocks l) (drop max_blocks l)

abbrev pub cursor_in : List ℕ → Cursor
cursor_in l = cursor (get_or l 0 0) (word_at l made_at) (word_at l id_at) (word_at l source_at) (get_or l copy_at 0) (get_or l off_at 0)

abbrev pub rest_in : List ℕ → Rest
rest_in l =
    counting (rest (get_or l blocks_at 0) (word_at l last_at) (get_or l block_at 0) (word_at l end_at) (get_or l edition_at 0)) (words_in 4 (drop pending_at l))

unfoldable pub record_in : List ℕ → Record
record_in l =
    record {
      phase = phase_in (get_or l 0 0);
      rest = rest_in l;
      places = words_in 256 (drop places_at l);
      job = job_in (drop job_at l);
      cursor = cursor_in (drop cursor_at l);
      unit = bytes_in buffer_len (drop unit_at l);
      frame = bytes_in buffer_len (drop frame_at l);
    }

-- ---- to bytes

-- a phase's place in `phases`
abbrev pub stage_byte : Stage → ℕ
stage_byte Wipe = 2
stage_byte Open = 3
stage_byte Copy = 4
stage_byte Seal = 5
stage_byte Drop = 6
stage_byte Append = 7
stage_byte Close = 8

abbrev pub phase_byte : Phase → ℕ
phase_byte Unmounted = 0
phase_byte Idle = 1
phase_byte (Busy s) = stage_byte s

-- numbers as two bytes each; a flag as 1 or 0
unfoldable pub word_bytes : List ℕ → List ℕ
word_bytes [] = []
word_bytes (w ∷ ws) = u16le w ++ word_bytes ws

abbrev pub flag_byte : Bool → ℕ
flag_byte b = cond b 1 0

-- the bytes of where a record stands, of all before the places, of the plan, of the cursor, and of the whole record: each field where it is read
abbrev pub rest_bytes : Rest → List ℕ
rest_bytes z = u16le z.last ++ (z.block ∷ (u16le z.end ++ (z.blocks ∷ (word_bytes z.pending ++ (z.edition ∷ [])))))

abbrev pub head_bytes_of : Record → List ℕ
head_bytes_of r = phase_byte r.phase ∷ rest_bytes r.rest

abbrev pub plan_bytes : Job → List ℕ
plan_bytes j =
    j.wipes ∷ flag_byte j.moves ∷ flag_byte j.drops ∷ j.target
    ∷ (u32le j.time ++ (word_bytes j.since ++ (j.size ∷ j.edition ∷ j.closes ∷ word_bytes j.close)))

abbrev pub cursor_bytes : Cursor → List ℕ
cursor_bytes c = c.index ∷ (u16le c.at ++ (u16le c.id ++ (u16le c.source ++ (c.size ∷ c.off ∷ []))))

unfoldable pub record_bytes : Record → List ℕ
record_bytes r =
    head_bytes_of r ++ (word_bytes r.places ++ (r.job.wipe ++ (plan_bytes r.job ++ (cursor_bytes r.cursor ++ (r.unit ++ r.frame)))))

-- a record in a buffer of exactly its size; any other buffer stays
unfoldable pub record_into : Record → List ℕ → List ℕ
record_into r l = cond (eqb (length l) record_size) (record_bytes r) l

-- ---- the numbers of a record are those its fields can hold, and its arrays have their lengths

-- arrays: of u16, of n u8, of n u16
abbrev pub Words : List ℕ → Type 0
Words [] = Unit {0}
Words (w ∷ ws) = (w < 65536) × Words ws

abbrev pub SomeBytes : ℕ → List ℕ → Type 0
SomeBytes n l = (length l ≡ n) × Bytes l

abbrev pub SomeWords : ℕ → List ℕ → Type 0
SomeWords n l = (length l ≡ n) × Words l

-- each number is one that its field can hold, each array has its length
pub record JobFits (j : Job) : Type 0 where
  pub wipe : SomeBytes max_blocks j.wipe
  pub wipes : j.wipes < 256
  pub target : j.target < 256
  pub time : j.time < 4294967296
  pub since : SomeWords 4 j.since
  pub size : j.size < 256
  pub edition : j.edition < 256
  pub closes : j.closes < 256
  pub close : SomeWords 4 j.close

pub record CursorFits (c : Cursor) : Type 0 where
  pub index : c.index < 256
  pub at : c.at < 65536
  pub id : c.id < 65536
  pub source : c.source < 65536
  pub size : c.size < 256
  pub off : c.off < 256

pub record RestFits (z : Rest) : Type 0 where
  pub blocks : z.blocks < 256
  pub last : z.last < 65536
  pub block : z.block < 256
  pub end : z.end < 65536
  pub pending : SomeWords 4 z.pending
  pub edition : z.edition < 256

pub record RecordFits (r : Record) : Type 0 where
  pub rest : RestFits r.rest
  pub places : SomeWords 256 r.places
  pub job : JobFits r.job
  pub cursor : CursorFits r.cursor
  pub unit : SomeBytes buffer_len r.unit
  pub frame : SomeBytes buffer_len r.frame

-- the bytes of a record are that record again
unfoldable pub BytesBack : Type 0
BytesBack = (r : Record) → RecordFits r → record_in (record_bytes r) ≡ r
