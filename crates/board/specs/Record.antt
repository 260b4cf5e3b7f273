-- The board record: unmounted, idle, or in a job; and what a call gives back.
use Rattle.std.specs.Prelude.{List, [], ◌∷◌, Bool, false, ◌&&◌, ℕ, ◌*◌, ◌%◌, eqb, leb, replicate}
use Rattle.flash.specs.Flash.{max_blocks, size_in, is_count}
pub use Rattle.frame.specs.Frame.{buffer}
use Rattle.frame.specs.declared.Edition.{Edition}
use Rattle.frame.specs.Frame.{buffer_len, edition_by}
use Rattle.journal.specs.Block.{header_len}
use Rattle.wire.specs.declared.Answer.{Answer}
use Rattle.wire.specs.declared.Answer.TheVariants.{Done, More, Refused}
use Rattle.wire.specs.declared.Refusal.{Refusal}
use Rattle.board.specs.declared.Stage.{Stage}
use Rattle.board.specs.declared.Stage.TheVariants.{Wipe}
use Rattle.board.specs.declared.Phase.{Phase}
use Rattle.board.specs.declared.Phase.TheVariants.{Unmounted, Idle, Busy}
use Rattle.board.specs.declared.Job.{Job}
use Rattle.board.specs.declared.Cursor.{Cursor}
use Rattle.board.specs.declared.Rest.{Rest}
use Rattle.board.specs.declared.Record.{Record}

-- document 02, K14: "refusal 4 comes exactly if N isn't 2 to 16, the length exceeds 65,536, or S isn't a whole multiple of 128 from 256 up"
unfoldable pub allowed : ℕ → ℕ → Bool
allowed N n =
    let s : ℕ = size_in N n in is_count N && (leb n 65536 && (eqb (N * s) n && (eqb (s % 128) 0 && leb 256 s)))

-- ---- records

-- no id has a place; and what the fields of a job hold in a record that is in none: zeros
unfoldable pub no_places : List ℕ
no_places = replicate 256 0

unfoldable pub no_frame : List ℕ
no_frame = replicate buffer_len 0

-- zero for each host
abbrev pub zero_each : List ℕ
zero_each = 0 ∷ 0 ∷ 0 ∷ 0 ∷ []

abbrev pub no_wipes : List ℕ
no_wipes = replicate max_blocks 0

-- no byte of a torn frame
abbrev pub no_closes : List ℕ
no_closes = 0 ∷ 0 ∷ 0 ∷ 0 ∷ []

abbrev pub no_job : Job
no_job =
    record {
      wipe = no_wipes;
      wipes = 0;
      moves = false;
      drops = false;
      target = 0;
      time = 0;
      since = zero_each;
      size = 0;
      edition = 0;
      closes = 0;
      close = no_closes;
    }

-- step of the stage; next offset of the block made; next id and next journal offset to copy; copied frame's length and next byte
abbrev pub cursor : ℕ → ℕ → ℕ → ℕ → ℕ → ℕ → Cursor
cursor i a d s z o = record { index = i; at = a; id = d; source = s; size = z; off = o }

-- the cursor of a job not yet begun: the first id to copy, the first offset to look at for pending frames
abbrev pub starting : ℕ → ℕ → Cursor
starting id source = cursor 0 header_len id source 0 0

-- number of blocks, image length less one, current block, end of its whole frames, its edition's number; nothing pending
abbrev pub rest : ℕ → ℕ → ℕ → ℕ → ℕ → Rest
rest N l k e n = record { blocks = N; last = l; block = k; end = e; pending = zero_each; edition = n }

-- the same image with another current block, of an edition by its number, or the same block with another end
abbrev pub landing : Rest → ℕ → ℕ → ℕ → Rest
landing z n k e = record { blocks = z.blocks; last = z.last; block = k; end = e; pending = z.pending; edition = n }

abbrev pub ending : Rest → ℕ → Rest
ending z e = landing z z.edition z.block e

-- the same place with these bytes pending, a number for each host
abbrev pub counting : Rest → List ℕ → Rest
counting z ps = record { blocks = z.blocks; last = z.last; block = z.block; end = z.end; pending = ps; edition = z.edition }

-- a record in no job, with a place for each id: document 02, K8, "Keep in the record, for every id, where replay finds its settled value or that there is
-- none"
abbrev pub resting : Phase → List ℕ → Rest → Record
resting p places z =
    record {
      phase = p;
      rest = z;
      places = places;
      job = no_job;
      cursor = cursor 0 0 0 0 0 0;
      unit = no_frame;
      frame = no_frame;
    }

-- document 02, K9: "The record carries the edition by which a read goes", a job that of the block that it makes
abbrev pub reads_in : Record → Edition
reads_in r = edition_by r.rest.edition

abbrev pub makes_in : Record → Edition
makes_in r = edition_by r.job.edition

-- "unmounted, idle, or in a job"
abbrev pub unmounted : Record
unmounted = resting Unmounted no_places (rest 0 0 0 0 0)

abbrev pub idle : List ℕ → Rest → Record
idle places z = resting Idle places z

-- a job not yet begun, its frame to append in a buffer
abbrev pub busy_with : Rest → List ℕ → Job → Cursor → List ℕ → Record
busy_with z places j c frame =
    record {
      phase = Busy Wipe;
      rest = z;
      places = places;
      job = j;
      cursor = c;
      unit = no_frame;
      frame = frame;
    }

-- the same by the frame's bytes
abbrev pub busy : Rest → List ℕ → Job → Cursor → List ℕ → Record
busy z places j c bytes = busy_with z places j c (buffer bytes)

-- the same job in a stage, at a cursor
abbrev pub in_stage : Stage → Cursor → Record → Record
in_stage s c r =
    record {
      phase = Busy s;
      rest = r.rest;
      places = r.places;
      job = r.job;
      cursor = c;
      unit = r.unit;
      frame = r.frame;
    }

-- ---- what a call gives back

-- a stretch of the image
pub record Stretch : Type 0 where
  pub at : ℕ
  pub size : ℕ

-- "an empty stretch"
abbrev pub no_stretch : Stretch
no_stretch = record { at = 0; size = 0 }

-- "For each input the promise settles answer, record, image and reply": all of a call's result, with the stretch of a read
pub record Out : Type 0 where
  pub answer : Answer
  pub image : List ℕ
  pub board : Record
  pub reply : List ℕ
  pub stretch : Stretch

-- any result but that of a read that finds its object
abbrev pub out : Answer → List ℕ → Record → List ℕ → Out
out a i b r = record { answer = a; image = i; board = b; reply = r; stretch = no_stretch }

-- given what came in: "Every refusal takes no step and changes no byte of image, reply or record"
abbrev pub refuse : Refusal → List ℕ → Record → List ℕ → Out
refuse n i b r = out (Refused n) i b r

-- "It answers 0 with an idle record if the job has no steps, else more with the job in the record"
abbrev pub answer_in : Phase → Answer
answer_in Unmounted = Done
answer_in Idle = Done
answer_in (Busy s) = More

abbrev pub answer_of : Record → Answer
answer_of r = answer_in r.phase

-- any answer that is no refusal
abbrev pub Accepted : Answer → Type 0
Accepted Done = Unit {0}
Accepted More = Unit {0}
Accepted (Refused n) = ⊥
