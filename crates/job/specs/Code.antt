-- What the code's parts do: a record's numbers by themselves, its arrays apart.
use Rattle.std.specs.Prelude.{◌≡◌, List, Bool, true, false, ◌&&◌, cond, ℕ, suc, ◌+◌, eqb, ltb, get_or, Option, Some, None}
use Rattle.flash.specs.Flash.{Step, program, erase, apply, size_in, size_of, within, write_step}
use Rattle.frame.specs.declared.Host.{Host}
use Rattle.frame.specs.Frame.{edition_by, kind_at, body_at}
use Rattle.journal.specs.Block.{open_write, seal_write, close_byte}
use Rattle.wire.specs.declared.Answer.{Answer}
use Rattle.wire.specs.declared.Answer.TheVariants.{Done, More}
use Rattle.board.specs.declared.Stage.{Stage}
use Rattle.board.specs.declared.Stage.TheVariants.{Wipe, Open, Copy, Seal, Drop, Append, Close}
use Rattle.board.specs.declared.Phase.{Phase}
use Rattle.board.specs.declared.Phase.TheVariants.{Unmounted, Idle, Busy}
use Rattle.board.specs.declared.Job.{Job}
use Rattle.board.specs.declared.Cursor.{Cursor}
use Rattle.board.specs.declared.Record.{Record}
use Rattle.board.specs.declared.Rest.{Rest}
use Rattle.board.specs.Record.{no_places, no_frame, no_job, cursor, landing, idle, answer_of, Out}
use Rattle.board.specs.Step.{first, enter_copy, same_shape}
use Rattle.job.specs.declared.Outcome.{Outcome}
use Rattle.job.specs.declared.records.Numbers.{Numbers}
use Rattle.job.specs.declared.records.Stepped.{Stepped}
use Rattle.job.specs.declared.moves.Moved.{Moved}
use Rattle.job.specs.declared.moves.Moved.TheVariants.{Still, Due}
use Rattle.job.specs.declared.actions.Action.{Action}
use Rattle.job.specs.declared.actions.Action.TheVariants as action

-- ---- a record apart

abbrev pub numbers_of : Record → Numbers
numbers_of r = record { phase = r.phase; rest = r.rest; job = r.job; cursor = r.cursor }

abbrev pub assemble : Numbers → List ℕ → List ℕ → List ℕ → Record
assemble n places unit frame =
    record {
      phase = n.phase;
      rest = n.rest;
      places = places;
      job = n.job;
      cursor = n.cursor;
      unit = unit;
      frame = frame;
    }

-- a record that stands elsewhere
abbrev pub placed : Phase → Rest → Record → Record
placed p z r =
    record {
      phase = p;
      rest = z;
      places = r.places;
      job = r.job;
      cursor = r.cursor;
      unit = r.unit;
      frame = r.frame;
    }

-- the same job in a stage, at a cursor
abbrev pub staged : Stage → Cursor → Numbers → Numbers
staged s c n = record { phase = Busy s; rest = n.rest; job = n.job; cursor = c }

-- ---- where a call leaves a job

-- it goes on
abbrev pub going : Stage → Cursor → Numbers → Stepped
going s c n = record { answer = More; next = staged s c n; ended = false }

-- the numbers of a record in no job
abbrev pub jobless : Phase → Rest → Numbers
jobless p z = record { phase = p; rest = z; job = no_job; cursor = cursor 0 0 0 0 0 0 }

-- none is left, or none began
abbrev pub at_rest_of : Answer → Phase → Rest → Stepped
at_rest_of a p z = record { answer = a; next = jobless p z; ended = true }

-- it ended
abbrev pub over : Rest → Stepped
over z = at_rest_of Done Idle z

-- it stays as it is
abbrev pub staying : Answer → Numbers → Stepped
staying a n = record { answer = a; next = n; ended = false }

-- a job that ended leaves no frames; its places stay (K8)
abbrev pub leaves_if : Bool → Numbers → List ℕ → List ℕ → List ℕ → Record
leaves_if true n places unit frame = assemble n places no_frame no_frame
leaves_if false n places unit frame = assemble n places unit frame

abbrev pub leaves : Stepped → List ℕ → List ℕ → List ℕ → Record
leaves s places unit frame = leaves_if s.ended s.next places unit frame

-- a job that goes on has not ended
abbrev pub GoesOn : Answer → Bool → Type 0
GoesOn a ended = a ≡ More → ended ≡ false

-- a call leads to a record, with these arrays
pub record LeadsTo (places unit frame : List ℕ) (s : Stepped) (r : Record) : Type 0 where
  pub answers : s.answer ≡ answer_of r
  pub gives : leaves s places unit frame ≡ r
  pub goes : GoesOn s.answer s.ended

abbrev pub outcome : Answer → Record → Outcome
outcome a b = record { answer = a; board = b }

-- ---- entering a stage

unfoldable pub go_append : Numbers → Stepped
go_append n = cond (ltb 0 n.job.size) (going Append (first n.cursor) n) (over n.rest)

-- the block that was made is the current one
abbrev pub landed_on : Numbers → Numbers
landed_on n =
    record { phase = n.phase; rest = landing n.rest n.job.edition n.job.target n.cursor.at; job = n.job; cursor = n.cursor }

unfoldable pub go_drop : Numbers → Stepped
go_drop n = cond n.job.drops (going Drop (first n.cursor) n) (go_append (landed_on n))

unfoldable pub go_close : Numbers → Stepped
go_close n = cond (ltb 0 n.job.closes) (going Close (first n.cursor) n) (go_append n)

unfoldable pub go_open : Numbers → Stepped
go_open n = cond n.job.moves (going Open (first n.cursor) n) (go_close n)

unfoldable pub go_wipe : Numbers → Stepped
go_wipe n = cond (ltb 0 n.job.wipes) (going Wipe (first n.cursor) n) (go_open n)

-- a job accepted
abbrev pub begins : Rest → Job → Cursor → Stepped
begins z j c = go_wipe (record { phase = Busy Wipe; rest = z; job = j; cursor = c })

-- past a byte that was copied: to the frame's next, or past the frame
abbrev pub moved_byte : Cursor → Cursor
moved_byte c =
    cursor c.index (suc c.at) c.id c.source c.size (cond (ltb (suc c.off) c.size) (suc c.off) 0)

-- ---- a step

abbrev pub flash_step : Action → Step
flash_step (action.Program k o v) = program k o v
flash_step (action.Erase k) = erase k

-- the flash step that a job does next, by the byte in hand
abbrev pub action_by : Stage → Numbers → ℕ → Step
action_by Wipe n b = erase (get_or n.job.wipe n.cursor.index 0)
action_by Open n b = write_step n.job.target (open_write (edition_by n.job.edition) n.cursor.index)
action_by Copy n b = program n.job.target n.cursor.at b
action_by Seal n b = write_step n.job.target (seal_write n.job.time n.cursor.index)
action_by Drop n b = erase n.rest.block
action_by Append n b = program n.rest.block (n.rest.end + n.cursor.index) b
action_by Close n b =
    program n.rest.block (get_or n.job.close n.cursor.index 0) (close_byte (eqb (suc n.cursor.index) n.job.closes))

-- an image of N blocks and n bytes is the record's, by where that stands
abbrev pub fits : ℕ → ℕ → Rest → Bool
fits N n z = same_shape N n (idle no_places z)

-- and a step's place lies in it
abbrev pub takes : ℕ → ℕ → Rest → Step → Bool
takes N n z x = fits N n z && within N (size_in N n) x

-- a step done where its place lies in the image of N blocks
unfoldable pub did : ℕ → Step → List ℕ → List ℕ
did N x img = cond (within N (size_of N img) x) (apply (size_of N img) x img) img

-- the offset of a stage's steps that is counted up
abbrev pub offset_for : Stage → Numbers → ℕ
offset_for Wipe n = 0
offset_for Open n = 0
offset_for Copy n = n.cursor.at
offset_for Seal n = 0
offset_for Drop n = 0
offset_for Append n = n.rest.end + n.cursor.index
offset_for Close n = 0

-- the byte that the next step programs, of the frame that is copied or appended
abbrev pub in_hand_at : Stage → Numbers → List ℕ → List ℕ → ℕ
in_hand_at Wipe n unit frame = 0
in_hand_at Open n unit frame = 0
in_hand_at Copy n unit frame = get_or unit n.cursor.off 0
in_hand_at Seal n unit frame = 0
in_hand_at Drop n unit frame = 0
in_hand_at Append n unit frame = get_or frame n.cursor.index 0
in_hand_at Close n unit frame = 0

abbrev pub in_hand_in : Phase → Numbers → List ℕ → List ℕ → ℕ
in_hand_in Unmounted n unit frame = 0
in_hand_in Idle n unit frame = 0
in_hand_in (Busy s) n unit frame = in_hand_at s n unit frame

abbrev pub in_hand : Numbers → List ℕ → List ℕ → ℕ
in_hand n unit frame = in_hand_in n.phase n unit frame

-- a byte that is given for it: where no frame is copied or appended, any will do
abbrev pub HandsAt : Stage → Numbers → ℕ → List ℕ → List ℕ → Type 0
HandsAt Wipe n b unit frame = Unit {0}
HandsAt Open n b unit frame = Unit {0}
HandsAt Copy n b unit frame = b ≡ get_or unit n.cursor.off 0
HandsAt Seal n b unit frame = Unit {0}
HandsAt Drop n b unit frame = Unit {0}
HandsAt Append n b unit frame = b ≡ get_or frame n.cursor.index 0
HandsAt Close n b unit frame = Unit {0}

abbrev pub HandsIn : Phase → Numbers → ℕ → List ℕ → List ℕ → Type 0
HandsIn Unmounted n b unit frame = Unit {0}
HandsIn Idle n b unit frame = Unit {0}
HandsIn (Busy s) n b unit frame = HandsAt s n b unit frame

abbrev pub Hands : Numbers → ℕ → List ℕ → List ℕ → Type 0
Hands n b unit frame = HandsIn n.phase n b unit frame

-- ---- whose commit the job ends with

-- the host whose commit a frame of this kind and host byte is
abbrev pub committer : ℕ → ℕ → Option Host
committer kind by = cond (eqb kind 3) (Some (record { 0 = by })) None

-- it is this host: `board/Step: ends_with`
abbrev pub ends_by : Option Host → Host → Bool
ends_by (Some g) h = eqb g.0 h.0
ends_by None h = false

-- of the frame to append
abbrev pub Appends : Option Host → List ℕ → Type 0
Appends c frame = c ≡ committer (get_or frame kind_at 0) (get_or frame body_at 0)

-- ---- a step that loads no frame yet

-- the record that it reaches once the frame that is due is loaded, read from the image
abbrev pub reached : ℕ → Moved → List ℕ → List ℕ → List ℕ → List ℕ → Record
reached N (Still s) img places unit frame = leaves s places unit frame
reached N (Due s) img places unit frame = enter_copy N img (assemble s.next places unit frame)

-- with a frame loaded, or none left to load, the job goes on
abbrev pub answered : Moved → Answer
answered (Still s) = s.answer
answered (Due s) = More

abbrev pub ended_at : Moved → Bool
ended_at (Still s) = s.ended
ended_at (Due s) = false

pub record Moves (N : ℕ) (img places unit frame : List ℕ) (m : Moved) (r : Record) : Type 0 where
  pub answers : answered m ≡ answer_of r
  pub gives : reached N m img places unit frame ≡ r
  pub goes : GoesOn (answered m) (ended_at m)

-- the frame that is due is loaded, into the arrays that are lent; where none is due nothing is done
pub record Loads (N : ℕ) (img places unit frame : List ℕ) (m : Moved) (s : Stepped) (places' unit' : List ℕ) : Type 0 where
  pub due : (x : Stepped) → m ≡ Due x → LeadsTo places' unit' frame s (enter_copy N img (assemble x.next places unit frame))
  pub none : (x : Stepped) → m ≡ Still x → (s ≡ x) × (places' ≡ places) × (unit' ≡ unit)

-- an answer, a record and an image are what a step call gives back
pub record Steps (a : Answer) (ended : Bool) (r : Record) (img : List ℕ) (o : Out) : Type 0 where
  pub image : img ≡ o.image
  pub answers : a ≡ o.answer
  pub gives : r ≡ o.board
  pub goes : GoesOn a ended
