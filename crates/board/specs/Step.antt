-- A step call on any record and any image, document 01, "Jobs" and "When the queue says no".
use Rattle.std.specs.Prelude.{List, [], Bool, ◌&&◌, cond, ℕ, suc, ◌+◌, eqb, ltb, length, get_or}
use Rattle.std.proofs.Math.Option.{Option, none, some}
use Rattle.flash.specs.Flash.{Step, program, erase, apply, block, size_of, within, write_step}
use Rattle.frame.specs.declared.Host.{Host}
use Rattle.frame.specs.Frame.{encode, frame_len, kind_at, body_at}
use Rattle.journal.specs.Block.{open_write, seal_write, mark_writes, close_byte}
use Rattle.journal.specs.Index.{Load, next_load_of, place_copied}
use Rattle.wire.specs.declared.Refusal.TheVariants as refusal
use Rattle.wire.specs.declared.Answer.TheVariants.{Done}
use Rattle.board.specs.declared.Stage.{Stage}
use Rattle.board.specs.declared.Stage.TheVariants.{Wipe, Open, Copy, Seal, Drop, Append, Close}
use Rattle.board.specs.declared.Phase.{Phase}
use Rattle.board.specs.declared.Phase.TheVariants.{Unmounted, Idle, Busy}
use Rattle.board.specs.declared.Cursor.{Cursor}
use Rattle.board.specs.declared.Record.{Record}
use Rattle.board.specs.Record.{landing, ending, idle, cursor, in_stage, reads_in, makes_in, buffer, Out, out, refuse, answer_of}

-- ---- entering a stage: the first from there on that has a step; the record idle where none has

-- the cursor at a stage's first step
abbrev pub first : Cursor → Cursor
first c = cursor 0 c.at c.id c.source c.size c.off

-- the job in a stage at its first step
abbrev pub enter : Stage → Record → Record
enter s r = in_stage s (first r.cursor) r

-- the frame to append, if there is one; else the job is over
unfoldable pub enter_append : Record → Record
enter_append r = cond (ltb 0 r.job.size) (enter Append r) (idle r.places r.rest)

-- the block that was made is the current one
abbrev pub landed : Record → Record
landed r =
    record {
      phase = r.phase;
      rest = landing r.rest r.job.edition r.job.target r.cursor.at;
      places = r.places;
      job = r.job;
      cursor = r.cursor;
      unit = r.unit;
      frame = r.frame;
    }

-- "erase of the old half": a format has none to erase
unfoldable pub enter_drop : Record → Record
enter_drop r = cond r.job.drops (enter Drop r) (enter_append (landed r))

-- the frame to append is a host's commit
abbrev pub ends_with : List ℕ → Host → Bool
ends_with frame h = eqb (get_or frame kind_at 0) 3 && eqb (get_or frame body_at 0) h.0

-- a frame to copy is put into the buffer, by the edition that is made, and its id has a new place (K8); where none is left the block is sealed
abbrev pub loaded : Record → Load → Record
loaded r u =
    record {
      phase = Busy Copy;
      rest = r.rest;
      places = place_copied (ends_with r.frame) r.cursor.at u.frame r.places;
      job = r.job;
      cursor = cursor 0 r.cursor.at u.id u.source (frame_len (makes_in r) u.frame) 0;
      unit = buffer (encode (makes_in r) u.frame);
      frame = r.frame;
    }

abbrev pub load_or : Record → Option Load → Record
load_or r (some u) = loaded r u
load_or r none = enter Seal r

-- "settled frames by rising id, pending frames in their order": the next one, read from the current block
unfoldable pub enter_copy : ℕ → List ℕ → Record → Record
enter_copy N img r =
    load_or r
    (next_load_of (reads_in r) (block (size_of N img) r.rest.block img) r.rest.end r.places r.job.since r.cursor.id r.cursor.source)

-- the bytes that close a torn frame, if there are any (document 02, K11)
unfoldable pub enter_close : Record → Record
enter_close r = cond (ltb 0 r.job.closes) (enter Close r) (enter_append r)

-- a job that makes no block goes on to these
unfoldable pub enter_open : Record → Record
enter_open r = cond r.job.moves (enter Open r) (enter_close r)

-- the blocks to erase, if there are any
unfoldable pub enter_wipe : Record → Record
enter_wipe r = cond (ltb 0 r.job.wipes) (enter Wipe r) (enter_open r)

-- "Accepting takes no step."
abbrev pub begin : List ℕ → List ℕ → Record → Out
begin img reply r = out (answer_of (enter_wipe r)) img (enter_wipe r) reply

-- ---- one step

-- the flash step that a job does next
abbrev pub action : Stage → Record → Step
action Wipe r = erase (get_or r.job.wipe r.cursor.index 0)
action Open r = write_step r.job.target (open_write (makes_in r) r.cursor.index)
action Copy r = program r.job.target r.cursor.at (get_or r.unit r.cursor.off 0)
action Seal r = write_step r.job.target (seal_write r.job.time r.cursor.index)
action Drop r = erase r.rest.block
action Append r = program r.rest.block (r.rest.end + r.cursor.index) (get_or r.frame r.cursor.index 0)
action Close r =
    program r.rest.block (get_or r.job.close r.cursor.index 0) (close_byte (eqb (suc r.cursor.index) r.job.closes))

-- the cursor past a step, and past a byte that is copied
abbrev pub next_index : Cursor → Cursor
next_index c = cursor (suc c.index) c.at c.id c.source c.size c.off

abbrev pub next_byte : Cursor → Cursor
next_byte c = cursor c.index (suc c.at) c.id c.source c.size (suc c.off)

-- past a frame's last byte
abbrev pub past_frame : Cursor → Cursor
past_frame c = cursor c.index (suc c.at) c.id c.source c.size 0

-- on to the stage's next step, or out of the stage after its last
abbrev pub onward : Stage → ℕ → Record → Record → Record
onward s count r after = cond (ltb (suc r.cursor.index) count) (in_stage s (next_index r.cursor) r) after

-- the record after the step that gave the image
unfoldable pub advance : ℕ → Stage → List ℕ → Record → Record
advance N Wipe img r = onward Wipe r.job.wipes r (enter_open r)
advance N Open img r = onward Open mark_writes r (enter_copy N img r)
advance N Copy img r =
    cond (ltb (suc r.cursor.off) r.cursor.size) (in_stage Copy (next_byte r.cursor) r)
    (enter_copy N img (in_stage Copy (past_frame r.cursor) r))
advance N Seal img r = onward Seal mark_writes r (enter_drop r)
advance N Drop img r = enter_append (landed r)
advance N Append img r = onward Append r.job.size r (idle r.places (ending r.rest (r.rest.end + r.job.size)))
advance N Close img r = onward Close r.job.closes r (enter_append r)

-- "the last one answers 0 with the record idle", any other more
abbrev pub stepped : List ℕ → Record → Out
stepped img r = out (answer_of r) img r []

-- the record is of an image of N blocks and so many bytes. K14: "A record of another N gets 11, in a job's step too."
abbrev pub same_shape : ℕ → ℕ → Record → Bool
same_shape N n r = eqb n (suc r.rest.last) && eqb N r.rest.blocks

-- "in a job, 11 is given exactly if the image length isn't the record's or the job's next place lies outside it"
unfoldable pub step_busy : ℕ → Stage → List ℕ → Record → Out
step_busy N s img r =
    let after : List ℕ = apply (size_of N img) (action s r) img in
    cond (same_shape N (length img) r && within N (size_of N img) (action s r)) (stepped after (advance N s after r))
    (refuse refusal.Stale img r [])

-- "on an unmounted or idle record it answers 0 and changes nothing"
abbrev pub step_in : ℕ → Phase → List ℕ → Record → Out
step_in N Unmounted img r = out Done img r []
step_in N Idle img r = out Done img r []
step_in N (Busy s) img r = step_busy N s img r

-- a step call
unfoldable pub step_on : ℕ → List ℕ → Record → Out
step_on N img r = step_in N r.phase img r
