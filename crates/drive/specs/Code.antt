-- What the code's parts do: some steps at once, and what a run leaves.
use Rattle.std.specs.Prelude.{◌≡◌, List, true, ℕ, ◌+◌, ◌*◌, ◌≤◌, ◌<◌, take, drop}
use Rattle.flash.specs.Flash.{is_count, size_in, size_of, writes, write_all}
use Rattle.frame.specs.Frame.{buffer_len}
use Rattle.board.specs.declared.Cursor.{Cursor}
use Rattle.board.specs.declared.Record.{Record}
use Rattle.board.specs.declared.Rest.{Rest}
use Rattle.board.specs.Record.{cursor, answer_of}
use Rattle.board.specs.Step.{stepped}
use Rattle.board.specs.Drive.{Drove, run_from}
use Rattle.job.specs.declared.records.Numbers.{Numbers}
use Rattle.job.specs.Code.{fits, leaves}
use Rattle.drive.specs.declared.bursts.Lane.{Lane}
use Rattle.drive.specs.declared.runs.Ran.{Ran}
use Rattle.drive.specs.declared.runs.Driven.{Driven}

-- the cursor past k bytes that are copied, and past k steps of a stage
abbrev pub on_by : ℕ → Cursor → Cursor
on_by k c = cursor c.index (k + c.at) c.id c.source c.size (k + c.off)

abbrev pub steps_by : ℕ → Cursor → Cursor
steps_by k c = cursor (k + c.index) c.at c.id c.source c.size c.off

-- where the bytes of the frame that is copied go, and of the frame to append
abbrev pub copy_lane : Numbers → Lane
copy_lane n = record { block = n.job.target; at = n.cursor.at; done = n.cursor.off; size = n.cursor.size }

abbrev pub append_lane : Numbers → Lane
append_lane n = record { block = n.rest.block; at = n.rest.end + n.cursor.index; done = n.cursor.index; size = n.job.size }

-- k bytes of a frame stop short of its last one, and their places lie in an image of N blocks and a length, the record's
pub record Short (N len : ℕ) (z : Rest) (l : Lane) (k : ℕ) : Type 0 where
  pub same : fits N len z ≡ true
  pub count : is_count N ≡ true
  pub there : l.block < N
  pub room : k + l.at ≤ size_in N len
  pub inside : k + l.done < l.size
  pub held : k + l.done < buffer_len

-- the image with k bytes of a frame programmed
abbrev pub laid : ℕ → Lane → List ℕ → ℕ → List ℕ → List ℕ
laid N l bs k img = write_all img (writes (l.block * size_of N img + l.at) (take k (drop l.done bs)))

-- k steps at once lead from an image and a record to others: as so many step calls would
pub record Bursts (N k : ℕ) (img : List ℕ) (r : Record) (img' : List ℕ) (r' : Record) : Type 0 where
  pub answers : answer_of r' ≡ answer_of r
  pub runs : (m c : ℕ) → run_from N (k + m) c (stepped img r) ≡ run_from N m (k + c) (stepped img' r')

-- what a run gives back, with these arrays
pub record Runs (r : Ran) (places unit frame img : List ℕ) (d : Drove) : Type 0 where
  pub steps : r.steps ≡ d.steps
  pub image : img ≡ d.out.image
  pub answers : r.stepped.answer ≡ d.out.answer
  pub gives : leaves r.stepped places unit frame ≡ d.out.board

-- the same by value
pub record Drives (r : Driven) (img : List ℕ) (d : Drove) : Type 0 where
  pub steps : r.steps ≡ d.steps
  pub image : img ≡ d.out.image
  pub answers : r.last.answer ≡ d.out.answer
  pub gives : r.last.board ≡ d.out.board
