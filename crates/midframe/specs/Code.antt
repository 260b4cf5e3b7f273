-- What the code's parts do.
use Rattle.std.specs.Prelude.{◌≡◌, List, Bool, true, false, ℕ, suc, ◌+◌, ◌<◌, length, get_or}
use Rattle.flash.specs.Flash.{Step, program, offset_of, size_in, within}
use Rattle.wire.specs.declared.Answer.TheVariants.{More}
use Rattle.wire.specs.Message.{word_at}
use Rattle.board.specs.declared.Stage.{Stage}
use Rattle.board.specs.declared.Phase.TheVariants.{Busy}
use Rattle.board.specs.declared.Next.TheVariants.{Program}
use Rattle.board.specs.Record.{Out}
use Rattle.board.specs.Step.{action}
use Rattle.board.specs.Drive.{placed, next_on}
use Rattle.lent.specs.Layout.{moves_at, drops_at, last_at, blocks_at, plan_at, record_size, record_in, record_bytes}
use Rattle.midframe.specs.declared.Aim.{Aim}
use Rattle.midframe.specs.declared.Found.{Found}

-- a record's bytes for an image of N blocks and n bytes, with flags that stand as they are written
pub record Stands (N : ℕ) (b : List ℕ) (n : ℕ) : Type 0 where
  pub moves : get_or b (plan_at + moves_at) 0 < 2
  pub drops : get_or b (plan_at + drops_at) 0 < 2
  pub count : N ≡ get_or b blocks_at 0
  pub fits : n ≡ suc (word_at b last_at)

-- the flash step that it is
abbrev pub step_of : Aim → Step
step_of a = program a.block a.at a.byte

-- the byte that is next in a frame
pub record Aims (b : List ℕ) (a : Aim) : Type 0 where
  pub phase : get_or b 0 0 < 9
  pub busy : (record_in b).phase ≡ Busy a.stage
  pub acts : step_of a ≡ action a.stage (record_in b)

-- the same by its place in an image of N blocks and n bytes, in which that lies
pub record Lies (N n : ℕ) (a : Aim) (f : Found) : Type 0 where
  pub stage : f.stage ≡ a.stage
  pub inside : within N (size_in N n) (step_of a) ≡ true
  pub place : placed (size_in N n) (step_of a) ≡ Program f.at f.byte

-- a record's bytes in a stage, with phase and flags that stand as they are written and an offset that can be counted on
pub record Ready (b : List ℕ) (s : Stage) : Type 0 where
  pub size : length b ≡ record_size
  pub busy : (record_in b).phase ≡ Busy s
  pub phase : get_or b 0 0 < 9
  pub moves : get_or b (plan_at + moves_at) 0 < 2
  pub drops : get_or b (plan_at + drops_at) 0 < 2
  pub low : offset_of (action s (record_in b)) < 32768

-- the byte that is next, on an image of N blocks and n bytes
pub record Finds (N n : ℕ) (b : List ℕ) (f : Found) : Type 0 where
  pub ready : Ready b f.stage
  pub next : next_on N n (record_in b) ≡ Program f.at f.byte

-- a call that answers more, on the record's bytes
pub record Made (o : Out) (b img' b' : List ℕ) : Type 0 where
  pub size : length b ≡ record_size
  pub answers : o.answer ≡ More
  pub image : img' ≡ o.image
  pub bytes : b' ≡ record_bytes o.board
  pub back : record_in b' ≡ o.board

-- the call was made, or nothing was done
pub record Tried (o : Out) (done : Bool) (img b img' b' : List ℕ) : Type 0 where
  pub made : done ≡ true → Made o b img' b'
  pub left : done ≡ false → (img' ≡ img) × (b' ≡ b)
