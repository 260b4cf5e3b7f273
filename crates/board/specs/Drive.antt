-- A step told apart from making it, and many steps in one call: for flash that the caller drives. Beyond document 01: what a step call
-- does is said there, and these calls are tied to it.
use Rattle.std.specs.Prelude.{List, [], ◌++◌, ◌&&◌, cond, ◌≡◌, ℕ, zero, suc, ◌+◌, ◌-◌, ◌*◌, length, take, drop, replicate}
use Rattle.flash.specs.Flash.{Step, program, erase, program_at, size_in, size_of, within}
use Rattle.wire.specs.declared.Answer.{Answer}
use Rattle.wire.specs.declared.Answer.TheVariants.{Done, More, Refused}
use Rattle.wire.specs.declared.Refusal.TheVariants as refusal
use Rattle.board.specs.declared.Next.{Next}
use Rattle.board.specs.declared.Next.TheVariants as next
use Rattle.board.specs.declared.Phase.{Phase}
use Rattle.board.specs.declared.Phase.TheVariants.{Unmounted, Idle, Busy}
use Rattle.board.specs.declared.Record.{Record}
use Rattle.board.specs.Record.{Out, out, refuse}
use Rattle.board.specs.Step.{action, advance, same_shape, stepped, step_on}

-- ---- what is next

-- a flash step by its place in an image of blocks of s bytes
abbrev pub placed : ℕ → Step → Next
placed s (program k o v) = next.Program (k * s + o) v
placed s (erase k) = next.Erase (k * s) s

-- by the record alone, on an image of N blocks and n bytes
abbrev pub next_in : ℕ → Phase → ℕ → Record → Next
next_in N Unmounted n r = next.Nothing
next_in N Idle n r = next.Nothing
next_in N (Busy s) n r =
    cond (same_shape N n r && within N (size_in N n) (action s r)) (placed (size_in N n) (action s r)) (next.Refused refusal.Stale)

unfoldable pub next_on : ℕ → ℕ → Record → Next
next_on N n r = next_in N r.phase n r

-- the flash after that step: "new value = old AND given", "all bytes 0xFF"
abbrev pub flashed : Next → List ℕ → List ℕ
flashed (next.Program at v) img = program_at img at v
flashed (next.Erase at n) img = take at img ++ (replicate (length (take n (drop at img))) 255 ++ drop (at + n) img)
flashed next.Nothing img = img
flashed (next.Refused why) img = img

-- ---- it is made

-- the record moves on, by the flash as it is now
abbrev pub made_in_of : ℕ → Phase → List ℕ → Record → Out
made_in_of N Unmounted img r = out Done img r []
made_in_of N Idle img r = out Done img r []
made_in_of N (Busy s) img r =
    cond (same_shape N (length img) r && within N (size_of N img) (action s r)) (stepped img (advance N s img r)) (refuse refusal.Stale img r [])

unfoldable pub made_on : ℕ → List ℕ → Record → Out
made_on N img r = made_in_of N r.phase img r

-- what is next, done to the flash, then made, is a step call: on every image and record
unfoldable pub NextThenMade : Type 0
NextThenMade = (N : ℕ) (img : List ℕ) (r : Record) → made_on N (flashed (next_on N (length img) r) img) r ≡ step_on N img r

-- ---- at most n steps in one call

-- how many flash steps were done, and what the last step call gave back
pub record Drove : Type 0 where
  pub steps : ℕ
  pub out : Out

-- of c step calls the last did no flash step if it was refused
abbrev pub drove : ℕ → Out → Answer → Drove
drove c o Done = record { steps = c; out = o }
drove c o More = record { steps = c; out = o }
drove c o (Refused why) = record { steps = c - 1; out = o }

-- step calls that stop at the first answer that isn't more; c of them were made
unfoldable pub run_from : ℕ → ℕ → ℕ → Out → Drove
run_from N zero c o = drove c o o.answer
run_from N (suc n) c o =
    elim o.answer [
      | Done ↦ drove c o Done
      | More ↦ run_from N n (suc c) (step_on N o.image o.board)
      | Refused why ↦ drove c o (Refused why)
    ]

-- at most n of them; a record in no job answers 0, one in a job more until a step call says otherwise
abbrev pub run_on_of : ℕ → ℕ → List ℕ → Record → Drove
run_on_of N n img r = run_from N n 0 (stepped img r)
