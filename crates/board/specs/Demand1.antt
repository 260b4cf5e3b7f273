-- Demand 1, what the promise says it with: what a refusal hands back, what one call may do to the image, how many steps a job may take, and
-- when a forged record has ended. The machine is a function, so that every call is answered is its type.
use Rattle.std.specs.Prelude.{List, [], ◌⊎◌, ◌≡◌, ℕ, zero, suc, ◌+◌, ◌≤◌, ◌<◌, length}
use Rattle.flash.specs.Flash.{Step, apply, size_of}
use Rattle.wire.specs.declared.Answer.TheVariants.{Refused}
use Rattle.wire.specs.declared.Refusal.{Refusal}
use Rattle.wire.specs.declared.Refusal.TheVariants as refusal
use Rattle.board.specs.declared.Phase.{Phase}
use Rattle.board.specs.declared.Phase.TheVariants.{Unmounted, Idle, Busy}
use Rattle.board.specs.declared.Record.{Record}
use Rattle.board.specs.Record.{unmounted, Out, out}
use Rattle.board.specs.Exec.{Call, request, step, mount, format, Machine}
use Rattle.board.specs.Plan.{programs}

-- "Every refusal takes no step and changes no byte of image, reply or record; a refused mount or format hands back an unmounted record."
abbrev pub Unchanged : List ℕ → Record → Call → Refusal → Out
Unchanged img r (request h m reply) n = out (Refused n) img r reply
Unchanged img r step n = out (Refused n) img r []
Unchanged img r mount n = out (Refused n) img unmounted []
Unchanged img r format n = out (Refused n) img unmounted []

-- "Accepting takes no step": only a step call changes the image, and it does at most one flash step
abbrev pub OneStep : ℕ → List ℕ → List ℕ → Type 0
OneStep N img after = (after ≡ img) ⊎ ((x : Step) × (after ≡ apply (size_of N img) x img))

-- "A step does one thing"; a request, a mount and a format do none
abbrev pub ImageAfter : ℕ → Machine → List ℕ → Record → Call → Type 0
ImageAfter N m img r (request h msg reply) = (m img r (request h msg reply)).image ≡ img
ImageAfter N m img r step = OneStep N img (m img r step).image
ImageAfter N m img r mount = (m img r mount).image ≡ img
ImageAfter N m img r format = (m img r format).image ≡ img

-- ---- how many steps

-- "No accepted request takes more flash steps than one block has bytes." K14: "Demand 1's bound leaves a mount's erases aside": of those there
-- are at most N. By the call that began the job; a step begins none
abbrev pub Short : ℕ → ℕ → List Step → Call → Type 0
Short N s plan (request h msg reply) = length plan ≤ s
Short N s plan step = length plan ≤ s
Short N s plan mount = (length (programs plan) ≤ s) × (length plan ≤ length (programs plan) + N)
Short N s plan format = length plan ≤ s

-- ---- forged records

-- the numbers of a record are those its fields can hold
pub record Declared (r : Record) : Type 0 where
  pub last : r.rest.last < 65536
  pub wipes : r.job.wipes < 256
  pub append : r.job.size < 256
  pub copy : r.cursor.size < 256
  pub closes : r.job.closes < 256

-- a record in no job
abbrev pub Rests : Phase → Type 0
Rests Unmounted = Unit {0}
Rests Idle = Unit {0}
Rests (Busy s) = ⊥

-- within n step calls, each on what the last gave back, the record rests or a call is refused with 11
unfoldable pub EndsWithin : Machine → ℕ → List ℕ → Record → Type 0
EndsWithin m zero img r = Rests r.phase
EndsWithin m (suc n) img r =
    let o : Out = m img r step in
    Rests r.phase ⊎ ((o.answer ≡ Refused refusal.Stale) ⊎ EndsWithin m n o.image o.board)
