-- The customer's two tickets (examples/tickets), of every machine that keeps the promise.
use Rattle.std.specs.Prelude.{List, [], ◌∷◌, ◌++◌, Bool, true, false, ◌⊎◌, ◌≡◌, ℕ, ◌+◌, ◌≤◌, ◌<◌, length, replicate}
use Rattle.std.proofs.Math.Option.{some}
use Rattle.flash.specs.Bytes.{Bytes}
use Rattle.flash.specs.Flash.{block, size_of}
use Rattle.frame.specs.declared.Host.{Host}
use Rattle.frame.specs.Reader.{clean}
use Rattle.journal.specs.Replay.{Object, change_all}
use Rattle.journal.specs.Block.{Journal, valid, block_state}
use Rattle.wire.specs.declared.Answer.{Answer}
use Rattle.wire.specs.declared.Answer.TheVariants.{More, Refused}
use Rattle.wire.specs.declared.Refusal.{Refusal}
use Rattle.wire.specs.declared.Request.{Request}
use Rattle.wire.specs.declared.Request.TheVariants.{Commit}
use Rattle.wire.specs.Answer.{number_of}
use Rattle.board.specs.declared.Record.{Record}
use Rattle.board.specs.Record.{allowed, Out, Accepted}
use Rattle.board.specs.Mount.{replay_of}
use Rattle.board.specs.Exec.{Machine, Call, request, step, mount, format}
use Rattle.wire.specs.Sentences.{Means}
use Rattle.board.specs.Claim.{steps_on, Event, call, HappensFrom}
use Rattle.board.specs.CutFormat.{Left, left_by_of}
use Rattle.board.specs.Promise.{Promise}

-- ---- 1: one host sends a log request with a bad length, the others go on

-- all that calls give back, each on what the last gave back
abbrev pub outcomes : Machine → List ℕ → Record → List Call → List Out
outcomes m img r [] = []
outcomes m img r (c ∷ cs) = let o : Out = m img r c in o ∷ outcomes m o.image o.board cs

-- a list without the entries that are marked
abbrev pub strike : {A : Type 0} → List Bool → List A → List A
strike [] xs = xs
strike (b ∷ bs) [] = []
strike (true ∷ bs) (x ∷ xs) = strike bs xs
strike (false ∷ bs) (x ∷ xs) = x ∷ strike bs xs

-- a request, from whichever host, that is refused
abbrev pub IsRefused : Call → Answer → Type 0
IsRefused (request h msg reply) a = (n : Refusal) × (a ≡ Refused n)
IsRefused step a = ⊥
IsRefused mount a = ⊥
IsRefused format a = ⊥

-- only refused requests are marked, all or some of them
abbrev pub MarksRefused : Machine → List ℕ → Record → List Bool → List Call → Type 0
MarksRefused m img r [] cs = Unit {0}
MarksRefused m img r (b ∷ bs) [] = Unit {0}
MarksRefused m img r (true ∷ bs) (c ∷ cs) =
    let o : Out = m img r c in IsRefused c o.answer × MarksRefused m o.image o.board bs cs
MarksRefused m img r (false ∷ bs) (c ∷ cs) = let o : Out = m img r c in MarksRefused m o.image o.board bs cs

pub record BadLogLength (m : Machine) : Type 0 where
  -- a message that is none of the seven requests is refused, whatever image and record are
  pub refused : (img : List ℕ) (r : Record) (h : Host) (msg reply : List ℕ) → Bytes img → ((q : Request) → Means msg q → ⊥)
      → IsRefused (request h msg reply) (m img r (request h msg reply)).answer
  -- strike refused requests out of the list: every other call gets the same answer, image, record, reply and stretch
  pub undisturbed : (img : List ℕ) (r : Record) (marks : List Bool) (cs : List Call) → MarksRefused m img r marks cs
      → outcomes m img r (strike marks cs) ≡ strike marks (outcomes m img r cs)

-- ---- 2: power drops in the middle of two hosts' changes

-- from an accepted mount on: its steps end, and the block in use then holds these objects and nothing that waits for a commit
pub record Restores (N : ℕ) (m : Machine) (o : Out) (os : List Object) : Type 0 where
  pub count : ℕ
  pub short : count ≤ size_of N o.image + N
  pub more : (n : ℕ) → n < count → (steps_on m n o).answer ≡ More
  pub done : number_of (steps_on m count o).answer ≡ some 0
  pub journal : Journal
  pub is-valid : let z : Out = steps_on m count o in block_state (block (size_of N z.image) z.board.rest.block z.image) ≡ valid journal
  pub is_clean : journal.tail ≡ clean
  pub objects : (replay_of journal).objects ≡ os
  pub nothing_pending : (replay_of journal).pending ≡ []

-- a run, then a host's commit and k of its steps
abbrev pub committing : List Event → Host → List ℕ → List ℕ → ℕ → List Event
committing es h msg reply k = es ++ (call (request h msg reply) ∷ replicate k (call step))

pub record PowerCuts (N : ℕ) (m : Machine) : Type 0 where
  -- power drops anywhere in a run, inside an erase too: a mount, whatever record it is given, restores the book's objects, and nobody's
  -- uncommitted change
  pub restores : (img : List ℕ) (r : Record) (es : List Event) (q : Record) → Bytes img → allowed N (length img) ≡ true → HappensFrom N m img r es
      → let x : Left = left_by_of N m img r es in Accepted (m x.image q mount).answer → Restores N m (m x.image q mount) x.book.objects
  -- power drops after a host's commit has begun, k of its step calls made: what the host had sent is there whole, if one of them had
  -- answered 0, or not at all
  pub whole_or_not : (img : List ℕ) (r : Record) (es : List Event) (h : Host) (msg reply : List ℕ) (k : ℕ) (q : Record)
      → Bytes img → allowed N (length img) ≡ true → HappensFrom N m img r (committing es h msg reply k) → Means msg Commit
      → let x : Left = left_by_of N m img r es in let y : Left = left_by_of N m img r (committing es h msg reply k) in
      let o : Out = m x.image x.board (request h msg reply) in
      o.answer ≡ More → Accepted (m y.image q mount).answer
      → ((number_of (steps_on m k o).answer ≡ some 0) × Restores N m (m y.image q mount) (change_all (x.book.lists h) x.book.objects))
      ⊎ (((steps_on m k o).answer ≡ More) × Restores N m (m y.image q mount) x.book.objects)

-- every machine that keeps the promise settles both
pub record TicketsSettled : Type 0 where
  pub bad_log_length : (N : ℕ) (m : Machine) → Promise N m → BadLogLength m
  pub power_cuts : (N : ℕ) (m : Machine) → Promise N m → PowerCuts N m
