-- Calls that are given another number of blocks, document 02, K14: "A record of another N gets 11, in a job's step too." A run has "the same N in each
-- call"; a request or a step beside it that is given another N is answered and changes nothing. A mount or format takes no record, and so begins anew.
use Rattle.std.specs.Prelude.{List, [], ◌∷◌, ◌++◌, ◌⊎◌, true, ◌≡◌, ℕ, ◌≤◌, length}
use Rattle.std.proofs.Math.Option.{some}
use Rattle.flash.specs.Bytes.{Bytes}
use Rattle.frame.specs.declared.Host.{Host}
use Rattle.wire.specs.declared.Answer.TheVariants.{Done, Refused}
use Rattle.wire.specs.declared.Refusal.{Refusal}
use Rattle.wire.specs.declared.Refusal.TheVariants as refusal
use Rattle.wire.specs.Answer.{number_of}
use Rattle.wire.specs.declared.Request.{Request}
use Rattle.wire.specs.Sentences.{Means, ReadKind}
use Rattle.board.specs.declared.Phase.TheVariants.{Idle}
use Rattle.board.specs.declared.Record.{Record}
use Rattle.board.specs.Record.{allowed, out}
use Rattle.board.specs.Exec.{Machine, Family, Call, request, step}
use Rattle.board.specs.Table.{InJob}
use Rattle.board.specs.Demand1.{Rests}
use Rattle.board.specs.Claim.{Event, call, HappensFrom}
use Rattle.board.specs.CutFormat.{Left, left_by_of}
use Rattle.board.specs.Promise.{Kept}

-- document 02, K8: "A message of kind 0x0105 then gets 11, after 1"
abbrev pub MalformedRead : List ℕ → Type 0
MalformedRead msg = ReadKind msg × ((q : Request) → Means msg q → ⊥)

-- what a machine of another N makes of image and record
pub record Apart (m : Machine) (img : List ℕ) (r : Record) : Type 0 where
  pub in_job : InJob r.phase → m img r step ≡ out (Refused refusal.Stale) img r []
  pub at_rest : Rests r.phase → m img r step ≡ out Done img r []
  pub refused : (h : Host) (msg reply : List ℕ) → (n : Refusal) × (m img r (request h msg reply) ≡ out (Refused n) img r reply)
  pub number : (h : Host) (msg reply : List ℕ) → r.phase ≡ Idle → h.0 ≤ 3
      → (number_of (m img r (request h msg reply)).answer ≡ some 4) ⊎ ((number_of (m img r (request h msg reply)).answer ≡ some 11)
      ⊎ ((number_of (m img r (request h msg reply)).answer ≡ some 1) × MalformedRead msg))

-- after a call of a run of N, and at its start, of every store that keeps the promise
unfoldable pub OtherCounts : Type 0
OtherCounts =
    (m : Family) → Kept m → (N M : ℕ) → (M ≡ N → ⊥) → (img : List ℕ) (r : Record) → Bytes img → allowed N (length img) ≡ true
    → (let x : Left = left_by_of N (m N) img r [] in Apart (m M) x.image x.board)
    × ((es : List Event) (c : Call) → HappensFrom N (m N) img r (es ++ (call c ∷ []))
    → let x : Left = left_by_of N (m N) img r (es ++ (call c ∷ [])) in Apart (m M) x.image x.board)
