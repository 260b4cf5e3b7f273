-- What the requests do, by a survey of the current block and in the code's order of tests. proofs/ ties it to board's definitions.
use Rattle.std.specs.Prelude.{◌≡◌, List, [], ◌∷◌, Bool, ◌&&◌, cond, ℕ, ◌+◌, ◌*◌, ◌≤◌, eqb, leb, length, get_or, Some, None, ⊤, Result, Ok, Err, MatchResult, Option}
use Rattle.flash.specs.Bytes.{same_bytes_of}
use Rattle.flash.specs.Flash.{block, size_of}
use Rattle.frame.specs.declared.Host.{Host}
use Rattle.frame.specs.declared.ObjectId.{ObjectId}
use Rattle.frame.specs.Frame.{host_max, end_len, edition_number, edition_by}
use Rattle.survey.specs.declared.Survey.{Survey}
use Rattle.fetch.specs.declared.Found.{Found}
use Rattle.journal.specs.Index.{value_at}
use Rattle.fetch.specs.Fetch.{found_of}
use Rattle.wire.specs.declared.Answer.{Answer}
use Rattle.wire.specs.declared.Answer.TheVariants.{Done, Refused}
use Rattle.wire.specs.declared.Refusal.{Refusal}
use Rattle.wire.specs.declared.Refusal.TheVariants as refusal
use Rattle.wire.specs.Message.{Parsed, parse, id_in, of_read_kind}
use Rattle.board.specs.declared.Phase.{Phase}
use Rattle.board.specs.declared.Phase.TheVariants.{Unmounted, Idle, Busy}
use Rattle.board.specs.declared.Rest.{Rest}
use Rattle.board.specs.declared.Record.{Record}
use Rattle.board.specs.Record.{allowed, Out}
use Rattle.board.specs.Queue.{Asking, asking, request_on}
use Rattle.job.specs.declared.records.Stepped.{Stepped}
use Rattle.job.specs.Code.{at_rest_of, fits}
use Rattle.queue.specs.declared.reads.Stretch.{Stretch}
use Rattle.looks.specs.declared.image.Image.{Image}
use Rattle.looks.specs.Surveys.{is_valid}
use Rattle.serving.specs.Calls.{open_in, claimed_in, Asks}

-- ---- before a request is served

abbrev pub gate_in : Phase → Result ⊤ Refusal
gate_in (Busy s) = Err refusal.Busy
gate_in Unmounted = Err refusal.NoStore
gate_in Idle = Ok tt

-- 4, 10, 5, 2
unfoldable pub gate_of : ℕ → ℕ → Phase → Host → Result ⊤ Refusal
gate_of N n p h = cond (allowed N n) (cond (leb h.0 host_max) (gate_in p) (Err refusal.HostRange)) (Err refusal.ImageLength)

-- an open gate hands the image back, a shut one says why
abbrev pub Gated : ℕ → List ℕ → Phase → Host → Result Image Refusal → Type 0
Gated N img p h r =
    let gate : Result ⊤ Refusal = gate_of N (length img) p h in
    MatchResult r (λ i. (i.bytes.now ≡ img) × (i.blocks ≡ N) × (gate ≡ Ok tt)) (λ why. gate ≡ Err why)

-- the block is as an idle record has it, but for the places
unfoldable pub as_recorded : ℕ → Rest → Survey → Bool
as_recorded size z s =
    is_valid s.kind && (eqb s.torn 0
    && ((eqb (edition_number s.edition) z.edition && (eqb s.end z.end && same_bytes_of s.pending z.pending))
    && leb (claimed_in s + end_len s.edition * open_in s.pending) size))

-- ---- a request

-- the arrays that it was lent, after it
pub record Left : Type 0 where
  pub places : List ℕ
  pub frame : List ℕ
  pub reply : List ℕ

abbrev pub left : List ℕ → List ℕ → List ℕ → Left
left places frame reply = record { places = places; frame = frame; reply = reply }

-- any record with the phase, place and table of this one
abbrev pub alike : Record → Record → Record
alike r b =
    record {
      phase = r.phase;
      rest = r.rest;
      places = r.places;
      job = b.job;
      cursor = b.cursor;
      unit = b.unit;
      frame = b.frame;
    }

-- the same asked of such a record
abbrev pub asked_of : Asking → Record → Asking
asked_of a b = asking a.blocks a.image (alike a.board b) a.host a.message a.reply

-- what it came to, for every such record; where no job began the arrays that were lent hold nothing of use
abbrev pub Asked : Asking → Stepped → Left → Type 0
Asked a s l = (b : Record) → let o : Out = request_on (asked_of a b) in Asks (asked_of a b).board l.places l.frame s o × (l.reply ≡ o.reply)

-- ---- a read by its place, document 02, K8

-- the place of the id in a message
abbrev pub place_in : List ℕ → List ℕ → ℕ
place_in places m = get_or places (id_in m).0 0

-- what a read is answered, and its stretch: an empty one where it is refused
abbrev pub told : Result Stretch Refusal → Answer
told (Ok s) = Done
told (Err why) = Refused why

abbrev pub stretch_of : Result Stretch Refusal → Stretch
stretch_of (Ok s) = s
stretch_of (Err why) = record { at = 0; size = 0 }

-- what stands at a place of a block that starts there
abbrev pub located_at : ℕ → Option Found → Result Stretch Refusal
located_at start None = Err refusal.Stale
located_at start (Some x) = Ok (record { at = start + x.at; size = x.size })

-- 11 by the image's shape, 8 for place 0, then 11 by the frame there
unfoldable pub located_in : ℕ → List ℕ → Rest → ℕ → ObjectId → Result Stretch Refusal
located_in N img z p i =
    cond (fits N (length img) z)
    (cond (eqb p 0) (Err refusal.NoObject)
    (located_at (z.block * size_of N img) (found_of (value_at (edition_by z.edition) (block (size_of N img) z.block img) i p))))
    (Err refusal.Stale)

abbrev pub heard_as : ℕ → List ℕ → Rest → ℕ → List ℕ → Parsed → Result Stretch Refusal
heard_as N img z p m None = Err refusal.Malformed
heard_as N img z p m (Some q) = located_in N img z p (id_in m)

-- 1, then that
abbrev pub heard_in : ℕ → List ℕ → Rest → ℕ → List ℕ → Result Stretch Refusal
heard_in N img z p m = heard_as N img z p m (parse m)

-- its answer, as of a request
abbrev pub answering : Rest → Result Stretch Refusal → Stepped
answering z l = at_rest_of (told l) Idle z

-- a read without an id, which is malformed
abbrev pub no_id : List ℕ
no_id = 4 ∷ 0 ∷ 5 ∷ 1 ∷ []

-- a message of another kind counts as that
abbrev pub read_as_of : List ℕ → List ℕ
read_as_of m = cond (of_read_kind m) m no_id

abbrev pub telling : Asking → List ℕ → Asking
telling a m = asking a.blocks a.image a.board a.host m a.reply

-- the request's stretch, and a read's answer
pub record Finds (a : Asking) (l : Result Stretch Refusal) : Type 0 where
  pub answers : told l ≡ (request_on (telling a (read_as_of a.message))).answer
  pub at : (stretch_of l).at ≡ (request_on a).stretch.at
  pub size : (stretch_of l).size ≡ (request_on a).stretch.size
  pub inside : (stretch_of l).at + (stretch_of l).size ≤ length a.image
