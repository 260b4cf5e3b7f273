-- What each exported function does to the buffers that it is lent: the board's definitions, with the record as bytes.
use Rattle.std.specs.Prelude.{◌≡◌, List, [], Bool, cond, ℕ, ◌<◌, eqb, length}
use Rattle.wire.specs.declared.Answer.{Answer}
use Rattle.wire.specs.declared.Spot.{Spot}
use Rattle.wire.specs.Answer.{refusal_number, edge_number, refused_number, spot_of}
use Rattle.board.specs.declared.Next.{Next}
use Rattle.board.specs.declared.Next.TheVariants as next
use Rattle.board.specs.declared.Record.{Record}
use Rattle.board.specs.Record.{Out}
use Rattle.board.specs.Step.{step_on}
use Rattle.board.specs.Drive.{Drove, next_on, flashed, made_on, run_on_of}
use Rattle.board.specs.Mount.{mount_on, format_on}
use Rattle.board.specs.Queue.{asking, request_on}
use Rattle.lent.specs.Layout.{record_size, record_in, record_bytes}
use Rattle.queue.specs.Calls.{read_as_of}
use Rattle.pack.specs.Code.{changes}

-- an answer's number, and the buffers after the call
pub record Edge : Type 0 where
  pub answer : ℕ
  pub image : List ℕ
  pub board : List ℕ
  pub reply : List ℕ

abbrev pub edge : ℕ → List ℕ → List ℕ → List ℕ → Edge
edge n img b reply = record { answer = n; image = img; board = b; reply = reply }

-- the buffer has exactly a record's size
abbrev pub holds_record : List ℕ → Bool
holds_record b = eqb (length b) record_size

-- what a call came to; with a record buffer of any other size it is 254, and nothing is done
abbrev pub guarded : List ℕ → List ℕ → List ℕ → Out → List ℕ → Edge
guarded img b reply o after =
    cond (holds_record b) (edge (edge_number o.answer) o.image after o.reply) (edge 254 img b reply)

-- ---- requests and steps write the record only where a job began, went on or ended

-- the record buffer after the call
abbrev pub written : List ℕ → Out → List ℕ
written b o = cond (changes (record_in b).phase o.answer) (record_bytes o.board) b

-- a request, and a step, which is lent no reply
unfoldable pub edge_request : ℕ → List ℕ → List ℕ → ℕ → List ℕ → List ℕ → Edge
edge_request N img b h m reply =
    let o : Out = request_on (asking N img (record_in b) (record { 0 = h }) m reply) in
    guarded img b reply o (written b o)

unfoldable pub edge_step : ℕ → List ℕ → List ℕ → Edge
edge_step N img b = let o : Out = step_on N img (record_in b) in guarded img b [] o (written b o)

-- a step that the caller made to the flash
unfoldable pub edge_made : ℕ → List ℕ → List ℕ → Edge
edge_made N img b = let o : Out = made_on N img (record_in b) in guarded img b [] o (written b o)

-- ---- mount and format write the record, whatever stood there

abbrev pub anew : List ℕ → List ℕ → Out → Edge
anew img b o = guarded img b [] o (record_bytes o.board)

unfoldable pub edge_mount : ℕ → List ℕ → List ℕ → Edge
edge_mount N img b = anew img b (mount_on N img)

unfoldable pub edge_format : ℕ → List ℕ → List ℕ → Edge
edge_format N img b = anew img b (format_on N img)

-- ---- a read hands out numbers

-- an answer's number, and where the value stands in the image
pub record Place : Type 0 where
  pub answer : ℕ
  pub at : ℕ
  pub size : ℕ

abbrev pub place : ℕ → ℕ → ℕ → Place
place n at size = record { answer = n; at = at; size = size }

-- a message of another kind is malformed (`read_as_of`); with a record buffer of any other size the numbers stay as they were
unfoldable pub edge_read : ℕ → List ℕ → List ℕ → ℕ → List ℕ → ℕ → ℕ → Place
edge_read N img b h m at size =
    let o : Out = request_on (asking N img (record_in b) (record { 0 = h }) (read_as_of m) []) in
    cond (holds_record b) (place (edge_number o.answer) o.stretch.at o.stretch.size) (place 254 at size)

-- ---- the next flash step, told in numbers

-- 252: a byte to program at an offset. 253: from an offset on so many bytes to erase. Any other number is an answer: nothing is to be done
pub record Told : Type 0 where
  pub answer : ℕ
  pub at : ℕ
  pub size : ℕ
  pub byte : ℕ

abbrev pub told : ℕ → ℕ → ℕ → ℕ → Told
told n at size byte = record { answer = n; at = at; size = size; byte = byte }

abbrev pub tells : Next → Told
tells (next.Program at v) = told 252 at 1 v
tells (next.Erase at n) = told 253 at n 255
tells next.Nothing = told 0 0 0 0
tells (next.Refused why) = told (refusal_number why) 0 0 0

-- on an image of N blocks and n bytes; with a record buffer of any other size the numbers stay as they were
unfoldable pub edge_next : ℕ → ℕ → List ℕ → ℕ → ℕ → ℕ → Told
edge_next N n b at size byte = cond (holds_record b) (tells (next_on N n (record_in b))) (told 254 at size byte)

-- the flash after what was told is done to it
abbrev pub flashed_by : Told → List ℕ → List ℕ
flashed_by t img =
    cond (eqb t.answer 252) (flashed (next.Program t.at t.byte) img)
    (cond (eqb t.answer 253) (flashed (next.Erase t.at t.size) img) img)

-- ---- many steps in one call: the record is written if a step was made

pub record Run : Type 0 where
  pub answer : ℕ
  pub steps : ℕ
  pub image : List ℕ
  pub board : List ℕ

abbrev pub run : ℕ → ℕ → List ℕ → List ℕ → Run
run n steps img b = record { answer = n; steps = steps; image = img; board = b }

abbrev pub ran : List ℕ → Drove → Run
ran b d = run (edge_number d.out.answer) d.steps d.out.image (cond (eqb d.steps 0) b (record_bytes d.out.board))

-- at most n of them; with a record buffer of any other size the count of steps stays as it was
unfoldable pub edge_run : ℕ → List ℕ → List ℕ → ℕ → ℕ → Run
edge_run N img b n steps = cond (holds_record b) (ran b (run_on_of N n img (record_in b))) (run 254 steps img b)

-- ---- where a refused mount broke

-- a mount's refusal, and what it names
pub record Broken : Type 0 where
  pub answer : ℕ
  pub block : ℕ
  pub field : ℕ
  pub place : ℕ

abbrev pub broken : ℕ → ℕ → ℕ → ℕ → Broken
broken n block field place = record { answer = n; block = block; field = field; place = place }

-- document 02, K5: "Mount's 3 passes it on as an answer that names the foreign half (0 first) and, within it, the fault and its place": the
-- number with which a mount of the image is refused, or 0; block, field and place with 3, else 0
unfoldable pub edge_fault : ℕ → List ℕ → Broken
edge_fault N img =
    let a : Answer = (mount_on N img).answer in
    let s : Spot = spot_of a in
    broken (refused_number a) s.half s.field s.place

-- ---- what callers rely on

-- any answer but 0 and 255
abbrev pub Refuses : ℕ → Type 0
Refuses n = (0 < n) × (n < 255)

-- a call that refuses leaves every buffer as it was
abbrev pub Stays : List ℕ → List ℕ → List ℕ → Edge → Type 0
Stays img b reply e = Refuses e.answer → e ≡ edge e.answer img b reply

-- "Every refusal .. changes no byte of image, reply or record"; nor does 254
pub record RefusedStays : Type 0 where
  pub request : (N : ℕ) (img b : List ℕ) (h : ℕ) (m reply : List ℕ) → Stays img b reply (edge_request N img b h m reply)
  pub step : (N : ℕ) (img b : List ℕ) → Stays img b [] (edge_step N img b)
  pub made : (N : ℕ) (img b : List ℕ) → Stays img b [] (edge_made N img b)

-- a run that made no step leaves image and record as they were
unfoldable pub NoStepStays : Type 0
NoStepStays = (N : ℕ) (img b : List ℕ) (n : ℕ) → (edge_run N img b n 0).steps ≡ 0 → edge_run N img b n 0 ≡ run (edge_run N img b n 0).answer 0 img b

-- what next tells, done to the flash, then made, is a step: of the answer, the flash and the record's bytes
unfoldable pub EdgeNextThenMade : Type 0
EdgeNextThenMade = (N : ℕ) (img b : List ℕ) (at size byte : ℕ) → edge_made N (flashed_by (edge_next N (length img) b at size byte) img) b ≡ edge_step N img b

-- "A refused read hands back an empty stretch"
unfoldable pub RefusedReadEmpty : Type 0
RefusedReadEmpty =
    (N : ℕ) (img b : List ℕ) (h : ℕ) (m : List ℕ) (at size : ℕ) → length b ≡ record_size → Refuses (edge_read N img b h m at size).answer
    → edge_read N img b h m at size ≡ place (edge_read N img b h m at size).answer 0 0

-- the buffer after a call reads as the record that the board's definition gives back
abbrev pub ReadsBack : List ℕ → List ℕ → Record → Type 0
ReadsBack b after r = length b ≡ record_size → record_in after ≡ r
