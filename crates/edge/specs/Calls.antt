-- The C library as a list of calls, each given the buffers that the last left. What it shows is what `exec` shows, so demand 3 holds of a
-- caller in C.
use Rattle.std.specs.Prelude.{◌≡◌, List, [], ◌∷◌, true, false, cond, ◌&&◌, ℕ, zero, suc, ◌+◌, ◌-◌, ◌<◌, eqb, length, get_or}
use Rattle.flash.specs.Bytes.{Bytes}
use Rattle.flash.specs.Flash.{block, size_of, with_block, erase_block}
use Rattle.flash.specs.Raised.{Raised}
use Rattle.frame.specs.declared.Field.{Field}
use Rattle.frame.specs.declared.Field.TheVariants as field
use Rattle.frame.specs.Reader.{fault}
use Rattle.wire.specs.declared.Answer.{Answer}
use Rattle.wire.specs.declared.Answer.TheVariants.{Done, More, Refused}
use Rattle.wire.specs.declared.Refusal.TheVariants as refusal
use Rattle.wire.specs.Answer.{edge_number}
use Rattle.board.specs.declared.Phase.TheVariants.{Idle}
use Rattle.board.specs.Record.{allowed, Stretch, no_stretch, Out, answer_of}
use Rattle.board.specs.declared.Record.{Record}
use Rattle.board.specs.Exec.{Call, request, step, mount, format, Machine, exec}
use Rattle.board.specs.Table.{is_busy, InJob}
use Rattle.board.specs.Book.{Book, formatting, first_book, enter_call}
use Rattle.board.specs.Claim.{IdleAgrees, Says, track, begun_by, ByteCall, Begins, Event, call, cut_erase, Track, tracked}
use Rattle.board.specs.Promise.{Promise, Shown, shown, trace, ByteEvents}
use Rattle.lent.specs.Layout.{record_size, record_in}
use Rattle.queue.specs.Calls.{read_as_of}
use Rattle.edge.specs.Edge.{Edge, edge, edge_request, edge_step, edge_made, edge_mount, edge_format, Place, edge_read, edge_next, flashed_by}
use Rattle.edge.specs.Edge.{Run, run, edge_run, Broken, edge_fault}

-- ---- one call

-- the header's answers and fields by their numbers, in its order; what 3 names is told by grommetide_fault. 255 is more; no other number is an answer's.
-- After the header's fields comes crc
abbrev pub field_at : ℕ → Field
field_at n =
    get_or (field.Length ∷ field.Kind ∷ field.Host ∷ field.Id ∷ field.Finish ∷ field.Created ∷ field.State ∷ field.Spare ∷ field.Crc ∷ [])
    (n - 1) field.Length

abbrev pub answer_at : ℕ → Broken → Answer
answer_at n f =
    get_or (Done
    ∷ Refused refusal.Malformed
    ∷ Refused refusal.NoStore
    ∷ Refused (refusal.Foreign f.block (fault (field_at f.field) f.place))
    ∷ Refused refusal.ImageLength
    ∷ Refused refusal.Busy
    ∷ Refused refusal.Worn
    ∷ Refused refusal.NoRoom
    ∷ Refused refusal.NoObject
    ∷ Refused refusal.ShortReply
    ∷ Refused refusal.HostRange
    ∷ Refused refusal.Stale
    ∷ Refused refusal.HostFull
    ∷ More ∷ More ∷ More  -- no answer has 13, 14 or 15
    ∷ Refused refusal.Pending
    ∷ []) n More

-- what a caller in C asks for, image and record aside: one of the machine's calls; grommetide_read with a host, a message and what stood in the
-- two numbers; or grommetide_next with what stood in the three numbers, then the flash step that it tells, then grommetide_made
pub data Ask : Type 0 where
  plain : Call → Ask
  reads : ℕ → List ℕ → ℕ → ℕ → Ask
  drives : ℕ → ℕ → ℕ → Ask

-- the machine's call that it stands for
abbrev pub call_of : Ask → Call
call_of (plain c) = c
call_of (reads h m at size) = request (record { 0 = h }) (read_as_of m) []
call_of (drives at size byte) = step

-- its answer's number and the buffers after it
abbrev pub edge_plain : ℕ → List ℕ → List ℕ → Call → Edge
edge_plain N img b (request h m reply) = edge_request N img b h.0 m reply
edge_plain N img b step = edge_step N img b
edge_plain N img b mount = edge_mount N img b
edge_plain N img b format = edge_format N img b

abbrev pub edge_call : ℕ → List ℕ → List ℕ → Ask → Edge
edge_call N img b (plain c) = edge_plain N img b c
edge_call N img b (reads h m at size) = edge (edge_read N img b h m at size).answer img b []
edge_call N img b (drives at size byte) = edge_made N (flashed_by (edge_next N (length img) b at size byte) img) b

-- where a value stands is grommetide_read's to tell, for a request too
abbrev pub stretch_in : Place → Stretch
stretch_in p = record { at = p.at; size = p.size }

abbrev pub plain_stretch : ℕ → List ℕ → List ℕ → Call → Stretch
plain_stretch N img b (request h m reply) = stretch_in (edge_read N img b h.0 m 0 0)
plain_stretch N img b step = no_stretch
plain_stretch N img b mount = no_stretch
plain_stretch N img b format = no_stretch

abbrev pub edge_stretch : ℕ → List ℕ → List ℕ → Ask → Stretch
edge_stretch N img b (plain c) = plain_stretch N img b c
edge_stretch N img b (reads h m at size) = stretch_in (edge_read N img b h m at size)
edge_stretch N img b (drives at size byte) = no_stretch

-- all that the caller has after it: numbers and bytes read back
abbrev pub edge_out : ℕ → List ℕ → List ℕ → Ask → Out
edge_out N img b c =
    let e : Edge = edge_call N img b c in
    record {
      answer = answer_at e.answer (edge_fault N img);
      image = e.image;
      board = record_in e.board;
      reply = e.reply;
      stretch = edge_stretch N img b c;
    }

-- on every image and every record buffer of its size, forged ones too: what `exec` gives back
unfoldable pub CallExact : Type 0
CallExact = (N : ℕ) (img b : List ℕ) (c : Ask) → length b ≡ record_size → edge_out N img b c ≡ exec N img (record_in b) (call_of c)

-- and a buffer of its size
unfoldable pub CallSized : Type 0
CallSized = (N : ℕ) (img b : List ℕ) (c : Ask) → length b ≡ record_size → length (edge_call N img b c).board ≡ record_size

-- ---- a list of calls

-- what stands in it: a call; power lost between two calls or inside an erase, with what the record buffer holds when it is back, and of an
-- erase the block and the bytes that it has then. Power lost after a driven flash step and before made is `drives`, then `loses`
pub data Happening : Type 0 where
  does : Ask → Happening
  loses : List ℕ → Happening
  cuts : ℕ → List ℕ → List ℕ → Happening

-- "and a mount or format comes next"
abbrev pub Resumes : List Happening → Type 0
Resumes [] = Unit {0}
Resumes (does c ∷ es) = Begins (call_of c)
Resumes (loses b ∷ es) = ⊥
Resumes (cuts k new b ∷ es) = ⊥

-- the record buffer has a record's size when power is back; lost between two calls, the record is lost too
abbrev pub Lent : List Happening → Type 0
Lent [] = Unit {0}
Lent (does c ∷ es) = Lent es
Lent (loses b ∷ es) = (length b ≡ record_size) × Resumes es × Lent es
Lent (cuts k new b ∷ es) = (length b ≡ record_size) × Lent es

-- the same list for a machine
abbrev pub events_of : List Happening → List Event
events_of [] = []
events_of (does c ∷ es) = call (call_of c) ∷ events_of es
events_of (loses b ∷ es) = events_of es
events_of (cuts k new b ∷ es) = cut_erase k new (record_in b) ∷ events_of es

-- what the calls show, each given the buffers that the last left
abbrev pub edge_trace : ℕ → List ℕ → List ℕ → List Happening → List Shown
edge_trace N img b [] = []
edge_trace N img b (does c ∷ es) =
    let e : Edge = edge_call N img b c in shown (edge_out N img b c) ∷ edge_trace N e.image e.board es
edge_trace N img b (loses d ∷ es) = edge_trace N img d es
edge_trace N img b (cuts k new d ∷ es) = edge_trace N (with_block (size_of N img) k new img) d es

-- answers, images, replies, stretches and records at rest are those of `exec`: on every image, record buffer and list
unfoldable pub TraceExact : Type 0
TraceExact =
    (N : ℕ) (img b : List ℕ) (es : List Happening) → length b ≡ record_size → Lent es
    → edge_trace N img b es ≡ trace N (exec N) img (record_in b) (events_of es)

-- and those of any machine that keeps the promise, from a mount or format on
unfoldable pub TracePromised : Type 0
TracePromised =
    (N : ℕ) (m : Machine) → Promise N m → (img b : List ℕ) (q : Record) (c : Call) (es : List Happening) → length b ≡ record_size → Lent es
    → Bytes img → Begins c → ByteEvents (events_of es) → edge_trace N img b (does (plain c) ∷ es) ≡ trace N m img q (call c ∷ events_of es)

-- ---- demand 3

-- `CutsErase` of board's claim, by the library's own step
pub record CutsIn (N : ℕ) (img b : List ℕ) (k : Book) (j : ℕ) (new : List ℕ) : Type 0 where
  pub in_job : InJob (record_in b).phase
  pub no_format : k.under ≡ formatting → ⊥
  pub there : j < N
  pub erases : (edge_step N img b).image ≡ erase_block (size_of N img) j img
  pub raised : Raised (block (size_of N img) j img) new

-- the list can happen from an image, a record buffer, a book
abbrev pub Happen : ℕ → List ℕ → List ℕ → Book → List Happening → Type 0
Happen N img b k [] = Unit {0}
Happen N img b k (does c ∷ es) =
    let e : Edge = edge_call N img b c in
    ByteCall (call_of c) × Happen N e.image e.board (enter_call k (call_of c) (edge_out N img b c).answer) es
Happen N img b k (loses d ∷ es) = (length d ≡ record_size) × Resumes es × Happen N img d k es
Happen N img b k (cuts j new d ∷ es) =
    (length d ≡ record_size) × CutsIn N img b k j new × Resumes es × Happen N (with_block (size_of N img) j new img) d k es

-- a run that ended a job, and agrees with a book
abbrev pub Ended : ℕ → Track → Book → Run → Type 0
Ended N u k x = (x.answer ≡ 0) × ((record_in x.board).phase ≡ Idle) × IdleAgrees N u x.image (record_in x.board) k

-- the most steps of a job in blocks of s bytes, by the call that began it. K14: "Demand 1's bound leaves a mount's erases aside"
abbrev pub most_steps : ℕ → ℕ → Call → ℕ
most_steps N s (request h m reply) = s
most_steps N s step = s
most_steps N s mount = s + N
most_steps N s format = s

-- "after each call in it that gives back an idle record"; a job under way, which call a began, is ended by one run of so many steps, the last of
-- which answers 0
pub record Agree (N : ℕ) (a : Call) (u : Track) (img b : List ℕ) (k : Book) : Type 0 where
  pub idle : (record_in b).phase ≡ Idle → IdleAgrees N u img (record_in b) k
  pub in_job : InJob (record_in b).phase
      → Ended N (track (size_of N img) u k step Done) (enter_call k step Done) (edge_run N img b (most_steps N (size_of N img) a) 0)

-- what each call says, and that after it the buffer agrees with the book; `u` and `a` as in board's claim
abbrev pub Runs : ℕ → List ℕ → List ℕ → Book → Track → Call → List Happening → Type 0
Runs N img b k u a [] = Unit {0}
Runs N img b k u a (does c ∷ es) =
    let e : Edge = edge_call N img b c in
    let o : Out = edge_out N img b c in
    let k' : Book = enter_call k (call_of c) o.answer in
    let u' : Track = track (size_of N img) u k (call_of c) o.answer in
    let a' : Call = begun_by a (call_of c) o.answer in
    Says N img (record_in b) k u (call_of c) o × Agree N a' u' e.image e.board k' × Runs N e.image e.board k' u' a' es
Runs N img b k u a (loses d ∷ es) = Runs N img d k u a es
Runs N img b k u a (cuts j new d ∷ es) = Runs N (with_block (size_of N img) j new img) d k u a es

-- so many step calls, each given the buffers that the last left
abbrev pub step_calls : ℕ → ℕ → Edge → Edge
step_calls N zero e = e
step_calls N (suc n) e = step_calls N n (edge_step N e.image e.board)

-- a format and its N + 10 steps
abbrev pub edge_formatted : ℕ → List ℕ → List ℕ → Edge
edge_formatted N img b = step_calls N (N + 10) (edge_format N img b)

-- board's `Claim` of a caller in C: every image of an allowed length, every record buffer, every list that can happen
unfoldable pub EdgeClaim : Type 0
EdgeClaim =
    (N : ℕ) (img b : List ℕ) → Bytes img → allowed N (length img) ≡ true → length b ≡ record_size
    → let e : Edge = edge_formatted N img b in
    (e.answer ≡ 0) × ((record_in e.board).phase ≡ Idle) × Agree N format (tracked false false) e.image e.board first_book
    × ((es : List Happening) → Happen N e.image e.board first_book es → Runs N e.image e.board first_book (tracked false false) format es)

-- ---- many steps in one call

-- flash steps of a call that is a run's last: one if it ended a job
abbrev pub last_steps : List ℕ → ℕ → ℕ
last_steps b n = cond (is_busy (record_in b).phase && eqb n 0) 1 0

abbrev pub one_more_of : Run → Run
one_more_of x = run x.answer (suc x.steps) x.image x.board

-- the header: "what so many calls of grommetide_step do, up to the first that does not answer MORE"
unfoldable pub steps_up_to : ℕ → ℕ → List ℕ → List ℕ → Run
steps_up_to N zero img b = run (edge_number (answer_of (record_in b))) 0 img b
steps_up_to N (suc n) img b =
    let e : Edge = edge_step N img b in
    cond (eqb e.answer 255) (one_more_of (steps_up_to N n e.image e.board)) (run e.answer (last_steps b e.answer) e.image e.board)

unfoldable pub RunExact : Type 0
RunExact = (N : ℕ) (img b : List ℕ) (n steps : ℕ) → length b ≡ record_size → edge_run N img b n steps ≡ steps_up_to N n img b
