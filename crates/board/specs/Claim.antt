-- Demand 3: the claim about every list of calls, and of cuts inside erases (document 02, K4), from a finished format on, for every N, "the
-- same N in each call of a run" (K14). Beyond the
-- papers' letter it says that the store stays available: a store that loses all at a cut and then refuses every mount would meet the letter.
use Rattle.std.specs.Prelude.{List, [], ◌∷◌, ◌++◌, Bool, true, false, ◌≡◌, ℕ, zero, suc, ◌+◌, ◌≤◌, ◌<◌, ◌/◌, ltb, length, take, drop, get_or}
use Rattle.std.proofs.Math.Option.{Option, none, some}
use Rattle.flash.specs.Bytes.{Bytes, u16le}
use Rattle.flash.specs.Flash.{block, size_of, with_block, erase_block}
use Rattle.flash.specs.Raised.{Raised}
use Rattle.frame.specs.declared.Edition.TheVariants as edition
use Rattle.frame.specs.declared.Host.{Host}
use Rattle.frame.specs.Frame.{host_max}
use Rattle.frame.specs.Reader.{clean}
use Rattle.journal.specs.Replay.{Object, lookup, list_of}
use Rattle.journal.specs.Block.{Journal, valid, block_state, last_time}
use Rattle.journal.specs.Room.{used_by}
use Rattle.journal.specs.Laws.{by_edition, changes_bytes, PlacesAre}
use Rattle.wire.specs.declared.Answer.{Answer}
use Rattle.wire.specs.declared.Answer.TheVariants.{Done, More, Refused}
use Rattle.frame.specs.declared.Fault.{Fault}
use Rattle.wire.specs.declared.Refusal.{Refusal}
use Rattle.wire.specs.declared.Refusal.TheVariants as refusal
use Rattle.wire.specs.declared.Request.TheVariants.{Put, Delete, Commit, Abort, Read, Log, Convert}
use Rattle.wire.specs.Message.{Parsed, parse, page_len}
use Rattle.std.specs.Prelude.{Some, None}
use Rattle.board.specs.declared.Phase.{Phase}
use Rattle.board.specs.declared.Phase.TheVariants.{Unmounted, Idle, Busy}
use Rattle.board.specs.declared.Record.{Record}
use Rattle.board.specs.Record.{allowed, reads_in, Out}
use Rattle.board.specs.Mount.{replay_of, used_of}
use Rattle.board.specs.Exec.{Call, request, step, mount, format, Machine}
use Rattle.board.specs.Plan.{Work, Performs}
use Rattle.board.specs.Table.{InJob, DueTransfer}
use Rattle.board.specs.Demand1.{Short}
use Rattle.board.specs.Book.{Book, UnderWay, nothing, committing, formatting, first_book, enter_call}

-- ---- what a run knows of its formats and converts

-- `unfinished`: a format was accepted and has since neither finished nor been followed by an accepted mount. `tight`: the last accepted convert left less
-- than a delete and its commit need, "22 for 14", and no format has finished since
pub record Track : Type 0 where
  pub unfinished : Bool
  pub tight : Bool

abbrev pub tracked : Bool → Bool → Track
tracked u t = record { unfinished = u; tight = t }

-- after an accepted request, in blocks of s bytes
abbrev pub track_parsed : ℕ → Track → Book → Parsed → Track
track_parsed s u b None = u
track_parsed s u b (Some (Put i)) = u
track_parsed s u b (Some (Delete i)) = u
track_parsed s u b (Some Commit) = u
track_parsed s u b (Some Abort) = u
track_parsed s u b (Some (Read i)) = u
track_parsed s u b (Some (Log p)) = u
track_parsed s u b (Some Convert) = tracked u.unfinished (ltb s (used_by edition.Second b.objects + 22))

abbrev pub track_request : ℕ → Track → Book → List ℕ → Answer → Track
track_request s u b m Done = track_parsed s u b (parse m)
track_request s u b m More = track_parsed s u b (parse m)
track_request s u b m (Refused n) = u

-- after a step: the last one of a format ends it
abbrev pub track_step : Track → UnderWay → Answer → Track
track_step u formatting Done = tracked false false
track_step u formatting More = u
track_step u formatting (Refused n) = u
track_step u nothing a = u
track_step u (committing h) a = u

abbrev pub track_mount : Track → Answer → Track
track_mount u Done = tracked false u.tight
track_mount u More = tracked false u.tight
track_mount u (Refused n) = u

abbrev pub track_format : Track → Answer → Track
track_format u Done = tracked true u.tight
track_format u More = tracked true u.tight
track_format u (Refused n) = u

abbrev pub track : ℕ → Track → Book → Call → Answer → Track
track s u b (request h m reply) a = track_request s u b m a
track s u b step a = track_step u b.under a
track s u b mount a = track_mount u a
track s u b format a = track_format u a

-- ---- between calls

-- when nothing is pending there is room for a delete and its commit; except, K9, in a store that a convert left with less, our word for which is tight:
-- there nothing is pending, and U is at most S
pub data RoomLeft (tight : Bool) (s : ℕ) (x : Journal) : Type 0 where
  roomy_left : ((replay_of x).pending ≡ [] → used_of x + by_edition x.edition 14 22 ≤ s) → RoomLeft tight s x
  tight_left : tight ≡ true → x.edition ≡ edition.Second → (replay_of x).pending ≡ [] → used_of x ≤ s → s < used_of x + 22 → RoomLeft tight s x

-- "replay of the record's half gives exactly the book's objects and, for each host, the book's list"
pub record IdleAgrees (N : ℕ) (u : Track) (img : List ℕ) (r : Record) (b : Book) : Type 0 where
  pub journal : Journal
  pub is-valid : block_state (block (size_of N img) r.rest.block img) ≡ valid journal
  pub is_clean : journal.tail ≡ clean
  pub objects : (replay_of journal).objects ≡ b.objects
  pub lists : (h : Host) → h.0 ≤ host_max → list_of h (replay_of journal).pending ≡ b.lists h
  -- K7: each host's pending bytes are at most S/2, and the record's
  pub shares : (h : Host) → h.0 ≤ host_max → changes_bytes journal.edition (b.lists h) ≤ size_of N img / 2
  pub counts : (h : Host) → h.0 ≤ host_max → get_or r.rest.pending h.0 0 ≡ changes_bytes journal.edition (b.lists h)
  -- K9: "The record carries the edition"
  pub edition_is : r.rest.edition ≡ by_edition journal.edition 1 2
  -- K8: "for every id, where replay finds its settled value or that there is none"
  pub places : PlacesAre journal.edition r.places journal.frames
  pub room : RoomLeft u.tight (size_of N img) journal

-- a job that call c began ends idle once its steps are all made, and they are few: a request's and a format's at most S, a mount's at most S
-- and its erases
pub record Finishes (N : ℕ) (m : Machine) (c : Call) (img : List ℕ) (r : Record) : Type 0 where
  pub work : Work
  pub follows : Performs N m img r work
  pub rests : work.last.phase ≡ Idle
  pub short : Short N (size_of N img) work.steps c

-- "after each call in it that gives back an idle record"; beyond the letter, a job under way, which call c began, can be finished
abbrev pub AgreesIn : ℕ → Machine → Call → Track → Phase → List ℕ → Record → Book → Type 0
AgreesIn N m c u Unmounted img r b = Unit {0}
AgreesIn N m c u Idle img r b = IdleAgrees N u img r b
AgreesIn N m c u (Busy s) img r b = Finishes N m c img r

abbrev pub Agrees : ℕ → Machine → Call → Track → List ℕ → Record → Book → Type 0
Agrees N m c u img r b = AgreesIn N m c u r.phase img r b

-- ---- what a call says of the book's objects

-- by what the book holds under the id that is read
abbrev pub ReadSays : Out → Option (List ℕ) → Type 0
ReadSays o none = o.answer ≡ Refused refusal.NoObject
ReadSays o (some v) = (o.answer ≡ Done) × (take o.stretch.size (drop o.stretch.at o.image) ≡ v)

-- "The settled count and U of log page 1 are those of the book's objects.": U by the record's edition
abbrev pub LogSays : Record → Out → List ℕ → List Object → Type 0
LogSays r o reply os =
    page_len ≤ length reply → (o.answer ≡ Done) × (take 4 (drop 8 o.reply) ≡ u16le (length os) ++ u16le (used_by (reads_in r) os))

-- K9: "gets a new 16 if anything is pending", by the book's lists
pub record ConvertSays (o : Out) (b : Book) : Type 0 where
  pub some_pending : (h : Host) → h.0 ≤ host_max → (b.lists h ≡ [] → ⊥) → o.answer ≡ Refused refusal.Pending
  pub none_pending : ((h : Host) → h.0 ≤ host_max → b.lists h ≡ []) → o.answer ≡ Refused refusal.Pending → ⊥

-- "A read that no earlier check refuses answers 0 exactly when the book holds its object, and its stretch is then that value byte
-- for byte; otherwise it answers 8." On an idle record the earlier checks are 10 and 1 alone: 4 and 11 are ruled out below.
abbrev pub RequestSays : Record → Parsed → List ℕ → Out → Book → Type 0
RequestSays r None reply o b = o.answer ≡ Refused refusal.Malformed
RequestSays r (Some (Put i)) reply o b = Unit {0}
RequestSays r (Some (Delete i)) reply o b = Unit {0}
RequestSays r (Some Commit) reply o b = Unit {0}
RequestSays r (Some Abort) reply o b = Unit {0}
RequestSays r (Some (Read i)) reply o b = ReadSays o (lookup i b.objects)
RequestSays r (Some (Log p)) reply o b = LogSays r o reply b.objects
RequestSays r (Some Convert) reply o b = ConvertSays o b

-- ---- availability

-- the call is not refused with this
abbrev pub Never : Refusal → Out → Type 0
Never n o = o.answer ≡ Refused n → ⊥

-- the current block's time is the last and a transfer is due
pub record WornOut (N : ℕ) (img : List ℕ) : Type 0 where
  pub number : ℕ
  pub journal : Journal
  pub there : number < N
  pub is-valid : block_state (block (size_of N img) number img) ≡ valid journal
  pub last-time : journal.time ≡ last_time
  pub due : DueTransfer (size_of N img) journal

pub record MountSays (N : ℕ) (img : List ℕ) (u : Track) (o : Out) : Type 0 where
  pub never_foreign : (k : ℕ) (e : Fault) → Never (refusal.Foreign k e) o
  pub never_length : Never refusal.ImageLength o
  pub no_store : o.answer ≡ Refused refusal.NoStore → u.unfinished ≡ true
  pub worn : o.answer ≡ Refused refusal.Worn → WornOut N img

-- what each call answers: 4 and 11 go to no request, no step and no format is refused
abbrev pub Says : ℕ → List ℕ → Record → Book → Track → Call → Out → Type 0
Says N img r b u (request h m reply) o =
    Never refusal.ImageLength o × Never refusal.Stale o × (r.phase ≡ Idle → h.0 ≤ host_max → RequestSays r (parse m) reply o b)
Says N img r b u step o = (n : Refusal) → Never n o
Says N img r b u mount o = MountSays N img u o
Says N img r b u format o = o.answer ≡ More

-- the call that began the job under way, after a call: the last request that was answered more, mount or format
abbrev pub begun_by : Call → Call → Answer → Call
begun_by a (request h m reply) Done = a
begun_by a (request h m reply) More = request h m reply
begun_by a (request h m reply) (Refused n) = a
begun_by a step x = a
begun_by a mount x = mount
begun_by a format x = format

-- ---- the list

-- messages are bytes
abbrev pub ByteCall : Call → Type 0
ByteCall (request h m reply) = Bytes m
ByteCall step = Unit {0}
ByteCall mount = Unit {0}
ByteCall format = Unit {0}

-- "Mount and format take no record."
abbrev pub Begins : Call → Type 0
Begins (request h msg reply) = ⊥
Begins step = ⊥
Begins mount = Unit {0}
Begins format = Unit {0}

-- what stands in the list: a call; or, K4, "cuts inside erases of transfer and mount: such a cut stands in the list too", with the block, the
-- bytes that it has then, and whatever record the next call is given
pub data Event : Type 0 where
  call : Call → Event
  cut_erase : ℕ → List ℕ → Record → Event

-- such a cut can happen: a job's next step erases the block, and no format is under way. "A cut inside a format's erase ends its run".
-- "power lost inside an erase leaves each bit as it was or 1, freely": any raised bytes
pub record CutsErase (N : ℕ) (m : Machine) (img : List ℕ) (r : Record) (b : Book) (k : ℕ) (new : List ℕ) : Type 0 where
  pub in_job : InJob r.phase
  pub no_format : b.under ≡ formatting → ⊥
  pub there : k < N
  pub erases : (m img r step).image ≡ erase_block (size_of N img) k img
  pub raised : Raised (block (size_of N img) k img) new

-- "and a mount or format comes next"
abbrev pub Restarts : List Event → Type 0
Restarts [] = Unit {0}
Restarts (call c ∷ es) = Begins c
Restarts (cut_erase k new q ∷ es) = ⊥

-- the list can happen from an image, a record, a book; of a cut "the book takes nothing from it"
abbrev pub Happens : ℕ → Machine → List ℕ → Record → Book → List Event → Type 0
Happens N m img r b [] = Unit {0}
Happens N m img r b (call c ∷ es) =
    let o : Out = m img r c in ByteCall c × Happens N m o.image o.board (enter_call b c o.answer) es
Happens N m img r b (cut_erase k new q ∷ es) =
    CutsErase N m img r b k new × Restarts es × Happens N m (with_block (size_of N img) k new img) q b es

-- ---- the run

-- the claim from an image, a record, a book, what is known of formats and converts, and call a that began the job under way: what each call says, and
-- that after it the record agrees with the book
abbrev pub Run : ℕ → Machine → List ℕ → Record → Book → Track → Call → List Event → Type 0
Run N m img r b u a [] = Unit {0}
Run N m img r b u a (call c ∷ es) =
    let o : Out = m img r c in
    let b' : Book = enter_call b c o.answer in
    let u' : Track = track (size_of N img) u b c o.answer in
    let a' : Call = begun_by a c o.answer in
    Says N img r b u c o × Agrees N m a' u' o.image o.board b' × Run N m o.image o.board b' u' a' es
Run N m img r b u a (cut_erase k new q ∷ es) = Run N m (with_block (size_of N img) k new img) q b u a es

-- "whose steps too each got what the call before gave back"
abbrev pub steps_on : Machine → ℕ → Out → Out
steps_on m zero o = o
steps_on m (suc n) o = steps_on m n (m o.image o.board step)

-- "the image and idle record that a finished format gave back", whatever record there was before: N erases and a header
abbrev pub formatted : ℕ → Machine → List ℕ → Record → Out
formatted N m img r = steps_on m (N + 10) (m img r format)

-- a list that can happen from there on
abbrev pub HappensFrom : ℕ → Machine → List ℕ → Record → List Event → Type 0
HappensFrom N m img r es = Happens N m (formatted N m img r).image (formatted N m img r).board first_book es

-- "This is a single claim about the whole list": every image of an allowed length, every list that can happen
unfoldable pub Claim : ℕ → Machine → Type 0
Claim N m =
    (img : List ℕ) (r : Record) → Bytes img → allowed N (length img) ≡ true
    → let o : Out = formatted N m img r in
    (o.answer ≡ Done) × (o.board.phase ≡ Idle) × Agrees N m format (tracked false false) o.image o.board first_book
    × ((es : List Event) → HappensFrom N m img r es → Run N m o.image o.board first_book (tracked false false) format es)
