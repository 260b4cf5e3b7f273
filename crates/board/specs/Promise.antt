-- The promise: what is said of a machine on each call, what follows from it for every list of calls, and that it settles all that a
-- machine shows. The statements speak of any machine; `exec` is one that keeps them.
use Rattle.std.specs.Prelude.{List, [], ◌∷◌, ◌++◌, ◌⊎◌, ◌↔◌, ◌≡◌, ℕ, ◌+◌, ◌*◌, ◌≤◌, ◌<◌, length, get_or, take, drop}
use Rattle.std.proofs.Math.Option.{Option, none, some}
use Rattle.std.specs.Int.Bits.{bit_and}
use Rattle.flash.specs.Bytes.{Bytes, u16le, u32le}
use Rattle.flash.specs.Flash.{apply_all, with_block, erase_block, size_of}
use Rattle.frame.specs.declared.Host.{Host}
use Rattle.frame.specs.declared.ObjectId.{ObjectId}
use Rattle.frame.specs.Frame.{Frame}
use Rattle.journal.specs.Block.{Journal}
use Rattle.journal.specs.Laws.{TakenFrom, Holder, front}
use Rattle.wire.specs.declared.Answer.{Answer}
use Rattle.wire.specs.declared.Answer.TheVariants.{Done, More, Refused}
use Rattle.wire.specs.declared.Refusal.{Refusal}
use Rattle.wire.specs.declared.Refusal.TheVariants as refusal
use Rattle.frame.specs.declared.Fault.{Fault}
use Rattle.wire.specs.declared.Request.{Request}
use Rattle.wire.specs.declared.Request.TheVariants.{Put, Delete, Commit, Abort, Read, Log, Convert}
use Rattle.wire.specs.Answer.{number_of}
use Rattle.board.specs.declared.Phase.{Phase}
use Rattle.board.specs.declared.Phase.TheVariants.{Unmounted, Idle, Busy}
use Rattle.board.specs.declared.Record.{Record}
use Rattle.board.specs.Record.{Stretch, no_stretch, Out, out}
use Rattle.board.specs.Mount.{Store, replay_of, used_of, time_of}
use Rattle.board.specs.Queue.{Asking, asking, size_for}
pub use Rattle.board.specs.Exec.{Machine, Family}
use Rattle.board.specs.Exec.{Call, request, step, mount, format}
use Rattle.board.specs.Plan.{Work, Performs, format_work, mount_work, frame_work, convert_work}
use Rattle.board.specs.Table.{Task, idles, appends, converts, task_for, Exactly, InJob, Fresh, place_for, PlaceHolds, ValidAt, Names, lines_of}
use Rattle.board.specs.Demand1.{Unchanged, ImageAfter, Short, Declared, Rests, EndsWithin}
use Rattle.board.specs.Demand2.{Accepted, OneStore, UsableFrom, LandsFrom, RoomExact, WearExact, ShareExact, ConvertAnswers}
use Rattle.wire.specs.Sentences.{Means}
use Rattle.board.specs.Claim.{steps_on, ByteCall, Begins, Event, call, cut_erase, Restarts, Claim}
use Rattle.board.specs.CutFormat.{CutFormat}

-- ---- what a call answers

-- every call but a step
abbrev pub NoStep : Call → Type 0
NoStep (request h msg reply) = Unit {0}
NoStep step = ⊥
NoStep mount = Unit {0}
NoStep format = Unit {0}

-- "It answers 0 with an idle record .., else more with the job in the record"
pub record Tells (o : Out) : Type 0 where
  pub done : (number_of o.answer ≡ some 0) ↔ (o.board.phase ≡ Idle)
  pub more : (o.answer ≡ More) ↔ InJob o.board.phase

-- steps, mounts and formats have no reply and no stretch
abbrev pub Silent : Call → Out → Type 0
Silent (request h msg reply) o = Unit {0}
Silent step o = (o.reply ≡ []) × (o.stretch ≡ no_stretch)
Silent mount o = (o.reply ≡ []) × (o.stretch ≡ no_stretch)
Silent format o = (o.reply ≡ []) × (o.stretch ≡ no_stretch)

-- "program one byte (new value = old AND given), erase one half (all bytes 0xFF)": each byte keeps only bits that it had, or a half is erased
abbrev pub OnlyClears : ℕ → List ℕ → List ℕ → Type 0
OnlyClears N img after =
    ((i : ℕ) → bit_and (get_or after i 0) (get_or img i 0) ≡ get_or after i 0) ⊎ ((k : ℕ) × (after ≡ erase_block (size_of N img) k img))

-- ---- accepted requests

-- "else more with the job in the record": a frame to append is a job, and so is a transfer to edition 2; any other request is done at once and leaves
-- the record
abbrev pub Answers : Task → Record → Out → Type 0
Answers idles r o = (number_of o.answer ≡ some 0) × (o.board ≡ r)
Answers (appends f) r o = o.answer ≡ More
Answers converts r o = o.answer ≡ More

-- "Log page 1 writes 14 bytes to the lent reply: length 14 (2), kind 0x0201 (2), creation time (4), settled count (2), U (2), S (2);
-- later reply bytes stay. Nothing else writes to the reply."
abbrev pub reply_for : Asking → Journal → Request → List ℕ
reply_for a x (Put i) = a.reply
reply_for a x (Delete i) = a.reply
reply_for a x Commit = a.reply
reply_for a x Abort = a.reply
reply_for a x (Read i) = a.reply
reply_for a x Convert = a.reply
reply_for a x (Log p) =
    (u16le 14 ++ (u16le 0x0201 ++ (u32le x.time ++ (u16le (length (replay_of x).objects)
    ++ (u16le (used_of x) ++ u16le (size_for a))))))
    ++ drop 14 a.reply

-- "A read that finds its object hands back that stretch of the caller's own flash image": where the recorded half's replay took the
-- value from
pub record Stands (a : Asking) (x : Journal) (i : ObjectId) (st : Stretch) : Type 0 where
  pub value : List ℕ
  pub at : ℕ
  pub from : TakenFrom x.edition x.frames i value at
  pub is : st ≡ record { at = a.board.rest.block * size_for a + at; size = length value }

abbrev pub HandsBack : Asking → Journal → Request → Stretch → Type 0
HandsBack a x (Put i) st = st ≡ no_stretch
HandsBack a x (Delete i) st = st ≡ no_stretch
HandsBack a x Commit st = st ≡ no_stretch
HandsBack a x Abort st = st ≡ no_stretch
HandsBack a x (Read i) st = Stands a x i st
HandsBack a x (Log p) st = st ≡ no_stretch
HandsBack a x Convert st = st ≡ no_stretch

-- document 02, K8: an accepted read, on any record: the value of the frame at the recorded place, and nothing changes
pub record HandsPlace (a : Asking) (i : ObjectId) (o : Out) : Type 0 where
  pub holder : Holder
  pub value : List ℕ
  pub holds : PlaceHolds a i holder value
  pub answers : number_of o.answer ≡ some 0
  pub board : o.board ≡ a.board
  pub writes : o.reply ≡ a.reply
  pub is : o.stretch ≡ record { at = a.board.rest.block * size_for a + (place_for a i + front holder); size = length value }

-- an accepted request q, where the image read afresh holds x
pub record Serves (a : Asking) (x : Journal) (q : Request) (o : Out) : Type 0 where
  pub answers : Answers (task_for a.host a.message x q) a.board o
  pub writes : o.reply ≡ reply_for a x q
  pub hands_back : HandsBack a x q o.stretch

-- ---- jobs

-- K14: "The valid block with the largest time is current"
pub record Current (N : ℕ) (img : List ℕ) (x : Store) : Type 0 where
  pub is-valid : ValidAt N img x.number x.journal
  pub newest : (k : ℕ) (y : Journal) → (k ≡ x.number → ⊥) → ValidAt N img k y → y.time < time_of x

-- the steps that an accepted call has to do, and the idle record after the last
pub data Job (N : ℕ) (img : List ℕ) (r : Record) : Call → Work → Type 0 where
  -- "one frame of n bytes, after a transfer if end + n exceeds S"
  frame_job : (h : Host) (msg reply : List ℕ) (x : Journal) (q : Request) (f : Frame) → Fresh N img r x → Means msg q → task_for h msg x q ≡ appends f
      → Job N img r (request h msg reply) (frame_work N img r x f)
  -- K9: "else a transfer takes the store to edition 2"
  convert-job : (h : Host) (msg reply : List ℕ) (x : Journal) (q : Request) → Fresh N img r x → Means msg q → task_for h msg x q ≡ converts
      → Job N img r (request h msg reply) (convert_work N img r x)
  -- K14: "mount erases every other that isn't blank, by number"; K11: "A torn frame is closed in place .. Then, if anything is pending, a reset frame"
  mount-job : (x : Store) → Current N img x
      → Job N img r mount (mount_work N img x)
  -- K14: "Format erases all in number order, but the current block last if there is one, then writes block 0"
  format-job : Job N img r format (format_work N img)

-- "each step call then does the next step, and the last one answers 0 with the record idle": of a call's outcome, all by the number of
-- step calls after it
pub record StepsOf (N : ℕ) (m : Machine) (img : List ℕ) (o : Out) (w : Work) : Type 0 where
  pub images : (n : ℕ) → n ≤ length w.steps → (steps_on m n o).image ≡ apply_all (size_of N img) (take n w.steps) img
  pub more : (n : ℕ) → n < length w.steps → (steps_on m n o).answer ≡ More
  pub done : number_of (steps_on m (length w.steps) o).answer ≡ some 0
  pub last : (steps_on m (length w.steps) o).board ≡ w.last

-- ---- the promise

-- what a machine of N blocks does on each call
pub record Calls (N : ℕ) (m : Machine) : Type 0 where
  -- "When the queue says no"
  pub table : (img : List ℕ) (r : Record) (c : Call) → Bytes img → Exactly (lines_of N img r c) (m img r c).answer
  -- K5: "Mount's 3 passes it on as an answer that names the foreign half"
  pub names : (img : List ℕ) (r : Record) (k : ℕ) (e : Fault) → Bytes img → (m img r mount).answer ≡ Refused (refusal.Foreign k e) → Names N img k e
  -- "Every refusal takes no step and changes no byte of image, reply or record; a refused mount or format hands back an unmounted record."
  pub untouched : (img : List ℕ) (r : Record) (c : Call) (n : Refusal) → (m img r c).answer ≡ Refused n → m img r c ≡ Unchanged img r c n
  -- 0 exactly with an idle record, more exactly with a job in it; but for a step on an unmounted record
  pub told : (img : List ℕ) (r : Record) (c : Call) → Accepted (m img r c).answer → (r.phase ≡ Unmounted → NoStep c) → Tells (m img r c)
  -- "on an unmounted or idle record it answers 0 and changes nothing"
  pub rests : (img : List ℕ) (r : Record) → Rests r.phase → m img r step ≡ out Done img r []
  pub one-step : (img : List ℕ) (r : Record) (c : Call) → ImageAfter N m img r c
  pub silent : (img : List ℕ) (r : Record) (c : Call) → Silent c (m img r c)
  -- on any record, forged ones too
  pub serves : (img : List ℕ) (r : Record) (h : Host) (msg reply : List ℕ) (x : Journal) (q : Request) → Bytes img → Bytes msg → Fresh N img r x
      → Means msg q → Accepted (m img r (request h msg reply)).answer → Serves (asking N img r h msg reply) x q (m img r (request h msg reply))
  pub reads : (img : List ℕ) (r : Record) (h : Host) (msg reply : List ℕ) (i : ObjectId) → Bytes img → Bytes msg → Means msg (Read i)
      → Accepted (m img r (request h msg reply)).answer → HandsPlace (asking N img r h msg reply) i (m img r (request h msg reply))
  -- the steps of an accepted call are its job's, and so many
  pub jobs : (img : List ℕ) (r : Record) (c : Call) (w : Work) → Bytes img → ByteCall c → Job N img r c w
      → Accepted (m img r c).answer → Performs N m img (m img r c).board w × Short N (size_of N img) w.steps c
  -- "A record forged otherwise does at most one step a call .. and ends or gets 11 within 65,536 step calls."
  pub ends : (img : List ℕ) (r : Record) → Declared r → EndsWithin m 65536 img r

-- and what follows for every list of calls
pub record Promise (N : ℕ) (m : Machine) : Type 0 where
  pub calls : Calls N m
  -- the k-th step call of an accepted call's job does the k-th step of its plan
  pub steps : (img : List ℕ) (r : Record) (c : Call) (w : Work) → Bytes img → ByteCall c → Job N img r c w
      → Accepted (m img r c).answer → StepsOf N m img (m img r c) w
  -- programming only clears bits
  pub clears : (img : List ℕ) (r : Record) (c : Call) → OnlyClears N img (m img r c).image
  -- demand 2: every image reads as one store, which a mount takes and leaves with its settled objects and nothing pending
  pub one_store : OneStore N m
  -- and which can then be used: in a run from a mount or format on, of any image, no call gets 11
  pub usable : UsableFrom N m
  -- demand 2: "refusals for room and wear are exact"
  pub share : ShareExact N m
  pub room : RoomExact N m
  pub wear : WearExact N m
  -- K9: 16, 7 and 6 of a convert
  pub converting : ConvertAnswers N m
  -- demand 2: in a run every programmed byte lands as given, where 0xFF was, byte 8 goes on or a torn frame is closed
  pub lands : LandsFrom N m
  -- demand 3
  pub claim : Claim N m
  -- "On an image the store left, a cut format leaves the old settled objects, no store, or the empty store."
  pub cut_format : CutFormat N m

-- of a store: for every N that a call may give
abbrev pub Kept : Family → Type 0
Kept m = (N : ℕ) → Promise N (m N)

-- ---- what a run shows

-- all that a call gives back but what a record holds while a job runs
pub record Shown : Type 0 where
  pub answer : Answer
  pub image : List ℕ
  pub board : Option Record
  pub reply : List ℕ
  pub stretch : Stretch

abbrev pub resting_in : Phase → Record → Option Record
resting_in Unmounted r = some r
resting_in Idle r = some r
resting_in (Busy s) r = none

abbrev pub shown_record : Record → Option Record
shown_record r = resting_in r.phase r

abbrev pub shown : Out → Shown
shown o =
    record { answer = o.answer; image = o.image; board = shown_record o.board; reply = o.reply; stretch = o.stretch }

-- calls that each got what the last gave back; a cut inside an erase shows nothing
abbrev pub trace : ℕ → Machine → List ℕ → Record → List Event → List Shown
trace N m img r [] = []
trace N m img r (call c ∷ es) = let o : Out = m img r c in shown o ∷ trace N m o.image o.board es
trace N m img r (cut_erase k new q ∷ es) = trace N m (with_block (size_of N img) k new img) q es

-- messages are bytes, and so is what a cut leaves; a mount or format comes next
abbrev pub ByteEvents : List Event → Type 0
ByteEvents [] = Unit {0}
ByteEvents (call c ∷ es) = ByteCall c × ByteEvents es
ByteEvents (cut_erase k new q ∷ es) = Bytes new × Restarts es × ByteEvents es

-- two machines that meet the promise show the same on every run that begins with a mount or a format, on an image of any length, whatever
-- records they were first given
unfoldable pub PromiseDetermines : Type 0
PromiseDetermines =
    (N : ℕ) (m n : Machine) → Promise N m → Promise N n → (img : List ℕ) (r q : Record) (c : Call) (es : List Event) → Bytes img → Begins c → ByteEvents es
    → trace N m img r (call c ∷ es) ≡ trace N n img q (call c ∷ es)

-- the same from any record in no job, a forged one too
unfoldable pub PromiseDeterminesFrom : Type 0
PromiseDeterminesFrom =
    (N : ℕ) (m n : Machine) → Promise N m → Promise N n → (img : List ℕ) (r : Record) (es : List Event) → Bytes img → Rests r.phase → ByteEvents es
    → trace N m img r es ≡ trace N n img r es

-- one call on any record: all is settled but a step of a job, and of a job that is begun the record
unfoldable pub PromiseDeterminesCall : Type 0
PromiseDeterminesCall =
    (N : ℕ) (m n : Machine) → Promise N m → Promise N n → (img : List ℕ) (r : Record) (c : Call) → Bytes img → ByteCall c → NoStep c
    → shown (m img r c) ≡ shown (n img r c)
