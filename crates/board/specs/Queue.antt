-- Queue requests, document 01, "What hosts send" and "When the queue says no".
use Rattle.std.specs.Prelude.{List, [], ◌∷◌, ◌++◌, Bool, true, false, ◌&&◌, ◌||◌, cond, ℕ, ◌+◌, ◌*◌, eqb, ltb, leb, length, get_or, Some, None}
use Rattle.std.proofs.Math.Option.{Option, none, some}
use Rattle.flash.specs.Bytes.{all_ff, same_bytes_of}
use Rattle.flash.specs.Flash.{block_numbers, block, size_of}
use Rattle.frame.specs.declared.Edition.{Edition}
use Rattle.frame.specs.declared.Edition.TheVariants as edition
use Rattle.frame.specs.declared.Host.{Host}
use Rattle.frame.specs.declared.ObjectId.{ObjectId}
use Rattle.frame.specs.Frame.{host_max, Change, put, delete, Frame, change, commit, abort, frame_len, encode, end_len, edition_number}
use Rattle.frame.specs.Reader.{Tail, clean, cut, bad}
use Rattle.journal.specs.Replay.{Entry, lookup, is_open_of}
use Rattle.journal.specs.Block.{Journal, BlockState, blank, in_progress, valid, foreign, block_state, header_len, last_time}
use Rattle.journal.specs.Room.{open_hosts, used, no_room_of, host_full, pending_of}
use Rattle.journal.specs.Index.{places_of, since_of, Value, value_at, only_if}
use Rattle.wire.specs.declared.Answer.TheVariants.{Done}
use Rattle.wire.specs.declared.Refusal.{Refusal}
use Rattle.wire.specs.declared.Refusal.TheVariants as refusal
use Rattle.wire.specs.declared.Page.{Page}
use Rattle.wire.specs.declared.Page.TheVariants.{Summary}
use Rattle.wire.specs.declared.Request.{Request}
use Rattle.wire.specs.declared.Request.TheVariants.{Put, Delete, Commit, Abort, Read, Log, Convert}
use Rattle.wire.specs.Message.{Parsed, parse, of_read_kind, id_in, value_in_of, page_len, log_page, with_page}
use Rattle.board.specs.declared.Phase.{Phase}
use Rattle.board.specs.declared.Phase.TheVariants.{Unmounted, Idle, Busy}
use Rattle.board.specs.declared.Rest.{Rest}
use Rattle.board.specs.declared.Record.{Record}
use Rattle.board.specs.Record.{allowed, zero_each, no_wipes, no_closes, starting, busy, Stretch, no_stretch, Out, refuse, counting, reads_in}
use Rattle.board.specs.Step.{begin, same_shape}
use Rattle.board.specs.Mount.{next_block, new_time, end_of, replay_of, used_of, counts_of, claimed_of, places_in}

-- ---- 11: the image read afresh

-- "its last whole frame (or the header, if none) ending exactly at the recorded end with only 0xFF after it, .. C + 6·open at most S"; K7: "The
-- board record carries each host's pending bytes as replay gives them; refusal 11 covers any other."; K9: "The record carries the edition ..; elsewhere
-- 11 covers any other", "10 for each 6"; K8: "now the places too"
unfoldable pub fits_record : ℕ → Record → Journal → Bool
fits_record size r x =
    ((eqb (edition_number x.edition) r.rest.edition && (eqb (end_of x) r.rest.end && same_bytes_of (counts_of x) r.rest.pending))
    && leb (claimed_of x + end_len x.edition * open_hosts (replay_of x).pending) size)
    && same_bytes_of (places_in x) r.places

-- "with only 0xFF after it"
abbrev pub held_if : Bool → Tail → Journal → Option Journal
held_if b clean x = only_if b x
held_if b (cut n) x = none
held_if b (bad e) x = none

-- "recorded half valid"
abbrev pub held_in_of : ℕ → Record → BlockState → Option Journal
held_in_of size r blank = none
held_in_of size r in_progress = none
held_in_of size r (valid x) = held_if (fits_record size r x) x.tail x
held_in_of size r (foreign e) = none

-- "other half blank"; K14: "the others stay blank"
abbrev pub others_blank : ℕ → ℕ → List ℕ → List ℕ → Bool
others_blank N k img [] = true
others_blank N k img (j ∷ js) = (eqb k j || all_ff (block (size_of N img) j img)) && others_blank N k img js

-- "idle record: its length differs", K14: or its N, "or the image read afresh isn't: recorded half valid, .."
abbrev pub same_image : ℕ → List ℕ → Record → Bool
same_image N img r = same_shape N (length img) r && (ltb r.rest.block N && others_blank N r.rest.block img (block_numbers N))

abbrev pub held_by_of : ℕ → Bool → List ℕ → Record → Option Journal
held_by_of N true img r = held_in_of (size_of N img) r (block_state (block (size_of N img) r.rest.block img))
held_by_of N false img r = none

-- what the recorded block holds; none where 11 is given
unfoldable pub held : ℕ → List ℕ → Record → Option Journal
held N img r = held_by_of N (same_image N img r) img r

-- ---- a frame is appended, "after a transfer if end + n exceeds S"

abbrev pub needs_room : ℕ → List ℕ → Record → Journal → Frame → Bool
needs_room N img r x f = ltb (size_of N img) (r.rest.end + frame_len x.edition f)

-- where the record stands then, but for its end: K7, "a put or delete" adds to its host's pending bytes, commit and abort clear them
abbrev pub counted : Rest → Journal → Frame → Rest
counted z x f = counting z (pending_of x.edition (x.frames ++ (f ∷ [])))

-- the places at acceptance: a transfer goes by those of the frames, and places what it copies; without one they are what they will be at the job's end
abbrev pub places_for : Bool → Journal → Frame → List ℕ
places_for true x f = places_in x
places_for false x f = places_of x.edition (x.frames ++ (f ∷ []))

-- a transfer copies from the first id and from the header on
abbrev pub append_job : ℕ → List ℕ → Record → Journal → Frame → Record
append_job N img r x f =
    busy (counted r.rest x f) (places_for (needs_room N img r x f) x f)
    (record {
      wipe = no_wipes;
      wipes = 0;
      moves = needs_room N img r x f;
      drops = true;
      target = next_block N r.rest.block;
      time = new_time (needs_room N img r x f) x.time;
      since = since_of x.edition x.frames;
      size = frame_len x.edition f;
      edition = edition_number x.edition;
      closes = 0;
      close = no_closes;
    })
    (starting 0 header_len) (encode x.edition f)

-- K9: "a transfer takes the store to edition 2". Nothing is pending: it starts to look for pending frames at the end
abbrev pub convert_job : ℕ → List ℕ → Record → Journal → Record
convert_job N img r x =
    busy r.rest (places_in x)
    (record {
      wipe = no_wipes;
      wipes = 0;
      moves = true;
      drops = true;
      target = next_block N r.rest.block;
      time = new_time true x.time;
      since = zero_each;
      size = 0;
      edition = 2;
      closes = 0;
      close = no_closes;
    })
    (starting 0 (end_of x)) []

-- ---- the requests

-- "queue requests (any host number, message and reply buffer)", with what they are asked of: number of blocks, image and board record
pub record Asking : Type 0 where
  pub blocks : ℕ
  pub image : List ℕ
  pub board : Record
  pub host : Host
  pub message : List ℕ
  pub reply : List ℕ

abbrev pub asking : ℕ → List ℕ → Record → Host → List ℕ → List ℕ → Asking
asking N img r h m reply = record { blocks = N; image = img; board = r; host = h; message = m; reply = reply }

-- S; what the recorded block holds; whether a frame goes past its end
abbrev pub size_for : Asking → ℕ
size_for a = size_of a.blocks a.image

abbrev pub held_for : Asking → Option Journal
held_for a = held a.blocks a.image a.board

abbrev pub moves_for : Asking → Journal → Frame → Bool
moves_for a x f = needs_room a.blocks a.image a.board x f

-- refused, or done at once: image and record stay
abbrev pub refuse_to : Asking → Refusal → Out
refuse_to a n = refuse n a.image a.board a.reply

abbrev pub done_at : Asking → List ℕ → Stretch → Out
done_at a reply st = record { answer = Done; image = a.image; board = a.board; reply = reply; stretch = st }

-- 6: "a transfer is needed .. at time 4,294,967,295"
unfoldable pub append : Asking → Journal → Frame → Out
append a x f =
    cond (moves_for a x f && eqb x.time last_time) (refuse_to a refusal.Worn)
    (begin a.image a.reply (append_job a.blocks a.image a.board x f))

-- a put or delete; 12, "before 7": K7; 7: the room rule
unfoldable pub serve_change : Asking → Journal → Change → Out
serve_change a x c =
    cond (host_full x.edition (size_for a) (replay_of x) a.host c) (refuse_to a refusal.HostFull)
    (cond (no_room_of x.edition (size_for a) (replay_of x) a.host c) (refuse_to a refusal.NoRoom) (append a x (change a.host c)))

-- "Commit or abort with nothing pending is done in 0 steps."
unfoldable pub serve_end : Asking → Journal → Frame → Out
serve_end a x f = cond (is_open_of a.host (replay_of x).pending) (append a x f) (done_at a a.reply no_stretch)

-- K9: "else a transfer takes the store to edition 2, or 0 steps do if it is there"; 6
unfoldable pub convert : Asking → Journal → Edition → Out
convert a x edition.First =
    cond (eqb x.time last_time) (refuse_to a refusal.Worn)
    (begin a.image a.reply (convert_job a.blocks a.image a.board x))
convert a x edition.Second = done_at a a.reply no_stretch

-- "gets a new 16 if anything is pending, then 7 exactly if U in edition 2 exceeds S"
abbrev pub convert_with : Asking → Journal → List Entry → Out
convert_with a x [] = cond (ltb (size_for a) (used edition.Second (replay_of x))) (refuse_to a refusal.NoRoom) (convert a x x.edition)
convert_with a x (e ∷ es) = refuse_to a refusal.Pending

unfoldable pub serve_convert : Asking → Journal → Out
serve_convert a x = convert_with a x (replay_of x).pending

-- counted from the image's first byte
abbrev pub stretch_of : ℕ → Option Value → Stretch
stretch_of start none = no_stretch
stretch_of start (some x) = record { at = start + x.at; size = length x.bytes }

-- "A read that finds its object hands back that stretch of the caller's own flash image": where replay took the value from
abbrev pub place_of : ℕ → List ℕ → Record → Journal → ObjectId → Stretch
place_of N img r x i =
    stretch_of (r.rest.block * size_of N img)
    (value_at x.edition (block (size_of N img) r.rest.block img) i (get_or (places_in x) i.0 0))

-- "Reads see settled objects only"; 8: "no such settled object". By a scan: `Reads: ServedAsBefore` says that a read by its place is this
abbrev pub serve_read : Asking → Journal → ObjectId → Option (List ℕ) → Out
serve_read a x i none = refuse_to a refusal.NoObject
serve_read a x i (some v) = done_at a a.reply (place_of a.blocks a.image a.board x i)

-- 9: "log: reply under 14 bytes"
unfoldable pub serve_log : Asking → Journal → Page → Out
serve_log a x Summary =
    cond (ltb (length a.reply) page_len) (refuse_to a refusal.ShortReply)
    (done_at a (with_page (log_page x.time (length (replay_of x).objects) (used_of x) (size_for a)) a.reply) no_stretch)

-- "A request is one of six kinds"; K9: "A convert request"
unfoldable pub serve : Asking → Journal → Request → Out
serve a x (Put i) = serve_change a x (put i (value_in_of a.message))
serve a x (Delete i) = serve_change a x (delete i)
serve a x Commit = serve_end a x (commit a.host)
serve a x Abort = serve_end a x (abort a.host)
serve a x (Read i) = serve_read a x i (lookup i (replay_of x).objects)
serve a x (Log p) = serve_log a x p
serve a x Convert = serve_convert a x

-- 1, after 11
abbrev pub serve_parsed : Asking → Journal → Parsed → Out
serve_parsed a x None = refuse_to a refusal.Malformed
serve_parsed a x (Some q) = serve a x q

-- 11
abbrev pub serve_held : Asking → Option Journal → Out
serve_held a none = refuse_to a refusal.Stale
serve_held a (some x) = serve_parsed a x (parse a.message)

-- ---- a read by its place, document 02, K8

-- "A message of kind 0x0105 then gets 11, after 1 and before 8, exactly if the length differs or the recorded place holds no legal put or settled frame of
-- that id"
abbrev pub read_found : Asking → Option Value → Out
read_found a none = refuse_to a refusal.Stale
read_found a (some x) = done_at a a.reply (stretch_of (a.board.rest.block * size_for a) (some x))

-- what the recorded block has at a place, by the edition that the record carries
abbrev pub value_for : Asking → ObjectId → ℕ → Option Value
value_for a i p = value_at (reads_in a.board) (block (size_for a) a.board.rest.block a.image) i p

-- 8 for an id without a place
unfoldable pub read_place : Asking → ObjectId → ℕ → Out
read_place a i p = cond (eqb p 0) (refuse_to a refusal.NoObject) (read_found a (value_for a i p))

unfoldable pub read_at : Asking → ObjectId → Out
read_at a i =
    cond (same_shape a.blocks (length a.image) a.board) (read_place a i (get_or a.board.places i.0 0)) (refuse_to a refusal.Stale)

abbrev pub read_parsed : Asking → Parsed → Out
read_parsed a None = refuse_to a refusal.Malformed
read_parsed a (Some q) = read_at a (id_in a.message)

-- "all others still check all of 11"
abbrev pub request_by : Asking → Bool → Out
request_by a true = read_parsed a (parse a.message)
request_by a false = serve_held a (held_for a)

-- 5, then 2, then 11
abbrev pub request_in : Asking → Phase → Out
request_in a (Busy s) = refuse_to a refusal.Busy
request_in a Unmounted = refuse_to a refusal.NoStore
request_in a Idle = request_by a (of_read_kind a.message)

-- 4, then 10
unfoldable pub request_on : Asking → Out
request_on a =
    cond (allowed a.blocks (length a.image))
    (cond (leb a.host.0 host_max) (request_in a a.board.phase) (refuse_to a refusal.HostRange))
    (refuse_to a refusal.ImageLength)

-- the stretch of a read alone; "A refused read hands back an empty stretch", and so does a message that is no read
abbrev pub read_on : ℕ → List ℕ → Record → Host → List ℕ → Stretch
read_on N img r h m = (request_on (asking N img r h m [])).stretch
