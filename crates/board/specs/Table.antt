-- Document 01's table "When the queue says no" in its own words: for each call its lines, by number and condition, in the table's order.
use Rattle.std.specs.Prelude.{List, [], ◌∷◌, ◌++◌, ◌⊎◌, ◌↔◌, true, Bool, false, ◌≡◌, ℕ, suc, ◌+◌, ◌*◌, ◌%◌, ◌≤◌, ◌<◌, ◌/◌, length, get_or, drop}
use Rattle.std.proofs.Math.Option.{none, some, Option}
use Rattle.flash.specs.Bytes.{Bytes}
use Rattle.flash.specs.Flash.{Step, block, size_of, block_of, offset_of}
use Rattle.frame.specs.declared.Edition.{Edition}
use Rattle.frame.specs.declared.Edition.TheVariants as edition
use Rattle.frame.specs.declared.Host.{Host}
use Rattle.frame.specs.declared.ObjectId.{ObjectId}
use Rattle.frame.specs.Frame.{Frame, put, delete, encode, frame_len, total, change, commit, abort, MayStand}
use Rattle.frame.specs.Reader.{fault, clean}
use Rattle.frame.specs.declared.Fault.{Fault}
use Rattle.frame.specs.declared.Field.TheVariants as field
use Rattle.journal.specs.Replay.{entry, is_open_of, list_of}
use Rattle.journal.specs.Block.{Journal, header_len, torn_len}
use Rattle.journal.specs.Faults.{FaultIn}
use Rattle.journal.specs.Sentences.{BlankBlock, ValidBlock, ForeignBlock}
use Rattle.journal.specs.Room.{open_hosts}
use Rattle.journal.specs.Laws.{by_edition, settled_bytes, CountsAre, changes_bytes, Holder, holding, PlacesAre}
use Rattle.wire.specs.declared.Answer.{Answer}
use Rattle.wire.specs.declared.Page.{Page}
use Rattle.wire.specs.declared.Request.{Request}
use Rattle.wire.specs.declared.Request.TheVariants.{Put, Delete, Read, Log, Commit, Abort, Convert}
use Rattle.wire.specs.Answer.{number_of}
use Rattle.wire.specs.Message.{value_in_of}
use Rattle.board.specs.declared.Stage.{Stage}
use Rattle.board.specs.declared.Phase.{Phase}
use Rattle.board.specs.declared.Phase.TheVariants.{Unmounted, Idle, Busy}
use Rattle.board.specs.declared.Record.{Record}
use Rattle.board.specs.Record.{allowed, reads_in, Accepted}
use Rattle.board.specs.Step.{action}
use Rattle.board.specs.Mount.{replay_of, claimed_of}
use Rattle.board.specs.Queue.{held, Asking, asking, size_for}
use Rattle.board.specs.Exec.{Call, request, step, mount, format}
use Rattle.wire.specs.Sentences.{Means, ReadKind}

-- ---- what an accepted request is to do

-- nothing; "Put, delete, commit, abort: one frame of n bytes"; document 02, K9: "a transfer takes the store to edition 2"
pub data Task : Type 0 where
  idles : Task
  appends : Frame → Task
  converts : Task

-- "Commit or abort with nothing pending is done in 0 steps."
abbrev pub end_task : Bool → Frame → Task
end_task true f = appends f
end_task false f = idles

-- K9: "or 0 steps do if it is there"
abbrev pub convert_task : Edition → Task
convert_task edition.First = converts
convert_task edition.Second = idles

abbrev pub task_for : Host → List ℕ → Journal → Request → Task
task_for h m x (Put i) = appends (change h (put i (value_in_of m)))
task_for h m x (Delete i) = appends (change h (delete i))
task_for h m x Commit = end_task (is_open_of h (replay_of x).pending) (commit h)
task_for h m x Abort = end_task (is_open_of h (replay_of x).pending) (abort h)
task_for h m x (Read i) = idles
task_for h m x (Log p) = idles
task_for h m x Convert = convert_task x.edition

-- ---- lines

pub record Line : Type 1 where
  pub number : ℕ
  pub holds : Type 0

abbrev pub line : ℕ → Type 0 → Line
line n P = record { number = n; holds = P }

-- "Checked in this order", "Exactly when": the first line that holds gives its number; where none does the answer is 0 or more
abbrev pub Exactly : List Line → Answer → Type 0
Exactly [] a = Accepted a
Exactly (l ∷ ls) a = (l.holds × (number_of a ≡ some l.number)) ⊎ ((l.holds → ⊥) × Exactly ls a)

-- 4, document 02, K14: "exactly if N isn't 2 to 16, the length exceeds 65,536, or S isn't a whole multiple of 128 from 256 up"
pub record Allowed (N n : ℕ) : Type 0 where
  pub at_least : 2 ≤ N
  pub at_most : N ≤ 16
  pub long : n ≤ 65536
  pub size : ℕ
  pub whole : n ≡ N * size
  pub multiple : size % 128 ≡ 0
  pub low : 256 ≤ size

-- 5: "a job is unfinished"
abbrev pub InJob : Phase → Type 0
InJob Unmounted = ⊥
InJob Idle = ⊥
InJob (Busy s) = Unit {0}

-- ---- requests

-- 11: "idle record: its length differs, or the image read afresh isn't: recorded half valid, its last whole frame (or the header, if
-- none) ending exactly at the recorded end with only 0xFF after it, other half blank, C + 6·open at most S"; K14: "A record of another N gets 11";
-- K7: "each host's pending bytes as replay gives them; refusal 11 covers any other"; K9: "The record carries the edition ..; elsewhere 11 covers any
-- other", "10 for each 6"; K8: "all others still check all of 11, now the places too"
pub record Fresh (N : ℕ) (img : List ℕ) (r : Record) (x : Journal) : Type 0 where
  pub length_is : length img ≡ suc r.rest.last
  pub blocks_are : N ≡ r.rest.blocks
  pub there : r.rest.block < N
  pub is-valid : ValidBlock (block (size_of N img) r.rest.block img) x
  pub is_clean : x.tail ≡ clean
  pub ends : header_len + total x.edition x.frames ≡ r.rest.end
  pub edition_is : r.rest.edition ≡ by_edition x.edition 1 2
  pub pending : CountsAre x.edition r.rest.pending x.frames
  pub places : PlacesAre x.edition r.places x.frames
  pub others-blank : (j : ℕ) → j < N → (j ≡ r.rest.block → ⊥) → BlankBlock (block (size_of N img) j img)
  pub room : claimed_of x + by_edition x.edition 6 10 * open_hosts (replay_of x).pending ≤ size_of N img

-- `held` finds exactly this
unfoldable pub FreshExact : Type 0
FreshExact = (N : ℕ) (img : List ℕ) (r : Record) (x : Journal) → Bytes img → allowed N (length img) ≡ true → (held N img r ≡ some x) ↔ Fresh N img r x

abbrev pub FreshFor : Asking → Journal → Type 0
FreshFor a x = Fresh a.blocks a.image a.board x

-- K8: "the recorded place holds .. legal put or settled frame of that id": in the recorded block, from the recorded place on, stand all bytes of such a
-- frame, by the edition that the record carries. In a block number that isn't there nothing stands
abbrev pub place_for : Asking → ObjectId → ℕ
place_for a i = get_or a.board.places i.0 0

pub record PlaceHolds (a : Asking) (i : ObjectId) (k : Holder) (v : List ℕ) : Type 0 where
  pub after : List ℕ
  pub bytes : drop (place_for a i) (block (size_for a) a.board.rest.block a.image) ≡ encode (reads_in a.board) (holding k i v) ++ after
  pub legal : MayStand (reads_in a.board) 0 (holding k i v)

-- 11 of a read, "exactly if the length differs or the recorded place holds no legal put or settled frame of that id"; or N (K14). An id without a place has
-- none that could hold one
pub record PlaceLost (a : Asking) : Type 0 where
  pub id : ObjectId
  pub is_asked : Means a.message (Read id)
  pub misfits : (length a.image ≡ suc a.board.rest.last → ⊥) ⊎ ((a.blocks ≡ a.board.rest.blocks → ⊥)
      ⊎ ((place_for a id ≡ 0 → ⊥) × ((k : Holder) (v : List ℕ) → PlaceHolds a id k v → ⊥)))

-- 8: "read: no such settled object", by its place
pub record NoObject (a : Asking) : Type 0 where
  pub id : ObjectId
  pub is_asked : Means a.message (Read id)
  pub no_place : place_for a id ≡ 0

-- 9: "log: reply under 14 bytes"
pub record ShortReply (a : Asking) : Type 0 where
  pub page : Page
  pub is_asked : Means a.message (Log page)
  pub short : length a.reply < 14

-- "with `open` the hosts that would then have something pending": what a put of a value would need, "C + n + 6·open + 14", and what a delete,
-- "C + 8 + 6·open"; K9: "The room rule .. then have 12 for the delete, 10 for each 6 and 22 for 14". They judge `journal/Room: no_room_of` and share no sum
-- with it
abbrev pub put_needs : Journal → Host → ObjectId → List ℕ → ℕ
put_needs x h i v =
    claimed_of x + (by_edition x.edition 8 12 + length v) + by_edition x.edition 6 10 * open_hosts ((replay_of x).pending ++ (entry h (put i v) ∷ []))
    + by_edition x.edition 14 22

abbrev pub delete_needs : Journal → Host → ObjectId → ℕ
delete_needs x h i =
    claimed_of x + by_edition x.edition 8 12 + by_edition x.edition 6 10 * open_hosts ((replay_of x).pending ++ (entry h (delete i) ∷ []))

-- what a host's pending frames would come to with a put of a value, "8+v" bytes, and with a delete, "8"; in edition 2 four more. They judge
-- `journal/Room: host_full`
abbrev pub put_share : Journal → Host → List ℕ → ℕ
put_share x h v = changes_bytes x.edition (list_of h (replay_of x).pending) + (by_edition x.edition 8 12 + length v)

abbrev pub delete_share : Journal → Host → ℕ
delete_share x h = changes_bytes x.edition (list_of h (replay_of x).pending) + by_edition x.edition 8 12

-- 16, K9: "A convert request .. gets a new 16 if anything is pending"
pub record StillPending (a : Asking) : Type 0 where
  pub holding : Journal
  pub is_held : FreshFor a holding
  pub is_asked : Means a.message Convert
  pub some_pending : (replay_of holding).pending ≡ [] → ⊥

-- "U in edition 2": "16 plus the length of one settled frame for each settled object"
abbrev pub second_used : Journal → ℕ
second_used x = 16 + settled_bytes edition.Second (replay_of x).objects

-- 12, K7: "Refuse a put or delete with a new 12, before 7, exactly if that host's pending frames would come to more than S/2 bytes."
pub data HostFull (a : Asking) : Type 0 where
  put_over : (x : Journal) (i : ObjectId) → FreshFor a x → Means a.message (Put i)
      → size_for a / 2 < put_share x a.host (value_in_of a.message) → HostFull a
  delete_over : (x : Journal) (i : ObjectId) → FreshFor a x → Means a.message (Delete i)
      → size_for a / 2 < delete_share x a.host → HostFull a

-- 7: "a put is refused exactly if C + n + 6·open + 14 > S, a delete exactly if C + 8 + 6·open > S"; K9, of a convert: "7 exactly if U in edition 2
-- exceeds S"
pub data NoRoom (a : Asking) : Type 0 where
  for_put : (x : Journal) (i : ObjectId) → FreshFor a x → Means a.message (Put i)
      → size_for a < put_needs x a.host i (value_in_of a.message) → NoRoom a
  for_delete : (x : Journal) (i : ObjectId) → FreshFor a x → Means a.message (Delete i)
      → size_for a < delete_needs x a.host i → NoRoom a
  for_convert : (x : Journal) → FreshFor a x → Means a.message Convert → size_for a < second_used x → NoRoom a

-- a transfer is needed: "if end + n exceeds S"; a convert is one
abbrev pub Moves : Asking → Journal → Task → Type 0
Moves a x idles = ⊥
Moves a x (appends f) = size_for a < a.board.rest.end + frame_len x.edition f
Moves a x converts = Unit {0}

-- 6: "a transfer is needed, .. at time 4,294,967,295"
pub record Worn (a : Asking) : Type 0 where
  pub holding : Journal
  pub asked : Request
  pub is_held : FreshFor a holding
  pub is_asked : Means a.message asked
  pub moves : Moves a holding (task_for a.host a.message holding asked)
  pub last-time : holding.time ≡ 4294967295

-- K8: "A message of kind 0x0105 then gets 11, after 1 and before 8 ..; all others still check all of 11", before 1
abbrev pub request_lines : Asking → List Line
request_lines a =
    line 4 (Allowed a.blocks (length a.image) → ⊥)
    ∷ line 10 (3 < a.host.0)
    ∷ line 5 (InJob a.board.phase)
    ∷ line 2 (a.board.phase ≡ Unmounted)
    ∷ line 11 ((ReadKind a.message → ⊥) × ((x : Journal) → FreshFor a x → ⊥))
    ∷ line 1 ((q : Request) → Means a.message q → ⊥)
    ∷ line 11 (PlaceLost a)
    ∷ line 8 (NoObject a)
    ∷ line 9 (ShortReply a)
    ∷ line 16 (StillPending a)
    ∷ line 12 (HostFull a)
    ∷ line 7 (NoRoom a)
    ∷ line 6 (Worn a)
    ∷ []

-- ---- mounts

-- block k is valid; block k is foreign
abbrev pub ValidAt : ℕ → List ℕ → ℕ → Journal → Type 0
ValidAt N img k x = (k < N) × ValidBlock (block (size_of N img) k img) x

abbrev pub ForeignAt : ℕ → List ℕ → ℕ → Type 0
ForeignAt N img k = (k < N) × ForeignBlock (block (size_of N img) k img)

-- no block is valid; block k is valid and another has its time
abbrev pub NoneValid : ℕ → List ℕ → Type 0
NoneValid N img = (k : ℕ) (x : Journal) → ValidAt N img k x → ⊥

pub data TiedAt (N : ℕ) (img : List ℕ) (k : ℕ) : Type 0 where
  tied_with : (j : ℕ) (x y : Journal) → (j ≡ k → ⊥) → ValidAt N img j x → ValidAt N img k y → x.time ≡ y.time → TiedAt N img k

-- 2: "for mount, no valid half and none foreign"
pub record NothingThere (N : ℕ) (img : List ℕ) : Type 0 where
  pub none-valid : NoneValid N img
  pub none_foreign : (k : ℕ) → ForeignAt N img k → ⊥

-- 3: document 02, K4, "Refusal 3 remains for two valid halves of equal time, and for no valid half with at least one foreign."
pub data Unclear (N : ℕ) (img : List ℕ) : Type 0 where
  foreign_only : (k : ℕ) → ForeignAt N img k → NoneValid N img → Unclear N img
  equal-times : (k : ℕ) → TiedAt N img k → Unclear N img

-- what 3 names, document 02, K5: "the foreign half (0 first) and, within it, the fault and its place. .. equal times name half 0, place 4."
-- No lower block is such a one, so that of two it is half 0.
pub data Names (N : ℕ) (img : List ℕ) (k : ℕ) (e : Fault) : Type 0 where
  names_foreign : NoneValid N img → ForeignAt N img k → FaultIn (block (size_of N img) k img) e → ((j : ℕ) → j < k → ForeignAt N img j → ⊥) → Names N img k e
  names_equal : TiedAt N img k → e ≡ fault field.Created 4 → ((j : ℕ) → j < k → TiedAt N img j → ⊥) → Names N img k e

-- document 02, K11: "Then, if anything is pending, a reset frame (.., length 5 or in edition 2 nine) .. Only where a due reset wouldn't fit after the
-- closed frame is the old transfer made": in a block of s bytes that holds x
pub record DueTransfer (s : ℕ) (x : Journal) : Type 0 where
  pub some_pending : (replay_of x).pending ≡ [] → ⊥
  pub no_fit : s < header_len + total x.edition x.frames + torn_len x.tail + by_edition x.edition 5 9

-- 6: "a transfer is needed, by a mount too, at time 4,294,967,295": no time is larger, so that this half is the current one
pub record MountWorn (N : ℕ) (img : List ℕ) : Type 0 where
  pub number : ℕ
  pub journal : Journal
  pub is-valid : ValidAt N img number journal
  pub last-time : journal.time ≡ 4294967295
  pub due : DueTransfer (size_of N img) journal

abbrev pub mount_lines : ℕ → List ℕ → List Line
mount_lines N img =
    line 4 (Allowed N (length img) → ⊥)
    ∷ line 2 (NothingThere N img)
    ∷ line 3 (Unclear N img)
    ∷ line 6 (MountWorn N img)
    ∷ []

-- ---- steps

-- "the job's next place lies outside it": no image has so many blocks, its block isn't there, or its offset is past the block
abbrev pub Outside : ℕ → List ℕ → Step → Type 0
Outside N img x = (N < 2) ⊎ ((16 < N) ⊎ ((N ≤ block_of x) ⊎ (size_of N img ≤ offset_of x)))

-- "in a job, 11 is given exactly if the image length isn't the record's or the job's next place lies outside it"; K14: or N isn't the record's
pub record Misplaced (N : ℕ) (img : List ℕ) (r : Record) : Type 0 where
  pub stage : Stage
  pub is-busy : r.phase ≡ Busy stage
  pub misfits : (length img ≡ suc r.rest.last → ⊥) ⊎ ((N ≡ r.rest.blocks → ⊥) ⊎ Outside N img (action stage r))

-- ---- the table

abbrev pub lines_of : ℕ → List ℕ → Record → Call → List Line
lines_of N img r (request h msg reply) = request_lines (asking N img r h msg reply)
lines_of N img r step = line 11 (Misplaced N img r) ∷ []
lines_of N img r mount = mount_lines N img
lines_of N img r format = line 4 (Allowed N (length img) → ⊥) ∷ []

-- ---- two tests that other definitions share

-- 5: "a job is unfinished", as a test
abbrev pub is_busy : Phase → Bool
is_busy Unmounted = false
is_busy Idle = false
is_busy (Busy s) = true

-- nothing is found
abbrev pub is_none : {A : Type 0} → Option A → Bool
is_none none = true
is_none (some x) = false
