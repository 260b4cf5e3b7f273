-- Document 01's sentences on the frame that a request appends, on the steps of each job and on a read's stretch, "Frames", "Jobs" and
-- "What hosts send", document 02's on a format's order, K4, and on pending counts, K7, and the statements that the definitions say exactly these.
use Rattle.std.specs.Prelude.{List, [], ◌∷◌, ◌++◌, map, ◌↔◌, true, ◌≡◌, ℕ, suc, ◌+◌, ◌-◌, ◌*◌, ◌/◌, ◌%◌, ◌≤◌, ◌<◌, length, get_or, drop}
use Rattle.std.proofs.Math.Option.{Option, none, some}
use Rattle.flash.specs.Bytes.{Bytes}
use Rattle.flash.specs.Flash.{Step, program, erase, block, size_of}
use Rattle.frame.specs.declared.Host.{Host}
use Rattle.frame.specs.declared.ObjectId.{ObjectId}
use Rattle.frame.specs.declared.Edition.{Edition}
use Rattle.frame.specs.declared.Edition.TheVariants as edition
use Rattle.frame.specs.Frame.{Change, Frame, change, commit, abort, encode, encode_all, total}
use Rattle.frame.specs.ByKind.{with_crc}
use Rattle.frame.specs.Reader.{Tail, clean, cut, bad}
use Rattle.journal.specs.Replay.{State, state, lookup, frames_of}
use Rattle.journal.specs.Block.{Journal, blank, block_state, torn_len}
use Rattle.journal.specs.Room.{claimed}
use Rattle.journal.specs.Sentences.{ValidBlock}
use Rattle.journal.specs.Laws.{by_edition, objects_after, pending_after, change_bytes, CountsAre, PlacesAre, TakenFrom}
use Rattle.wire.specs.declared.Page.{Page}
use Rattle.wire.specs.declared.Request.TheVariants.{Put, Delete, Commit, Abort, Read, Log, Convert}
use Rattle.wire.specs.Sentences.{Means}
use Rattle.board.specs.declared.Record.{Record}
use Rattle.board.specs.Record.{idle}
use Rattle.board.specs.Mount.{Store, replay_of}
use Rattle.board.specs.Queue.{needs_room, place_of}
use Rattle.board.specs.Table.{Task, idles, appends, converts, task_for, second_used, Allowed, ValidAt, DueTransfer}
use Rattle.board.specs.Plan.{Work, programs, transfer_plan, format_work, frame_work, mount_work, convert_work}

-- ---- which requests append a frame, and its bytes

-- the bytes of the frame that is appended, if one is
abbrev pub task_bytes : Journal → Task → Option (List ℕ)
task_bytes x idles = none
task_bytes x (appends f) = some (encode x.edition f)
task_bytes x converts = none

-- "Length (2, whole frame), kind (2), body, finish byte 0xFE": "1 put: host 1, id 2, value v", "2 delete: host 1, id 2", "3 commit: host 1",
-- "4 abort: host 1". "Commit or abort with nothing pending is done in 0 steps." A read, a log and a convert append none
pub record FrameExact : Type 0 where
  pub of_put : (h : Host) (m : List ℕ) (x : Journal) (i : ObjectId) → h.0 ≤ 3 → Bytes m → Means m (Put i) → x.edition ≡ edition.First
      → task_bytes x (task_for h m x (Put i))
      ≡ some ((8 + length (drop 6 m)) ∷ 0 ∷ 1 ∷ 0 ∷ h.0 ∷ i.0 ∷ 0 ∷ (drop 6 m ++ (0xFE ∷ [])))
  pub of_delete : (h : Host) (m : List ℕ) (x : Journal) (i : ObjectId) → h.0 ≤ 3 → Means m (Delete i) → x.edition ≡ edition.First
      → task_bytes x (task_for h m x (Delete i)) ≡ some (8 ∷ 0 ∷ 2 ∷ 0 ∷ h.0 ∷ i.0 ∷ 0 ∷ 0xFE ∷ [])
  pub of_commit : (h : Host) (m : List ℕ) (x : Journal) → (pending_after h x.frames ≡ [] → ⊥) → x.edition ≡ edition.First
      → task_bytes x (task_for h m x Commit) ≡ some (6 ∷ 0 ∷ 3 ∷ 0 ∷ h.0 ∷ 0xFE ∷ [])
  pub commit_nothing : (h : Host) (m : List ℕ) (x : Journal) → pending_after h x.frames ≡ [] → task_for h m x Commit ≡ idles
  pub of_abort : (h : Host) (m : List ℕ) (x : Journal) → (pending_after h x.frames ≡ [] → ⊥) → x.edition ≡ edition.First
      → task_bytes x (task_for h m x Abort) ≡ some (6 ∷ 0 ∷ 4 ∷ 0 ∷ h.0 ∷ 0xFE ∷ [])
  pub abort_nothing : (h : Host) (m : List ℕ) (x : Journal) → pending_after h x.frames ≡ [] → task_for h m x Abort ≡ idles
  pub of_read : (h : Host) (m : List ℕ) (x : Journal) (i : ObjectId) → task_for h m x (Read i) ≡ idles
  pub of_log : (h : Host) (m : List ℕ) (x : Journal) (p : Page) → task_for h m x (Log p) ≡ idles
  -- K9: "else a transfer takes the store to edition 2, or 0 steps do if it is there"
  pub convert_first : (h : Host) (m : List ℕ) (x : Journal) → x.edition ≡ edition.First → task_for h m x Convert ≡ converts
  pub convert_second : (h : Host) (m : List ℕ) (x : Journal) → x.edition ≡ edition.Second → task_for h m x Convert ≡ idles
  -- K9: "each frame has four bytes of CRC-32 .., over all that precedes them in the frame, before the finish byte"
  pub put_second : (h : Host) (m : List ℕ) (x : Journal) (i : ObjectId) → h.0 ≤ 3 → Bytes m → Means m (Put i) → x.edition ≡ edition.Second
      → task_bytes x (task_for h m x (Put i))
      ≡ some (with_crc ((12 + length (drop 6 m)) ∷ 0 ∷ 1 ∷ 0 ∷ h.0 ∷ i.0 ∷ 0 ∷ drop 6 m))
  pub delete_second : (h : Host) (m : List ℕ) (x : Journal) (i : ObjectId) → h.0 ≤ 3 → Means m (Delete i) → x.edition ≡ edition.Second
      → task_bytes x (task_for h m x (Delete i)) ≡ some (with_crc (12 ∷ 0 ∷ 2 ∷ 0 ∷ h.0 ∷ i.0 ∷ 0 ∷ []))
  pub commit_second : (h : Host) (m : List ℕ) (x : Journal) → (pending_after h x.frames ≡ [] → ⊥) → x.edition ≡ edition.Second
      → task_bytes x (task_for h m x Commit) ≡ some (with_crc (10 ∷ 0 ∷ 3 ∷ 0 ∷ h.0 ∷ []))
  pub abort_second : (h : Host) (m : List ℕ) (x : Journal) → (pending_after h x.frames ≡ [] → ⊥) → x.edition ≡ edition.Second
      → task_bytes x (task_for h m x Abort) ≡ some (with_crc (10 ∷ 0 ∷ 4 ∷ 0 ∷ h.0 ∷ []))

-- "after a transfer if end + n exceeds S"; document 02, K14: "The image is N blocks of S bytes"
unfoldable pub NeedsExact : Type 0
NeedsExact =
    (N : ℕ) (img : List ℕ) (s : ℕ) (r : Record) (x : Journal) (f : Frame) → 1 ≤ N → length img ≡ N * s
    → (needs_room N img r x f ≡ true) ↔ (s < r.rest.end + length (encode x.edition f))

-- ---- the steps of each job

-- "Bytes are programmed in address order, each one a step, 0xFF bytes too": these bytes from an offset of half k on
pub record Programs (k at : ℕ) (bytes : List ℕ) (steps : List Step) : Type 0 where
  pub each : length steps ≡ length bytes
  pub in_order : (n : ℕ) (d : Step) → n < length bytes → get_or steps n d ≡ program k (at + n) (get_or bytes n 0)

-- K14: "A transfer goes to the next block in number, round to 0": from block k
pub data NextOf (N k : ℕ) : ℕ → Type 0 where
  following : suc k < N → NextOf N k (suc k)
  round : suc k ≡ N → NextOf N k 0

-- "Transfer, into the blank half: byte 8 to 0xFE, header bytes 0-3, settled frames by rising id, pending frames in their order, inverse of
-- (time + 1), byte 8 to 0xFC, erase of the old half. C-5 steps." Of block k into block j; "length, 16", "kind, 0x4A01"; K9: "In edition 2 the header
-- kind is 0x4A02"
pub record TransferSteps (ed : Edition) (N k j : ℕ) (x : Journal) (st : State) : Type 0 where
  pub copied : List Step
  pub steps : transfer_plan ed N k x st
      ≡ program j 8 0xFE ∷ program j 0 16 ∷ program j 1 0 ∷ program j 2 (by_edition ed 0x01 0x02) ∷ program j 3 0x4A
      ∷ (copied
      ++ (program j 4 (255 - suc x.time % 256) ∷ program j 5 (255 - suc x.time / 256 % 256) ∷ program j 6 (255 - suc x.time / 65536 % 256)
      ∷ program j 7 (255 - suc x.time / 16777216) ∷ program j 8 0xFC ∷ erase k ∷ []))
  pub frames : Programs j 16 (encode_all ed (frames_of st)) copied
  pub count : length (transfer_plan ed N k x st) + 5 ≡ claimed ed st

unfoldable pub TransferExact : Type 0
TransferExact =
    (ed : Edition) (N k j : ℕ) (x : Journal) (st : State) → NextOf N k j → suc x.time ≤ 4294967295 → TransferSteps ed N k j x st

-- "then half 0's header at time 1 in the same order"
abbrev pub first_header : List Step
first_header =
    program 0 8 0xFE ∷ program 0 0 0x10 ∷ program 0 1 0x00 ∷ program 0 2 0x01 ∷ program 0 3 0x4A ∷ program 0 4 0xFE
    ∷ program 0 5 0xFF ∷ program 0 6 0xFF ∷ program 0 7 0xFF ∷ program 0 8 0xFC ∷ []

-- all blocks "in number order"; the same, but block k last
pub record ByNumber (N : ℕ) (order : List ℕ) : Type 0 where
  pub all : length order ≡ N
  pub each : (i : ℕ) → i < N → get_or order i 0 ≡ i

pub record LastIs (k N : ℕ) (order : List ℕ) : Type 0 where
  pub all : length order ≡ N
  pub below : (i : ℕ) → i < k → get_or order i 0 ≡ i
  pub above : (i : ℕ) → k ≤ i → suc i < N → get_or order i 0 ≡ suc i
  pub last : get_or order (N - 1) 0 ≡ k

pub record FormatSteps (N : ℕ) (img : List ℕ) (Ordered : ℕ → List ℕ → Type 0) : Type 0 where
  pub order : List ℕ
  pub steps : (format_work N img).steps ≡ map erase order ++ first_header
  pub ordered : Ordered N order

-- block k is valid, and every other valid one has a smaller time
abbrev pub NewestAt : ℕ → List ℕ → ℕ → Type 0
NewestAt N img k =
    (x : Journal) × ValidAt N img k x × ((j : ℕ) (y : Journal) → (j ≡ k → ⊥) → ValidAt N img j y → y.time < x.time)

-- K14: "Format erases all in number order, but the current block last if there is one, then writes block 0."
pub record FormatExact : Type 0 where
  pub current : (N : ℕ) (img : List ℕ) (k : ℕ) → Bytes img → Allowed N (length img) → NewestAt N img k → FormatSteps N img (LastIs k)
  pub no_current : (N : ℕ) (img : List ℕ) → Bytes img → Allowed N (length img) → ((k : ℕ) → NewestAt N img k → ⊥) → FormatSteps N img ByNumber
  pub count : (N : ℕ) (img : List ℕ) → length (format_work N img).steps ≡ N + 10

-- "one frame of n bytes, after a transfer if end + n exceeds S": at the recorded end, or in the next block past what was copied there
pub record AppendExact : Type 0 where
  pub stays : (N : ℕ) (img : List ℕ) (r : Record) (x : Journal) (f : Frame) → r.rest.end + length (encode x.edition f) ≤ size_of N img
      → Programs r.rest.block r.rest.end (encode x.edition f) (frame_work N img r x f).steps
  pub moves : (N j : ℕ) (img : List ℕ) (r : Record) (x : Journal) (f : Frame) → NextOf N r.rest.block j
      → size_of N img < r.rest.end + length (encode x.edition f)
      → (appended : List Step) × ((frame_work N img r x f).steps ≡ transfer_plan x.edition N r.rest.block x (replay_of x) ++ appended)
      × Programs j (16 + length (encode_all x.edition (frames_of (replay_of x)))) (encode x.edition f) appended

-- K9: "a transfer takes the store to edition 2": the transfer's steps, U in edition 2 less 5 of them, then a record of the next block, of the end that
-- U is, and of edition 2; blocks, length and counts stay
pub record ConvertExact : Type 0 where
  pub steps : (N j : ℕ) (img : List ℕ) (r : Record) (x : Journal) → NextOf N r.rest.block j → suc x.time ≤ 4294967295
      → TransferSteps edition.Second N r.rest.block j x (state (objects_after x.frames) [])
  pub work : (N : ℕ) (img : List ℕ) (r : Record) (x : Journal)
      → (convert_work N img r x).steps ≡ transfer_plan edition.Second N r.rest.block x (state (objects_after x.frames) [])
  pub count : (N : ℕ) (img : List ℕ) (r : Record) (x : Journal) → length (convert_work N img r x).steps + 5 ≡ second_used x
  -- K8: and the places of the frames in the block that is made
  pub places : (N : ℕ) (img : List ℕ) (r : Record) (x : Journal)
      → PlacesAre edition.Second (convert_work N img r x).last.places (frames_of (state (objects_after x.frames) []))
  pub last : (N j : ℕ) (img : List ℕ) (r : Record) (x : Journal) → NextOf N r.rest.block j
      → (convert_work N img r x).last
      ≡ idle (convert_work N img r x).last.places (record { blocks = r.rest.blocks; last = r.rest.last; block = j; end = second_used x; pending = r.rest.pending; edition = 2 })

-- a number stands in a list
abbrev pub Member : ℕ → List ℕ → Type 0
Member j l = (i : ℕ) × (i < length l) × (get_or l i 0 ≡ j)

-- K11: "each a step only if it must change": byte o of block k, whose bytes are b, made v
pub data OnlyIf (b : List ℕ) (k o v : ℕ) : List Step → Type 0 where
  changes : (get_or b o 0 ≡ v → ⊥) → OnlyIf b k o v (program k o v ∷ [])
  stays : get_or b o 0 ≡ v → OnlyIf b k o v []

-- "A torn frame is closed in place by clearing bits: length's high byte to 0, kind to 0x0000 low byte first, then its finish byte": a frame of n bytes
-- at an offset of the block
pub record Closes (b : List ℕ) (k at n : ℕ) (steps : List Step) : Type 0 where
  pub length_high : List Step
  pub kind_low : List Step
  pub kind_high : List Step
  pub finish : List Step
  pub in_order : steps ≡ length_high ++ (kind_low ++ (kind_high ++ finish))
  pub of_length : OnlyIf b k (at + 1) 0 length_high
  pub of-kind : OnlyIf b k (at + 2) 0 kind_low
  pub of_kind_high : OnlyIf b k (at + 3) 0 kind_high
  pub of_finish : OnlyIf b k (at + (n - 1)) 0xFE finish

-- with no torn frame there is nothing to close
abbrev pub ClosesTail : List ℕ → ℕ → ℕ → Tail → List Step → Type 0
ClosesTail b k at clean steps = steps ≡ []
ClosesTail b k at (cut n) steps = Closes b k at n steps
ClosesTail b k at (bad e) steps = Unit {0}

-- "a reset frame (kind 7, no body, length 5 or in edition 2 nine)"
abbrev pub reset_frame : Edition → List ℕ
reset_frame edition.First = 5 ∷ 0 ∷ 7 ∷ 0 ∷ 0xFE ∷ []
reset_frame edition.Second = with_crc (9 ∷ 0 ∷ 7 ∷ 0 ∷ [])

-- the steps of a mount that mends block k, whose bytes are b and which holds x; and the record after them, of an image whose length less one is l
pub record MendExact (N l k : ℕ) (b : List ℕ) (x : Journal) (w : Work) : Type 0 where
  pub closes : List Step
  pub resets : List Step
  pub steps : w.steps ≡ closes ++ resets
  pub closing : ClosesTail b k (16 + total x.edition x.frames) x.tail closes
  -- "Then, if anything is pending, a reset frame .. drops all of it": after the closed frame
  pub no_reset : (replay_of x).pending ≡ [] → resets ≡ []
  pub reset : ((replay_of x).pending ≡ [] → ⊥)
      → Programs k (16 + total x.edition x.frames + torn_len x.tail) (reset_frame x.edition) resets
  -- the block stays, and with it the places (K8); the end is past all that was written, and nothing is pending
  pub places : PlacesAre x.edition w.last.places x.frames
  pub last : w.last
      ≡ idle w.last.places (record {
        blocks = N;
        last = l;
        block = k;
        end = 16 + total x.edition x.frames + torn_len x.tail + length resets;
        pending = 0 ∷ 0 ∷ 0 ∷ 0 ∷ [];
        edition = by_edition x.edition 1 2;
      })
  -- what it costs: at most 4 bytes to close and 9 for the reset, and no erase
  pub few : length w.steps ≤ 13
  pub no_erase : programs w.steps ≡ w.steps

-- K14: "mount erases every other that isn't blank, by number"; then K11: "Only where a due reset wouldn't fit after the closed frame is the old
-- transfer made, instead of both." Of the current block x
pub record MountSteps (N : ℕ) (img : List ℕ) (x : Store) : Type 0 where
  pub erased : List ℕ
  pub after : Work
  pub steps : (mount_work N img x).steps ≡ map erase erased ++ after.steps
  pub last : (mount_work N img x).last ≡ after.last
  pub by_number : (i : ℕ) → suc i < length erased → get_or erased i 0 < get_or erased (suc i) 0
  pub every : (j : ℕ) → Member j erased ↔ ((j < N) × (j ≡ x.number → ⊥) × (block_state (block (size_of N img) j img) ≡ blank → ⊥))
  pub moves : DueTransfer (size_of N img) x.journal
      → after.steps ≡ transfer_plan x.journal.edition N x.number x.journal (state (objects_after x.journal.frames) [])
  pub moved_places : DueTransfer (size_of N img) x.journal
      → PlacesAre x.journal.edition after.last.places (frames_of (state (objects_after x.journal.frames) []))
  pub mends : (DueTransfer (size_of N img) x.journal → ⊥)
      → MendExact N (length img - 1) x.number (block (size_of N img) x.number img) x.journal after

unfoldable pub MountExact : Type 0
MountExact = (N : ℕ) (img : List ℕ) (x : Store) → MountSteps N img x

-- ---- the pending counts after each job

-- a host's, in a record; and after the job of frame f, with a transfer or without
abbrev pub count_in : Record → Host → ℕ
count_in r g = get_or r.rest.pending g.0 0

abbrev pub count_after : ℕ → List ℕ → Record → Journal → Frame → Host → ℕ
count_after N img r x f g = count_in (frame_work N img r x f).last g

-- document 02, K7: "The board record carries each host's pending bytes as replay gives them": a put or delete adds its frame's to its host's,
-- a commit or abort clears its host's, other hosts' stay; a mount or format clears all
pub record CountsExact : Type 0 where
  pub four : (N : ℕ) (img : List ℕ) (r : Record) (x : Journal) (f : Frame) → length (frame_work N img r x f).last.rest.pending ≡ 4
  pub change_own : (N : ℕ) (img : List ℕ) (r : Record) (x : Journal) (h : Host) (c : Change) → h.0 ≤ 3 → CountsAre x.edition r.rest.pending x.frames
      → count_after N img r x (change h c) h ≡ count_in r h + change_bytes x.edition c
  pub change_other : (N : ℕ) (img : List ℕ) (r : Record) (x : Journal) (g h : Host) (c : Change) → g.0 ≤ 3 → (g.0 ≡ h.0 → ⊥)
      → CountsAre x.edition r.rest.pending x.frames → count_after N img r x (change h c) g ≡ count_in r g
  pub commit_own : (N : ℕ) (img : List ℕ) (r : Record) (x : Journal) (h : Host) → h.0 ≤ 3 → count_after N img r x (commit h) h ≡ 0
  pub commit_other : (N : ℕ) (img : List ℕ) (r : Record) (x : Journal) (g h : Host) → g.0 ≤ 3 → (g.0 ≡ h.0 → ⊥)
      → CountsAre x.edition r.rest.pending x.frames → count_after N img r x (commit h) g ≡ count_in r g
  pub abort_own : (N : ℕ) (img : List ℕ) (r : Record) (x : Journal) (h : Host) → h.0 ≤ 3 → count_after N img r x (abort h) h ≡ 0
  pub abort_other : (N : ℕ) (img : List ℕ) (r : Record) (x : Journal) (g h : Host) → g.0 ≤ 3 → (g.0 ≡ h.0 → ⊥)
      → CountsAre x.edition r.rest.pending x.frames → count_after N img r x (abort h) g ≡ count_in r g
  pub mounted : (N : ℕ) (img : List ℕ) (x : Store) → (mount_work N img x).last.rest.pending ≡ 0 ∷ 0 ∷ 0 ∷ 0 ∷ []
  pub formatted : (N : ℕ) (img : List ℕ) → (format_work N img).last.rest.pending ≡ 0 ∷ 0 ∷ 0 ∷ 0 ∷ []

-- ---- the places after each job

-- document 02, K8: "Keep in the record, for every id, where replay finds its settled value or that there is none": of the frames with the one that was
-- appended, in the block where they then stand; a mount's and a convert's are said above
pub record PlacesExact : Type 0 where
  pub stays : (N : ℕ) (img : List ℕ) (r : Record) (x : Journal) (f : Frame) → r.rest.end + length (encode x.edition f) ≤ size_of N img
      → PlacesAre x.edition (frame_work N img r x f).last.places (x.frames ++ (f ∷ []))
  pub moves : (N : ℕ) (img : List ℕ) (r : Record) (x : Journal) (f : Frame) → size_of N img < r.rest.end + length (encode x.edition f)
      → PlacesAre x.edition (frame_work N img r x f).last.places (frames_of (replay_of x) ++ (f ∷ []))
  pub formatted : (N : ℕ) (img : List ℕ) → PlacesAre edition.First (format_work N img).last.places []

-- ---- a read's stretch

-- "hands back that stretch of the caller's own flash image": where in the recorded half the value was put, counted from the image's start
unfoldable pub StretchExact : Type 0
StretchExact =
    (N : ℕ) (img : List ℕ) (r : Record) (x : Journal) (i : ObjectId) (v : List ℕ)
    → ValidBlock (block (size_of N img) r.rest.block img) x → i.0 ≤ 255 → lookup i (objects_after x.frames) ≡ some v
    → (at : ℕ) × (place_of N img r x i ≡ record { at = r.rest.block * size_of N img + at; size = length v }) × TakenFrom x.edition x.frames i v at
