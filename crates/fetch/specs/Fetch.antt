-- What the answers of a search for a value, or for a frame to copy, stand for.
use Rattle.std.specs.Prelude.{List, Bool, true, false, ◌≡◌, ℕ, ◌+◌, ◌-◌, ◌≤◌, eqb, leb, length, get_or, take, drop, Option, Some, None}
use Rattle.std.proofs.Math.Option as maybe
use Rattle.std.proofs.Math.Option.{none, some}
use Rattle.frame.specs.declared.Edition.{Edition}
use Rattle.frame.specs.declared.ObjectId.{ObjectId}
use Rattle.frame.specs.declared.Head.{Head}
use Rattle.frame.specs.declared.Head.TheVariants as head
use Rattle.frame.specs.Frame.{value_max, Frame, change, commit, abort, settled, closed, reset, frame_len, put_value_at, settled_value_at}
use Rattle.frame.specs.Code.{head_of, frame_of, value_len_of, value_start}
use Rattle.fetch.specs.declared.Found.{Found}
use Rattle.fetch.specs.declared.Fetch.{Fetch}
use Rattle.journal.specs.Index.{Value, value_at, Load, load}

-- ---- a value, and a frame to copy

abbrev pub found_of : maybe.Option Value → Option Found
found_of none = None
found_of (some x) = Some (record { at = x.at; size = length x.bytes })

-- where a frame to copy has its value: a settled one where its id's place tells, any other in itself, which ends at the cursor's offset
abbrev pub or_start : maybe.Option Value → ℕ
or_start none = 0
or_start (some x) = x.at

abbrev pub value_from : Edition → List ℕ → List ℕ → ℕ → Frame → ℕ
value_from ed b places s (change h c) = s - frame_len ed (change h c) + value_start (head_of (change h c))
value_from ed b places s (commit h) = s - frame_len ed (commit h) + value_start (head_of (commit h))
value_from ed b places s (abort h) = s - frame_len ed (abort h) + value_start (head_of (abort h))
value_from ed b places s (settled i v) = or_start (value_at ed b i (get_or places i.0 0))
value_from ed b places s (closed v) = s - frame_len ed (closed v) + value_start (head_of (closed v))
value_from ed b places s reset = s - frame_len ed reset + value_start (head_of reset)

abbrev pub fetch_of : Edition → List ℕ → List ℕ → Load → Fetch
fetch_of ed b places l =
    record { head = head_of l.frame; value = value_from ed b places l.source l.frame; id = l.id; source = l.source }

-- the answer of a search for a frame to copy from block b
unfoldable pub fetched_of : Edition → List ℕ → List ℕ → maybe.Option Load → Option Fetch
fetched_of ed b places none = None
fetched_of ed b places (some l) = Some (fetch_of ed b places l)

-- the frame that was found in block b, and the cursor after it
abbrev pub load_in : List ℕ → Fetch → Load
load_in b x = load (frame_of x.head (take (value_len_of x.head) (drop x.value b))) x.id x.source

-- what a fetch from block b stands for: the value's bytes are the block's
abbrev pub load_of : List ℕ → Option Fetch → maybe.Option Load
load_of b None = none
load_of b (Some f) = some (load_in b f)

-- and they are all there
abbrev pub Inside : List ℕ → Option Fetch → Type 0
Inside b None = Unit {0}
Inside b (Some f) = (f.value + value_len_of f.head ≤ length b) × (value_len_of f.head ≤ value_max)

-- what such an answer is good for: proofs/Copying.antt shows it of `fetched_of` and `next_load_of`
abbrev pub Fetches : List ℕ → Option Fetch → maybe.Option Load → Type 0
Fetches b r o = (load_of b r ≡ o) × Inside b r

-- ---- by the frame's head

abbrev pub only_at : Bool → ℕ → ℕ → Option Found
only_at true p n = Some (record { at = p; size = n })
only_at false p n = None

-- the value of an id in a frame at offset p, by the frame's head
unfoldable pub value_head : ObjectId → ℕ → Head → Option Found
value_head i p (head.Put h j n) = only_at (eqb i.0 j.0) (p + put_value_at) n
value_head i p (head.Delete h j) = None
value_head i p (head.Commit h) = None
value_head i p (head.Abort h) = None
value_head i p (head.Settled j n) = only_at (eqb i.0 j.0) (p + settled_value_at) n
value_head i p (head.Closed n) = None
value_head i p head.Reset = None

-- a put or delete at or past its host's `since`, by the head
unfoldable pub pending_head : List ℕ → ℕ → Head → Bool
pending_head since at (head.Put h i n) = leb (get_or since h.0 0) at
pending_head since at (head.Delete h i) = leb (get_or since h.0 0) at
pending_head since at (head.Commit h) = false
pending_head since at (head.Abort h) = false
pending_head since at (head.Settled i n) = false
pending_head since at (head.Closed n) = false
pending_head since at head.Reset = false
