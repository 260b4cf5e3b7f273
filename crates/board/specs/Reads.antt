-- Document 02's K8 on reads: no read scans, and none is answered otherwise than by a scan under a record and the image handed out with it.
use Rattle.std.specs.Prelude.{List, true, ◌≡◌, ℕ, ◌+◌, ◌*◌, ◌≤◌, ◌<◌, length, get_or}
use Rattle.flash.specs.Bytes.{Bytes}
use Rattle.frame.specs.declared.Host.{Host}
use Rattle.frame.specs.declared.ObjectId.{ObjectId}
use Rattle.frame.specs.Frame.{host_max, encode}
use Rattle.journal.specs.Block.{Journal}
use Rattle.journal.specs.Laws.{Holder, holding}
use Rattle.wire.specs.declared.Request.TheVariants.{Read}
use Rattle.wire.specs.Message.{parse}
use Rattle.wire.specs.Sentences.{Means}
use Rattle.board.specs.declared.Phase.TheVariants.{Idle}
use Rattle.board.specs.declared.Record.{Record}
use Rattle.board.specs.Record.{allowed, reads_in}
use Rattle.board.specs.Queue.{Asking, asking, size_for, serve_parsed, request_on}
use Rattle.board.specs.Exec.{request, Machine}
use Rattle.board.specs.Table.{FreshFor, place_for, PlaceHolds}

-- two images of one length have the same n bytes from an offset on
pub record AgreeFrom (at n : ℕ) (img other : List ℕ) : Type 0 where
  pub as_long : length img ≡ length other
  pub same : (j : ℕ) → at ≤ j → j < at + n → get_or img j 0 ≡ get_or other j 0

-- where the frame at an id's place starts, counted from the image's first byte
abbrev pub frame_start : Asking → ObjectId → ℕ
frame_start a i = a.board.rest.block * size_for a + place_for a i

-- a read looks at one frame: on an image that has the same bytes there it is answered the same, with the same stretch
unfoldable pub ReadLocal : ℕ → Machine → Type 0
ReadLocal N m =
    (img other : List ℕ) (r : Record) (h : Host) (msg reply : List ℕ) (i : ObjectId) (k : Holder) (v : List ℕ) → Bytes img → Bytes other → Bytes msg
    → Means msg (Read i) → PlaceHolds (asking N img r h msg reply) i k v
    → AgreeFrom (frame_start (asking N img r h msg reply) i) (length (encode (reads_in r) (holding k i v))) img other
    → ((m other r (request h msg reply)).answer ≡ (m img r (request h msg reply)).answer)
    × ((m other r (request h msg reply)).stretch ≡ (m img r (request h msg reply)).stretch)

-- "Under a record and the image handed out with it, answers and steps don't change": every request is served as the store before served it, a read by a
-- scan of the image. What steps a request then takes is `frame_work` and `convert_work`, whose steps know of no place
unfoldable pub ServedAsBefore : Type 0
ServedAsBefore =
    (a : Asking) (x : Journal) → Bytes a.image → allowed a.blocks (length a.image) ≡ true → a.host.0 ≤ host_max → a.board.phase ≡ Idle
    → FreshFor a x → request_on a ≡ serve_parsed a x (parse a.message)
