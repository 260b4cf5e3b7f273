-- Wrong stores of document 02, K8: the places of settled values, and reads by them. As in Wrong each differs from the machine in one thing, off the
-- bench. The runs and the forged records that tell are in PlaceRuns.
use Rattle.std.specs.Prelude.{List, [], ◌∷◌, ◌++◌, Bool, false, ◌&&◌, ◌||◌, cond, ℕ, ◌+◌, ◌*◌, ◌-◌, eqb, length, get_or, set}
use Rattle.flash.specs.Bytes.{same_bytes_of}
use Rattle.flash.specs.Flash.{block, size_of}
use Rattle.frame.specs.Frame.{host_of, Frame, commit, edition_number, kind_at, body_at, put_value_at, put_len}
use Rattle.journal.specs.Block.{Journal, BlockState, block_state, edition_in, edition_of, frames_in}
use Rattle.journal.specs.Index.{places_of}
use Rattle.wire.specs.declared.Refusal.TheVariants as refusal
use Rattle.wire.specs.Answer.{edge_number}
use Rattle.wire.specs.Message.{id_in, of_read_kind}
use Rattle.board.specs.declared.Cursor.{Cursor}
use Rattle.board.specs.declared.Rest.{Rest}
use Rattle.board.specs.declared.Record.{Record}
use Rattle.board.specs.Record.{no_places, reads_in, Out, out, refuse}
use Rattle.board.specs.Step.{same_shape}
use Rattle.board.specs.Mount.{all_found, Store, stores, newest}
use Rattle.board.specs.Queue.{Asking, asking, size_for, done_at, held}
use Rattle.board.specs.Table.{is_none}
use Rattle.board.specs.Exec.{request, exec}
use Rattle.refuted.specs.Wrong.{Wrongly, requests, requests_of, steps, mounts, by_answer, accepted}
use Rattle.refuted.specs.WrongEditions.{InHeld, held_of, on_board, with_edition}

-- ---- the places

-- the same record with other places; a step's outcome with them
abbrev pub with_places : List ℕ → Record → Record
with_places ps r =
    record {
      phase = r.phase;
      rest = r.rest;
      places = ps;
      job = r.job;
      cursor = r.cursor;
      unit = r.unit;
      frame = r.frame;
    }

abbrev pub placing : List ℕ → Out → Out
placing ps o = accepted o (out o.answer o.image (with_places ps o.board) o.reply)

-- "where replay finds its settled value": where it stood before the transfer
unfoldable pub places_stay : Wrongly
places_stay = steps (λ N img r o. placing r.places o)

-- the same of a convert's transfer alone: by the frames of edition 1
unfoldable pub convert_stays : Wrongly
convert_stays = steps (λ N img r o. cond (eqb r.job.edition r.rest.edition) o (placing r.places o))

-- a put was copied, and the record places it
abbrev pub places_put : Record → Record → Bool
places_put r q = cond (same_bytes_of r.places q.places) false (eqb (get_or q.unit kind_at 0) 1)

-- "where replay finds its settled value": of a put that is copied and then committed, where it stood before the transfer
unfoldable pub put_stays : Wrongly
put_stays =
    steps
    (λ N img r o.
    let q : Record = o.board in
    let c : Cursor = q.cursor in
    cond (places_put r q) (placing (set r.places (get_or q.unit (body_at + 1) 0) (c.source - c.size)) o) o)

-- those before for ids that have none
abbrev pub or_before : List ℕ → List ℕ → List ℕ
or_before [] qs = []
or_before (p ∷ ps) [] = p ∷ ps
or_before (p ∷ ps) (q ∷ qs) = cond (eqb p 0) q p ∷ or_before ps qs

-- "or that there is none": a deleted value's stays when the delete is committed
unfoldable pub delete_stays : Wrongly
delete_stays = requests_of 0x0103 (λ N img r h m reply o. on_board (with_places (or_before o.board.places r.places)) o)

-- as if other frames were appended; with a transfer all is right
abbrev pub placed_by : List Frame → InHeld
placed_by fs a x o = cond o.board.job.moves o (on_board (with_places (places_of x.edition (x.frames ++ fs))) o)

-- "abort empties it": the places are those of a commit
unfoldable pub abort_places : Wrongly
abort_places = held_of 0x0104 (λ a x o. placed_by (commit a.host ∷ []) a x o)

abbrev pub every_commit : List Frame
every_commit = commit (host_of 0) ∷ commit (host_of 1) ∷ commit (host_of 2) ∷ commit (host_of 3) ∷ []

-- "commit applies that list", its host's: the places have every host's
unfoldable pub places_others : Wrongly
places_others = held_of 0x0103 (placed_by every_commit)

-- what is pending taken for settled
abbrev pub places_found : List Store → List ℕ
places_found [] = no_places
places_found (x ∷ xs) = let j : Journal = (newest x xs).journal in places_of j.edition (j.frames ++ every_commit)

-- "A mount drops all pending changes": their places stay, where it makes no transfer
unfoldable pub mount_places : Wrongly
mount_places = mounts (λ N img o. cond o.board.job.moves o (on_board (with_places (places_found (stores (all_found N img)))) o))

-- ---- reads

-- the number that a request gets
abbrev pub gets : ℕ → Out → Bool
gets n o = eqb (edge_number o.answer) n

-- a put's value at a place, by the byte there
abbrev pub unlooked : Asking → ℕ → Out
unlooked a p =
    let at : ℕ = a.board.rest.block * size_for a + p in
    done_at a a.reply (record { at = at + put_value_at; size = get_or a.image at 0 - put_len (reads_in a.board) 0 })

-- "11 .. exactly if .. the recorded place holds no legal put or settled frame of that id": whatever stands there is taken for a put of it
unfoldable pub trusts_place : Wrongly
trusts_place =
    requests_of 0x0105
    (λ N img r h m reply o.
    cond (gets 11 o && same_shape N (length img) r) (unlooked (asking N img r h m reply) (get_or r.places (id_in m).0 0)) o)

-- the same record for an image of another length
abbrev pub with_length : ℕ → Record → Record
with_length n r =
    let z : Rest = r.rest in
    record {
      phase = r.phase;
      rest = record { blocks = z.blocks; last = n - 1; block = z.block; end = z.end; pending = z.pending; edition = z.edition };
      places = r.places;
      job = r.job;
      cursor = r.cursor;
      unit = r.unit;
      frame = r.frame;
    }

-- a read under another record, which stays as it was
abbrev pub reads_under : (ℕ → List ℕ → Record → Record) → Wrongly
reads_under f =
    requests_of 0x0105
    (λ N img r h m reply o.
    let y : Out = exec N img (f N img r) (request h m reply) in
    record { answer = y.answer; image = img; board = r; reply = reply; stretch = y.stretch })

-- "exactly if the length differs": the image's is taken, whatever the record says
unfoldable pub reads_any_length : Wrongly
reads_any_length = reads_under (λ N img r. with_length (length img) r)

-- K9, "The record carries the edition by which a read goes": it goes by the header's
unfoldable pub reads_by_header : Wrongly
reads_by_header = reads_under (λ N img r. with_edition (edition_number (edition_in (block (size_of N img) r.rest.block img))) r)

-- "exactly if": for all that 11 covers of other requests too
unfoldable pub reads_afresh : Wrongly
reads_afresh =
    requests_of 0x0105
    (λ N img r h m reply o. cond ((gets 0 o || gets 8 o) && is_none (held N img r)) (refuse refusal.Stale img r reply) o)

-- "11, after 1": before it, as other requests get it
unfoldable pub stale_first : Wrongly
stale_first = requests_of 0x0105 (λ N img r h m reply o. cond (gets 1 o && is_none (held N img r)) (refuse refusal.Stale img r reply) o)

-- "and before 8": after it
unfoldable pub none_first_of : Wrongly
none_first_of =
    requests_of 0x0105
    (λ N img r h m reply o. cond (gets 11 o && eqb (get_or r.places (id_in m).0 0) 0) (refuse refusal.NoObject img r reply) o)

-- ---- other requests

-- "all others still check all of 11, now the places too": the image's are taken, whatever the record says
unfoldable pub skips_places : Wrongly
skips_places =
    requests
    (λ N img r h m reply o.
    let b : BlockState = block_state (block (size_of N img) r.rest.block img) in
    let y : Out = exec N img (with_places (places_of (edition_of b) (frames_in b)) r) (request h m reply) in
    let z : Out = out y.answer img r y.reply in cond (of_read_kind m) o (by_answer y.answer z y z))
