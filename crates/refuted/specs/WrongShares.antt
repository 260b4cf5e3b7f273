-- Wrong stores of document 02, K7: refusal 12 and each host's pending bytes. As in Wrong each differs from the machine in one thing, off the
-- bench. The runs that tell are in WrongRuns.
use Rattle.std.specs.Prelude.{List, [], ◌∷◌, ◌++◌, map, Bool, true, false, ◌&&◌, ◌||◌, cond, ℕ, ◌+◌, ◌*◌, ◌/◌, eqb, ltb, leb, length, Some, None}
use Rattle.std.proofs.Math.Option.{Option, none, some}
use Rattle.flash.specs.Flash.{block, size_of}
use Rattle.frame.specs.declared.Edition.{Edition}
use Rattle.frame.specs.Frame.{Change, put, delete, change, total}
use Rattle.journal.specs.Replay.{State, entry, list_of, pending_frame}
use Rattle.journal.specs.Block.{Journal, BlockState, block_state, edition_of, frames_in}
use Rattle.journal.specs.Room.{pending_for, pending_of, no_room_of, host_full}
use Rattle.wire.specs.declared.Refusal.TheVariants as refusal
use Rattle.wire.specs.declared.Request.TheVariants.{Put, Delete, Commit, Abort, Read, Log, Convert}
use Rattle.wire.specs.Message.{Parsed, parse, value_in_of}
use Rattle.wire.specs.declared.Answer.TheVariants.{More}
use Rattle.wire.specs.Answer.{edge_number}
use Rattle.board.specs.declared.Record.{Record}
use Rattle.board.specs.Record.{zero_each, counting, Out, out}
use Rattle.board.specs.Mount.{all_found, Store, stores, newest, replay_of, counts_of}
use Rattle.board.specs.Queue.{Asking, asking, size_for, held_for, refuse_to, append}
use Rattle.board.specs.Exec.{request, exec}
use Rattle.refuted.specs.Wrong.{Wrongly, requests, requests_of, mounts, by_answer}

-- ---- 12

-- what a put or delete gets that nothing before 12 refuses: the machine answers more, 12, 7 or 6
abbrev pub Serving : Type 0
Serving = Asking → Journal → Change → Out

abbrev pub is_judged : ℕ → Bool
is_judged n = eqb n 255 || (eqb n 12 || (eqb n 7 || eqb n 6))

abbrev pub where_change : Serving → Asking → Out → Journal → Parsed → Out
where_change s a o x (Some (Put i)) = s a x (put i (value_in_of a.message))
where_change s a o x (Some (Delete i)) = s a x (delete i)
where_change s a o x (Some Commit) = o
where_change s a o x (Some Abort) = o
where_change s a o x (Some (Read i)) = o
where_change s a o x (Some (Log p)) = o
where_change s a o x (Some Convert) = o
where_change s a o x None = o

abbrev pub where_held : Serving → Asking → Out → Option Journal → Out
where_held s a o none = o
where_held s a o (some x) = where_change s a o x (parse a.message)

abbrev pub changes : Serving → Wrongly
changes s =
    requests
    (λ N img r h m reply o.
    let a : Asking = asking N img r h m reply in cond (is_judged (edge_number o.answer)) (where_held s a o (held_for a)) o)

-- 12 by a test, else what comes after it; 7, else what comes after it; a frame, or 6
abbrev pub full_or : Bool → Asking → Out → Out
full_or b a o = cond b (refuse_to a refusal.HostFull) o

abbrev pub room_or : Asking → Journal → Change → Out → Out
room_or a x c o = cond (no_room_of x.edition (size_for a) (replay_of x) a.host c) (refuse_to a refusal.NoRoom) o

abbrev pub appends : Serving
appends a x c = append a x (change a.host c)

-- a store whose 12 goes by another test
abbrev pub full_by : (Asking → Edition → State → Change → Bool) → Wrongly
full_by test = changes (λ a x c. full_or (test a x.edition (replay_of x) c) a (room_or a x c (appends a x c)))

-- "more than S/2 bytes": S/2 bytes too
unfoldable pub full_at_half : Wrongly
full_at_half = full_by (λ a ed s c. leb (size_for a) (2 * pending_for ed a.host (s.pending ++ (entry a.host c ∷ []))))

-- "that host's pending frames": those of all hosts
unfoldable pub full_by_all : Wrongly
full_by_all = full_by (λ a ed s c. ltb (size_for a) (2 * total ed (map pending_frame (s.pending ++ (entry a.host c ∷ [])))))

abbrev pub value_len_of : Change → ℕ
value_len_of (put i v) = length v
value_len_of (delete i) = 0

abbrev pub value_bytes : List Change → ℕ
value_bytes [] = 0
value_bytes (c ∷ cs) = value_len_of c + value_bytes cs

-- "frames": their values' bytes alone
unfoldable pub full_by_values : Wrongly
full_by_values = full_by (λ a ed s c. ltb (size_for a) (2 * value_bytes (list_of a.host (s.pending ++ (entry a.host c ∷ [])))))

-- "S/2": half of the image's length; a quarter of it, as if every image had two blocks
unfoldable pub full_by_image : Wrongly
full_by_image = full_by (λ a ed s c. host_full ed (length a.image) s a.host c)

unfoldable pub full_by_two : Wrongly
full_by_two = full_by (λ a ed s c. host_full ed (length a.image / 2) s a.host c)

abbrev pub is_put : Change → Bool
is_put (put i v) = true
is_put (delete i) = false

-- "Refuse a put or delete": a put alone
unfoldable pub deletes_pass : Wrongly
deletes_pass = full_by (λ a ed s c. is_put c && host_full ed (size_for a) s a.host c)

-- "a new 12, before 7": after it
unfoldable pub room_first : Wrongly
room_first = changes (λ a x c. room_or a x c (full_or (host_full x.edition (size_for a) (replay_of x) a.host c) a (appends a x c)))

-- ---- each host's pending bytes

-- the same record with other counts; the same outcome with other counts in its job's record
abbrev pub with_counts : List ℕ → Record → Record
with_counts ps r =
    record {
      phase = r.phase;
      rest = counting r.rest ps;
      places = r.places;
      job = r.job;
      cursor = r.cursor;
      unit = r.unit;
      frame = r.frame;
    }

abbrev pub on_counts : List ℕ → Out → Out
on_counts ps o = by_answer o.answer o (out More o.image (with_counts ps o.board) o.reply) o

-- "each host's pending bytes as replay gives them": an abort keeps them
unfoldable pub abort_keeps : Wrongly
abort_keeps = requests_of 0x0104 (λ N img r h m reply o. on_counts r.rest.pending o)

-- a transfer clears them, though it copies the pending frames
unfoldable pub transfer_clears : Wrongly
transfer_clears = requests (λ N img r h m reply o. cond o.board.job.moves (on_counts zero_each o) o)

-- a mount keeps them, though it drops what is pending
abbrev pub counts_found : List Store → List ℕ
counts_found [] = zero_each
counts_found (x ∷ xs) = counts_of (newest x xs).journal

unfoldable pub mount_keeps : Wrongly
mount_keeps = mounts (λ N img o. on_counts (counts_found (stores (all_found N img))) o)

-- "refusal 11 covers any other": the image's are taken, whatever the record says
unfoldable pub takes_any_counts : Wrongly
takes_any_counts =
    requests
    (λ N img r h m reply o.
    let b : BlockState = block_state (block (size_of N img) r.rest.block img) in
    let ps : List ℕ = pending_of (edition_of b) (frames_in b) in
    let y : Out = exec N img (with_counts ps r) (request h m reply) in
    by_answer o.answer o o (by_answer y.answer y y o))
