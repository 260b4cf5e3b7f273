-- Wrong stores of document 02, K9: the second edition, its CRC and converts. As in Wrong each differs from the machine in one thing, off the
-- bench. The runs that tell are in EditionRuns.
use Rattle.std.specs.Prelude.{List, [], ◌∷◌, ◌++◌, map, reverse, ◌&&◌, cond, ℕ, zero, suc, ◌+◌, ◌*◌, ◌-◌, eqb, ltb, leb, length, take, drop, get_or, set}
use Rattle.std.proofs.Math.Option.{Option, none, some}
use Rattle.flash.specs.Bytes.{u32le}
use Rattle.flash.specs.Flash.{block_numbers, block, size_of}
use Rattle.crc.specs.Crc.{crc32_of}
use Rattle.frame.specs.declared.Edition.{Edition}
use Rattle.frame.specs.declared.Edition.TheVariants as edition
use Rattle.frame.specs.declared.Host.{Host}
use Rattle.frame.specs.declared.Field.TheVariants as field
use Rattle.frame.specs.Frame.{id_of, edition_number, Change, put, delete, Frame, change, finish, frame_len, encode, body_at, put_len, buffer}
use Rattle.frame.specs.Frame.{end_len, max_frame, kind_at}
use Rattle.frame.specs.Reader.{fault, Tail, clean, cut, bad}
use Rattle.journal.specs.Replay.{State, entry, is_open_of}
use Rattle.journal.specs.Block.{Journal, BlockState, blank, in_progress, valid, foreign, block_state, header_len, edition_in, edition_of}
use Rattle.journal.specs.Room.{open_hosts, used, claimed, pending_of, host_full}
use Rattle.wire.specs.declared.Answer.TheVariants.{More}
use Rattle.wire.specs.declared.Refusal.TheVariants as refusal
use Rattle.wire.specs.Answer.{edge_number}
use Rattle.wire.specs.Message.{word_at, value_in_of, log_page, with_page}
use Rattle.board.specs.declared.Stage.TheVariants.{Open}
use Rattle.board.specs.declared.Job.{Job}
use Rattle.board.specs.declared.Cursor.{Cursor}
use Rattle.board.specs.declared.Record.{Record}
use Rattle.board.specs.Record.{allowed, unmounted, counting, landing, cursor, no_stretch, Out, out}
use Rattle.board.specs.Step.{begin}
use Rattle.board.specs.Mount.{Found, all_found, Store, stores, newest, equal_times, mount_at, mount_found, replay_of, end_of}
use Rattle.board.specs.Queue.{Asking, asking, size_for, held_for, refuse_to, done_at, convert_job, convert, convert_with}
use Rattle.board.specs.Exec.{request, mount, exec}
use Rattle.board.specs.declared.Phase.TheVariants.{Busy}
use Rattle.refuted.specs.Wrong.{Wrongly, requests, requests_of, steps, by_stage, mounts, formats, by_answer, accepted, on_image, job_with, on_job}
use Rattle.refuted.specs.WrongShares.{changes, full_or, full_by, appends}

-- ---- converts

-- in requests of one kind alone, where the image read afresh holds a journal
abbrev pub InHeld : Type 0
InHeld = Asking → Journal → Out → Out

abbrev pub on_held : InHeld → Asking → Out → Option Journal → Out
on_held w a o none = o
on_held w a o (some x) = w a x o

abbrev pub held_of : ℕ → InHeld → Wrongly
held_of k w = requests_of k (λ N img r h m reply o. let a : Asking = asking N img r h m reply in on_held w a o (held_for a))

-- "16 if anything is pending": of the asking host alone
unfoldable pub pending_alone : Wrongly
pending_alone =
    held_of 0x0108
    (λ a x o. cond (eqb (edge_number o.answer) 16) (cond (is_open_of a.host (replay_of x).pending) o (convert_with a x [])) o)

-- "16 if anything is pending": in edition 1 alone
unfoldable pub pending_in_first : Wrongly
pending_in_first =
    held_of 0x0108
    (λ a x o. cond (eqb (edge_number o.answer) 16 && eqb (edition_number x.edition) 2) (done_at a a.reply no_stretch) o)

-- "16 .., then 7": 7 before 16
unfoldable pub room_before_pending : Wrongly
room_before_pending =
    held_of 0x0108
    (λ a x o. cond (eqb (edge_number o.answer) 16 && ltb (size_for a) (used edition.Second (replay_of x))) (refuse_to a refusal.NoRoom) o)

-- "(0x0108, no body)": with any
unfoldable pub any_body : Wrongly
any_body =
    requests_of 0x0108
    (λ N img r h m reply o.
    cond (eqb (edge_number o.answer) 1) (exec N img r (request h (0x04 ∷ 0x00 ∷ 0x08 ∷ 0x01 ∷ []) reply)) o)

-- "7 exactly if U in edition 2 exceeds S": U in edition 1
unfoldable pub room_by_first : Wrongly
room_by_first =
    held_of 0x0108
    (λ a x o.
    cond (eqb (edge_number o.answer) 7 && leb (used edition.First (replay_of x)) (size_for a)) (convert a x x.edition) o)

-- "7 exactly if U in edition 2 exceeds S": U and what a delete and its commit need
unfoldable pub with_reserve : Wrongly
with_reserve =
    held_of 0x0108 (λ a x o. accepted o (cond (ltb (size_for a) (used edition.Second (replay_of x) + 22)) (refuse_to a refusal.NoRoom) o))

-- 6: "a transfer is needed .. at time 4,294,967,295": a convert's is made
unfoldable pub converts_worn : Wrongly
converts_worn =
    held_of 0x0108
    (λ a x o.
    cond (eqb (edge_number o.answer) 6) (begin a.image a.reply (convert_job a.blocks a.image a.board x)) o)

-- "or 0 steps do if it is there": a transfer, as from edition 1
unfoldable pub converts_again : Wrongly
converts_again = held_of 0x0108 (λ a x o. accepted o (convert a x edition.First))

-- a job that copies from id 1 on
abbrev pub from_one_of : Record → Record
from_one_of r =
    let c : Cursor = r.cursor in
    record {
      phase = Busy Open;
      rest = r.rest;
      places = set r.places 0 0;
      job = r.job;
      cursor = cursor c.index c.at 1 c.source c.size c.off;
      unit = r.unit;
      frame = r.frame;
    }

abbrev pub on_board : (Record → Record) → Out → Out
on_board f o = by_answer o.answer o (out More o.image (f o.board) o.reply) o

-- "a transfer takes the store to edition 2": all of it except object 0
unfoldable pub drops_first : Wrongly
drops_first = requests_of 0x0108 (λ N img r h m reply o. on_board from_one_of o)

-- ---- which edition

-- the same job with a frame of n bytes to append, making a block of an edition by its number
abbrev pub making : ℕ → ℕ → Job → Job
making n e j = job_with j j.wipes j.target n e

-- the same job with its frame to append, and the block that is made, in edition 1
abbrev pub in_first : Journal → Frame → Record → Record
in_first x f r =
    record {
      phase = r.phase;
      rest = counting r.rest (pending_of edition.First (x.frames ++ (f ∷ [])));
      places = r.places;
      job = making (frame_len edition.First f) 1 r.job;
      cursor = r.cursor;
      unit = r.unit;
      frame = buffer (encode edition.First f);
    }

-- "other transfers keep theirs": a put's makes a block of edition 1
unfoldable pub falls_back : Wrongly
falls_back =
    held_of 0x0101
    (λ a x o.
    let f : Frame = change a.host (put (id_of (word_at a.message 4)) (value_in_of a.message)) in
    cond o.board.job.moves (on_board (in_first x f) o) o)

-- "other transfers keep theirs": a mount's makes a block of edition 1
unfoldable pub mount_falls_back : Wrongly
mount_falls_back = mounts (λ N img o. on_job (λ r. making r.job.size 1 r.job) o)

-- the number of the current block's edition; 1 where there is none
abbrev pub edition_found : List Store → ℕ
edition_found [] = 1
edition_found (x ∷ xs) = edition_number (newest x xs).journal.edition

abbrev pub edition_now : ℕ → List ℕ → ℕ
edition_now N img = edition_found (stores (all_found N img))

-- "format writes edition 1": the edition that stands there
unfoldable pub format_keeps : Wrongly
format_keeps = formats (λ N img o. on_job (λ r. making r.job.size (edition_now N img) r.job) o)

-- a block of edition 2 as the store before K9 sees it
abbrev pub seen_before : Edition → BlockState → BlockState
seen_before edition.First b = b
seen_before edition.Second b = foreign (fault field.Kind kind_at)

-- a mount that sees its blocks otherwise
abbrev pub seen_as : (BlockState → BlockState) → Found → Found
seen_as f x = record { number = x.number; state = f x.state }

abbrev pub mounts_seeing : (BlockState → BlockState) → Wrongly
mounts_seeing f = mounts (λ N img o. cond (allowed N (length img)) (mount_found N img (map (seen_as f) (all_found N img))) o)

-- "In edition 2 the header kind is 0x4A02": a mount takes such a block for foreign, as the store before did
unfoldable pub second_foreign : Wrongly
second_foreign = mounts_seeing (λ b. seen_before (edition_of b) b)

-- two valid halves of one time, in place of 3: the one of the later edition
abbrev pub later_of : ℕ → List ℕ → Out → List Store → Out
later_of N img o [] = o
later_of N img o (x ∷ []) = o
later_of N img o (x ∷ y ∷ ys) =
    let n : ℕ = edition_number x.journal.edition in
    let k : ℕ = edition_number y.journal.edition in
    cond (ltb n k) (mount_at N img (all_found N img) y) (cond (ltb k n) (mount_at N img (all_found N img) x) o)

-- 3: "two valid halves of equal time": of one edition alone
unfoldable pub later_edition : Wrongly
later_edition =
    mounts
    (λ N img o. let xs : List Store = stores (all_found N img) in cond (eqb (edge_number o.answer) 3 && equal_times xs) (later_of N img o xs) o)

-- the same record with another edition
abbrev pub with_edition : ℕ → Record → Record
with_edition n r =
    record {
      phase = r.phase;
      rest = landing r.rest n r.rest.block r.rest.end;
      places = r.places;
      job = r.job;
      cursor = r.cursor;
      unit = r.unit;
      frame = r.frame;
    }

-- "The record carries the edition": it stays what it was when a transfer ends
unfoldable pub record_keeps : Wrongly
record_keeps =
    steps
    (λ N img r o. by_stage r.phase o (out o.answer o.image (with_edition r.rest.edition o.board) o.reply) o o)

-- "11 covers any other": the image's is taken, whatever the record says
unfoldable pub takes_any_edition : Wrongly
takes_any_edition =
    requests
    (λ N img r h m reply o.
    let n : ℕ = edition_number (edition_of (block_state (block (size_of N img) r.rest.block img))) in
    let y : Out = exec N img (with_edition n r) (request h m reply) in
    by_answer o.answer o o (by_answer y.answer y y o))

-- ---- the CRC

-- the frame to append with another check
abbrev pub checked_by : (List ℕ → List ℕ) → Record → Record
checked_by k r =
    let front : List ℕ = take (r.job.size - 5) r.frame in
    record {
      phase = r.phase;
      rest = r.rest;
      places = r.places;
      job = r.job;
      cursor = r.cursor;
      unit = r.unit;
      frame = buffer (front ++ (k front ++ (finish ∷ [])));
    }

abbrev pub checks : (List ℕ → List ℕ) → Wrongly
checks k =
    requests (λ N img r h m reply o. cond (eqb o.board.job.edition 2 && ltb 0 o.board.job.size) (on_board (checked_by k) o) o)

-- "over all that precedes them in the frame": over the body alone
unfoldable pub crc_of_body : Wrongly
crc_of_body = checks (λ t. u32le (crc32_of (drop body_at t)))

-- every number has its low byte first: the CRC its high byte
unfoldable pub crc_big_endian : Wrongly
crc_big_endian = checks (λ t. reverse (u32le (crc32_of t)))

-- frames with the CRC that they should have, at most n of them
abbrev pub resealed : ℕ → List ℕ → List ℕ
resealed zero t = t
resealed (suc n) t =
    let l : ℕ = get_or t 0 0 in
    let front : List ℕ = take (l - 5) t in
    cond (leb (end_len edition.Second) l && (leb l (max_frame edition.Second) && leb l (length t)))
    (front ++ (u32le (crc32_of front) ++ (get_or t (l - 1) 0 ∷ resealed n (drop l t)))) t

abbrev pub resealed_in : Edition → List ℕ → List ℕ
resealed_in edition.First b = b
resealed_in edition.Second b = take header_len b ++ resealed (length b) (drop header_len b)

abbrev pub joined : List (List ℕ) → List ℕ
joined [] = []
joined (b ∷ bs) = b ++ joined bs

-- every block of an image so
abbrev pub resealed_image : ℕ → List ℕ → List ℕ
resealed_image N img =
    joined (map (λ k. let b : List ℕ = block (size_of N img) k img in resealed_in (edition_in b) b) (block_numbers N))

-- "A frame with a wrong CRC isn't legal": a mount takes it for one
unfoldable pub ignores_crc : Wrongly
ignores_crc = mounts (λ N img o. cond (allowed N (length img)) (on_image img (exec N (resealed_image N img) unmounted mount)) o)

-- a torn frame's CRC is wrong
abbrev pub torn_seen : Journal → Tail → BlockState
torn_seen x clean = valid x
torn_seen x (cut n) = foreign (fault field.Crc (end_of x + n - 5))
torn_seen x (bad e) = valid x

abbrev pub torn_in : Edition → Journal → BlockState
torn_in edition.First x = valid x
torn_in edition.Second x = torn_seen x x.tail

abbrev pub strictly : BlockState → BlockState
strictly blank = blank
strictly in_progress = in_progress
strictly (valid x) = torn_in x.edition x
strictly (foreign e) = foreign e

-- "A frame with a wrong CRC isn't legal": a mount takes a torn one for foreign
unfoldable pub torn_foreign : Wrongly
torn_foreign = mounts_seeing strictly

-- ---- room and U

-- C + n + 6·open + 14 for a put, C + 8 + 6·open for a delete
abbrev pub needs_before : Edition → State → Host → Change → ℕ
needs_before ed s h (put i v) = claimed ed s + put_len ed (length v) + 6 * open_hosts (s.pending ++ (entry h (put i v) ∷ [])) + 14
needs_before ed s h (delete i) = claimed ed s + 8 + 6 * open_hosts (s.pending ++ (entry h (delete i) ∷ []))

-- "12 for the delete, 10 for each 6 and 22 for 14": 8, 6 and 14 in edition 2 too
unfoldable pub room_as_before : Wrongly
room_as_before =
    changes
    (λ a x c.
    full_or (host_full x.edition (size_for a) (replay_of x) a.host c) a
    (cond (ltb (size_for a) (needs_before x.edition (replay_of x) a.host c)) (refuse_to a refusal.NoRoom) (appends a x c)))

-- K7, "pending frames would come to more than S/2 bytes": by their lengths in edition 1
unfoldable pub full_by_first : Wrongly
full_by_first = full_by (λ a ed s c. host_full edition.First (size_for a) s a.host c)

-- "U is 16 plus the length of one settled frame for each settled object": log has it by edition 1
unfoldable pub logs_by_first : Wrongly
logs_by_first =
    held_of 0x0106
    (λ a x o.
    let page : List ℕ = log_page x.time (length (replay_of x).objects) (used edition.First (replay_of x)) (size_for a) in
    by_answer o.answer (done_at a (with_page page a.reply) no_stretch) o o)
