-- Wrong stores. Each differs from the machine in one thing, and only on images that the bench doesn't have, so that no row
-- sees it. None keeps the promise: page Refuted. The runs that tell are in WrongRuns.
use Rattle.std.specs.Prelude.{List, [], ◌∷◌, ◌++◌, Bool, ◌&&◌, ◌||◌, cond, ℕ, suc, ◌+◌, ◌-◌, ◌%◌, eqb, ltb, leb, length, take, drop, get_or, set, replicate}
use Rattle.flash.specs.Bytes.{same_bytes_of}
use Rattle.flash.specs.Flash.{program, erase, apply, apply_all, block, block_numbers, size_of, writes}
use Rattle.frame.specs.declared.Host.{Host}
use Rattle.frame.specs.declared.Field.TheVariants as field
use Rattle.frame.specs.Frame.{host_max, host_of, encode_all}
use Rattle.frame.specs.Reader.{fault}
use Rattle.journal.specs.Block.{state_at, valid_data, created_at, mark_writes}
use Rattle.wire.specs.declared.Answer.{Answer}
use Rattle.wire.specs.declared.Answer.TheVariants.{Done, More, Refused}
use Rattle.wire.specs.declared.Refusal.TheVariants as refusal
use Rattle.wire.specs.Message.{word_at}
use Rattle.board.specs.declared.Stage.TheVariants.{Wipe, Open, Copy, Seal, Drop, Append, Close}
use Rattle.board.specs.declared.Phase.{Phase}
use Rattle.board.specs.declared.Phase.TheVariants.{Unmounted, Idle, Busy}
use Rattle.board.specs.declared.Job.{Job}
use Rattle.board.specs.declared.Cursor.{Cursor}
use Rattle.board.specs.declared.Record.{Record}
use Rattle.board.specs.Record.{allowed, unmounted, counting, idle, cursor, in_stage, Stretch, Out, out, refuse, answer_of}
use Rattle.board.specs.Step.{begin}
use Rattle.board.specs.Mount.{all_found, any_foreign, Store, stores, newest, equal_times, none_valid, tied_times, store_at, mount_job, mount_at, numbers_but}
use Rattle.board.specs.Mount.{found, time_of, counts_of, upkeep, places_in}
use Rattle.board.specs.Queue.{held}
use Rattle.board.specs.Table.{is_none}
use Rattle.board.specs.Exec.{Call, request, step, mount, format, Family, exec}
use Rattle.board.specs.Plan.{on_block}

-- ---- how a store is made wrong

-- what a wrong store gives back, by the call and by what the machine gives
abbrev pub Wrongly : Type 0
Wrongly = ℕ → List ℕ → Record → Call → Out → Out

-- the bench's images have 512 bytes or fewer, or row o's 1,024
abbrev pub on_bench : ℕ → Bool
on_bench n = leb n 512 || eqb n 1024

-- on other images; on the bench's it is the machine
abbrev pub off_bench : Wrongly → Family
off_bench w N img r c = cond (on_bench (length img)) (exec N img r c) (w N img r c (exec N img r c))

-- in requests alone; in those of one kind alone; in steps, in mounts, in formats alone
abbrev pub InRequest : Type 0
InRequest = ℕ → List ℕ → Record → Host → List ℕ → List ℕ → Out → Out

abbrev pub requests : InRequest → Wrongly
requests w N img r (request h m reply) o = w N img r h m reply o
requests w N img r step o = o
requests w N img r mount o = o
requests w N img r format o = o

abbrev pub requests_of : ℕ → InRequest → Wrongly
requests_of k w = requests (λ N img r h m reply o. cond (eqb (word_at m 2) k) (w N img r h m reply o) o)

abbrev pub steps : (ℕ → List ℕ → Record → Out → Out) → Wrongly
steps w N img r (request h m reply) o = o
steps w N img r step o = w N img r o
steps w N img r mount o = o
steps w N img r format o = o

abbrev pub mounts : (ℕ → List ℕ → Out → Out) → Wrongly
mounts w N img r (request h m reply) o = o
mounts w N img r step o = o
mounts w N img r mount o = w N img o
mounts w N img r format o = o

abbrev pub formats : (ℕ → List ℕ → Out → Out) → Wrongly
formats w N img r (request h m reply) o = o
formats w N img r step o = o
formats w N img r mount o = o
formats w N img r format o = w N img o

-- one of three, by what the machine answers: 0, more, or a refusal
abbrev pub by_answer : Answer → Out → Out → Out → Out
by_answer Done x y z = x
by_answer More x y z = y
by_answer (Refused n) x y z = z

-- in place of what the machine doesn't refuse
abbrev pub accepted : Out → Out → Out
accepted o x = by_answer o.answer x x o

-- ---- refusals

-- "a store that refuses everything": all but a format, which row p asks for at 768 bytes
unfoldable pub refuses_all : Wrongly
refuses_all N img r (request h m reply) o = refuse refusal.NoStore img r reply
refuses_all N img r step o = refuse refusal.Stale img r []
refuses_all N img r mount o = refuse refusal.NoStore img unmounted []
refuses_all N img r format o = o

-- 7: "the room rule": given to every put
unfoldable pub refuses_puts : Wrongly
refuses_puts = requests_of 0x0101 (λ N img r h m reply o. accepted o (refuse refusal.NoRoom img r reply))

-- "Object ids 0 to 255": those above 127 get 1
unfoldable pub refuses_high_ids : Wrongly
refuses_high_ids =
    requests (λ N img r h m reply o. accepted o (cond (ltb 127 (get_or m 4 0)) (refuse refusal.Malformed img r reply) o))

-- 11: "its length differs, or the image read afresh isn't: ..": given for a half that no format made, since its time isn't 1
unfoldable pub own_formats_only : Wrongly
own_formats_only =
    requests
    (λ N img r h m reply o. accepted o (cond (eqb (created_at (block (size_of N img) r.rest.block img)) 1) o (refuse refusal.Stale img r reply)))

-- 11: "recorded half valid": given for the second half too
unfoldable pub first_half_only : Wrongly
first_half_only = requests (λ N img r h m reply o. accepted o (cond (eqb r.rest.block 0) o (refuse refusal.Stale img r reply)))

-- "Checked in this order": 10 before 4
unfoldable pub host_first : Wrongly
host_first = requests (λ N img r h m reply o. cond (ltb host_max h.0) (refuse refusal.HostRange img r reply) o)

-- "Every refusal .. changes no byte of image, reply or record"
unfoldable pub refusal_clears : Wrongly
refusal_clears = requests (λ N img r h m reply o. by_answer o.answer o o (out o.answer img r []))

-- "Nothing else writes to the reply": a refused log does
unfoldable pub refused_log_writes : Wrongly
refused_log_writes =
    requests_of 0x0106 (λ N img r h m reply o. by_answer o.answer o o (out o.answer img r (replicate (length reply) 0)))

-- ---- reads and log pages

-- "one that answers every read alike": 8
unfoldable pub reads_alike : Wrongly
reads_alike = requests_of 0x0105 (λ N img r h m reply o. accepted o (refuse refusal.NoObject img r reply))

-- "one that reports an invented settled count": 7
unfoldable pub invents_count : Wrongly
invents_count = requests_of 0x0106 (λ N img r h m reply o. accepted o (out Done img r (set o.reply 8 7)))

-- ---- changes

-- done at once, with no frame
abbrev pub at_once : InRequest
at_once N img r h m reply o = by_answer o.answer o (out Done img r reply) o

-- "Put, delete, commit, abort: one frame of n bytes": a commit has none
unfoldable pub never_commits : Wrongly
never_commits = requests_of 0x0103 at_once

-- "abort empties it": the changes stay
unfoldable pub aborts_nothing : Wrongly
aborts_nothing = requests_of 0x0104 at_once

-- "commit applies that list", its host's: where that is empty it applies host 2's
unfoldable pub takes_others : Wrongly
takes_others = requests_of 0x0103 (λ N img r h m reply o. by_answer o.answer (exec N img r (request (host_of 2) m reply)) o o)

-- what a read of a put's object finds
abbrev pub old_value : ℕ → List ℕ → Record → Host → List ℕ → List ℕ
old_value N img r h m =
    let s : Stretch = (exec N img r (request h (0x06 ∷ 0x00 ∷ 0x05 ∷ 0x01 ∷ take 2 (drop 4 m)) [])).stretch in
    take s.size (drop s.at img)

-- a put with another value that is as long
abbrev pub with_value : List ℕ → List ℕ → List ℕ
with_value m v = cond (eqb (6 + length v) (length m)) (take 6 m ++ v) m

-- "Accepted put or delete: it joins the end of its host's list": the object's old value does
unfoldable pub keeps_old : Wrongly
keeps_old = requests_of 0x0101 (λ N img r h m reply o. exec N img r (request h (with_value m (old_value N img r h m)) reply))

-- ---- steps

-- one of four, by the stage that a job is in: Seal, Drop, Append, any other
abbrev pub by_stage : Phase → Out → Out → Out → Out → Out
by_stage Unmounted x y z o = o
by_stage Idle x y z o = o
by_stage (Busy Wipe) x y z o = o
by_stage (Busy Open) x y z o = o
by_stage (Busy Copy) x y z o = o
by_stage (Busy Seal) x y z o = x
by_stage (Busy Drop) x y z o = y
by_stage (Busy Append) x y z o = z
by_stage (Busy Close) x y z o = o

-- the step's outcome, but for the image
abbrev pub on_image : List ℕ → Out → Out
on_image img o = out o.answer img o.board o.reply

-- "one that programs nothing"
unfoldable pub programs_nothing : Wrongly
programs_nothing = steps (λ N img r o. on_image img o)

-- all of a job's frame programmed
abbrev pub framed : ℕ → List ℕ → Record → List ℕ
framed N img r = apply_all (size_of N img) (on_block r.rest.block (writes r.rest.end (take r.job.size r.frame))) img

-- "one that programs a whole frame in the first step and idles after": to program a byte again changes nothing
unfoldable pub whole_frame : Wrongly
whole_frame = steps (λ N img r o. by_stage r.phase o o (on_image (framed N img r) o) o)

-- "one that reports an invented settled count or step count": the last step is answered more the first time it is made
unfoldable pub invents_step : Wrongly
invents_step = steps (λ N img r o. by_answer o.answer (cond (same_bytes_of img o.image) o (out More o.image r [])) o o)

-- a step that does nothing but count
abbrev pub waited : Record → Record
waited r = let c : Cursor = r.cursor in in_stage Append (cursor c.index c.at (suc c.id) c.source c.size c.off) r

-- "No accepted request takes more flash steps than one block has bytes": one more, since a frame waits before its first byte
unfoldable pub waits_long : Wrongly
waits_long = steps (λ N img r o. by_stage r.phase o o (cond (leb (r.cursor.id + r.job.size) (size_of N img)) (out More img (waited r) []) o) o)

-- a transfer's last two steps: the new half says 0xFC, the old half is erased
abbrev pub says_valid : ℕ → List ℕ → Record → List ℕ
says_valid N img r = apply (size_of N img) (program r.job.target state_at valid_data) img

abbrev pub erased : ℕ → List ℕ → Record → List ℕ
erased N img r = apply (size_of N img) (erase r.rest.block) img

abbrev pub at_last : Record → Bool
at_last r = r.job.drops && eqb r.cursor.index (mark_writes - 1)

-- "Erasing the old half before the new one says 0xFC": the two change places
unfoldable pub erases_first : Wrongly
erases_first =
    steps (λ N img r o. by_stage r.phase (cond (at_last r) (on_image (erased N img r) o) o) (on_image (says_valid N img r) o) o o)

-- "in a job, 11 is given exactly if the image length isn't the record's or the job's next place lies outside it": 0 is given
unfoldable pub outside_is_done : Wrongly
outside_is_done = steps (λ N img r o. by_answer o.answer o o (out Done img r []))

-- "A record forged otherwise .. ends or gets 11 within 65,536 step calls": one past the longest stage stays as it is
unfoldable pub forged_waits : Wrongly
forged_waits = steps (λ N img r o. cond (ltb 99 r.cursor.index) (by_answer (answer_of r) o (out More img r []) o) o)

-- ---- mounts and formats

-- "It answers 0 with an idle record if the job has no steps, else more": 0 while the job is unfinished
unfoldable pub hurried_mount : Wrongly
hurried_mount = mounts (λ N img o. by_answer o.answer o (out Done img o.board []) o)

-- 2: "for mount, no valid half and none foreign": given after a cut that left a mount something to do, and ever after
unfoldable pub loses_all : Wrongly
loses_all = mounts (λ N img o. by_answer o.answer o (refuse refusal.NoStore img unmounted []) o)

-- a half that could be served as it is, with what is pending
abbrev pub as_it_is : ℕ → List ℕ → Out → List Store → Out
as_it_is N img o [] = o
as_it_is N img o (x ∷ []) =
    let r : Record = idle (places_in x.journal) (counting (store_at N (length img - 1) x) (counts_of x.journal)) in
    cond (is_none (held N img r)) o (out Done img r [])
as_it_is N img o (x ∷ y ∷ ys) = o

-- "A mount drops all pending changes, as a cut does"
unfoldable pub keeps_pending : Wrongly
keeps_pending = mounts (λ N img o. accepted o (as_it_is N img o (stores (all_found N img))))

-- two valid halves with the same frames
abbrev pub look_alike : List ℕ → Out → List Store → Out
look_alike img o [] = o
look_alike img o (x ∷ []) = o
look_alike img o (x ∷ y ∷ ys) =
    cond (same_bytes_of (encode_all x.journal.edition x.journal.frames) (encode_all y.journal.edition y.journal.frames))
    (refuse (tied_times 0) img unmounted []) o

-- 3: "two valid halves of equal time": given for equal content too
unfoldable pub refuses_alike : Wrongly
refuses_alike = mounts (λ N img o. accepted o (look_alike img o (stores (all_found N img))))

-- no valid half
abbrev pub as_empty : List ℕ → Out → List Store → Out
as_empty img o [] = refuse refusal.NoStore img unmounted []
as_empty img o (x ∷ xs) = o

-- 3, K4: "for no valid half with at least one foreign": a mount that doesn't look answers 2
unfoldable pub overlooks_foreign : Wrongly
overlooks_foreign = mounts (λ N img o. cond (allowed N (length img)) (as_empty img o (stores (all_found N img))) o)

-- the foreign half with the highest number
abbrev pub from_second : ℕ → List ℕ → Out → List Store → Out
from_second N img o [] = refuse (none_valid (found N img 1 ∷ found N img 0 ∷ [])) img unmounted []
from_second N img o (x ∷ xs) = o

-- 3, K5: "names the foreign half (0 first)": half 1 first
unfoldable pub names_second : Wrongly
names_second = mounts (λ N img o. cond (allowed N (length img)) (from_second N img o (stores (all_found N img))) o)

-- 3, K5: "equal times name half 0, place 4": the half's first byte
unfoldable pub ties_at_start : Wrongly
ties_at_start =
    mounts
    (λ N img o.
    cond (allowed N (length img) && equal_times (stores (all_found N img))) (refuse (refusal.Foreign 0 (fault field.Length 0)) img unmounted []) o)

-- K4: "Where one half is valid, the other, if foreign, is erased on mount": refused with 3, as before K4. In a run with no cut inside an erase
-- no half is foreign, and no call shows the difference
unfoldable pub refuses_half_erased : Wrongly
refuses_half_erased = mounts (λ N img o. accepted o (cond (any_foreign (all_found N img)) (refuse (tied_times 0) img unmounted []) o))

-- two valid halves: the second only if it is the next in time
abbrev pub next_in_time : ℕ → List ℕ → Out → List Store → Out
next_in_time N img o [] = o
next_in_time N img o (x ∷ []) = o
next_in_time N img o (x ∷ y ∷ ys) = mount_at N img (all_found N img) (cond (eqb (time_of y) (time_of x + 1)) y x)

-- K4: "its inverted time has only gained ones, so it never looks newer": a store that takes a half-erased half for the current one. In a
-- run with no cut inside an erase two valid halves follow each other in time, and no call shows the difference
unfoldable pub takes_half_erased : Wrongly
takes_half_erased = mounts (λ N img o. accepted o (next_in_time N img o (stores (all_found N img))))

-- "Accepting takes no step": a format erases at once
unfoldable pub formats_at_once : Wrongly
formats_at_once = formats (λ N img o. accepted o (on_image (replicate (length img) 0xFF) o))

-- K4: "Format now erases last the valid half": it goes by number, as on a blank image
unfoldable pub formats_blindly : Wrongly
formats_blindly = formats (λ N img o. accepted o (out o.answer img (exec N (replicate (length img) 0xFF) unmounted format).board []))

-- ---- more than two blocks

-- the same record with another job; the same outcome with the record changed
abbrev pub with_job : Job → Record → Record
with_job j r =
    record {
      phase = r.phase;
      rest = r.rest;
      places = r.places;
      job = j;
      cursor = r.cursor;
      unit = r.unit;
      frame = r.frame;
    }

abbrev pub on_job : (Record → Job) → Out → Out
on_job f o = by_answer o.answer o (out More o.image (with_job (f o.board) o.board) o.reply) o

-- the same job with other erases, another block to make, of an edition by its number, and another frame to append
abbrev pub job_with : Job → ℕ → ℕ → ℕ → ℕ → Job
job_with j wipes target size edition =
    record {
      wipe = j.wipe;
      wipes = wipes;
      moves = j.moves;
      drops = j.drops;
      target = target;
      time = j.time;
      since = j.since;
      size = size;
      edition = edition;
      closes = j.closes;
      close = j.close;
    }

-- K14: "A transfer goes to the next block in number, round to 0": back to block 0 each time
abbrev pub back_to_first : Record → Job
back_to_first r =
    let j : Job = r.job in job_with j j.wipes (cond (eqb r.rest.block 0) j.target 0) j.size j.edition

unfoldable pub goes_back_of : Wrongly
goes_back_of N img r (request h m reply) o = on_job back_to_first o
goes_back_of N img r step o = o
goes_back_of N img r mount o = on_job back_to_first o
goes_back_of N img r format o = o

-- K14: "mount erases every other that isn't blank": one of them
abbrev pub one_wipe : Record → Job
one_wipe r = let j : Job = r.job in job_with j (cond (ltb 1 j.wipes) 1 j.wipes) j.target j.size j.edition

unfoldable pub erases_one : Wrongly
erases_one = mounts (λ N img o. on_job one_wipe o)

-- K14: "mount erases every other that isn't blank": every other, so that blank blocks are erased once more at each mount
abbrev pub all_others : ℕ → List ℕ → Out → List Store → Out
all_others N img o [] = o
all_others N img o (x ∷ xs) =
    let y : Store = newest x xs in begin img [] (mount_job N img y (numbers_but y.number (block_numbers N)) (upkeep (size_of N img) y))

unfoldable pub erases_blank : Wrongly
erases_blank = mounts (λ N img o. accepted o (all_others N img o (stores (all_found N img))))

-- K14: "A record of another N gets 11, in a job's step too": a step goes by the record's
unfoldable pub ignores_count : Wrongly
ignores_count = steps (λ N img r o. exec r.rest.blocks img r step)

-- K14: "The image is N blocks": of an odd number the last is left out
unfoldable pub even_only : Wrongly
even_only N img r c o = cond (eqb (N % 2) 0) o (exec (N - 1) img r c)
