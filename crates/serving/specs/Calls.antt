-- What the requests do, by a survey of the current block and in the code's order of tests. proofs/ ties it to board's definitions.
use Rattle.std.specs.Prelude.{◌≡◌, Result, Ok, Err, List, Bool, true, ◌&&◌, ◌||◌, cond, ℕ, ◌+◌, ◌*◌, eqb, ltb, length, get_or, set, take}
use Rattle.frame.specs.declared.Edition.{Edition}
use Rattle.frame.specs.declared.Edition.TheVariants as edition
use Rattle.frame.specs.declared.Host.{Host}
use Rattle.frame.specs.Frame.{value_max, put, delete, Frame, change, commit, abort, frame_len, delete_len, end_len, encode, buffer, edition_number}
use Rattle.survey.specs.declared.Survey.{Survey}
use Rattle.survey.specs.Pass.{commit_in}
use Rattle.journal.specs.Block.{header_len, last_time}
use Rattle.journal.specs.Room.{one}
use Rattle.wire.specs.declared.Answer.{Answer}
use Rattle.wire.specs.declared.Answer.TheVariants.{Done, More, Refused}
use Rattle.wire.specs.declared.Refusal.{Refusal}
use Rattle.wire.specs.declared.Refusal.TheVariants as refusal
use Rattle.wire.specs.declared.Request.{Request}
use Rattle.wire.specs.declared.Request.TheVariants.{Put, Delete, Commit, Abort, Read, Log, Convert}
use Rattle.wire.specs.Message.{value_in_of, page_len, log_page}
use Rattle.wire.specs.Code.{page_into}
use Rattle.board.specs.declared.Phase.TheVariants.{Idle}
use Rattle.board.specs.declared.Job.{Job}
use Rattle.board.specs.declared.Rest.{Rest}
use Rattle.board.specs.declared.Record.{Record}
use Rattle.board.specs.Record.{zero_each, no_wipes, no_closes, no_frame, starting, counting, Out}
use Rattle.board.specs.Mount.{next_block, new_time}
use Rattle.job.specs.declared.records.Numbers.{Numbers}
use Rattle.job.specs.declared.records.Stepped.{Stepped}
use Rattle.job.specs.Code.{assemble, at_rest_of, staying, begins}
use Rattle.looks.specs.Surveys.{sum_of}

-- ---- what a request came to

-- nothing began
abbrev pub done : Rest → Stepped
done z = at_rest_of Done Idle z

abbrev pub refused : Refusal → Rest → Stepped
refused n z = at_rest_of (Refused n) Idle z

-- what began, or a refusal, which leaves the record idle where it stands
abbrev pub begun_or : Rest → Result Stepped Refusal → Stepped
begun_or z (Ok s) = s
begun_or z (Err why) = refused why z

-- the record after it: as it was, unless a job began
abbrev pub kept_or : Answer → Record → Numbers → List ℕ → List ℕ → Record
kept_or Done r n places frame = r
kept_or More r n places frame = assemble n places no_frame frame
kept_or (Refused w) r n places frame = r

-- the numbers of the job that began; where none did, those of an idle record that stands there
abbrev pub began : Answer → Rest → Numbers → Stepped
began Done z n = done z
began More z n = staying More n
began (Refused w) z n = refused w z

-- it is what the definition gives back, with the job's places and frame
pub record Asks (r : Record) (places frame : List ℕ) (s : Stepped) (o : Out) : Type 0 where
  pub answers : s.answer ≡ o.answer
  pub gives : kept_or s.answer r s.next places frame ≡ o.board
  pub rests : s ≡ began o.answer r.rest s.next

-- ---- what a survey tells of the room in its block

-- how many hosts have some
unfoldable pub open_in : List ℕ → ℕ
open_in p = one (ltb 0 (get_or p 0 0)) + one (ltb 0 (get_or p 1 0)) + one (ltb 0 (get_or p 2 0)) + one (ltb 0 (get_or p 3 0))

-- the same with one host's change more
abbrev pub open_for : ℕ → ℕ → List ℕ → ℕ
open_for h j p = one (eqb h j || ltb 0 (get_or p j 0))

unfoldable pub open_with : Host → List ℕ → ℕ
open_with h p = open_for h.0 0 p + open_for h.0 1 p + open_for h.0 2 p + open_for h.0 3 p

-- C
abbrev pub claimed_in : Survey → ℕ
claimed_in s = s.used + sum_of s.pending

-- U in the second edition: four bytes more for each object of the first
abbrev pub second_in : Edition → Survey → ℕ
second_in edition.First s = s.used + 4 * s.count
second_in edition.Second s = s.used

-- ---- the requests

-- C + n + 6·open + spare > S; K9: "10 for each 6"
unfoldable pub no_room_in : ℕ → Survey → Host → ℕ → ℕ → Bool
no_room_in size s h n spare = ltb size (claimed_in s + n + end_len s.edition * open_with h s.pending + spare)

abbrev pub append_plan : Rest → Survey → Bool → ℕ → Job
append_plan z s moves n =
    record {
      wipe = no_wipes;
      wipes = 0;
      moves = moves;
      drops = true;
      target = next_block z.blocks z.block;
      time = new_time moves s.time;
      since = s.since;
      size = n;
      edition = edition_number s.edition;
      closes = 0;
      close = no_closes;
    }

-- a frame of n bytes, with which each host has so much pending
unfoldable pub append_in : ℕ → Rest → Survey → ℕ → List ℕ → Stepped
append_in size z s n ps =
    let moves : Bool = ltb size (z.end + n) in
    cond (moves && eqb s.time last_time) (refused refusal.Worn z)
    (begins (counting z ps) (append_plan z s moves n) (starting 0 header_len))

-- a host's pending bytes with n more
abbrev pub bytes_with : Survey → Host → ℕ → ℕ
bytes_with s h n = get_or s.pending h.0 0 + n

-- 12: they are more than S/2; then 7
unfoldable pub change_in : ℕ → Rest → Survey → Host → ℕ → ℕ → Stepped
change_in size z s h n spare =
    cond (ltb size (2 * bytes_with s h n)) (refused refusal.HostFull z)
    (cond (no_room_in size s h n spare) (refused refusal.NoRoom z) (append_in size z s n (set s.pending h.0 (bytes_with s h n))))

unfoldable pub end_in : ℕ → Rest → Survey → Host → Stepped
end_in size z s h = cond (ltb 0 (get_or s.pending h.0 0)) (append_in size z s (end_len s.edition) (set s.pending h.0 0)) (done z)

-- the places after a commit: where no job began or one that moves they stay, else its list is applied (document 02, K8)
abbrev pub committed : List ℕ → Survey → Host → Stepped → List ℕ → List ℕ
committed b s h r t = cond r.ended t (cond r.next.job.moves t (commit_in b s h t))

unfoldable pub log_in : Rest → List ℕ → Stepped
log_in z reply = cond (ltb (length reply) page_len) (refused refusal.ShortReply z) (done z)

abbrev pub convert_plan : Rest → Survey → Job
convert_plan z s =
    record {
      wipe = no_wipes;
      wipes = 0;
      moves = true;
      drops = true;
      target = next_block z.blocks z.block;
      time = new_time true s.time;
      since = zero_each;
      size = 0;
      edition = 2;
      closes = 0;
      close = no_closes;
    }

-- 6, else a transfer to the second edition; nothing to do if the store is there
unfoldable pub convert_by : Rest → Survey → Edition → Stepped
convert_by z s edition.First =
    cond (eqb s.time last_time) (refused refusal.Worn z) (begins z (convert_plan z s) (starting 0 s.end))
convert_by z s edition.Second = done z

-- 16, then 7
unfoldable pub convert_in : ℕ → Rest → Survey → Stepped
convert_in size z s =
    cond (ltb 0 (sum_of s.pending)) (refused refusal.Pending z)
    (cond (ltb size (second_in s.edition s)) (refused refusal.NoRoom z) (convert_by z s s.edition))

-- no read: that goes by its place
abbrev pub serve_in : ℕ → Rest → List ℕ → Host → List ℕ → Survey → Request → Stepped
serve_in size z reply h m s (Put i) =
    let ed : Edition = s.edition in change_in size z s h (frame_len ed (change h (put i (value_in_of m)))) (delete_len ed + end_len ed)
serve_in size z reply h m s (Delete i) = change_in size z s h (delete_len s.edition) 0
serve_in size z reply h m s Commit = end_in size z s h
serve_in size z reply h m s Abort = end_in size z s h
serve_in size z reply h m s (Read i) = done z
serve_in size z reply h m s (Log p) = log_in z reply
serve_in size z reply h m s Convert = convert_in size z s

-- the job's places, of block b: only a commit's differ
abbrev pub places_by : List ℕ → Survey → Host → Stepped → Request → List ℕ → List ℕ
places_by b s h r (Put i) t = t
places_by b s h r (Delete i) t = t
places_by b s h r Commit t = committed b s h r t
places_by b s h r Abort t = t
places_by b s h r (Read i) t = t
places_by b s h r (Log p) t = t
places_by b s h r Convert t = t

-- the bytes of a frame
abbrev pub bytes_of : Edition → Frame → List ℕ
bytes_of ed f = buffer (encode ed f)

-- the frame to append, in a buffer that stays for a read and a log; a convert appends none
abbrev pub frame_in : Edition → Host → List ℕ → Request → List ℕ → List ℕ
frame_in ed h m (Put i) g = bytes_of ed (change h (put i (take value_max (value_in_of m))))
frame_in ed h m (Delete i) g = bytes_of ed (change h (delete i))
frame_in ed h m Commit g = bytes_of ed (commit h)
frame_in ed h m Abort g = bytes_of ed (abort h)
frame_in ed h m (Read i) g = g
frame_in ed h m (Log p) g = g
frame_in ed h m Convert g = no_frame

abbrev pub reply_log : ℕ → Survey → List ℕ → List ℕ
reply_log size s reply = page_into (log_page s.time s.count s.used size) reply

abbrev pub reply_in : ℕ → Survey → List ℕ → Request → List ℕ
reply_in size s reply (Put i) = reply
reply_in size s reply (Delete i) = reply
reply_in size s reply Commit = reply
reply_in size s reply Abort = reply
reply_in size s reply (Read i) = reply
reply_in size s reply (Log p) = reply_log size s reply
reply_in size s reply Convert = reply
