-- The table as the machine tests it: for each call the checks in the table's order. `Sentences` has the same lines in words.
use mathlib.Core.List.{List, [], ◌∷◌}
use mathlib.Core.Option.{Option, none, some}
use mathlib.Core.Bool.{Bool, true, false, ◌&&◌, ◌||◌, not}
use Prim.Native.Nat.{ℕ}
use lib.Dec.{eqb, ltb}
use lib.ListN.{length}
use Rattle.frame.specs.declared.Edition.TheVariants as edition
use Rattle.flash.specs.Flash.{size_of, within}
use Rattle.frame.specs.declared.Host.{Host}
use Rattle.frame.specs.declared.ObjectId.{ObjectId}
use Rattle.frame.specs.Frame.{host_max, put, delete}
use Rattle.journal.specs.Replay.{Entry}
use Rattle.journal.specs.Block.{Journal, last_time}
use Rattle.journal.specs.Room.{no_room_of, host_full, used}
use Rattle.wire.specs.declared.Answer.{Answer}
use Rattle.wire.specs.declared.Answer.TheVariants.{Done, More, Refused}
use Rattle.wire.specs.declared.Refusal.{Refusal}
use Rattle.wire.specs.declared.Refusal.TheVariants as refusal
use Rattle.wire.specs.declared.Request.{Request}
use Rattle.wire.specs.declared.Request.TheVariants.{Put, Delete, Commit, Abort, Read, Log, Convert}
use Rattle.wire.specs.Message.{Parsed, parse, value_in_of, page_len, of_read_kind, id_in}
use Rattle.std.specs.Prelude.{Some, None}
use Rattle.board.specs.declared.Phase.{Phase}
use Rattle.board.specs.declared.Phase.TheVariants.{Unmounted, Idle, Busy}
use Rattle.board.specs.declared.Record.{Record}
use Rattle.board.specs.Record.{allowed}
use Rattle.board.specs.Step.{same_shape, action}
use Rattle.board.specs.Mount.{all_found, any_foreign, stores, Store, equal_times, newest, upkeep, transfers, Found, none_valid, lowest_tied}
use Rattle.board.specs.Mount.{tied_times, replay_of, time_of}
use Rattle.board.specs.Queue.{Asking, asking, size_for, held_for, moves_for, value_for}
use Rattle.board.specs.Exec.{Call, request, step, mount, format}
use Rattle.board.specs.Table.{is_none, is_busy, Task, idles, appends, converts, task_for, place_for}

-- a line of the table: the refusal, and whether its condition holds
pub record Check : Type 0 where
  pub refusal : Refusal
  pub holds : Bool

abbrev pub check : Refusal → Bool → Check
check n b = record { refusal = n; holds = b }

-- the first line whose condition holds
unfoldable pub first_of : List Check → Option Refusal
first_of [] = none
first_of (c ∷ cs) = elim c.holds [ true ↦ some c.refusal | false ↦ first_of cs ]

-- ---- requests

-- 2: "unmounted record"
abbrev pub is_unmounted : Phase → Bool
is_unmounted Unmounted = true
is_unmounted Idle = false
is_unmounted (Busy s) = false

-- 1: "message malformed: length, kind, id, value length or page"
abbrev pub is_malformed : Parsed → Bool
is_malformed None = true
is_malformed (Some q) = false

-- 9: "log: reply under 14 bytes"
abbrev pub short_reply : Asking → Request → Bool
short_reply a (Put i) = false
short_reply a (Delete i) = false
short_reply a Commit = false
short_reply a Abort = false
short_reply a (Read i) = false
short_reply a (Log p) = ltb (length a.reply) page_len
short_reply a Convert = false

-- 16: K9, of a convert alone
abbrev pub is_some : List Entry → Bool
is_some [] = false
is_some (e ∷ es) = true

abbrev pub pending_rule : Journal → Request → Bool
pending_rule x (Put i) = false
pending_rule x (Delete i) = false
pending_rule x Commit = false
pending_rule x Abort = false
pending_rule x (Read i) = false
pending_rule x (Log p) = false
pending_rule x Convert = is_some (replay_of x).pending

-- 12: K7, of a put or delete alone
abbrev pub share_rule : ℕ → Host → List ℕ → Journal → Request → Bool
share_rule size h m x (Put i) = host_full x.edition size (replay_of x) h (put i (value_in_of m))
share_rule size h m x (Delete i) = host_full x.edition size (replay_of x) h (delete i)
share_rule size h m x Commit = false
share_rule size h m x Abort = false
share_rule size h m x (Read i) = false
share_rule size h m x (Log p) = false
share_rule size h m x Convert = false

abbrev pub host_full_for : Asking → Journal → Request → Bool
host_full_for a x q = share_rule (size_for a) a.host a.message x q

-- 7: "the room rule". "Commit and abort are never refused for room."
abbrev pub room_rule : ℕ → Host → List ℕ → Journal → Request → Bool
room_rule size h m x (Put i) = no_room_of x.edition size (replay_of x) h (put i (value_in_of m))
room_rule size h m x (Delete i) = no_room_of x.edition size (replay_of x) h (delete i)
room_rule size h m x Commit = false
room_rule size h m x Abort = false
room_rule size h m x (Read i) = false
room_rule size h m x (Log p) = false
room_rule size h m x Convert = ltb size (used edition.Second (replay_of x))

abbrev pub no_room_for : Asking → Journal → Request → Bool
no_room_for a x q = room_rule (size_for a) a.host a.message x q

-- 6: "a transfer is needed .. at time 4,294,967,295"
abbrev pub worn : Asking → Journal → Task → Bool
worn a x idles = false
worn a x (appends f) = moves_for a x f && eqb x.time last_time
worn a x converts = eqb x.time last_time

-- a read's 11, K8: another length or N, or a place that holds no frame of the id; its 8: no place
abbrev pub place_lost : Asking → ObjectId → Bool
place_lost a i =
    not (same_shape a.blocks (length a.image) a.board) || (not (eqb (place_for a i) 0) && is_none (value_for a i (place_for a i)))

abbrev pub read_checks : Asking → ObjectId → List Check
read_checks a i =
    check refusal.Stale (place_lost a i) ∷ check refusal.NoObject (eqb (place_for a i) 0) ∷ check refusal.ShortReply false ∷ check refusal.Pending false
    ∷ check refusal.HostFull false ∷ check refusal.NoRoom false ∷ check refusal.Worn false ∷ []

-- of any other request: a read's two, 9, 16, 12, 7, 6
abbrev pub held_checks : Asking → Journal → Request → List Check
held_checks a x q =
    check refusal.Stale false ∷ check refusal.NoObject false ∷ check refusal.ShortReply (short_reply a q) ∷ check refusal.Pending (pending_rule x q)
    ∷ check refusal.HostFull (host_full_for a x q) ∷ check refusal.NoRoom (no_room_for a x q)
    ∷ check refusal.Worn (worn a x (task_for a.host a.message x q)) ∷ []

-- where 11 or 1 holds no later line can be the first
abbrev pub later_checks : Asking → Bool → Option Journal → Parsed → List Check
later_checks a true o None = []
later_checks a true o (Some q) = read_checks a (id_in a.message)
later_checks a false none p = []
later_checks a false (some x) None = []
later_checks a false (some x) (Some q) = held_checks a x q

-- from 11 on, of a read and of any other message
abbrev pub from_stale : Asking → Bool → Option Journal → Parsed → List Check
from_stale a b o p = check refusal.Stale (not b && is_none o) ∷ check refusal.Malformed (is_malformed p) ∷ later_checks a b o p

-- 4, 10, 5, 2, 11, 1, a read's 11, 8, 9, 16, 12, 7, 6
abbrev pub request_checks : Asking → List Check
request_checks a =
    check refusal.ImageLength (not (allowed a.blocks (length a.image))) ∷ check refusal.HostRange (ltb host_max a.host.0)
    ∷ check refusal.Busy (is_busy a.board.phase) ∷ check refusal.NoStore (is_unmounted a.board.phase)
    ∷ from_stale a (of_read_kind a.message) (held_for a) (parse a.message)

-- ---- steps, mounts and formats

-- "in a job, 11 is given exactly if the image length isn't the record's or the job's next place lies outside it"
abbrev pub outside : ℕ → Phase → List ℕ → Record → Bool
outside N Unmounted img r = false
outside N Idle img r = false
outside N (Busy s) img r = not (same_shape N (length img) r && within N (size_of N img) (action s r))

-- "no valid half"
abbrev pub no_store_of : List Store → Bool
no_store_of [] = true
no_store_of (x ∷ xs) = false

-- 3 with what it names
abbrev pub unclear : List Found → List Store → Refusal
unclear xs [] = none_valid xs
unclear xs (y ∷ ys) = tied_times (lowest_tied (y ∷ ys))

-- 6, "by a mount too": of the valid halves the newest is current
abbrev pub worn_store : ℕ → List Store → Bool
worn_store s [] = false
worn_store s (x ∷ xs) = let y : Store = newest x xs in transfers (upkeep s y) && eqb (time_of y) last_time

-- 4, 2, 3, 6
abbrev pub mount_checks : ℕ → List ℕ → List Check
mount_checks N img =
    check refusal.ImageLength (not (allowed N (length img)))
    ∷ check refusal.NoStore (no_store_of (stores (all_found N img)) && not (any_foreign (all_found N img)))
    ∷ check (unclear (all_found N img) (stores (all_found N img)))
    ((no_store_of (stores (all_found N img)) && any_foreign (all_found N img)) || equal_times (stores (all_found N img)))
    ∷ check refusal.Worn (worn_store (size_of N img) (stores (all_found N img))) ∷ []

-- the lines that concern each call: 11 alone concerns a step, 4 alone a format
abbrev pub checks : ℕ → List ℕ → Record → Call → List Check
checks N img r (request h m reply) = request_checks (asking N img r h m reply)
checks N img r step = check refusal.Stale (outside N r.phase img r) ∷ []
checks N img r mount = mount_checks N img
checks N img r format = check refusal.ImageLength (not (allowed N (length img))) ∷ []

-- the refusal of an answer
abbrev pub refusal_in : Answer → Option Refusal
refusal_in Done = none
refusal_in More = none
refusal_in (Refused n) = some n
