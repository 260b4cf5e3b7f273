-- Further wrong stores of document 02, K11: how torn and closed frames and resets are read, and what they count for. As in Wrong each differs from the
-- machine in one thing, off the bench. The runs that tell are in MendRuns.
use Rattle.std.specs.Prelude.{List, [], ◌∷◌, map, Bool, false, not, ◌&&◌, ◌||◌, cond, ℕ, ◌+◌, ◌-◌, eqb, ltb, length, take, drop, get_or}
use Rattle.std.proofs.Math.Option.{Option, none, some}
use Rattle.flash.specs.Bytes.{u32le, all_ff, same_bytes_of}
use Rattle.flash.specs.Flash.{block, size_of}
use Rattle.crc.specs.Crc.{crc32_of}
use Rattle.frame.specs.declared.Edition.{Edition}
use Rattle.frame.specs.declared.Edition.TheVariants as edition
use Rattle.frame.specs.declared.Fault.{Fault}
use Rattle.frame.specs.declared.Field.TheVariants as field
use Rattle.frame.specs.Frame.{Frame, change, commit, abort, settled, closed, reset, encode, total, kind_at, host_max, reset_len, settled_len}
use Rattle.frame.specs.Reader.{fault, Tail, clean, cut, bad, Scan, scan}
use Rattle.journal.specs.Replay.{is_open_of, replay}
use Rattle.journal.specs.Block.{Journal, journal, BlockState, blank, in_progress, valid, foreign, header_len, edition_in, created_at, header_fault}
use Rattle.journal.specs.Room.{no_room_of, host_full}
use Rattle.wire.specs.declared.Refusal.TheVariants as refusal
use Rattle.wire.specs.Message.{log_page, with_page}
use Rattle.board.specs.Record.{allowed, no_stretch}
use Rattle.board.specs.Mount.{Found, all_found, mount_found, end_of, replay_of, used_of}
use Rattle.board.specs.Queue.{size_for, refuse_to, done_at, append}
use Rattle.refuted.specs.Wrong.{Wrongly, mounts, by_answer}
use Rattle.refuted.specs.WrongShares.{changes, full_or, appends}
use Rattle.refuted.specs.WrongEditions.{held_of, mounts_seeing}

-- ---- how a block is read

-- a mount that sees a block otherwise, by its bytes
abbrev pub mounts_reading : (List ℕ → BlockState → BlockState) → Wrongly
mounts_reading f =
    mounts
    (λ N img o.
    let see : Found → Found =
    λ x. record { number = x.number; state = f (block (size_of N img) x.number img) x.state } in
    cond (allowed N (length img)) (mount_found N img (map see (all_found N img))) o)

-- one with a torn tail is foreign by a test of its journal, the torn frame's length and the low byte of its kind
abbrev pub foreign_if : (Journal → ℕ → ℕ → Bool) → List ℕ → Journal → Tail → BlockState
foreign_if f b x clean = valid x
foreign_if f b x (cut n) =
    cond (f x n (get_or b (end_of x + kind_at) 0)) (foreign (fault field.Kind (end_of x + kind_at))) (valid x)
foreign_if f b x (bad e) = valid x

abbrev pub torn_if : (Journal → ℕ → ℕ → Bool) → List ℕ → BlockState → BlockState
torn_if f b blank = blank
torn_if f b in_progress = in_progress
torn_if f b (valid x) = foreign_if f b x x.tail
torn_if f b (foreign e) = foreign e

-- "A frame cut while being closed .. is torn too": it makes its block foreign
unfoldable pub closing_foreign : Wrongly
closing_foreign = mounts_reading (torn_if (λ x n k. eqb k 0))

-- "or a cut reset, is torn too": it makes its block foreign
unfoldable pub reset_foreign : Wrongly
reset_foreign = mounts_reading (torn_if (λ x n k. eqb n (reset_len x.edition) && not (eqb k 0)))

-- a tail of a settled frame's shortest length whose kind's low byte is 0, as a frame being closed has it
abbrev pub is_shortest : Edition → List ℕ → Bool
is_shortest ed t =
    eqb (get_or t 0 0) (settled_len ed 0) && (eqb (get_or t 1 0) 0 && (eqb (get_or t kind_at 0) 0 && all_ff (drop (settled_len ed 0 - 1) t)))

abbrev pub shortest_torn : List ℕ → Fault → Option Fault → BlockState
shortest_torn b e (some f) = foreign e
shortest_torn b e none =
    let ed : Edition = edition_in b in
    let s : Scan = scan ed 0 header_len 0 (drop header_len b) in
    cond (is_shortest ed (drop (header_len + total ed s.frames) b))
    (valid (journal ed (created_at b) s.frames (cut (settled_len ed 0)))) (foreign e)

abbrev pub or_shortest : List ℕ → BlockState → BlockState
or_shortest b blank = blank
or_shortest b in_progress = in_progress
or_shortest b (valid x) = valid x
or_shortest b (foreign e) = shortest_torn b e (header_fault b)

-- "its length is one of kinds 1 to 4 or 7": 7 too, which only a settled frame has
unfoldable pub closes_seven : Wrongly
closes_seven = mounts_reading or_shortest

-- the bodies of closed frames
abbrev pub closed_bodies : List Frame → List (List ℕ)
closed_bodies [] = []
closed_bodies (closed v ∷ fs) = v ∷ closed_bodies fs
closed_bodies (change h c ∷ fs) = closed_bodies fs
closed_bodies (commit h ∷ fs) = closed_bodies fs
closed_bodies (abort h ∷ fs) = closed_bodies fs
closed_bodies (settled i v ∷ fs) = closed_bodies fs
closed_bodies (reset ∷ fs) = closed_bodies fs

-- a block where one of them fails a test is foreign
abbrev pub any_fails : (Edition → List ℕ → Bool) → Edition → List (List ℕ) → Bool
any_fails f ed [] = false
any_fails f ed (v ∷ vs) = f ed v || any_fails f ed vs

abbrev pub closed_held : (Edition → List ℕ → Bool) → BlockState → BlockState
closed_held f blank = blank
closed_held f in_progress = in_progress
closed_held f (valid x) = cond (any_fails f x.edition (closed_bodies x.frames)) (foreign (fault field.Host header_len)) (valid x)
closed_held f (foreign e) = foreign e

-- "its body and CRC are ignored": its host is held to 3
unfoldable pub checks_body : Wrongly
checks_body = mounts_seeing (closed_held (λ ed v. ltb host_max (get_or v 0 0)))

abbrev pub wrong_crc : Edition → List ℕ → Bool
wrong_crc edition.First v = false
wrong_crc edition.Second v =
    let t : List ℕ = encode edition.Second (closed v) in
    not (same_bytes_of (take 4 (drop (length t - 5) t)) (u32le (crc32_of (take (length t - 5) t))))

-- "its body and CRC are ignored": its CRC is checked
unfoldable pub checks_crc : Wrongly
checks_crc = mounts_seeing (closed_held wrong_crc)

-- ---- replay and room

abbrev pub no_resets : List Frame → List Frame
no_resets [] = []
no_resets (reset ∷ fs) = no_resets fs
no_resets (change h c ∷ fs) = change h c ∷ no_resets fs
no_resets (commit h ∷ fs) = commit h ∷ no_resets fs
no_resets (abort h ∷ fs) = abort h ∷ no_resets fs
no_resets (settled i v ∷ fs) = settled i v ∷ no_resets fs
no_resets (closed v ∷ fs) = closed v ∷ no_resets fs

-- "a reset frame .. drops all of it": a commit takes up what stands before one
unfoldable pub past_reset : Wrongly
past_reset =
    held_of 0x0103
    (λ a x o.
    by_answer o.answer (cond (is_open_of a.host (replay (no_resets x.frames)).pending) (append a x (commit a.host)) o) o o)

-- the bytes of closed frames: "Length (2, whole frame), kind (2), body, finish byte"
abbrev pub sizes : List (List ℕ) → ℕ
sizes [] = 0
sizes (v ∷ vs) = 5 + length v + sizes vs

abbrev pub closed_bytes : Journal → ℕ
closed_bytes x = sizes (closed_bodies x.frames)

-- "Everything outside C counts as free": closed frames don't
unfoldable pub room_with_closed : Wrongly
room_with_closed =
    changes
    (λ a x c.
    full_or (host_full x.edition (size_for a) (replay_of x) a.host c) a
    (cond (no_room_of x.edition (size_for a - closed_bytes x) (replay_of x) a.host c) (refuse_to a refusal.NoRoom)
    (appends a x c)))

-- "U is 16 plus the length of one settled frame for each settled object": and closed frames
unfoldable pub logs_closed : Wrongly
logs_closed =
    held_of 0x0106
    (λ a x o.
    let u : ℕ = used_of x + closed_bytes x in
    let page : List ℕ = log_page x.time (length (replay_of x).objects) u (size_for a) in
    by_answer o.answer (done_at a (with_page page a.reply) no_stretch) o o)
