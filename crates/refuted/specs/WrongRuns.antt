-- For each wrong store a short run that tells it from the machine, by what the last call shows. S = 384, two blocks or three.
use Rattle.std.specs.Prelude.{List, [], ◌∷◌, ◌++◌, map, Bool, true, false, ◌&&◌, ◌≡◌, ℕ, zero, suc, ◌+◌, ◌-◌, eqb, ltb, length, get_or, drop, replicate}
use Rattle.std.proofs.Math.Option.{none}
use Rattle.frame.specs.declared.Edition.{Edition}
use Rattle.frame.specs.declared.Edition.TheVariants as edition
use Rattle.frame.specs.Frame.{host_of, id_of, put, change, commit, abort, settled, closed, Frame, encode_all}
use Rattle.journal.specs.Block.{header, in_transfer, valid_data}
use Rattle.wire.specs.declared.Answer.TheVariants.{Refused}
use Rattle.wire.specs.declared.Refusal.TheVariants as refusal
use Rattle.wire.specs.Answer.{edge_number, spot_of}
use Rattle.board.specs.declared.Record.{Record}
use Rattle.board.specs.Record.{unmounted, no_stretch}
use Rattle.board.specs.Demand1.{Rests}
use Rattle.board.specs.Exec.{Call, request, step, mount, format, Machine, exec}
use Rattle.board.specs.Claim.{call}
use Rattle.board.specs.Promise.{Shown, trace}
use Rattle.refuted.specs.Wrong.{Wrongly, off_bench}
use Rattle.refuted.specs.Wrong.{refuses_all, refuses_puts, refuses_high_ids, own_formats_only, first_half_only, host_first, refusal_clears}
use Rattle.refuted.specs.Wrong.{refused_log_writes, reads_alike, invents_count, never_commits, aborts_nothing, takes_others, keeps_old}
use Rattle.refuted.specs.Wrong.{programs_nothing, whole_frame, waits_long, invents_step, erases_first, hurried_mount, loses_all, keeps_pending}
use Rattle.refuted.specs.Wrong.{refuses_alike, overlooks_foreign, names_second, ties_at_start, refuses_half_erased, takes_half_erased, formats_at_once}
use Rattle.refuted.specs.Wrong.{formats_blindly, goes_back_of, erases_one, even_only}
use Rattle.refuted.specs.WrongShares.{full_at_half, full_by_all, full_by_values, full_by_image, full_by_two, deletes_pass, room_first, abort_keeps}
use Rattle.refuted.specs.WrongShares.{transfer_clears, mount_keeps}

-- ---- runs

-- what the last call of a run shows
abbrev pub nothing : Shown
nothing = record { answer = Refused refusal.NoStore; image = []; board = none; reply = []; stretch = no_stretch }

abbrev pub last_from : Shown → List Shown → Shown
last_from x [] = x
last_from x (y ∷ ys) = last_from y ys

abbrev pub ended : ℕ → Machine → List ℕ → List Call → Shown
ended N m img cs = last_from nothing (trace N m img unmounted (map call cs))

-- image and messages are bytes, and the first call is a mount or a format
abbrev pub all_bytes : List ℕ → Bool
all_bytes [] = true
all_bytes (b ∷ bs) = ltb b 256 && all_bytes bs

abbrev pub bytes_in : List Call → Bool
bytes_in [] = true
bytes_in (request h m reply ∷ cs) = all_bytes m && bytes_in cs
bytes_in (step ∷ cs) = bytes_in cs
bytes_in (mount ∷ cs) = bytes_in cs
bytes_in (format ∷ cs) = bytes_in cs

abbrev pub begins : List Call → Bool
begins [] = false
begins (request h m reply ∷ cs) = false
begins (step ∷ cs) = false
begins (mount ∷ cs) = true
begins (format ∷ cs) = true

-- at the run's end the wrong store shows one number and the machine another
pub record Differs (N : ℕ) (w : Wrongly) (img : List ℕ) (cs : List Call) (see : Shown → ℕ) (wrong right : ℕ) : Type 0 where
  pub is_run : (all_bytes img && (begins cs && bytes_in cs)) ≡ true
  pub shows_wrong : see (ended N (off_bench w N) img cs) ≡ wrong
  pub shows_right : see (ended N (exec N) img cs) ≡ right
  pub apart : eqb wrong right ≡ false

-- what is looked at: the answer's number, 255 for more; a byte of the image or of the reply; how long the reply is
abbrev pub answered : Shown → ℕ
answered x = edge_number x.answer

-- the half that 3 names; the place
abbrev pub half_named : Shown → ℕ
half_named x = (spot_of x.answer).half

abbrev pub place_named : Shown → ℕ
place_named x = (spot_of x.answer).place

abbrev pub byte_at : ℕ → Shown → ℕ
byte_at i x = get_or x.image i 0

abbrev pub replied : ℕ → Shown → ℕ
replied i x = get_or x.reply i 0

abbrev pub reply_length : Shown → ℕ
reply_length x = length x.reply

-- ---- images of 768 bytes

-- a valid block of an edition and so many bytes, made at a time; a half of edition 1
abbrev pub block_of : Edition → ℕ → ℕ → List Frame → List ℕ
block_of ed size t fs = let b : List ℕ = header ed t valid_data ++ encode_all ed fs in b ++ replicate (size - length b) 0xFF

unfoldable pub half : ℕ → List Frame → List ℕ
half t fs = block_of edition.First 384 t fs

unfoldable pub blank_half : List ℕ
blank_half = replicate 384 0xFF

-- host 2 put two bytes to id 5
abbrev pub put_frame : Frame
put_frame = change (host_of 2) (put (id_of 5) (0x41 ∷ 0x42 ∷ []))

unfoldable pub pending : List ℕ
pending = half 1 (put_frame ∷ []) ++ blank_half

-- and committed it
abbrev pub committed : ℕ → List ℕ
committed t = half t (put_frame ∷ commit (host_of 2) ∷ [])

unfoldable pub stored : List ℕ
stored = committed 1 ++ blank_half

-- the same at a later time; in the second half; beside a transfer that was cut; twice, at two times and at one; two foreign halves; one
-- beside a blank one
unfoldable pub later : List ℕ
later = committed 2 ++ blank_half

unfoldable pub second : List ℕ
second = blank_half ++ committed 2

unfoldable pub begun : List ℕ
begun = committed 1 ++ (header edition.First 2 in_transfer ++ replicate 368 0xFF)

unfoldable pub twice : List ℕ
twice = committed 1 ++ committed 2

unfoldable pub tied_halves : List ℕ
tied_halves = committed 1 ++ committed 1

unfoldable pub both_strange : List ℕ
both_strange = replicate 768 0x00

unfoldable pub strange : List ℕ
strange = replicate 384 0x00 ++ blank_half

-- the half of time 3 while it is erased after a transfer: its first eight bytes are 0xFF; or its frames and one bit of its time, so that it
-- reads as an empty store of time 2
unfoldable pub half_erased : List ℕ
half_erased = replicate 8 0xFF ++ (drop 8 (committed 3) ++ committed 4)

unfoldable pub seems_empty : List ℕ
seems_empty = half 2 [] ++ committed 4

-- one settled object of 101 bytes: U = 124
unfoldable pub heavy : List ℕ
heavy = half 1 (settled (id_of 1) (replicate 101 0x41) ∷ []) ++ blank_half

-- two puts of 166 bytes, each aborted: 16 + 2·(174 + 6) = 376, so that eight bytes are left
abbrev pub aborted : List Frame
aborted = change (host_of 2) (put (id_of 5) (replicate 166 0x41)) ∷ abort (host_of 2) ∷ []

unfoldable pub nearly_full : List ℕ
nearly_full = half 1 (aborted ++ aborted) ++ blank_half

-- two closed frames, and a put of eight bytes that is pending and ends at n; at the half's end, so that a mount makes a transfer
abbrev pub filler : ℕ → Frame
filler n = closed (replicate (n - 5) 0xFF)

abbrev pub ending_at : ℕ → List ℕ
ending_at n = half 1 (filler 248 ∷ filler (n - 272) ∷ change (host_of 2) (put (id_of 7) []) ∷ [])

unfoldable pub full : List ℕ
full = ending_at 384 ++ blank_half

-- ---- images of 1,152 bytes: three blocks

-- the second block is current, and a transfer is due; the first is, beside two cut transfers; the first is, and nothing is due
unfoldable pub in_middle : List ℕ
in_middle = blank_half ++ (ending_at 384 ++ blank_half)

unfoldable pub begun_twice : List ℕ
begun_twice = begun ++ (header edition.First 2 in_transfer ++ replicate 368 0xFF)

unfoldable pub stored_first : List ℕ
stored_first = stored ++ blank_half

-- ---- calls

-- n step calls, then others
abbrev pub stepping : ℕ → List Call → List Call
stepping zero cs = cs
stepping (suc n) cs = step ∷ stepping n cs

-- host 2's requests, with a reply of 14 bytes
abbrev pub asks : List ℕ → Call
asks m = request (host_of 2) m (replicate 14 0xEE)

abbrev pub put_cd : Call
put_cd = asks (0x08 ∷ 0x00 ∷ 0x01 ∷ 0x01 ∷ 0x05 ∷ 0x00 ∷ 0x43 ∷ 0x44 ∷ [])

abbrev pub put_empty : ℕ → Call
put_empty i = asks (0x06 ∷ 0x00 ∷ 0x01 ∷ 0x01 ∷ i ∷ 0x00 ∷ [])

-- a host puts n bytes to id 9
abbrev pub puts : ℕ → ℕ → Call
puts h n = request (host_of h) ((6 + n) ∷ 0x00 ∷ 0x01 ∷ 0x01 ∷ 0x09 ∷ 0x00 ∷ replicate n 0x41) []

abbrev pub deletes : Call
deletes = asks (0x06 ∷ 0x00 ∷ 0x02 ∷ 0x01 ∷ 0x05 ∷ 0x00 ∷ [])

abbrev pub commit_message : List ℕ
commit_message = 0x04 ∷ 0x00 ∷ 0x03 ∷ 0x01 ∷ []

abbrev pub commits : Call
commits = asks commit_message

abbrev pub aborts : Call
aborts = asks (0x04 ∷ 0x00 ∷ 0x04 ∷ 0x01 ∷ [])

abbrev pub reads : Call
reads = asks (0x06 ∷ 0x00 ∷ 0x05 ∷ 0x01 ∷ 0x05 ∷ 0x00 ∷ [])

abbrev pub log_message : List ℕ
log_message = 0x05 ∷ 0x00 ∷ 0x06 ∷ 0x01 ∷ 0x01 ∷ []

abbrev pub logs : Call
logs = asks log_message

-- with a reply of one byte
abbrev pub logs_short : Call
logs_short = request (host_of 2) log_message (0xEE ∷ [])

-- ---- records that no run gives back

-- what the answer to one call on `stored` is, under a record
abbrev pub answered_under : Machine → Record → Call → ℕ
answered_under m r c = answered (last_from nothing (trace 2 m stored r (call c ∷ [])))

-- under a forged record in no job the wrong store answers one number and the machine another
pub record Forged (w : Wrongly) (r : Record) (c : Call) (wrong right : ℕ) : Type 0 where
  pub is_bytes : (all_bytes stored && bytes_in (c ∷ [])) ≡ true
  pub rests : Rests r.phase
  pub shows_wrong : answered_under (off_bench w 2) r c ≡ wrong
  pub shows_right : answered_under (exec 2) r c ≡ right
  pub apart : eqb wrong right ≡ false

-- a mount, and a put with its steps
abbrev pub after_put : List Call → List Call
after_put cs = mount ∷ put_empty 7 ∷ stepping 8 cs

-- ---- the runs: store, image, calls, what is looked at, what the store shows, what the machine shows

pub record Runs : Type 0 where
  pub refuses-all : Differs 2 refuses_all stored (mount ∷ []) answered 2 0
  pub refuses-puts : Differs 2 refuses_puts stored (mount ∷ put_cd ∷ []) answered 7 255
  pub refuses-high-ids : Differs 2 refuses_high_ids stored (mount ∷ put_empty 128 ∷ []) answered 1 255
  pub own-formats-only : Differs 2 own_formats_only later (mount ∷ reads ∷ []) answered 11 0
  pub first-half-only : Differs 2 first_half_only second (mount ∷ reads ∷ []) answered 11 0
  pub host-first : Differs 2 host_first (replicate 513 0xFF) (mount ∷ request (host_of 4) commit_message [] ∷ []) answered 10 4
  pub refusal-clears : Differs 2 refusal_clears stored (mount ∷ logs_short ∷ []) reply_length 0 1
  pub refused-log-writes : Differs 2 refused_log_writes stored (mount ∷ logs_short ∷ []) (replied 0) 0 0xEE
  pub reads-alike : Differs 2 reads_alike stored (mount ∷ reads ∷ []) answered 8 0
  pub invents-count : Differs 2 invents_count stored (mount ∷ logs ∷ []) (replied 8) 7 1
  pub never-commits : Differs 2 never_commits stored (after_put (commits ∷ [])) answered 0 255
  pub aborts-nothing : Differs 2 aborts_nothing stored (after_put (aborts ∷ [])) answered 0 255
  pub takes-others : Differs 2 takes_others stored (after_put (request (host_of 1) commit_message [] ∷ [])) answered 255 0
  -- the value's first byte, the frame's eighth
  pub keeps-old : Differs 2 keeps_old stored (mount ∷ put_cd ∷ stepping 8 []) (byte_at 39) 0x41 0x43
  pub programs-nothing : Differs 2 programs_nothing stored (format ∷ stepping 2 []) (byte_at 0) 0x10 0xFF
  -- the frame's second byte
  pub whole-frame : Differs 2 whole_frame stored (mount ∷ put_cd ∷ step ∷ []) (byte_at 33) 0x00 0xFF
  pub waits-long : Differs 2 waits_long stored (mount ∷ put_cd ∷ stepping 10 []) answered 255 0
  pub invents-step : Differs 2 invents_step begun (mount ∷ step ∷ []) answered 255 0
  -- the old half's first byte, after ten of the transfer's eleven steps
  pub erases-first : Differs 2 erases_first full (mount ∷ stepping 10 []) (byte_at 0) 0xFF 0x10
  pub hurried-mount : Differs 2 hurried_mount pending (mount ∷ []) answered 0 255
  pub loses-all : Differs 2 loses_all pending (mount ∷ []) answered 2 255
  -- a commit after the cut finds what was left pending before it
  pub keeps-pending : Differs 2 keeps_pending pending (mount ∷ stepping 5 (commits ∷ [])) answered 255 0
  pub refuses-alike : Differs 2 refuses_alike twice (mount ∷ []) answered 3 255
  pub overlooks-foreign : Differs 2 overlooks_foreign strange (mount ∷ []) answered 2 3
  pub names-second : Differs 2 names_second both_strange (mount ∷ []) half_named 1 0
  pub ties-at-start : Differs 2 ties_at_start tied_halves (mount ∷ []) place_named 0 4
  pub refuses-half-erased : Differs 2 refuses_half_erased half_erased (mount ∷ []) answered 3 255
  -- the good half's first byte after the first step
  pub takes-half-erased : Differs 2 takes_half_erased seems_empty (mount ∷ step ∷ []) (byte_at 384) 0xFF 0x10
  pub formats-at-once : Differs 2 formats_at_once stored (format ∷ []) (byte_at 0) 0xFF 0x10
  pub formats-blindly : Differs 2 formats_blindly stored (format ∷ step ∷ []) (byte_at 0) 0xFF 0x10
  -- the third block's state byte after the first step of the transfer
  pub goes_back : Differs 3 goes_back_of in_middle (mount ∷ step ∷ []) (byte_at 776) 0xFF 0xFE
  pub erases-one : Differs 3 erases_one begun_twice (mount ∷ step ∷ []) answered 0 255
  pub even-only : Differs 3 even_only stored_first (mount ∷ []) answered 4 0
  -- K7, S/2 = 192: a frame of 192 bytes; one of 8 and another host's of 192; frames of 193
  pub full-at-half : Differs 2 full_at_half stored (mount ∷ puts 2 184 ∷ []) answered 12 255
  pub full-by-all : Differs 2 full_by_all stored (mount ∷ puts 1 0 ∷ stepping 8 (puts 2 184 ∷ [])) answered 12 255
  pub full-by-values : Differs 2 full_by_values stored (mount ∷ puts 2 185 ∷ []) answered 255 12
  pub full-by-image : Differs 2 full_by_image stored (mount ∷ puts 2 185 ∷ []) answered 255 12
  pub full-by-two : Differs 3 full_by_two stored_first (mount ∷ puts 2 185 ∷ []) answered 255 12
  -- a frame of 192 bytes is pending
  pub deletes-pass : Differs 2 deletes_pass stored (mount ∷ puts 2 184 ∷ stepping 192 (deletes ∷ [])) answered 255 12
  -- 248 > 192, and 124 + 248 + 6 + 14 > 384
  pub room-first : Differs 2 room_first heavy (mount ∷ puts 2 240 ∷ []) answered 7 12
  -- the commit after it finds the record stale
  pub abort-keeps : Differs 2 abort_keeps stored (after_put (aborts ∷ stepping 6 (commits ∷ []))) answered 11 0
  -- C = 24: a transfer of 19 steps, and the frame's 8
  pub transfer-clears : Differs 2 transfer_clears nearly_full (after_put (put_empty 8 ∷ stepping 27 (commits ∷ []))) answered 11 255
  pub mount-keeps : Differs 2 mount_keeps full (mount ∷ stepping 11 (commits ∷ [])) answered 11 0
