-- For each wrong store of WrongMends and WrongClosed a short run that tells it from the machine, as in WrongRuns. S = 384 and two blocks, or 256 and
-- three.
use Rattle.std.specs.Prelude.{List, [], ◌∷◌, ◌++◌, ℕ, ◌-◌, length, replicate}
use Rattle.frame.specs.declared.Edition.TheVariants as edition
use Rattle.frame.specs.Frame.{host_of, id_of, put, Frame, change, commit, closed, reset, encode_all}
use Rattle.journal.specs.Block.{header, valid_data, last_time}
use Rattle.board.specs.Exec.{step, mount}
use Rattle.refuted.specs.WrongRuns.{Differs, answered, byte_at, replied, block_of, half, blank_half, put_frame, pending, stored, filler, ending_at}
use Rattle.refuted.specs.WrongRuns.{stepping, puts, commits, reads, logs}
use Rattle.refuted.specs.EditionRuns.{new_pending, new_due}
use Rattle.refuted.specs.WrongMends.{moves_always, moves_undue, moves_at_edge, never_moves, fits_unclosed, fits_five, leaves_torn, worn_mends}
use Rattle.refuted.specs.WrongMends.{closes_and_moves, high_first, length_stays, closes_all, clears_body, finish_first, closes_alone, always_resets}
use Rattle.refuted.specs.WrongMends.{aborts_one, reset_bare, finishes_reset, end_stays_of, mend_keeps}
use Rattle.refuted.specs.WrongClosed.{closing_foreign, reset_foreign, closes_seven, checks_body, checks_crc, past_reset, room_with_closed, logs_closed}

-- ---- images of 768 bytes

-- frames, and the first bytes of another
abbrev pub half_with : List Frame → List ℕ → List ℕ
half_with fs t = let b : List ℕ = header edition.First 1 valid_data ++ (encode_all edition.First fs ++ t) in b ++ replicate (384 - length b) 0xFF

-- host 2's put is pending: its commit is cut after five bytes; a reset is cut after three
unfoldable pub torn_commit : List ℕ
torn_commit = half_with (put_frame ∷ []) (0x06 ∷ 0x00 ∷ 0x03 ∷ 0x00 ∷ 0x02 ∷ []) ++ blank_half

unfoldable pub torn_reset : List ℕ
torn_reset = half_with (put_frame ∷ []) (0x05 ∷ 0x00 ∷ 0x07 ∷ []) ++ blank_half

-- it is committed, and the frames end at 32: a put of ten bytes is cut after its first; the same while it is closed; seven bytes are
abbrev pub in_store : List ℕ → List ℕ
in_store t = half_with (put_frame ∷ commit (host_of 2) ∷ []) t ++ blank_half

unfoldable pub torn_put : List ℕ
torn_put = in_store (0x0A ∷ [])

unfoldable pub closing_put : List ℕ
closing_put = in_store (0x0A ∷ 0x00 ∷ 0x00 ∷ [])

unfoldable pub seven_tail : List ℕ
seven_tail = in_store (0x07 ∷ 0x00 ∷ 0x00 ∷ [])

-- a put is pending, and five bytes are left behind it; four; a frame of 32 bytes is cut there, which would end at 350 + 32; nothing is pending, and one of
-- 12 is, at 370
unfoldable pub five_left : List ℕ
five_left = ending_at 379 ++ blank_half

unfoldable pub four_left : List ℕ
four_left = ending_at 380 ++ blank_half

unfoldable pub tight_torn : List ℕ
tight_torn = half_with (filler 248 ∷ filler 78 ∷ change (host_of 2) (put (id_of 7) []) ∷ []) (0x20 ∷ []) ++ blank_half

unfoldable pub undue : List ℕ
undue = half_with (filler 248 ∷ filler 106 ∷ []) (0x0C ∷ []) ++ blank_half

-- a put is pending at the last time; puts of two hosts are; one is dropped by a reset
unfoldable pub worn_pending : List ℕ
worn_pending = half last_time (put_frame ∷ []) ++ blank_half

unfoldable pub two_pending : List ℕ
two_pending = half 1 (change (host_of 1) (put (id_of 9) []) ∷ put_frame ∷ []) ++ blank_half

unfoldable pub dropped : List ℕ
dropped = half 1 (put_frame ∷ reset ∷ []) ++ blank_half

-- a closed frame of 248 bytes; one of ten in edition 2; their bodies are 0xFF
unfoldable pub closed_long : List ℕ
closed_long = half 1 (filler 248 ∷ []) ++ blank_half

unfoldable pub new_closed : List ℕ
new_closed = block_of edition.Second 384 1 (closed (replicate 5 0xFF) ∷ []) ++ blank_half

-- ---- the runs

pub record MendRuns : Type 0 where
  -- a mount has a reset's five steps, or a transfer's eleven
  pub moves-always : Differs 2 moves_always pending (mount ∷ stepping 5 []) answered 255 0
  pub moves-at-edge : Differs 2 moves_at_edge five_left (mount ∷ stepping 5 []) answered 255 0
  -- four to close
  pub moves-undue : Differs 2 moves_undue undue (mount ∷ stepping 4 []) answered 255 0
  -- the reset's fifth byte; its third, after four to close; its ninth in edition 2
  pub never-moves : Differs 2 never_moves four_left (mount ∷ stepping 5 []) answered 11 255
  pub fits-unclosed : Differs 2 fits_unclosed tight_torn (mount ∷ stepping 7 []) answered 11 255
  pub fits-five : Differs 3 fits_five new_due (mount ∷ stepping 9 []) answered 11 255
  pub leaves-torn : Differs 2 leaves_torn torn_put (mount ∷ []) answered 0 255
  pub worn-mends : Differs 2 worn_mends worn_pending (mount ∷ []) answered 6 255
  -- the second half's state byte
  pub closes-and-moves : Differs 2 closes_and_moves tight_torn (mount ∷ step ∷ []) (byte_at 392) 0xFF 0xFE
  -- cut after the kind's first byte: 0A 00 FF 00 is no frame
  pub high-first : Differs 2 high_first torn_put (mount ∷ stepping 2 (mount ∷ [])) answered 3 255
  pub length-stays : Differs 2 length_stays torn_put (mount ∷ stepping 4 (mount ∷ [])) answered 3 0
  -- kind's low byte, finish byte and reset: seven steps
  pub closes-all : Differs 2 closes_all torn_commit (mount ∷ stepping 7 []) answered 255 0
  -- the torn commit's host
  pub clears-body : Differs 2 clears_body torn_commit (mount ∷ stepping 7 []) (byte_at 30) 0x00 0x02
  -- cut after the first of them: the commit reads as whole, and its object is held
  pub finish-first : Differs 2 finish_first torn_commit (mount ∷ step ∷ mount ∷ stepping 6 (reads ∷ [])) answered 0 8
  pub closes-alone : Differs 2 closes_alone torn_commit (mount ∷ stepping 7 (commits ∷ [])) answered 255 0
  pub always-resets : Differs 2 always_resets stored (mount ∷ []) answered 255 0
  -- an abort of host 1, six steps: host 2's put is pending
  pub aborts-one : Differs 2 aborts_one two_pending (mount ∷ stepping 6 (commits ∷ [])) answered 255 0
  pub reset-bare : Differs 2 reset_bare new_pending (mount ∷ stepping 9 (commits ∷ [])) answered 11 0
  -- three to close, and a reset's five
  pub finishes-reset : Differs 2 finishes_reset torn_reset (mount ∷ stepping 5 []) answered 0 255
  pub end_stays : Differs 2 end_stays_of torn_put (mount ∷ stepping 4 (commits ∷ [])) answered 11 0
  pub mend-keeps : Differs 2 mend_keeps pending (mount ∷ stepping 5 (commits ∷ [])) answered 11 0
  pub closing-foreign : Differs 2 closing_foreign closing_put (mount ∷ []) answered 3 255
  pub reset-foreign : Differs 2 reset_foreign torn_reset (mount ∷ []) answered 3 255
  pub closes-seven : Differs 2 closes_seven seven_tail (mount ∷ []) answered 255 3
  pub checks-body : Differs 2 checks_body closed_long (mount ∷ []) answered 3 0
  pub checks-crc : Differs 2 checks_crc new_closed (mount ∷ []) answered 3 0
  pub past-reset : Differs 2 past_reset dropped (mount ∷ commits ∷ []) answered 255 0
  -- 16 + 101 + 6 + 14 = 137, and 248 are 385
  pub room-with-closed : Differs 2 room_with_closed closed_long (mount ∷ puts 2 93 ∷ []) answered 7 255
  -- 16 + 248 = 0x0108
  pub logs-closed : Differs 2 logs_closed closed_long (mount ∷ logs ∷ []) (replied 10) 0x08 0x10
