-- For each wrong store of WrongEditions a short run that tells it from the machine, as in WrongRuns. S = 384 and two blocks, or 256 and three.
use Rattle.std.specs.Prelude.{List, [], ◌∷◌, ◌++◌, ℕ, zero, suc, take, replicate}
use Rattle.frame.specs.declared.Edition.TheVariants as edition
use Rattle.frame.specs.Frame.{host_of, id_of, put, Frame, change, settled}
use Rattle.journal.specs.Block.{header, valid_data, last_time}
use Rattle.board.specs.Exec.{Call, mount, format}
use Rattle.refuted.specs.WrongRuns.{Differs, answered, byte_at, replied, block_of, half, blank_half, put_frame, stored, filler, stepping, asks}
use Rattle.refuted.specs.WrongRuns.{put_empty, puts, deletes, commits, logs}
use Rattle.refuted.specs.WrongEditions.{pending_alone, with_reserve, converts_again, drops_first, falls_back, format_keeps, second_foreign, crc_of_body}
use Rattle.refuted.specs.WrongEditions.{crc_big_endian, ignores_crc, room_as_before, logs_by_first, pending_in_first, room_before_pending, any_body}
use Rattle.refuted.specs.WrongEditions.{room_by_first, converts_worn, mount_falls_back, later_edition, record_keeps, torn_foreign, full_by_first}

-- ---- images

-- a store of edition 2: empty; with an empty value in id 5; with a CRC of zeros in its frame
unfoldable pub new_empty : List ℕ
new_empty = block_of edition.Second 384 1 [] ++ blank_half

unfoldable pub new_stored : List ℕ
new_stored = block_of edition.Second 384 1 (settled (id_of 5) [] ∷ []) ++ blank_half

unfoldable pub new_spoiled : List ℕ
new_spoiled =
    header edition.Second 1 valid_data
    ++ (0x0B ∷ 0x00 ∷ 0x05 ∷ 0x00 ∷ 0x05 ∷ 0x00 ∷ 0x00 ∷ 0x00 ∷ 0x00 ∷ 0x00 ∷ 0xFE ∷ (replicate 357 0xFF ++ blank_half))

-- host 2's put is pending; cut inside its CRC
unfoldable pub new_pending : List ℕ
new_pending = block_of edition.Second 384 1 (put_frame ∷ []) ++ blank_half

unfoldable pub new_torn : List ℕ
new_torn = take 26 new_pending ++ replicate 742 0xFF

-- of edition 1: empty; at the last time; empty, beside an empty one of edition 2 of the same time
unfoldable pub old_empty : List ℕ
old_empty = half 1 [] ++ blank_half

unfoldable pub worn : List ℕ
worn = half last_time [] ++ blank_half

unfoldable pub both_editions : List ℕ
both_editions = half 1 [] ++ block_of edition.Second 384 1 []

-- n empty values from id i on; ten objects, one of 240 bytes, id 5's of 24: U = 350, in edition 2 390
abbrev pub empties : ℕ → ℕ → List Frame
empties i zero = []
empties i (suc n) = settled (id_of i) [] ∷ empties (suc i) n

unfoldable pub many_objects : List ℕ
many_objects = half 1 (settled (id_of 1) (replicate 240 0x41) ∷ settled (id_of 5) (replicate 24 0x41) ∷ empties 6 8) ++ blank_half

-- of edition 1, with values of 240 and 100 bytes: U = 370, in edition 2 378; with an empty value in id 0
unfoldable pub tight_half : List ℕ
tight_half = half 1 (settled (id_of 1) (replicate 240 0x41) ∷ settled (id_of 2) (replicate 100 0x41) ∷ []) ++ blank_half

unfoldable pub object_zero : List ℕ
object_zero = half 1 (settled (id_of 0) [] ∷ []) ++ blank_half

-- three blocks of 256 bytes, of edition 2: a closed frame, 16 + 230 = 246; one and a put that is pending, 236 + 12 = 248, where a reset's nine bytes
-- don't fit; a value of 190 bytes, U = 217
unfoldable pub new_full : List ℕ
new_full = block_of edition.Second 256 1 (filler 230 ∷ []) ++ replicate 512 0xFF

unfoldable pub new_due : List ℕ
new_due = block_of edition.Second 256 1 (filler 220 ∷ change (host_of 2) (put (id_of 7) []) ∷ []) ++ replicate 512 0xFF

unfoldable pub new_heavy : List ℕ
new_heavy = block_of edition.Second 256 1 (settled (id_of 1) (replicate 190 0x41) ∷ []) ++ replicate 512 0xFF

-- ---- calls

abbrev pub converts : Call
converts = asks (0x04 ∷ 0x00 ∷ 0x08 ∷ 0x01 ∷ [])

abbrev pub reads_zero : Call
reads_zero = asks (0x06 ∷ 0x00 ∷ 0x05 ∷ 0x01 ∷ 0x00 ∷ 0x00 ∷ [])

-- ---- the runs

pub record EditionRuns : Type 0 where
  -- host 1's put is pending, host 2 asks
  pub pending-alone : Differs 2 pending_alone stored (mount ∷ puts 1 0 ∷ stepping 8 (converts ∷ [])) answered 255 16
  pub pending-in-first : Differs 2 pending_in_first new_empty (mount ∷ puts 1 0 ∷ stepping 12 (converts ∷ [])) answered 0 16
  pub room-before-pending : Differs 2 room_before_pending many_objects (mount ∷ deletes ∷ stepping 8 (converts ∷ [])) answered 7 16
  pub any-body : Differs 2 any_body stored (mount ∷ asks (0x05 ∷ 0x00 ∷ 0x08 ∷ 0x01 ∷ 0x00 ∷ []) ∷ []) answered 255 1
  pub room-by-first : Differs 2 room_by_first many_objects (mount ∷ converts ∷ []) answered 255 7
  -- 378 + 22 > 384
  pub with-reserve : Differs 2 with_reserve tight_half (mount ∷ converts ∷ []) answered 7 255
  pub converts-worn : Differs 2 converts_worn worn (mount ∷ converts ∷ []) answered 255 6
  pub converts-again : Differs 2 converts_again new_empty (mount ∷ converts ∷ []) answered 255 0
  -- 27 - 5 steps, and a read of object 0
  pub drops-first : Differs 2 drops_first object_zero (mount ∷ converts ∷ stepping 22 (reads_zero ∷ [])) answered 8 0
  -- the second block's kind: 246 + 12 > 256
  pub falls-back : Differs 3 falls_back new_full (mount ∷ put_empty 7 ∷ stepping 4 []) (byte_at 258) 0x01 0x02
  pub mount-falls-back : Differs 3 mount_falls_back new_due (mount ∷ stepping 4 []) (byte_at 258) 0x01 0x02
  -- the first block's kind, after two erases
  pub format-keeps : Differs 2 format_keeps new_empty (format ∷ stepping 6 []) (byte_at 2) 0x02 0x01
  pub second-foreign : Differs 2 second_foreign new_empty (mount ∷ []) answered 3 0
  pub later-edition : Differs 2 later_edition both_editions (mount ∷ []) answered 255 3
  -- a convert of an empty store has eleven steps
  pub record-keeps : Differs 2 record_keeps old_empty (mount ∷ converts ∷ stepping 11 (commits ∷ [])) answered 11 0
  -- the CRC's first byte, the frame's eighth: of 0C 00 01 00 02 07 00 it is 0x2B69DE13, of 02 07 00 0xB3849BBB
  pub crc-of-body : Differs 2 crc_of_body new_empty (mount ∷ put_empty 7 ∷ stepping 8 []) (byte_at 23) 0xBB 0x13
  pub crc-big-endian : Differs 2 crc_big_endian new_empty (mount ∷ put_empty 7 ∷ stepping 8 []) (byte_at 23) 0x2B 0x13
  pub ignores-crc : Differs 2 ignores_crc new_spoiled (mount ∷ []) answered 0 3
  pub torn-foreign : Differs 2 torn_foreign new_torn (mount ∷ []) answered 3 255
  -- 217 + 12 + 10 + 22 > 256, 217 + 12 + 6 + 14 is not
  pub room-as-before : Differs 3 room_as_before new_heavy (mount ∷ put_empty 7 ∷ []) answered 255 7
  -- a frame of 196 bytes, in edition 1 of 192; S/2 = 192
  pub full-by-first : Differs 2 full_by_first new_empty (mount ∷ puts 2 184 ∷ []) answered 255 12
  -- 16 + 7, 16 + 11
  pub logs-by-first : Differs 2 logs_by_first new_stored (mount ∷ logs ∷ []) (replied 10) 23 27
