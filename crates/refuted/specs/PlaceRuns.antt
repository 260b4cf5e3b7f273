-- For each wrong store of WrongPlaces a short run that tells it from the machine, as in WrongRuns, or a forged record. S = 384 and two blocks.
use Rattle.std.specs.Prelude.{List, [], ◌∷◌, ◌++◌, ℕ, set}
use Rattle.frame.specs.Frame.{host_of, id_of, put, change, commit}
use Rattle.board.specs.declared.Record.{Record}
use Rattle.board.specs.Record.{no_places, rest, idle}
use Rattle.board.specs.Exec.{Call, mount}
use Rattle.refuted.specs.WrongRuns.{Differs, Forged, answered, half, blank_half, put_frame, pending, stored, nearly_full, filler, stepping, asks}
use Rattle.refuted.specs.WrongRuns.{put_empty, puts, deletes, commits, aborts, reads, after_put}
use Rattle.refuted.specs.EditionRuns.{empties, converts}
use Rattle.refuted.specs.WrongPlaces.{places_stay, convert_stays, put_stays, delete_stays, abort_places, places_others, mount_places, trusts_place}
use Rattle.refuted.specs.WrongPlaces.{reads_any_length, reads_afresh, stale_first, none_first_of, reads_by_header, skips_places}

-- ---- images

-- id 5's put at 264, committed, and a put that is pending and ends at 384, so that a mount makes a transfer
unfoldable pub stored_late : List ℕ
stored_late = half 1 (filler 248 ∷ put_frame ∷ commit (host_of 2) ∷ filler 96 ∷ change (host_of 2) (put (id_of 7) []) ∷ []) ++ blank_half

-- empty values in ids 5 and 6, at 16 and 23; in edition 2 at 16 and 27
unfoldable pub two_empty : List ℕ
two_empty = half 1 (empties 5 2) ++ blank_half

-- ---- calls and records

abbrev pub reads_of : ℕ → Call
reads_of i = asks (0x06 ∷ 0x00 ∷ 0x05 ∷ 0x01 ∷ i ∷ 0x00 ∷ [])

-- a read with a byte too many
abbrev pub misreads : Call
misreads = asks (0x07 ∷ 0x00 ∷ 0x05 ∷ 0x01 ∷ 0x05 ∷ 0x00 ∷ 0x00 ∷ [])

-- of `stored`, whose record has id 5's place, 16, and no other
abbrev pub placed : List ℕ
placed = set no_places 5 16

-- one place too many; the frame there is id 5's
abbrev pub misplaced : Record
misplaced = idle (set placed 7 16) (rest 2 767 0 32 1)

-- another length; another end; another edition
abbrev pub mislong : Record
mislong = idle placed (rest 2 1023 0 32 1)

abbrev pub misended : Record
misended = idle placed (rest 2 767 0 31 1)

abbrev pub misdated : Record
misdated = idle placed (rest 2 767 0 32 2)

-- ---- the runs

pub record PlaceRuns : Type 0 where
  -- U = 25: a transfer of 20 steps
  pub places-stay : Differs 2 places_stay stored_late (mount ∷ stepping 20 (reads ∷ [])) answered 11 0
  -- U = 38 in edition 2: 33 steps
  pub convert-stays : Differs 2 convert_stays two_empty (mount ∷ converts ∷ stepping 33 (reads_of 6 ∷ [])) answered 11 0
  -- the put ends at 384. C = 24: a transfer of 19 steps, and the commit's 6
  pub put-stays : Differs 2 put_stays nearly_full (after_put (commits ∷ stepping 25 (reads_of 7 ∷ []))) answered 11 0
  pub delete-stays : Differs 2 delete_stays stored (mount ∷ deletes ∷ stepping 8 (commits ∷ stepping 6 (reads ∷ []))) answered 0 8
  pub abort-places : Differs 2 abort_places stored (after_put (aborts ∷ stepping 6 (reads_of 7 ∷ []))) answered 0 8
  -- host 1's put to id 9 is pending
  pub places-others : Differs 2 places_others stored (mount ∷ puts 1 0 ∷ stepping 8 (put_empty 7 ∷ stepping 8 (commits ∷ stepping 6 (reads_of 9 ∷ []))))
      answered 0 8
  pub mount-places : Differs 2 mount_places pending (mount ∷ stepping 5 (reads ∷ [])) answered 0 8
  -- ---- forged records
  pub trusts-place : Forged trusts_place misplaced (reads_of 7) 0 11
  pub reads-any-length : Forged reads_any_length mislong reads 0 11
  pub reads-afresh : Forged reads_afresh misended reads 11 0
  pub stale-first : Forged stale_first mislong misreads 11 1
  pub none_first : Forged none_first_of mislong (reads_of 7) 8 11
  pub reads-by-header : Forged reads_by_header misdated reads 0 11
  pub skips-places : Forged skips_places misplaced commits 0 11
