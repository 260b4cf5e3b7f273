-- Parts of document 01's bench rows that need no board: row a's header, row k's room, and a commit beside another host's changes; document
-- 02's half that is half-erased and valid, K4.
use Rattle.std.specs.Prelude.{List, [], ◌∷◌, true, false, ◌≡◌, ℕ, replicate}
use Rattle.flash.specs.Flash.{write_all}
use Rattle.flash.specs.Raised.{Raised}
use Rattle.frame.specs.declared.Edition.TheVariants as edition
use Rattle.frame.specs.Frame.{host_of, id_of, Frame, change, commit, put}
use Rattle.frame.specs.Reader.{clean}
use Rattle.journal.specs.Replay.{State, state, object, entry, replay, settled_only}
use Rattle.journal.specs.Block.{valid_data, header, build, journal, valid, block_state}
use Rattle.journal.specs.Room.{claimed, no_room_of}

-- ids 1 and 2 with 64 bytes and id 3 with n
unfoldable pub three : ℕ → State
three n =
    state (object (id_of 1) (replicate 64 0x41) ∷ object (id_of 2) (replicate 64 0x41) ∷ object (id_of 3) (replicate n 0x41) ∷ []) []

-- hosts 0 and 1 each put to an id of their own, and to id 9
abbrev pub both : List Frame
both =
    change (host_of 0) (put (id_of 4) (0x10 ∷ [])) ∷ change (host_of 1) (put (id_of 5) (0x20 ∷ []))
    ∷ change (host_of 1) (put (id_of 9) (0x21 ∷ [])) ∷ change (host_of 0) (put (id_of 9) (0x11 ∷ [])) ∷ commit (host_of 0) ∷ []

pub record Examples : Type 0 where
  pub row-a : write_all (replicate 16 0xFF) (build edition.First 1 [])
      ≡ 0x10 ∷ 0x00 ∷ 0x01 ∷ 0x4A ∷ 0xFE ∷ 0xFF ∷ 0xFF ∷ 0xFF ∷ 0xFC ∷ 0xFF ∷ 0xFF ∷ 0xFF ∷ 0xFF ∷ 0xFF ∷ 0xFF ∷ 0xFF ∷ []
  pub row_k_claimed : claimed edition.First (three 64) ≡ 229
  pub row_k_refused : no_room_of edition.First 256 (three 64) (host_of 0) (put (id_of 4) []) ≡ true
  pub row_k_accepted : no_room_of edition.First 256 (three 63) (host_of 0) (put (id_of 4) []) ≡ false
  pub one_commit : replay both
      ≡ state (object (id_of 4) (0x10 ∷ []) ∷ object (id_of 9) (0x11 ∷ []) ∷ [])
      (entry (host_of 1) (put (id_of 5) (0x20 ∷ [])) ∷ entry (host_of 1) (put (id_of 9) (0x21 ∷ [])) ∷ [])
  pub mount_drops : settled_only (replay both) ≡ state (object (id_of 4) (0x10 ∷ []) ∷ object (id_of 9) (0x11 ∷ []) ∷ []) []
  -- K4: "A half-erased old half can still read as valid": one of time 3 as one of time 2
  pub half-erased : Raised (header edition.First 3 valid_data) (header edition.First 2 valid_data)
  pub was_valid : block_state (header edition.First 3 valid_data) ≡ valid (journal edition.First 3 [] clean)
  pub reads_valid : block_state (header edition.First 2 valid_data) ≡ valid (journal edition.First 2 [] clean)
