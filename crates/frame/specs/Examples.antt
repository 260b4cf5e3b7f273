-- The frames of document 01's bench rows b and c, byte for byte, and a frame closed in place (document 02, K11).
use Rattle.std.specs.Prelude.{List, [], ◌∷◌, ◌≡◌, ℕ}
use Rattle.frame.specs.declared.Edition.TheVariants as edition
use Rattle.frame.specs.declared.Field.TheVariants as field
use Rattle.frame.specs.Frame.{host_of, id_of, change, commit, closed, put, encode, max_frame}
use Rattle.frame.specs.Reader.{Read, whole, torn, wrong, fault, read_frame}

-- eight bytes up to the block's end, at offset 16 of it, where no settled frame may stand
abbrev pub read_at : List ℕ → Read
read_at t = read_frame edition.First 256 16 t

pub record Examples : Type 0 where
  pub row-b : encode edition.First (change (host_of 2) (put (id_of 5) (0x41 ∷ 0x42 ∷ [])))
      ≡ 0x0A ∷ 0x00 ∷ 0x01 ∷ 0x00 ∷ 0x02 ∷ 0x05 ∷ 0x00 ∷ 0x41 ∷ 0x42 ∷ 0xFE ∷ []
  pub row-c : encode edition.First (commit (host_of 2)) ≡ 0x06 ∷ 0x00 ∷ 0x03 ∷ 0x00 ∷ 0x02 ∷ 0xFE ∷ []
  pub longest : max_frame edition.First ≡ 248
  pub longest_second : max_frame edition.Second ≡ 252
  -- the same in the second edition, CRCs by a second program (zlib)
  pub row_b_second : encode edition.Second (change (host_of 2) (put (id_of 5) (0x41 ∷ 0x42 ∷ [])))
      ≡ 0x0E ∷ 0x00 ∷ 0x01 ∷ 0x00 ∷ 0x02 ∷ 0x05 ∷ 0x00 ∷ 0x41 ∷ 0x42 ∷ 0x22 ∷ 0x39 ∷ 0x12 ∷ 0xB4 ∷ 0xFE ∷ []
  pub row_c_second : encode edition.Second (commit (host_of 2)) ≡ 0x0A ∷ 0x00 ∷ 0x03 ∷ 0x00 ∷ 0x02 ∷ 0xC9 ∷ 0x30 ∷ 0xDA ∷ 0x60 ∷ 0xFE ∷ []
  -- a commit torn after five bytes; "kind to 0x0000 low byte first", and it is torn still; "then its finish byte", and it is closed
  pub torn-commit : read_at (0x06 ∷ 0x00 ∷ 0x03 ∷ 0x00 ∷ 0x02 ∷ 0xFF ∷ 0xFF ∷ 0xFF ∷ []) ≡ torn 6
  pub kind_cleared : read_at (0x06 ∷ 0x00 ∷ 0x00 ∷ 0x00 ∷ 0x02 ∷ 0xFF ∷ 0xFF ∷ 0xFF ∷ []) ≡ torn 6
  pub closed_commit : read_at (0x06 ∷ 0x00 ∷ 0x00 ∷ 0x00 ∷ 0x02 ∷ 0xFE ∷ 0xFF ∷ 0xFF ∷ []) ≡ whole (closed (0x02 ∷ []))
  -- its finish byte first would commit it
  pub finish-first : read_at (0x06 ∷ 0x00 ∷ 0x03 ∷ 0x00 ∷ 0x02 ∷ 0xFE ∷ 0xFF ∷ 0xFF ∷ []) ≡ whole (commit (host_of 2))
  -- "Once its kind's low byte is 0, its body and CRC are ignored"; with its finish byte programmed it is wrong at its kind
  pub high_left : read_at (0x06 ∷ 0x00 ∷ 0x00 ∷ 0xFF ∷ 0x02 ∷ 0xFF ∷ 0xFF ∷ 0xFF ∷ []) ≡ torn 6
  pub high_wrong : read_at (0x06 ∷ 0x00 ∷ 0x00 ∷ 0xFF ∷ 0x02 ∷ 0xFE ∷ 0xFF ∷ 0xFF ∷ []) ≡ wrong (fault field.Kind 18)
  -- of "kinds 1 to 4 or 7" none has length 7: wrong at its kind where a settled frame may stand, else at its length
  pub seven : read_at (0x07 ∷ 0x00 ∷ 0x00 ∷ 0x00 ∷ 0x02 ∷ 0x02 ∷ 0xFF ∷ 0xFF ∷ []) ≡ wrong (fault field.Length 16)
  pub seven_first : read_frame edition.First 0 16 (0x07 ∷ 0x00 ∷ 0x00 ∷ 0x00 ∷ 0x02 ∷ 0x02 ∷ 0xFF ∷ 0xFF ∷ []) ≡ wrong (fault field.Kind 18)
