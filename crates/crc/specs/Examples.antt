-- "CRCs are compared with the published check value" (document 02, K9).
use Rattle.std.specs.Prelude.{[], ◌∷◌, ◌≡◌}
use Rattle.crc.specs.Crc.{crc32_of}

pub record Examples : Type 0 where
  -- of the bytes "123456789"
  pub check_value : crc32_of (0x31 ∷ 0x32 ∷ 0x33 ∷ 0x34 ∷ 0x35 ∷ 0x36 ∷ 0x37 ∷ 0x38 ∷ 0x39 ∷ []) ≡ 0xCBF43926
