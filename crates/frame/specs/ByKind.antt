-- The bytes of each kind of frame in either edition, in the papers' own numbers: "Length (2, whole frame), kind (2), body, finish byte 0xFE",
-- "little-endian everywhere", and the table of kinds, bodies and lengths. No definition of `Frame` but `encode` itself is used.
use Rattle.std.specs.Prelude.{List, [], ◌∷◌, ◌++◌, ◌≡◌, ℕ, ◌+◌, ◌/◌, ◌%◌, length}
use Rattle.crc.specs.Crc.{crc32_of}
use Rattle.frame.specs.declared.Edition.{Edition}
use Rattle.frame.specs.declared.Edition.TheVariants as edition
use Rattle.frame.specs.declared.Host.{Host}
use Rattle.frame.specs.declared.ObjectId.{ObjectId}
use Rattle.frame.specs.Frame.{change, commit, abort, settled, closed, reset, put, delete, encode}

-- "four bytes of CRC-32 (IEEE 802.3), over all that precedes them in the frame, before the finish byte" (document 02, K9)
abbrev pub with_crc : List ℕ → List ℕ
with_crc x = x ++ (crc32_of x % 256 ∷ crc32_of x / 256 % 256 ∷ crc32_of x / 65536 % 256 ∷ crc32_of x / 16777216 ∷ 0xFE ∷ [])

pub record FrameExact : Type 0 where
  -- "1 put", "host 1, id 2, value v", "8+v"
  pub put_bytes : (h : Host) (i : ObjectId) (v : List ℕ) → encode edition.First (change h (put i v))
      ≡ (8 + length v) % 256 ∷ (8 + length v) / 256 ∷ 1 ∷ 0 ∷ h.0 ∷ i.0 % 256 ∷ i.0 / 256 ∷ (v ++ (0xFE ∷ []))
  -- "2 delete", "host 1, id 2", "8"
  pub delete_bytes : (h : Host) (i : ObjectId) → encode edition.First (change h (delete i))
      ≡ 8 ∷ 0 ∷ 2 ∷ 0 ∷ h.0 ∷ i.0 % 256 ∷ i.0 / 256 ∷ 0xFE ∷ []
  -- "3 commit", "host 1", "6"
  pub commit_bytes : (h : Host) → encode edition.First (commit h) ≡ 6 ∷ 0 ∷ 3 ∷ 0 ∷ h.0 ∷ 0xFE ∷ []
  -- "4 abort", "host 1", "6"
  pub abort_bytes : (h : Host) → encode edition.First (abort h) ≡ 6 ∷ 0 ∷ 4 ∷ 0 ∷ h.0 ∷ 0xFE ∷ []
  -- "5 settled", "id 2, value v", "7+v"
  pub settled-bytes : (i : ObjectId) (v : List ℕ) → encode edition.First (settled i v)
      ≡ (7 + length v) % 256 ∷ (7 + length v) / 256 ∷ 5 ∷ 0 ∷ i.0 % 256 ∷ i.0 / 256 ∷ (v ++ (0xFE ∷ []))
  -- in the second edition each is four bytes longer: "12 for the delete, 10 for each 6", and so 12+v for a put and 11+v for a settled frame
  pub put_second : (h : Host) (i : ObjectId) (v : List ℕ) → encode edition.Second (change h (put i v))
      ≡ with_crc ((12 + length v) % 256 ∷ (12 + length v) / 256 ∷ 1 ∷ 0 ∷ h.0 ∷ i.0 % 256 ∷ i.0 / 256 ∷ v)
  pub delete_second : (h : Host) (i : ObjectId) → encode edition.Second (change h (delete i))
      ≡ with_crc (12 ∷ 0 ∷ 2 ∷ 0 ∷ h.0 ∷ i.0 % 256 ∷ i.0 / 256 ∷ [])
  pub commit_second : (h : Host) → encode edition.Second (commit h) ≡ with_crc (10 ∷ 0 ∷ 3 ∷ 0 ∷ h.0 ∷ [])
  pub abort_second : (h : Host) → encode edition.Second (abort h) ≡ with_crc (10 ∷ 0 ∷ 4 ∷ 0 ∷ h.0 ∷ [])
  pub settled_second : (i : ObjectId) (v : List ℕ) → encode edition.Second (settled i v)
      ≡ with_crc ((11 + length v) % 256 ∷ (11 + length v) / 256 ∷ 5 ∷ 0 ∷ i.0 % 256 ∷ i.0 / 256 ∷ v)
  -- document 02, K11: "a reset frame (kind 7, no body, length 5 or in edition 2 nine)"
  pub reset-bytes : encode edition.First reset ≡ 5 ∷ 0 ∷ 7 ∷ 0 ∷ 0xFE ∷ []
  pub reset_second : encode edition.Second reset ≡ with_crc (9 ∷ 0 ∷ 7 ∷ 0 ∷ [])
  -- "length's high byte to 0, kind to 0x0000", "its body and CRC are ignored", in both editions
  pub closed-bytes : (e : Edition) (v : List ℕ) → encode e (closed v) ≡ (5 + length v) % 256 ∷ (5 + length v) / 256 ∷ 0 ∷ 0 ∷ (v ++ (0xFE ∷ []))
