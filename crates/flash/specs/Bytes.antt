-- Bytes and little-endian numbers. A byte is a number below 256, an image or a message a list of bytes.
use Rattle.std.specs.Prelude.{List, [], ◌∷◌, Bool, true, false, ℕ, ◌+◌, ◌*◌, ◌/◌, ◌%◌, ◌<◌, eqb}

-- every element of the list is a byte
abbrev pub Bytes : List ℕ → Type 0
Bytes [] = Unit {0}
Bytes (b ∷ t) = (b < 256) × Bytes t

-- document 01: "Numbers are little-endian everywhere."
abbrev pub u16le : ℕ → List ℕ
u16le n = n % 256 ∷ n / 256 ∷ []

abbrev pub u32le : ℕ → List ℕ
u32le n = n % 256 ∷ n / 256 % 256 ∷ n / 65536 % 256 ∷ n / 16777216 ∷ []

-- the number that two, and four, bytes are
abbrev pub le16 : ℕ → ℕ → ℕ
le16 a b = a + b * 256

abbrev pub le32 : ℕ → ℕ → ℕ → ℕ → ℕ
le32 a b c d = a + b * 256 + c * 65536 + d * 16777216

-- every byte is 0xFF: document 01's "blank"
unfoldable pub all_ff : List ℕ → Bool
all_ff [] = true
all_ff (b ∷ t) = elim (eqb b 255) [ true ↦ all_ff t | false ↦ false ]

-- two lists are the same
unfoldable pub same_bytes_of : List ℕ → List ℕ → Bool
same_bytes_of [] [] = true
same_bytes_of [] (b ∷ t) = false
same_bytes_of (a ∷ s) [] = false
same_bytes_of (a ∷ s) (b ∷ t) = elim (eqb a b) [ true ↦ same_bytes_of s t | false ↦ false ]
