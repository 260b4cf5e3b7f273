-- Document 01's sentences on messages and on the log page, "What hosts send", and the statements that the definitions say exactly these.
use Rattle.std.specs.Prelude.{List, ◌∷◌, true, ◌↔◌, ◌≡◌, ℕ, ◌+◌, ◌*◌, ◌≤◌, ◌<◌, length, get_or, Some, None}
use Rattle.frame.specs.Frame.{value_max}
use Rattle.wire.specs.declared.Page.TheVariants.{Summary}
use Rattle.wire.specs.declared.Request.{Request}
use Rattle.wire.specs.declared.Request.TheVariants.{Put, Delete, Commit, Abort, Read, Log, Convert}
use Rattle.wire.specs.Message.{value_in_of, parse, of_read_kind, log_page, with_page}

-- "Numbers are little-endian everywhere": the number of the two, and of the four, bytes from an offset on
abbrev pub number2 : List ℕ → ℕ → ℕ
number2 l i = get_or l i 0 + get_or l (i + 1) 0 * 256

abbrev pub number4 : List ℕ → ℕ → ℕ
number4 l i = get_or l i 0 + get_or l (i + 1) 0 * 256 + get_or l (i + 2) 0 * 65536 + get_or l (i + 3) 0 * 16777216

-- ---- messages

-- "A message is length (2, equal to the bytes given), kind (2), body."
pub record Headed (m : List ℕ) (kind : ℕ) : Type 0 where
  pub long : 4 ≤ length m
  pub length_is : number2 m 0 ≡ length m
  pub kind_is : number2 m 2 ≡ kind

-- "0x0101 put: id 2, value. 0x0102 delete: id 2. 0x0103 commit. 0x0104 abort. 0x0105 read: id 2. 0x0106 log: page 1 byte, which must
-- be 1." "Object ids 0 to 255"; "Raise the value limit from 64 to 240, refusal 1 starting at 241" (document 02, K2); "A convert request
-- (0x0108, no body)" (K9)
abbrev pub Means : List ℕ → Request → Type 0
Means m (Put i) = Headed m 0x0101 × (6 ≤ length m) × (length m ≤ 6 + value_max) × (number2 m 4 ≡ i.0) × (i.0 ≤ 255)
Means m (Delete i) = Headed m 0x0102 × (length m ≡ 6) × (number2 m 4 ≡ i.0) × (i.0 ≤ 255)
Means m Commit = Headed m 0x0103 × (length m ≡ 4)
Means m Abort = Headed m 0x0104 × (length m ≡ 4)
Means m (Read i) = Headed m 0x0105 × (length m ≡ 6) × (number2 m 4 ≡ i.0) × (i.0 ≤ 255)
Means m (Log Summary) = Headed m 0x0106 × (length m ≡ 5) × (get_or m 4 0 ≡ 1)
Means m Convert = Headed m 0x0108 × (length m ≡ 4)

unfoldable pub MessagesExact : Type 0
MessagesExact = (m : List ℕ) (q : Request) → (parse m ≡ Some q) ↔ Means m q

-- document 02, K8: "A message of kind 0x0105", whatever its length says and whatever follows
pub record ReadKind (m : List ℕ) : Type 0 where
  pub long : 4 ≤ length m
  pub kind_is : number2 m 2 ≡ 0x0105

unfoldable pub ReadKindExact : Type 0
ReadKindExact = (m : List ℕ) → (of_read_kind m ≡ true) ↔ ReadKind m

-- 1: "message malformed: length, kind, id, value length or page"
unfoldable pub MalformedExact : Type 0
MalformedExact = (m : List ℕ) → (parse m ≡ None) ↔ ((q : Request) → Means m q → ⊥)

-- "put: id 2, value": the value is every byte after length, kind and id
unfoldable pub ValueExact : Type 0
ValueExact = (l₀ l₁ k₀ k₁ i₀ i₁ : ℕ) (v : List ℕ) → value_in_of (l₀ ∷ l₁ ∷ k₀ ∷ k₁ ∷ i₀ ∷ i₁ ∷ v) ≡ v

-- ---- the log page

-- "Log page 1 writes 14 bytes to the lent reply: length 14 (2), kind 0x0201 (2), creation time (4), settled count (2), U (2), S (2);
-- later reply bytes stay."
pub record PageIn (time count u s : ℕ) (was is : List ℕ) : Type 0 where
  pub length_is : number2 is 0 ≡ 14
  pub kind_is : number2 is 2 ≡ 0x0201
  pub time_is : number4 is 4 ≡ time
  pub count_is : number2 is 8 ≡ count
  pub used_is : number2 is 10 ≡ u
  pub size_is : number2 is 12 ≡ s
  pub bytes : (i : ℕ) → i < 14 → get_or is i 0 < 256
  pub stay : (i : ℕ) → 14 ≤ i → get_or is i 0 ≡ get_or was i 0
  pub as_long : length is ≡ length was

-- for numbers that fit their bytes, a reply of 14 bytes or more becomes exactly this
unfoldable pub PageExact : Type 0
PageExact =
    (time count u s : ℕ) (was is : List ℕ) → time < 4294967296 → count < 65536 → u < 65536 → s < 65536 → 14 ≤ length was
    → (with_page (log_page time count u s) was ≡ is) ↔ PageIn time count u s was is
