-- Messages and replies, document 01, "What hosts send".
use Rattle.std.specs.Prelude.{List, ◌++◌, Option, Bool, true, false, ◌&&◌, ℕ, ◌+◌, eqb, leb, length, get_or, drop, None}
use Rattle.std.specs.Bool.{then_some}
use Rattle.flash.specs.Bytes.{u16le, u32le, le16}
use Rattle.frame.specs.declared.ObjectId.{ObjectId}
use Rattle.frame.specs.Frame.{id_max, value_max, kind_at, body_at}
use Rattle.wire.specs.declared.Page.TheVariants.{Summary}
use Rattle.wire.specs.declared.Request.{Request}
use Rattle.wire.specs.declared.Request.TheVariants.{Put, Delete, Commit, Abort, Read, Log, Convert}

-- what a message is: a request, or malformed
abbrev pub Parsed : Type 0
Parsed = Option Request

-- "A message is length (2, equal to the bytes given), kind (2), body.", as a frame begins: its kind and its body stand where a frame's do

-- the number of two bytes of a message
abbrev pub word_at : List ℕ → ℕ → ℕ
word_at m i = le16 (get_or m i 0) (get_or m (i + 1) 0)

-- a body's id, and past it a put's value: all that follows the id
abbrev pub id_in : List ℕ → ObjectId
id_in m = record { 0 = word_at m body_at }

abbrev pub id_end : ℕ
id_end = body_at + 2

abbrev pub value_in_of : List ℕ → List ℕ
value_in_of m = drop id_end m

-- an id of at most 255 follows, and nothing else
abbrev pub only_id : List ℕ → Bool
only_id m = eqb (length m) id_end && leb (word_at m body_at) id_max

-- a commit, an abort and a convert are length and kind alone
abbrev pub no_body : List ℕ → Bool
no_body m = eqb (length m) body_at

-- an id and a value that is not too long
abbrev pub id_and_value : List ℕ → Bool
id_and_value m = leb id_end (length m) && (leb (length m) (id_end + value_max) && leb (word_at m body_at) id_max)

-- "0x0106 log: page 1 byte, which must be 1"
abbrev pub summary_page : List ℕ → Bool
summary_page m = eqb (length m) (body_at + 1) && eqb (get_or m body_at 0) 1

-- "0x0101 put: id 2, value. 0x0102 delete: id 2. 0x0103 commit. 0x0104 abort. 0x0105 read: id 2. 0x0106 log"; "A convert
-- request (0x0108, no body)" (document 02, K9)
abbrev pub of_kind : ℕ → List ℕ → Parsed
of_kind k m =
    elim (eqb k 0x0101) [
      | true ↦ then_some (id_and_value m) (Put (id_in m))
      | false ↦ elim (eqb k 0x0102) [
        | true ↦ then_some (only_id m) (Delete (id_in m))
        | false ↦ elim (eqb k 0x0103) [
          | true ↦ then_some (no_body m) Commit
          | false ↦ elim (eqb k 0x0104) [
            | true ↦ then_some (no_body m) Abort
            | false ↦ elim (eqb k 0x0105) [
              | true ↦ then_some (only_id m) (Read (id_in m))
              | false ↦ elim (eqb k 0x0106) [
                | true ↦ then_some (summary_page m) (Log Summary)
                | false ↦ elim (eqb k 0x0108) [ true ↦ then_some (no_body m) Convert | false ↦ None ]
              ]
            ]
          ]
        ]
      ]
    ]

-- the length is "equal to the bytes given"
unfoldable pub parse : List ℕ → Parsed
parse m = elim (leb body_at (length m) && eqb (word_at m 0) (length m)) [ true ↦ of_kind (word_at m kind_at) m | false ↦ None ]

-- document 02, K8: "A message of kind 0x0105", malformed or not
abbrev pub of_read_kind : List ℕ → Bool
of_read_kind m = leb body_at (length m) && eqb (word_at m kind_at) 0x0105

-- ---- the log page

-- "Log page 1 writes 14 bytes to the lent reply"
abbrev pub page_len : ℕ
page_len = 14

-- "length 14 (2), kind 0x0201 (2), creation time (4), settled count (2), U (2), S (2)"
abbrev pub log_page : ℕ → ℕ → ℕ → ℕ → List ℕ
log_page time count u s = u16le page_len ++ (u16le 0x0201 ++ (u32le time ++ (u16le count ++ (u16le u ++ u16le s))))

-- "later reply bytes stay"
abbrev pub with_page : List ℕ → List ℕ → List ℕ
with_page page reply = page ++ drop page_len reply
