-- What the code's parts do, in the code's own order of tests.
use Rattle.std.specs.Prelude.{List, ◌++◌, true, false, ℕ, min, ltb, length, drop}
use Rattle.wire.specs.Message.{id_end, page_len, with_page}

-- the source in place of the first bytes, where there are as many; else nothing changes
unfoldable pub overlay : List ℕ → List ℕ → List ℕ
overlay source bytes = elim (ltb (length bytes) (length source)) [ true ↦ bytes | false ↦ source ++ drop (length source) bytes ]

-- a page in a reply that has room for it; a shorter reply stays
unfoldable pub page_into : List ℕ → List ℕ → List ℕ
page_into page reply = elim (ltb (length reply) page_len) [ true ↦ reply | false ↦ with_page page reply ]

-- where a put's value starts in its message
abbrev pub value_place : List ℕ → ℕ
value_place m = min id_end (length m)
