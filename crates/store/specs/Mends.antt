-- What a mount does with the block that is taken, by what a look kept of it. proofs/ ties it to board's definitions.
use Rattle.std.specs.Prelude.{List, [], Bool, true, false, ◌&&◌, cond, ℕ, ◌+◌, eqb, ltb, length, get_or}
use Rattle.flash.specs.Flash.{Write}
use Rattle.frame.specs.Frame.{reset, encode, reset_len, edition_by, buffer}
use Rattle.journal.specs.Block.{closing, changing}
use Rattle.board.specs.declared.Job.{Job}
use Rattle.board.specs.Record.{no_frame}
use Rattle.board.specs.Mount.{close_array}
use Rattle.looks.specs.declared.lists.Counted.{Counted}
use Rattle.looks.specs.declared.looks.Newest.{Newest}
use Rattle.looks.specs.Seen.{one_more}
use Rattle.store.specs.declared.mends.Mend.{Mend}
use Rattle.store.specs.declared.mends.Mend.TheVariants.{Transfer, Append}

-- ---- the bytes that close a torn frame

abbrev pub Closes : Type 0
Closes = Counted ℕ 4

abbrev pub closes_of : List Write → Closes
closes_of ws = record { items = close_array ws; count = length ws }

-- one more at the end, if block b has another byte there
abbrev pub noted : List ℕ → Closes → Write → Closes
noted b l w = cond (eqb (get_or b w.at 0) w.byte) l (one_more l w.at)

-- of a torn frame of n bytes at an offset; 0 for none
abbrev pub torn_writes : List ℕ → ℕ → ℕ → List Write
torn_writes b at n = cond (eqb n 0) [] (changing b (closing at n))

-- ---- mend or move

-- a reset is due and doesn't fit in a block of s bytes
abbrev pub moves_in : ℕ → Newest → Bool
moves_in s w = w.pends && ltb s (w.end + w.torn + reset_len w.edition)

-- the length of the reset that is due, 0 for none
abbrev pub due_len : Newest → ℕ
due_len w = cond w.pends (reset_len w.edition) 0

-- what is done with the block, whose bytes are b
unfoldable pub mend_in : List ℕ → Newest → Mend
mend_in b w =
    cond (moves_in (length b) w) Transfer (Append (w.end + w.torn) (closes_of (torn_writes b w.end w.torn)) (due_len w))

-- what it comes to in a record: a block is made, where the record stands, what is closed, and the length of the reset
abbrev pub is_transfer : Mend → Bool
is_transfer Transfer = true
is_transfer (Append e l n) = false

abbrev pub stands_at : Newest → Mend → ℕ
stands_at w Transfer = w.end
stands_at w (Append e l n) = e

abbrev pub closes_in : Mend → Closes
closes_in Transfer = closes_of []
closes_in (Append e l n) = l

abbrev pub size_in : Mend → ℕ
size_in Transfer = 0
size_in (Append e l n) = n

-- the frame that a mount's job appends
abbrev pub reset_in : Job → List ℕ
reset_in j = cond (ltb 0 j.size) (buffer (encode (edition_by j.edition) reset)) no_frame
