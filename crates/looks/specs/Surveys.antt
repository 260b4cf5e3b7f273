-- What a survey tells of a block. proofs/ ties it to board's definitions.
use Rattle.std.specs.Prelude.{List, Bool, true, false, ◌&&◌, cond, ℕ, ◌+◌, eqb, ltb, get_or, Result, Ok, Err}
use Rattle.survey.specs.declared.BlockKind.{BlockKind}
use Rattle.survey.specs.declared.BlockKind.TheVariants as kind
use Rattle.survey.specs.declared.Survey.{Survey}
use Rattle.journal.specs.Block.{last_time}
use Rattle.wire.specs.declared.Refusal.{Refusal}
use Rattle.wire.specs.declared.Refusal.TheVariants as refusal
use Rattle.board.specs.Mount.{new_time}

abbrev pub is_valid : BlockKind → Bool
is_valid kind.Blank = false
is_valid kind.InProgress = false
is_valid kind.Valid = true
is_valid (kind.Foreign e) = false

abbrev pub is_blank_kind : BlockKind → Bool
is_blank_kind kind.Blank = true
is_blank_kind kind.InProgress = false
is_blank_kind kind.Valid = false
is_blank_kind (kind.Foreign e) = false

-- a foreign block is named, with its fault
abbrev pub or_foreign_kind : ℕ → BlockKind → Refusal → Refusal
or_foreign_kind k kind.Blank why = why
or_foreign_kind k kind.InProgress why = why
or_foreign_kind k kind.Valid why = why
or_foreign_kind k (kind.Foreign e) why = refusal.Foreign k e

-- four hosts' pending bytes: all of them
abbrev pub sum_of : List ℕ → ℕ
sum_of p = get_or p 0 0 + get_or p 1 0 + get_or p 2 0 + get_or p 3 0

-- something is pending
abbrev pub pends_in : Survey → Bool
pends_in s = ltb 0 (sum_of s.pending)

-- the creation time of the block that is made; 0 for none, also where there is no later time
abbrev pub time_for : Bool → ℕ → ℕ
time_for moves time = cond (moves && eqb time last_time) 0 (new_time moves time)

-- the same, or that there is no later time
abbrev pub next_time : Bool → ℕ → Result ℕ Refusal
next_time moves time = cond (moves && eqb time last_time) (Err refusal.Worn) (Ok (new_time moves time))
