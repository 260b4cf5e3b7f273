-- What a survey says of a block, and what the code's answers stand for.
use Rattle.std.specs.Prelude.{◌≡◌, List, Bool, true, false, ◌&&◌, ℕ, ◌+◌, leb, length, Result, Ok, Err}
use Rattle.frame.specs.declared.Edition.{Edition}
use Rattle.frame.specs.declared.Fault.{Fault}
use Rattle.frame.specs.declared.Field.TheVariants as field
use Rattle.frame.specs.Frame.{Frame, total}
use Rattle.frame.specs.Reader.{fault}
use Rattle.survey.specs.declared.BlockKind.{BlockKind}
use Rattle.survey.specs.declared.BlockKind.TheVariants as kind
use Rattle.survey.specs.declared.Survey.{Survey}
use Rattle.journal.specs.Replay.{replay}
use Rattle.journal.specs.Block.{header_len, block_max, BlockState, blank, in_progress, valid, foreign, block_state, edition_of, frames_in, time_in, torn_len}
use Rattle.journal.specs.Room.{used, pending_of}
use Rattle.journal.specs.Index.{places_of, since_of}

-- ---- a block

abbrev pub kind_in : BlockState → BlockKind
kind_in blank = kind.Blank
kind_in in_progress = kind.InProgress
kind_in (valid x) = kind.Valid
kind_in (foreign e) = kind.Foreign e

abbrev pub torn_in : BlockState → ℕ
torn_in blank = 0
torn_in in_progress = 0
torn_in (valid x) = torn_len x.tail
torn_in (foreign e) = 0

-- the frames' lengths are those of the block's edition; a block that isn't valid has no frames
unfoldable pub survey_of : BlockState → Survey
survey_of s =
    let ed : Edition = edition_of s in
    let fs : List Frame = frames_in s in
    record {
      kind = kind_in s;
      edition = ed;
      time = time_in s;
      end = header_len + total ed fs;
      torn = torn_in s;
      since = since_of ed fs;
      pending = pending_of ed fs;
      count = length (replay fs).objects;
      used = used ed (replay fs);
    }

abbrev pub places_in : BlockState → List ℕ
places_in s = places_of (edition_of s) (frames_in s)

-- no half is shorter than its header, or so long that an offset might need more than sixteen bits
abbrev pub half_len : ℕ → Bool
half_len n = leb header_len n && leb n block_max

-- the state that a survey tells of: a block of no half's length is foreign, whatever stands in it
unfoldable pub state_of : List ℕ → BlockState
state_of b = elim (half_len (length b)) [ true ↦ block_state b | false ↦ foreign (fault field.Length 0) ]

-- what the code finds out of a block in a state: of a foreign one its fault, of any other its survey
abbrev pub verdict : BlockState → Result Survey Fault
verdict blank = Ok (survey_of blank)
verdict in_progress = Ok (survey_of in_progress)
verdict (valid x) = Ok (survey_of (valid x))
verdict (foreign e) = Err e

-- it found that out, and each id has its place, which is none in a foreign block
abbrev pub Judged : BlockState → Result Survey Fault → List ℕ → Type 0
Judged s r places = (r ≡ verdict s) × (places ≡ places_in s)
