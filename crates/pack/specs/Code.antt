-- What the code's parts do.
use Rattle.std.specs.Prelude.{◌≡◌, List, [], ◌++◌, Bool, true, false, ℕ, length, take, drop}
use Rattle.wire.specs.declared.Answer.{Answer}
use Rattle.wire.specs.declared.Answer.TheVariants.{Done, More, Refused}
use Rattle.wire.specs.Code.{overlay}
use Rattle.board.specs.declared.Phase.{Phase}
use Rattle.board.specs.declared.Record.{Record}
use Rattle.board.specs.Table.{is_busy}
use Rattle.job.specs.declared.records.Numbers.{Numbers}
use Rattle.job.specs.declared.records.Stepped.{Stepped}
use Rattle.job.specs.Code.{assemble, leaves}
use Rattle.lent.specs.Layout.{job_at, plan_at, cursor_at, record_size, record_in, head_bytes_of, plan_bytes, cursor_bytes, record_into}

-- the source in place of the bytes from a place on, where there are as many; else nothing changes
unfoldable pub laid_at : ℕ → List ℕ → List ℕ → List ℕ
laid_at at source bytes = take at bytes ++ overlay source (drop at bytes)

-- a record's numbers laid over its bytes; the arrays stay
unfoldable pub numbers_into : Numbers → List ℕ → List ℕ
numbers_into n b =
    laid_at cursor_at (cursor_bytes n.cursor)
    (laid_at plan_at (plan_bytes n.job) (laid_at job_at n.job.wipe (laid_at 0 (head_bytes_of (assemble n [] [] [])) b)))

-- the record that a step leaves in a buffer, with other places and another frame that is copied; and over the buffer's own
abbrev pub loaded_in : Stepped → List ℕ → List ℕ → List ℕ → Record
loaded_in s places unit b = leaves s places unit (record_in b).frame

abbrev pub left_in : Stepped → List ℕ → Record
left_in s b = loaded_in s (record_in b).places (record_in b).unit b

-- a buffer of a record's size reads as this record after the call
abbrev pub ReadsAs : List ℕ → List ℕ → Record → Type 0
ReadsAs b after r = length b ≡ record_size → record_in after ≡ r

-- a buffer has the bytes of a record, and reads as it, if it has its size; else it stays
pub record Holds (r : Record) (b after : List ℕ) : Type 0 where
  pub bytes : after ≡ record_into r b
  pub back : ReadsAs b after r

-- whether the record changed, by the phase before the call and its answer
abbrev pub changes : Phase → Answer → Bool
changes p Done = is_busy p
changes p More = true
changes p (Refused n) = false

-- the record is written where a job began
abbrev pub into_if : Answer → Record → List ℕ → List ℕ
into_if Done r b = b
into_if More r b = record_into r b
into_if (Refused n) r b = b

abbrev pub ReadsAsIf : Answer → List ℕ → List ℕ → Record → Type 0
ReadsAsIf Done b after r = Unit {0}
ReadsAsIf More b after r = ReadsAs b after r
ReadsAsIf (Refused n) b after r = Unit {0}
