-- By the stage that the record is in.
use mathlib.Core.Path.{sym, ap, ◌∙◌}
use Prim.Native.Nat.{ℕ, ◌+◌}
use Rattle.board.specs.declared.Phase.TheVariants.{Busy}
use Rattle.midframe.proofs.Middle.{copy_is, append_at}
use Rattle.midframe.proofs.spot.Goals as goal

pub returns-in-Busy-Copy : goal.returns-in-Busy-Copy
returns-in-Busy-Copy c = copy_is c.args.board.now _ _ _ _ (sym c.phase_of.ensures ∙ c.in-Busy-Copy.is ∙ ap Busy c.in-Busy-Copy.field-0-is) c.byte_at-off.ensures c.word_in.ensures
    c.byte_at.ensures c.unit_byte.ensures

pub returns-in-Busy-Append : goal.returns-in-Busy-Append
returns-in-Busy-Append c = append_at c.args.board.now _ _ _ _ (sym c.phase_of.ensures ∙ c.in-Busy-Append.is ∙ ap Busy c.in-Busy-Append.field-0-is) c.byte_at-index.ensures
    (ap (λ (k : ℕ). k + c.byte_at-index.result) c.word_in-in-Busy-Append.ensures) c.byte_at-in-Busy-Append.ensures c.append_byte.ensures
