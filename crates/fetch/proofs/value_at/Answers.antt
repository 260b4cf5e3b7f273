-- The value at a place: each return is what the read there says.
use mathlib.Core.Path.{sym, ap, ◌∙◌}
use Prim.Native.Nat.{ℕ}
use Rattle.fetch.proofs.HeadLaws.{value_whole, value_other}
use Rattle.fetch.specs.Fetch.{found_of}
use Rattle.journal.specs.Index.{value_at}
use Rattle.journal.proofs.Places.{value-zero}
use Rattle.fetch.proofs.value_at.Goals as goal

pub returns-then-place-eq0 : goal.returns-then-place-eq0
returns-then-place-eq0 c =
    sym (ap (λ (p : ℕ). found_of (value_at c.args.edition c.args.block.now c.args.id p)) c.if-place-eq0.true
    ∙ ap found_of (value-zero c.args.edition c.args.block.now c.args.id))

pub returns-in-Whole : goal.returns-in-Whole
returns-in-Whole c =
    c.value_in.ensures
    ∙ value_whole c.args.edition c.args.block.now c.args.id c.args.place c.if-place-eq0.false _
    (sym c.read_frame.ensures ∙ c.in-Whole.is)

pub returns-in_default : goal.returns-in_default
returns-in_default c =
    value_other c.args.edition c.args.block.now c.args.id c.args.place c.if-place-eq0.false
    (λ h e. c.in_default.not-Whole h (c.read_frame.ensures ∙ e))
