-- After a byte copied.
use mathlib.Core.Path.{sym, ◌∙◌}
use mathlib.Core.Bool.{true, false}
use Rattle.job.proofs.Advancing.{copy_moves}
use Rattle.job.proofs.moves.after_copy.Goals as goal

pub returns-then-has_next : goal.returns-then-has_next
returns-then-has_next c =
    let e = sym c.has_next.ensures ∙ c.if-has_next.true in
    λ N i p u f. copy_moves N i p u f c.args.n true e _ (rw (c.staying-next.ensures, c.next_byte.ensures, e))

pub returns : goal.returns
returns c =
    let e = sym c.has_next.ensures ∙ c.if-has_next.false in
    λ N i p u f. copy_moves N i p u f c.args.n false e _ (rw (c.staying-next.ensures, c.next_byte.ensures, e))
