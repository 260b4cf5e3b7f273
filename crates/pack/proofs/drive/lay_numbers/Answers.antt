-- The numbers, stretch by stretch.
use mathlib.Core.Path.{◌∙◌}
use Rattle.pack.specs.Code.{numbers_into}
use Rattle.pack.proofs.drive.lay_numbers.Goals as goal

pub returns : goal.returns
unfolding numbers_into
returns c =
    c.lay_at-4.ensures
    ∙ rw (c.lay_at-3.ensures, c.lay_at-2.ensures, c.lay_at.ensures, c.head_bytes.ensures, c.plan_bytes.ensures, c.cursor_bytes.ensures)
