-- Past the header: the scan's tail decides.
use mathlib.Core.Path.{sym, ◌∙◌}
use native.Mathlib.Omega.{arith}
use borrow.Author.Rules.{rules}
use Rattle.survey.proofs.Surveying.{tally_fits, torn_fits, frames_sound, frames_bad}
use Rattle.survey.proofs.block.Block.survey.Goals as goal

pub found-requires : goal.found-requires
found-requires c = (
  omega (arith, torn_fits c.args.self.edition c.args.self.bytes.now c.requires.1 c.requires.0 _ (sym c.in-Ok.is ∙ c.walk.ensures.0), c.args.self.short),
  omega (arith, tally_fits c.args.self.edition c.args.self.bytes.now c.requires.1 c.requires.0 _ c.walk.ensures.1, c.args.self.short),
)

pub returns-in-Ok : goal.returns-in-Ok
returns-in-Ok c =
    frames_sound c.args.self.edition c.args.self.bytes.now c.requires.1 c.requires.0 _ (sym c.in-Ok.is ∙ c.walk.ensures.0) _ _
    c.walk.ensures.1 c.found.ensures

pub returns-in-Err : goal.returns-in-Err
returns-in-Err c =
    frames_bad c.args.self.edition c.args.self.bytes.now c.requires.1 c.requires.0 _ _ (sym c.in-Err.is ∙ c.walk.ensures.0) (search rules)
