-- Two bytes at a place.
use mathlib.Core.Path.{◌∙◌}
use Rattle.survey.proofs.Headers.{two_same}
use Rattle.survey.proofs.header.stands.Goals as goal

pub returns : goal.returns
returns c = c.starts_with.ensures.value ∙ rw c.rest.ensures (two_same _ c.args.a c.args.b)
