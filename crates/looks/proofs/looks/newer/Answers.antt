-- One that takes over, or the newest so far.
use Rattle.std.proofs.Common.{rules}
use Rattle.looks.specs.Seen.{newer}
use Rattle.looks.proofs.looks.newer.Goals as goal

pub returns-then-not-takes_over : goal.returns-then-not-takes_over
unfolding newer
returns-then-not-takes_over c = search rules

pub returns : goal.returns
unfolding newer
returns c = search rules
