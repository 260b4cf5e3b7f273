-- The places: after i turns the first i words are read.
use mathlib.Core.Path.{refl}
use native.Mathlib.Omega.{arith}
use lib.ListN.{length-set}
use Rattle.lent.specs.Layout.{words_in}
use Rattle.lent.proofs.Words.{read_more}
use Rattle.unpack.proofs.drive.places_short.Goals as goal

pub loop-i-init : goal.loop-i-init
unfolding words_in
loop-i-init c = (refl, c.told-places)

pub loop-i-preserved : goal.loop-i-preserved
loop-i-preserved c = (
  read_more c.args.bytes.now c.loop-i.places c.loop-i.i _ c.loop-i.invariant.0 (omega arith) c.word_in.ensures,
  simp length-set (omega arith),
)
