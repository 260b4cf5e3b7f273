-- The places: after i turns the first i words are read.
use mathlib.Core.Path.{◌≡◌}
use lib.ListN.{length, take}
use Rattle.lent.specs.Layout.{words_in}
use Rattle.unpack.proofs.drive.fill_places.Given as goal

abbrev pub invariant-loop-i : goal.invariant-loop-i
invariant-loop-i l = (take l.i l.places ≡ words_in l.i l.bytes) × (length l.places ≡ 256)
