-- Words laid as bytes: after i turns the first i of them are there.
use mathlib.Core.Path.{◌≡◌}
use lib.ListN.{length}
use Rattle.pack.proofs.Laying.{words_to}
use Rattle.pack.proofs.lay_words.Given as goal

abbrev pub invariant-loop-i : goal.invariant-loop-i
invariant-loop-i l = (l.bytes ≡ words_to l.at l.words l.initial.bytes l.i) × (length l.bytes ≡ length l.initial.bytes)
