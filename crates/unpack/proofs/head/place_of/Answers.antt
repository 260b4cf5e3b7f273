-- One word of the places.
use mathlib.Core.Path.{sym, ◌∙◌}
use native.Mathlib.Omega.{arith}
use lib.ListN.{drop, get_or-eq_default}
use Rattle.lent.specs.Layout.{places_at, words_in, record_in}
use Rattle.lent.proofs.Words.{word_from}
use Rattle.lent.proofs.Own.{length_words_in}
use Rattle.unpack.proofs.head.place_of.Goals as goal

pub returns-then-id-lt256 : goal.returns-then-id-lt256
unfolding record_in
returns-then-id-lt256 c =
    (rw c.from.ensures at c.word_in.ensures) ∙ word_from places_at 256 c.args.bytes.now c.args.id.0 (omega (arith, c.if-id-lt256.true))

pub returns-else-id-lt256 : goal.returns-else-id-lt256
unfolding record_in
returns-else-id-lt256 c =
    let l = drop places_at c.args.bytes.now in
    sym (get_or-eq_default (words_in 256 l) 0 (omega (arith, length_words_in 256 l, c.if-id-lt256.false)))
