-- Words laid as bytes: after i turns the first i of them are there.
use mathlib.Core.Path.{sym, ap, ◌∙◌}
use native.Mathlib.Omega.{arith}
use lib.ListN.{get_or, length, length-set}
use borrow.Author.Rules.{rules}
use Rattle.pack.proofs.Fields.{word_le}
use Rattle.pack.proofs.Laying.{no_words, word_more, words_all}
use Rattle.pack.proofs.lay_words.Goals as goal

pub loop-i-init : goal.loop-i-init
loop-i-init c = (no_words c.args.at c.args.words.now c.args.bytes.now, search rules)

pub loop-i-preserved : goal.loop-i-preserved
loop-i-preserved c =
    let i = c.loop-i.i in
    let w = c.to_le_bytes.ensures ∙ word_le (get_or c.args.words.now i 0) ((c.type_inv.words i).fits) in (
      rw (w, c.loop-i.invariant.0) (word_more c.args.at c.args.words.now c.args.bytes.now i (omega arith) (omega (arith, c.requires))
          (sym (ap length c.loop-i.invariant.0) ∙ c.loop-i.invariant.1)),
      simp length-set c.loop-i.invariant.1,
    )

pub returns : goal.returns
returns c =
    c.loop-i.invariant.0 ∙ words_all c.args.at c.args.words.now c.args.bytes.now c.loop-i.i (omega arith) (omega (arith, c.requires))
