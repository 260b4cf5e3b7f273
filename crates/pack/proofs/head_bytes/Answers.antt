-- A head, field by field; each host has its pending bytes.
use mathlib.Core.Path.{◌≡◌}
use lib.ListN.{length}
use borrow.Author.Rules.{rules}
use Rattle.lent.specs.Layout.{phase_byte}
use Rattle.pack.proofs.Fields.{head-laid}
use Rattle.pack.proofs.head_bytes.Goals as goal

pub returns : goal.returns
returns c =
    let r = c.args.n.rest in
    let q : length r.pending ≡ 4 = search (rules, c.well_formed.0.1.1.1.0.1.1.1.1.1.1.0) in
    rw (
      c.lay_words-3.ensures,
      c.lay_words-2.ensures,
      c.lay_words.ensures,
      c.phase_byte.ensures,
    ) (head-laid (phase_byte c.args.n.phase) r q)
