-- A plan, field by field; each host has its mark.
use mathlib.Core.Path.{◌≡◌, ◌∙◌}
use native.Mathlib.Omega.{arith}
use lib.ListN.{length}
use borrow.Author.Rules.{rules}
use Rattle.pack.proofs.Fields.{number_le, flag_is, plan-laid}
use Rattle.pack.proofs.plan_bytes.Goals as goal

pub returns : goal.returns
returns c =
    let j = c.args.job in
    let q : length j.since ≡ 4 = search (rules, c.well_formed.0.1.1.1.1.1.1.1.1.0) in
    let k : length j.close ≡ 4 = search (rules, c.well_formed.0.1.1.1.1.1.1.1.1.1.1.1.1.0) in
    rw (
      c.lay_words-2.ensures,
      c.lay_words.ensures,
      c.lay_at.ensures,
      c.to_le_bytes.ensures ∙ number_le j.time (omega (arith, c.well_formed)),
      c.from-2.ensures ∙ flag_is j.drops,
      c.from.ensures ∙ flag_is j.moves,
    ) (plan-laid j q k)
