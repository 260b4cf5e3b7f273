-- The next settled frame: from i on it is the same as from the first id on.
use mathlib.Core.Path.{sym, ap, ◌∙◌}
use Rattle.fetch.proofs.HeadLaws.{fetch-settled}
use Rattle.fetch.specs.Fetch.{fetched_of}
use Rattle.fetch.proofs.Fetching.{found_none, found_at, settled_end, settled_no, settled_yes}
use Rattle.fetch.proofs.next_settled.Goals as goal

pub returns-in-Some : goal.returns-in-Some
returns-in-Some c =
    let w = found_at _ _ (sym c.value_at.ensures ∙ c.in-Some.is) in
    fetch-settled c.args.edition c.args.block.now c.args.places.now c.loop-i.i _ _ c.args.source w.0 w.1 w.2 w.3
    ∙ ap (fetched_of c.args.edition c.args.block.now c.args.places.now) (sym (settled_yes c.args.edition c.args.block.now c.args.places.now c.args.source c.loop-i.i c.loop-i-test.true w.0 w.1) ∙ c.loop-i.invariant)

pub loop-i-preserved : goal.loop-i-preserved
loop-i-preserved c =
    sym (settled_no c.args.edition c.args.block.now c.args.places.now c.args.source c.loop-i.i c.loop-i-test.true
    (found_none _ (sym c.value_at.ensures ∙ c.in_default.is)))
    ∙ c.loop-i.invariant

pub returns : goal.returns
unfolding fetched_of
returns c =
    ap (fetched_of c.args.edition c.args.block.now c.args.places.now)
    (sym (settled_end c.args.edition c.args.block.now c.args.places.now c.args.source c.loop-i.i c.loop-i-test.false) ∙ c.loop-i.invariant)
