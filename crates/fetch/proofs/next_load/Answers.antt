-- The next frame: a settled one if there is one, else a pending one.
use borrow.Author.Rules.{rules}
use Rattle.fetch.proofs.Fetching.{load_either}
use Rattle.fetch.proofs.next_load.Goals as goal

pub returns : goal.returns
returns c =
    load_either c.args.edition c.args.block.now c.args.end c.args.places.now c.args.since c.args.id c.args.source _ _ _
    c.next_settled.ensures c.or_else.ensures (λ s. search rules)
