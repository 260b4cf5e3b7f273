-- The blank test of each block's number.
use Rattle.std.proofs.Common.{sym, ◌∙◌, rules, tests, arith}
use Rattle.std.proofs.lemmas.Iterator.{YieldsList-from_range}
use Rattle.std.proofs.lemmas.Iterator.Search.{all_from_yields_List}
use Rattle.queue.proofs.Images.{passes, blank_is}
use Rattle.queue.proofs.held.others_blank.Goals as goal

pub returns : goal.returns
returns c =
    let i = c.args.image.now in
    all_from_yields_List (passes i.blocks c.args.number i.bytes.now) _ _ _ c.all.ensures.ran (YieldsList-from_range 0 i.blocks i.blocks (cc) (omega arith))
    (λ x b q k. search (rules, tests))
    ∙ sym (blank_is i.blocks c.args.number i.bytes.now)
