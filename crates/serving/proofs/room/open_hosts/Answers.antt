-- Those of the four that are above 0.
use Rattle.std.proofs.Common.{◌≡◌, ltb, length, rules, tests}
use Rattle.std.specs.List.{filter}
use Rattle.std.proofs.lemmas.Iterator.{YieldsList-from_slice}
use Rattle.std.proofs.lemmas.Iterator.Consumers.{count_from_yields_List, YieldsList-from_filter}
use lib.ListN.{get_or}
use Rattle.serving.specs.Calls.{open_in}
use Rattle.serving.proofs.Rooms.{open_listed, four_most}
use Rattle.serving.proofs.room.open_hosts.Goals as goal

pub returns : goal.returns
unfolding open_in
returns c =
    let p = c.args.p in
    let m : length p ≡ 4 = search rules in
    let n : c.count.result ≡ length (filter (ltb 0) p) =
    count_from_yields_List _ _ c.count.ensures.ran (YieldsList-from_filter _ (ltb 0) (YieldsList-from_slice p cc) c.filter.ensures.closure
    (λ x b q k. search (rules, tests))) in
    let most = four_most (ltb 0 (get_or p 0 0)) (ltb 0 (get_or p 1 0)) (ltb 0 (get_or p 2 0)) (ltb 0 (get_or p 3 0)) in
    (rw (n, open_listed p m), rw (n, open_listed p m) most)
