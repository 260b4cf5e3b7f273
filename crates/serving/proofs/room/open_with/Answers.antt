-- Those of the four that the change is of, or that have some.
use Rattle.std.proofs.Common.{◌≡◌, ◌||◌, ℕ, Bool, eqb, ltb, [], ◌∷◌, length, refl, rules, tests}
use Rattle.std.specs.List.{filter}
use Rattle.std.proofs.lemmas.Iterator.{YieldsList-from_range}
use Rattle.std.proofs.lemmas.Iterator.Consumers.{count_from_yields_List, YieldsList-from_filter}
use lib.ListN.{get_or}
use Rattle.serving.specs.Calls.{open_with}
use Rattle.serving.proofs.Rooms.{counted-four, four_most}
use Rattle.serving.proofs.room.open_with.Goals as goal

pub returns : goal.returns
unfolding open_with
returns c =
    let h = c.args.host.0 in
    let p = c.args.p in
    let test : ℕ → Bool = λ j. eqb h j || ltb 0 (get_or p j 0) in
    let n : c.count.result ≡ length (filter test (0 ∷ 1 ∷ 2 ∷ 3 ∷ [])) =
    count_from_yields_List _ _ c.count.ensures.ran (YieldsList-from_filter _ test (YieldsList-from_range 0 4 4 (cc) refl) c.filter.ensures.closure
    (λ x b q k. search (rules, tests))) in
    (rw (n, counted-four test 0 1 2 3), rw (n, counted-four test 0 1 2 3) (four_most (test 0) (test 1) (test 2) (test 3)))
