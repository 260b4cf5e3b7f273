-- Valid first, then the times above.
use mathlib.Core.Path.{◌≡◌, ◌∙◌}
use Prim.Native.Nat.{◌+◌, ◌-◌}
use native.Mathlib.Omega.{arith}
use lib.Dec.{eqb}
use lib.ListN.{take, drop}
use Rattle.std.proofs.Common.{rules, tests}
use Rattle.std.specs.List.{list_any}
use Rattle.std.proofs.lemmas.Iterator.{YieldsList-from_slice}
use Rattle.std.proofs.lemmas.Iterator.Search.{any_from_yields_List}
use Rattle.looks.proofs.Looking.{time-above}
use Rattle.looks.proofs.looks.Seen.shares_time.Goals as goal

pub returns-then-is_valid : goal.returns-then-is_valid
returns-then-is_valid c =
    let n = c.from.result in
    let above = take (16 - (n + 1)) (drop (n + 1) c.args.self.now.times) in
    let found : c.any.result ≡ list_any (λ x. eqb x c.args.s.time) above =
    any_from_yields_List (λ x. eqb x c.args.s.time) _ _ c.any.result c.any.ensures.ran (YieldsList-from_slice above c.iter.ensures.rest) (λ x b q k. search (rules, tests)) in
    rw (← c.is_valid.ensures, c.if-is_valid.true)
    (rw c.from.ensures at found ∙ time-above c.args.s.time c.args.number c.args.self.now.times (omega arith) (omega (arith, c.requires)))
