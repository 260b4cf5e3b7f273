-- `Bench::put` is a request with a put's message.
use mathlib.Core.Path.{ap, ◌∙◌}
use mathlib.Core.List.{List}
use Prim.Native.Nat.{ℕ}
use native.Mathlib.Omega.{arith}
use Rattle.scene.specs.Runs.{ask_on}
use Rattle.scene.proofs.Messages.{cut-message}
use Rattle.scene.proofs.Bench.put.Goals as goal

pub returns : goal.returns
returns c =
    let a = c.args in
    let laid = rw (c.to_le_bytes.ensures, c.to_le_bytes-2.ensures) at c.lay.ensures in
    c.ask.ensures
    ∙ ap (λ (m : List ℕ). ask_on a.self a.host m 65536)
    (cut-message a.id a.value a.count _ _ _ (omega arith) (omega arith) c.from-size.ensures c.from.ensures laid)
