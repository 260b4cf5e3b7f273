-- The next settled frame: from i on it is the same as from the first id on.
use mathlib.Core.Path.{◌≡◌}
use Prim.Native.Nat.{◌-◌}
use Rattle.journal.specs.Index.{next_settled}
use Rattle.fetch.proofs.next_settled.Given as goal

abbrev pub invariant-loop-i : goal.invariant-loop-i
invariant-loop-i l = next_settled l.edition l.block l.places l.source (256 - l.i) l.i ≡ next_settled l.edition l.block l.places l.source (256 - l.id) l.id
