-- Four bytes one after the other, each if it must change.
use mathlib.Core.Path.{◌≡◌}
use mathlib.Core.List.{[]}
use Prim.Native.Nat.{◌+◌, ◌-◌}
use native.Mathlib.Omega.{arith}
use borrow.Author.Tests.{ne_eqb}
use Rattle.journal.specs.Block.{closing}
use Rattle.store.proofs.Closing.{all_noted}
use Rattle.store.proofs.mends.closing.Goals as goal

pub returns : goal.returns
returns c =
    let last : c.args.end + c.args.torn - 1 ≡ c.args.end + (c.args.torn - 1) = omega arith in
    rw (
      c.note-4.ensures.0,
      c.note-3.ensures.0,
      c.note-2.ensures.0,
      c.note.ensures.0,
      c.new-closes.ensures,
      last,
      ne_eqb c.args.torn 0 c.if-torn-eq0.false,
    ) (all_noted c.args.block.now [] (closing c.args.end c.args.torn) (omega arith))
