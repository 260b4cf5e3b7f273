-- A record buffer of its size, written.
use Prim.Native.Nat.{ℕ}
use mathlib.Core.Path.{◌≡◌}
use mathlib.Core.List.{List}
use lib.ListN.{length}
use borrow.Author.Tests.{eq-eqb}
use Rattle.board.specs.declared.Record.{Record}
use Rattle.lent.specs.Layout.{record_size, record_bytes, record_into}

pub filled : (r : Record) (b : List ℕ) → length b ≡ record_size → record_into r b ≡ record_bytes r
unfolding record_into
filled r b e = rw (eq-eqb (length b) record_size e)
