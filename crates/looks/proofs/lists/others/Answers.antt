-- Block k, noted or passed over.
use mathlib.Core.Path.{sym}
use mathlib.Core.Bool.{true, false}
use native.Mathlib.Omega.{arith}
use native.Mathlib.Numerals.{add-one}
use borrow.Author.Tests.{eq-eqb, ne_eqb}
use Rattle.looks.proofs.Listing.{listed_next, listed_all}
use Rattle.looks.proofs.lists.others.Goals.{then-k-current+then-not-skips-from, else-k-current, else-k-current-via-then-k-current+else-not-skips-from, else-k-current-via-else-k-current}
use Rattle.looks.proofs.lists.others.Goals as goal

pub loop-k-preserved : goal.loop-k-preserved
loop-k-preserved c =
    let next = listed_next c.args.blocks c.args.current c.args.skips c.loop-k.k c.loop-k.list in
    elim c.if-k-current.branch [
      | then-k-current+then-not-skips-from w ↦
          rw (w.list-is, w.push.ensures, add-one)
          (next true (rw (ne_eqb _ _ (λ e. w.if-k-current.true (sym e)), sym w.from.ensures, w.if-not-skips-from.true)) c.loop-k-test.true (omega (arith, c.requires)) c.loop-k.invariant)
      | else-k-current w ↦
          rw (w.list-is, add-one) (elim w.else-k-current.branch [
            | else-k-current-via-then-k-current+else-not-skips-from v ↦
                next false (rw (ne_eqb _ _ (λ e. v.if-k-current.true (sym e)), sym v.from.ensures, v.if-not-skips-from.false)) c.loop-k-test.true (omega (arith, c.requires)) c.loop-k.invariant
            | else-k-current-via-else-k-current v ↦
                next false (rw (eq-eqb _ _ (sym v.if-k-current.false))) c.loop-k-test.true (omega (arith, c.requires)) c.loop-k.invariant
          ])
    ]

pub returns : goal.returns
returns c = listed_all _ _ _ c.loop-k.k _ c.loop-k-test.false c.loop-k.invariant
