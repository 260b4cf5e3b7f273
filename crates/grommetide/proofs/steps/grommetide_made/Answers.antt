-- A step that the caller made: in the middle of a frame, or the record that the buffer holds goes on.
use mathlib.Core.Path.{sym, ap}
use borrow.Author.Tests.{eq-eqb, ne_eqb}
use Rattle.flash.specs.declared.shape.Shape.{Shape}
use Rattle.board.specs.Drive.{made_on}
use Rattle.lent.specs.Layout.{record_in}
use Rattle.edge.specs.Edge.{edge_made}
use Rattle.edge.proofs.Kept.{made_keeps}
use Rattle.edge.proofs.Driven.{driven, middle-made}
use Rattle.grommetide.proofs.steps.grommetide_made.Goals as goal

pub returns-then-try_made : goal.returns-then-try_made
unfolding edge_made
returns-then-try_made c =
    let tried = rw c.of-shape.ensures at (c.try_made.ensures c.args.image.now (sym (ap (λ (x : Shape). x.len) c.of-shape.ensures))) in
    let z = middle-made c.args.blocks c.args.image.now c.args.board.now _ _ c.number.ensures (tried.made c.if-try_made.true) in
    record { answered = z.0; back = z.1 }

pub returns-then-board-ne-RECORD_SIZE : goal.returns-then-board-ne-RECORD_SIZE
unfolding edge_made
returns-then-board-ne-RECORD_SIZE c =
    let tried = c.try_made.ensures c.args.image.now (sym (ap (λ (x : Shape). x.len) c.of-shape.ensures)) in
    let q = (tried.left c.if-try_made.false).1 in let k = rw q at c.if-board-ne-RECORD_SIZE.true in let t = ne_eqb _ _ k in
    record { answered = (rw t, rw t q); back = λ l. absurd (k l) }

pub returns : goal.returns
unfolding edge_made
returns c =
    let r = record_in c.args.board.now in
    let same = sym (ap (λ (x : Shape). x.len) c.of-shape.ensures) in
    let q = ((c.try_made.ensures c.args.image.now same).left c.if-try_made.false).1 in
    let l = rw q at c.if-board-ne-RECORD_SIZE.false in let e = rw q at c.numbers-n.ensures in
    let s = rw (c.of-shape.ensures, e) at (c.made_of-m.ensures c.args.image.now r.places r.unit r.frame same) in
    let w = rw (q, e) at c.go_on.ensures in
    let z = driven _ c.args.board.now _ _ c.made_of-m.result (made_on c.args.blocks c.args.image.now r) l s (made_keeps _ _ _) w in
    let t = eq-eqb _ _ l in record { answered = (rw t z.0.0, rw t z.0.1); back = λ _. z.1 }
