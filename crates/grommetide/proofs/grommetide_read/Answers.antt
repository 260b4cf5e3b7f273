-- A read: answer and stretch as they were found, by the one place that the buffer has for its id.
use mathlib.Core.Path.{sym, ap, ◌∙◌}
use mathlib.Core.List.{[]}
use lib.ListN.{get_or}
use borrow.Author.Tests.{eq-eqb, ne_eqb}
use Rattle.frame.specs.declared.ObjectId.{ObjectId}
use Rattle.wire.specs.Answer.{edge_number}
use Rattle.board.specs.Record.{Stretch}
use Rattle.lent.specs.Layout.{record_in}
use Rattle.lent.proofs.Own.{own-sized}
use Rattle.queue.specs.declared.reads as reads
use Rattle.queue.specs.Calls.{told, stretch_of}
use Rattle.queue.proofs.Finding.{Located}
use Rattle.edge.specs.Edge.{place, edge_read}
use Rattle.edge.proofs.Calls.{read-place}
use Rattle.grommetide.proofs.grommetide_read.Goals as goal

pub returns-then-board-ne-RECORD_SIZE : goal.returns-then-board-ne-RECORD_SIZE
unfolding edge_read
returns-then-board-ne-RECORD_SIZE c = rw (ne_eqb _ _ c.if-board-ne-RECORD_SIZE.true)

pub returns-in-Ok : goal.returns-in-Ok
unfolding edge_read
returns-in-Ok c =
    let p = c.place_of-place.ensures ∙ ap (λ (i : ObjectId). get_or (record_in c.args.board.now).places i.0 0) c.id_in.ensures in
    let f = rw (c.phase_of-phase.ensures, c.rest_of-rest.ensures) at (c.find-found.ensures (record_in c.args.board.now) p) in
    let s = sym (read-place c.args.blocks c.args.image.now (record_in c.args.board.now) (own-sized c.args.board.now) (record { 0 = c.args.host }) c.args.message.now []) in
    let z = rw c.in-Ok.is at c.unwrap_or_default-stretch.ensures in
    let n = c.number.ensures ∙ ap (λ (l : Located). edge_number (told l)) (sym c.in-Ok.is) ∙ ap edge_number f.answers in
    let at = ap (λ (x : reads.Stretch.Stretch). x.at) z ∙ ap (λ (l : Located). (stretch_of l).at) (sym c.in-Ok.is) ∙ f.at ∙ ap (λ (x : Stretch). x.at) s in
    let size = ap (λ (x : reads.Stretch.Stretch). x.size) z ∙ ap (λ (l : Located). (stretch_of l).size) (sym c.in-Ok.is) ∙ f.size ∙ ap (λ (x : Stretch). x.size) s in
    rw (eq-eqb _ _ c.if-board-ne-RECORD_SIZE.false) (λ i. place (n i) (at i) (size i))

pub returns-in-Err : goal.returns-in-Err
unfolding edge_read
returns-in-Err c =
    let p = c.place_of-place.ensures ∙ ap (λ (i : ObjectId). get_or (record_in c.args.board.now).places i.0 0) c.id_in.ensures in
    let f = rw (c.phase_of-phase.ensures, c.rest_of-rest.ensures) at (c.find-found.ensures (record_in c.args.board.now) p) in
    let s = sym (read-place c.args.blocks c.args.image.now (record_in c.args.board.now) (own-sized c.args.board.now) (record { 0 = c.args.host }) c.args.message.now []) in
    let z = rw c.in-Err.is at c.unwrap_or_default-stretch.ensures in
    let n = c.from.ensures ∙ ap (λ (l : Located). edge_number (told l)) (sym c.in-Err.is) ∙ ap edge_number f.answers in
    let at = z.0 ∙ ap (λ (l : Located). (stretch_of l).at) (sym c.in-Err.is) ∙ f.at ∙ ap (λ (x : Stretch). x.at) s in
    let size = z.1 ∙ ap (λ (l : Located). (stretch_of l).size) (sym c.in-Err.is) ∙ f.size ∙ ap (λ (x : Stretch). x.size) s in
    rw (eq-eqb _ _ c.if-board-ne-RECORD_SIZE.false) (λ i. place (n i) (at i) (size i))
