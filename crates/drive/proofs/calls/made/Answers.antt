-- A made call.
use mathlib.Core.Path.{sym, ap}
use Rattle.flash.specs.declared.shape.Shape.{Shape}
use Rattle.job.proofs.Advancing.{load_steps}
use Rattle.drive.proofs.calls.made.Goals as goal

pub returns : goal.returns
returns c =
    let b = c.args.board in
    let m = rw c.of.ensures at (c.made_of-m.ensures c.args.image.now b.places b.unit b.frame (sym (ap (λ (x : Shape). x.len) c.of.ensures))) in
    let s = load_steps _ _ _ b.frame _ _ c.made_of-m.result m _ _ _ c.load_due-s.ensures in
    let t = rw c.numbers_of.ensures at s in rw c.give_back.ensures (t.answers, t.gives)
