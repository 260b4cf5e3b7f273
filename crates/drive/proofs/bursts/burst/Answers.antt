-- Steps that are made faster together.
use mathlib.Core.Path.{◌≡◌}
use native.Mathlib.Omega.{arith}
use lib.ListN.{length}
use borrow.Author.Rules.{rules}
use Rattle.board.specs.declared.Stage.TheVariants.{Copy, Append}
use Rattle.board.specs.declared.Phase.TheVariants.{Busy}
use Rattle.job.proofs.Acting.{same_parts, size_low}
use Rattle.drive.proofs.Running.{by_count, copies, appends}
use Rattle.drive.proofs.bursts.burst.Goals as goal

pub copied-requires : goal.copied-requires
copied-requires c =
    by_count c.lay-steps.result (λ z. (omega (arith, c.well_formed), omega (arith, c.well_formed)))
    (λ h. let s = rw c.copy_lane.ensures at (c.lay-steps.ensures.1 h) in
    let len = length c.args.image.now in
    let l = (same_parts c.args.blocks len c.args.n.rest s.same).0 in
    (omega (arith, s.room, size_low c.args.blocks len s.count, l, c.well_formed), omega (arith, s.held)))

pub returns-in-Busy-Copy : goal.returns-in-Busy-Copy
returns-in-Busy-Copy c =
    let e : c.args.n.phase ≡ Busy Copy = search rules in
    let s = rw c.copy_lane.ensures at c.lay-steps.ensures in
    (s.0, λ p. copies c.args.blocks p c.args.unit.now c.args.frame.now c.args.image.now c.args.n c.lay-steps.result e _ _ s.1 s.2 s.3 c.copied.ensures)

pub returns-in-Busy-Append : goal.returns-in-Busy-Append
returns-in-Busy-Append c =
    let e : c.args.n.phase ≡ Busy Append = search rules in
    let s = rw c.append_lane.ensures at c.lay-steps-in-Busy-Append.ensures in
    (s.0, λ p. appends c.args.blocks p c.args.unit.now c.args.frame.now c.args.image.now c.args.n c.lay-steps-in-Busy-Append.result e _ _ s.1 s.2 s.3 c.appended.ensures)
