-- Steps in a job, at most so many.
use mathlib.Core.Path.{refl, ◌∙◌}
use native.Mathlib.Omega.{arith}
use native.Mathlib.Nat.{sub-zero}
use Rattle.board.specs.Drive.{run_on_of}
use Rattle.job.specs.Code.{assemble}
use Rattle.drive.proofs.Running.{run_again, run_ends, run_stops, run_spent}
use Rattle.drive.proofs.runs.run_busy.Goals as goal

pub loop-steps-init : goal.loop-steps-init
loop-steps-init c = (rw sub-zero, c.requires, omega arith, refl)

pub loop-steps-preserved : goal.loop-steps-preserved
loop-steps-preserved c =
    let x = run_again c.args.blocks (run_on_of c.args.blocks c.args.most c.args.image.now
    (assemble c.args.n c.args.places.now c.args.unit.now c.args.frame.now)) c.args.most c.loop-steps.steps c.burst-b.result.steps c.loop-steps.image (assemble c.loop-steps.m c.loop-steps.places
    c.loop-steps.unit c.args.frame.now) _ _ c.loop-steps-test.true c.burst-b.ensures.0 c.loop-steps.invariant.0 c.loop-steps.invariant.1 (c.burst-b.ensures.1
    c.loop-steps.places) c.step_core-s.result _ _ c.args.frame.now _ c.step_core-s.ensures
    c.in-More.is in
    let a = c.burst-b.ensures.0 in
    let t = c.loop-steps-test.true in (x.0, x.1, omega arith, c.step_core-s.auto.image ∙ c.burst-b.auto.image ∙ c.loop-steps.invariant.3)

pub returns-in-Done : goal.returns-in-Done
returns-in-Done c =
    run_ends c.args.blocks (run_on_of c.args.blocks c.args.most c.args.image.now
    (assemble c.args.n c.args.places.now c.args.unit.now c.args.frame.now))
    c.args.most c.loop-steps.steps c.burst-b.result.steps c.loop-steps.image (assemble c.loop-steps.m c.loop-steps.places c.loop-steps.unit c.args.frame.now) _ _ c.loop-steps-test.true c.burst-b.ensures.0 c.loop-steps.invariant.0 c.loop-steps.invariant.1 (c.burst-b.ensures.1 c.loop-steps.places)
    c.step_core-s.result _ _ c.args.frame.now _ c.step_core-s.ensures c.in-Done.is

pub returns-in-Refused : goal.returns-in-Refused
returns-in-Refused c =
    run_stops c.args.blocks (run_on_of c.args.blocks c.args.most c.args.image.now
    (assemble c.args.n c.args.places.now c.args.unit.now c.args.frame.now))
    c.args.most c.loop-steps.steps c.burst-b.result.steps c.loop-steps.image (assemble c.loop-steps.m c.loop-steps.places c.loop-steps.unit c.args.frame.now) _ _ c.loop-steps-test.true c.burst-b.ensures.0 c.loop-steps.invariant.0 c.loop-steps.invariant.1 (c.burst-b.ensures.1 c.loop-steps.places)
    c.step_core-s.result _ _ c.args.frame.now _ c.step_core-s.ensures _ c.in-Refused.is

pub returns : goal.returns
returns c =
    rw c.staying.ensures (run_spent c.args.blocks _ c.args.most c.loop-steps.steps c.loop-steps.places c.loop-steps.unit c.args.frame.now
    c.loop-steps.image c.loop-steps.m (omega arith) c.loop-steps.invariant.0 c.loop-steps.invariant.1)
