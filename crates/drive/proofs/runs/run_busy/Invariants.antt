-- Steps in a job, at most so many.
use mathlib.Core.Path.{◌≡◌}
use Prim.Native.Nat.{◌-◌, ◌≤◌}
use lib.ListN.{length}
use Rattle.wire.specs.declared.Answer.TheVariants.{More}
use Rattle.board.specs.Record.{answer_in}
use Rattle.board.specs.Step.{stepped}
use Rattle.board.specs.Drive.{run_from, run_on_of}
use Rattle.job.specs.Code.{assemble}
use Rattle.drive.proofs.runs.run_busy.Given as goal

abbrev pub invariant-loop-steps : goal.invariant-loop-steps
invariant-loop-steps l =
    (run_from l.blocks (l.most - l.steps) l.steps (stepped l.image (assemble l.m l.places l.unit l.frame)) ≡ run_on_of l.blocks l.most l.initial.image (assemble l.initial.m l.initial.places l.initial.unit l.frame))
    × (answer_in l.m.phase ≡ More) × (l.steps ≤ l.most) × (length l.image ≡ length l.initial.image)

abbrev pub decreases-loop-steps : goal.decreases-loop-steps
decreases-loop-steps l = l.most - l.steps
