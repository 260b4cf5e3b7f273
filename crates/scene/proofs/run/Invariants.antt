-- `scene::run` does a job's steps, at most so many.
use mathlib.Core.Path.{◌≡◌}
use Prim.Native.Nat.{◌-◌}
use Rattle.scene.specs.Runs.{steps_from}
use Rattle.scene.proofs.run.Given as goal

abbrev pub invariant-loop-steps : goal.invariant-loop-steps
invariant-loop-steps l =
    steps_from l.blocks (l.most - l.steps) l.image l.now.board l.now.answer l.steps
    ≡ steps_from l.blocks l.most l.initial.image l.initial.now.board l.initial.now.answer 0
