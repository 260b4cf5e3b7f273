-- A commit: the heads from here on do what the heads from `since` on did.
use mathlib.Core.Path.{refl, sym, ap, ap₂, ◌∙◌}
use mathlib.Core.List.{List}
use Prim.Native.Nat.{ℕ}
use native.Mathlib.Omega.{arith}
use lib.ListN.{length, length-take}
use Rattle.frame.specs.Code.{head_len}
use Rattle.survey.specs.Pass.{recommit}
use Rattle.survey.proofs.Committing.{head-least, head-most, heads_on, heads_end}
use Rattle.survey.proofs.pass.commit.Goals as goal

pub loop-at-init : goal.loop-at-init
unfolding recommit
loop-at-init c = refl

pub overflow_cast-at : goal.overflow_cast-at
overflow_cast-at c = omega (arith, length-take c.args.end c.args.block.bytes.now, ap length c.front-part.ensures, c.args.block.short)

pub overflow_add-at : goal.overflow_add-at
overflow_add-at c =
    omega (
      arith,
      length-take c.args.end c.args.block.bytes.now,
      ap length c.front-part.ensures,
      c.args.block.short,
      c.frame_len-at.ensures ∙ ap (head_len c.args.block.edition) c.peek-head.ensures,
      head-most c.args.block.edition c.front-part.result.now c.loop-at.at (λ i. omega (arith, c.type_inv.part i)),
    )

pub loop-at-smaller : goal.loop-at-smaller
loop-at-smaller c =
    omega (arith, c.loop-at-test.true, c.frame_len-at.ensures, head-least c.args.block.edition c.peek-head.result)

pub loop-at-preserved : goal.loop-at-preserved
loop-at-preserved c =
    rw (c.place_own.ensures, c.frame_len-at.ensures, c.peek-head.ensures)
    (sym (heads_on c.args.block.edition c.args.host c.loop-at.at c.loop-at.places c.front-part.result.now c.loop-at-test.true) ∙ c.loop-at.invariant)

pub returns : goal.returns
returns c =
    sym (heads_end c.args.block.edition c.args.host c.loop-at.at c.loop-at.places c.front-part.result.now c.loop-at-test.false) ∙ c.loop-at.invariant
    ∙ ap₂ (λ (l : List ℕ) (m : ℕ). recommit c.args.block.edition l c.args.host m c.args.places.now) c.front-part.ensures (c.from-at.ensures ∙ c.of_host.ensures)
