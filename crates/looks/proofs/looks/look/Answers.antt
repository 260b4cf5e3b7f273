-- From the last block down: what is kept tells of the blocks from k on.
use mathlib.Core.Path.{◌≡◌, refl, ap, ◌∙◌}
use mathlib.Core.Bool.{cond}
use Prim.Native.Nat.{◌-◌}
use native.Mathlib.Omega.{arith}
use Rattle.std.proofs.Common.{rules}
use Rattle.flash.proofs.Blank.{bytes_of}
use Rattle.survey.specs.Survey.{survey_of, places_in}
use Rattle.board.proofs.Images.{sized_of}
use Rattle.looks.specs.Seen.{takes_over}
use Rattle.looks.proofs.Looked.{looked_none, looked_next, state_is}
use Rattle.looks.proofs.looks.look.Goals.{then-takes_over, else-takes_over}
use Rattle.looks.proofs.looks.look.Goals as goal

pub loop-k-init : goal.loop-k-init
loop-k-init c =
    (rw c.new-seen.ensures (looked_none c.args.image.now.blocks c.args.image.now.bytes.now c.args.places.now), omega arith)

pub add-requires : goal.add-requires
add-requires c =
    omega (arith, c.loop-k.invariant.1, c.loop-k-test.true, (sized_of c.args.image.now.blocks c.args.image.now.bytes.now c.args.image.now.is_allowed).most)

pub loop-k-preserved : goal.loop-k-preserved
loop-k-preserved c =
    let n = c.args.image.now.blocks in
    let img = c.args.image.now.bytes.now in
    let ok = c.args.image.now.is_allowed in
    let s = state_is n img (c.loop-k.k - 1) _ c.block.result.now ok (omega (arith, c.loop-k.invariant.1, c.loop-k-test.true)) refl c.block.ensures in
    let p : c.if-takes_over.places ≡ cond (takes_over c.loop-k.seen.newest c.survey_block-s.result) c.survey_block-s.new.places c.loop-k.places =
    elim c.if-takes_over.branch [ then-takes_over w ↦ search rules | else-takes_over w ↦ search rules ] in (
      rw (c.add.ensures, p)
          (looked_next n img c.args.places.now c.loop-k.k _ _ c.loop-k-test.true c.loop-k.invariant.1 ok (bytes_of img c.args.image.now.are_bytes)
          (c.survey_block-s.ensures.0 ∙ ap survey_of s) (c.survey_block-s.ensures.1 ∙ ap places_in s) c.loop-k.invariant.0),
      omega (arith, c.loop-k.invariant.1),
    )
