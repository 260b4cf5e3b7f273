-- The walk: what was read so far are the first frames of the scan.
use mathlib.Core.Path.{sym, ◌∙◌}
use native.Mathlib.Omega.{arith}
use Rattle.survey.proofs.HeadLaws.{taken-end, reached_pending, reached_more, ends_blank, ends_torn, ends_wrong}
use Rattle.fetch.proofs.FrameReads.{read-inside}
use Rattle.survey.proofs.Passing.{reached-none}
use Rattle.survey.proofs.block.Block.walk.Goals as goal

pub loop-head-init : goal.loop-head-init
loop-head-init c = reached-none _ _ _ _ c.requires c.start-p.ensures

pub take-p-requires : goal.take-p-requires
take-p-requires c = (
  (read-inside c.args.self.edition c.loop-head.p.next c.loop-head.p.end c.args.self.bytes.now _
      (sym c.read_frame.ensures ∙ c.in-Whole.is)).0,
  reached_pending _ c.loop-head.invariant,
)

pub loop-head-smaller : goal.loop-head-smaller
loop-head-smaller c =
    omega (
      arith,
      taken-end _ _ _ _ c.take-p.ensures.0,
      read-inside c.args.self.edition c.loop-head.p.next c.loop-head.p.end c.args.self.bytes.now _
          (sym c.read_frame.ensures ∙ c.in-Whole.is),
    )

pub loop-head-preserved : goal.loop-head-preserved
loop-head-preserved c =
    reached_more _ c.loop-head.invariant _ _ _ (sym c.read_frame.ensures ∙ c.in-Whole.is) c.take-p.ensures.0
    c.take-p.ensures.1

pub returns-in-Blank : goal.returns-in-Blank
returns-in-Blank c = ends_blank _ c.loop-head.invariant (sym c.read_frame.ensures ∙ c.in-Blank.is)

pub returns-in-Torn : goal.returns-in-Torn
returns-in-Torn c =
    ends_torn _ c.loop-head.invariant _ (sym c.read_frame.ensures ∙ c.in-Torn.is)

pub returns-in-Wrong : goal.returns-in-Wrong
returns-in-Wrong c =
    ends_wrong _ c.loop-head.invariant _ (sym c.read_frame.ensures ∙ c.in-Wrong.is)
