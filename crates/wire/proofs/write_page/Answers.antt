-- Log page 1: the page's bytes, laid over the reply.
use mathlib.Core.Path.{◌∙◌}
use Rattle.wire.specs.Code.{overlay, page_into}
use Rattle.wire.proofs.Laying.{two_le, four_le}
use Rattle.wire.proofs.write_page.Goals as goal

pub returns : goal.returns
unfolding overlay page_into
returns c =
    rw (
      c.to_le_bytes.ensures ∙ four_le c.args.time c.ranges.time.fits,
      c.to_le_bytes-2.ensures ∙ two_le c.args.count c.ranges.count.fits,
      c.to_le_bytes-3.ensures ∙ two_le c.args.used c.ranges.used.fits,
      c.to_le_bytes-4.ensures ∙ two_le c.args.size c.ranges.size.fits,
    ) at c.lay.ensures
