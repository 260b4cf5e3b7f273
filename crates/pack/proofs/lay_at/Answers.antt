-- A stretch laid over the bytes from a place on; past the end nothing changes.
use Rattle.pack.proofs.Laying.{put_back, too_far}
use Rattle.pack.proofs.lay_at.Goals as goal

pub returns-then-at-bytes : goal.returns-then-at-bytes
returns-then-at-bytes c =
    put_back c.args.at c.args.bytes.now c.lay.new.bytes c.args.source.now c.if-at-bytes.true c.lay.ensures

pub returns-else-at-bytes : goal.returns-else-at-bytes
returns-else-at-bytes c = too_far c.args.at c.args.source.now c.args.bytes.now c.if-at-bytes.false
