-- The writes that seal a block, one by one.
use Rattle.job.proofs.Acting.{seal_byte, seal_last}
use Rattle.job.proofs.actions.seal_write.Goals as goal

pub returns-then-i-lt4 : goal.returns-then-i-lt4
returns-then-i-lt4 c = seal_byte c.args.time c.args.i _ c.to_le_bytes-inverse.ensures c.if-i-lt4.true

pub returns : goal.returns
returns c = seal_last c.args.time c.args.i c.if-i-lt4.false
