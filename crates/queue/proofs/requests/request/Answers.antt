-- A request by value.
use Rattle.board.specs.Queue.{asking, request_on}
use Rattle.queue.proofs.Handing.{by_value}
use Rattle.queue.proofs.requests.request.Goals as goal

pub returns : goal.returns
returns c =
    by_value c.kept_or.result
    (request_on (asking c.args.blocks c.args.image.now c.args.board c.args.host c.args.message.now c.args.reply.now))
    c.kept_or.ensures (c.request_core-s.ensures c.args.board)
