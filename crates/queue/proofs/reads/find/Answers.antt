-- A read: refused at the gate, of another kind, or by its place.
use mathlib.Core.Path.{refl, sym}
use Rattle.std.proofs.Common.{rules}
use Rattle.board.specs.Queue.{Asking, asking}
use Rattle.job.specs.Code.{placed}
use Rattle.queue.specs.Calls.{read_as_of, telling}
use Rattle.queue.proofs.Asking.{opened, shut}
use Rattle.queue.proofs.Finding.{shut_finds, other_finds, read_finds}
use Rattle.queue.proofs.reads.find.Goals as goal

pub returns-in_err-image : goal.returns-in_err-image
returns-in_err-image c =
    let why = c.in_err-image.field-0.0 in
    let g = c.in_err-image.ensures in
    λ b e. let a : Asking = asking c.args.blocks c.args.image.now (placed c.args.phase c.args.rest b) c.args.host c.args.message.now _ in
    shut_finds a c.from_residual.result why (shut a why g) (shut (telling a (read_as_of c.args.message.now)) why g) (search rules)

pub returns-then-not-is_read_kind : goal.returns-then-not-is_read_kind
returns-then-not-is_read_kind c =
    let g = c.in_ok-image.ensures in
    rw (sym g.0, sym g.1) (λ b e. other_finds _ _ (opened c.in_ok-image.image g) (sym c.if-not-is_read_kind.ensures) refl)

pub returns : goal.returns
returns c =
    let g = c.in_ok-image.ensures in
    rw (sym g.0, sym g.1) (λ b e. read_finds _ _ (opened c.in_ok-image.image g) c.args.place e (sym c.if-not-is_read_kind.ensures) c.hear.ensures.by_place
    c.hear.ensures.inside)
