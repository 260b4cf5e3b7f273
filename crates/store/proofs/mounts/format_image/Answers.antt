-- Format: the length, the order of its erases, then one job.
use mathlib.Core.Path.{◌≡◌, refl, sym}
use Rattle.std.proofs.Common.{rules, Err}
use Rattle.wire.specs.declared.Refusal.TheVariants as refusal
use Rattle.board.proofs.Outcomes.{format-length}
use Rattle.store.proofs.Outcomes.{refusal_given, format-is}
use Rattle.store.proofs.mounts.format_image.Goals as goal

pub returns-in_err-image : goal.returns-in_err-image
returns-in_err-image c =
    let r : c.from_residual.result ≡ Err c.in_err-image.field-0.0 = search rules in
    rw (r, c.in_err-image.ensures.0)
    (refusal_given refusal.ImageLength (format-length c.args.blocks c.args.bytes.now c.in_err-image.ensures.1) refl refl refl)

pub returns : goal.returns
returns c =
    let i = c.in_ok-image.image in
    rw (sym c.in_ok-image.ensures.0, sym c.in_ok-image.ensures.1)
    (rw (c.begin.ensures, c.starting-cursor.ensures, c.standing-rest.ensures, c.next_block.ensures, c.last.ensures, c.no_job.ensures, c.from-edition.ensures)
    (format-is _ _ c.format_order-order.result i.is_allowed c.format_order-order.ensures))
