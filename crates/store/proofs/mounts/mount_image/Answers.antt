-- Mount: the length, one look at the blocks, and what the laws say of it.
use mathlib.Core.Path.{◌≡◌, refl, sym}
use Rattle.std.proofs.Common.{rules, Err}
use Rattle.flash.proofs.Blank.{bytes_of}
use Rattle.wire.specs.declared.Refusal.TheVariants as refusal
use Rattle.board.proofs.Outcomes.{mount-length}
use Rattle.looks.proofs.Looked.{newest_fits}
use Rattle.store.proofs.Outcomes.{refusal_given, mount_is}
use Rattle.store.proofs.mounts.mount_image.Goals as goal

pub returns-in_err-image : goal.returns-in_err-image
returns-in_err-image c =
    let r : c.from_residual.result ≡ Err c.in_err-image.field-0.0 = search rules in
    rw (r, c.in_err-image.ensures.0)
    (refusal_given refusal.ImageLength (mount-length c.args.blocks c.args.bytes.now c.in_err-image.ensures.1) refl refl refl)

pub mount_seen-requires : goal.mount_seen-requires
mount_seen-requires c =
    let i = c.in_ok-image.image in
    newest_fits _ _ i.is_allowed (bytes_of i.bytes.now i.are_bytes) c.look-seen.ensures

pub returns : goal.returns
returns c =
    let i = c.in_ok-image.image in
    rw (sym c.in_ok-image.ensures.0, sym c.in_ok-image.ensures.1, c.mount_seen.ensures)
    (mount_is _ _ _ i.is_allowed (bytes_of i.bytes.now i.are_bytes) c.look-seen.ensures)
