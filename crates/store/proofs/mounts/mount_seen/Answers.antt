-- A valid block, then equal times; then what is done with the block.
use mathlib.Core.Path.{◌≡◌, ap, ◌∙◌}
use Rattle.std.proofs.Common.{rules, Err, Some, None}
use Rattle.board.proofs.Images.{sized_of}
use Rattle.store.proofs.Outcomes.{none_is, tie_is, taken_is}
use Rattle.store.proofs.mounts.mount_seen.Goals as goal

pub returns-in_err-w : goal.returns-in_err-w
returns-in_err-w c =
    let r : c.from_residual.result ≡ Err c.in_err-w.field-0.0 = search rules in
    let n : c.args.z.newest ≡ None = c.in_err-w.ensures.ok_part in
    let v = rw n at c.in_err-w.ensures.value in
    let e : c.in_err-w.field-0.0 ≡ c.args.z.why = cc in
    r ∙ ap (λ k. Err k) e ∙ none_is _ _ c.args.z n

pub returns-in-Some : goal.returns-in-Some
returns-in-Some c =
    let t : c.args.z.tie ≡ Some c.in-Some.lowest = c.in-Some.is in
    ap (λ k. Err k) c.tied_times.ensures ∙ tie_is _ _ c.args.z c.in-Some.lowest c.in_ok-w.ensures.ok_part t

pub others-list-requires : goal.others-list-requires
others-list-requires c = (sized_of _ _ c.args.image.now.is_allowed).most

pub returns : goal.returns
returns c =
    let t : c.args.z.tie ≡ None = c.in_default.is in
    c.mount_at.ensures
    ∙ rw c.last.ensures (taken_is _ _ c.args.z c.in_ok-w.ensures.ok_part t c.others-list.ensures c.mending-m.ensures c.block.ensures)
