-- One look, and the order that it tells.
use mathlib.Core.Path.{sym, ap, ◌∙◌}
use Prim.Native.Nat.{ℕ}
use Rattle.board.proofs.Images.{sized_of}
use Rattle.looks.specs.Seen.{erases_of}
use Rattle.store.specs.Mounts.{order_by}
use Rattle.store.proofs.Outcomes.{order_is}
use Rattle.store.proofs.mounts.format_order.Goals as goal

pub format_list-requires : goal.format_list-requires
format_list-requires c = (sized_of _ _ c.args.image.now.is_allowed).most

pub returns : goal.returns
returns c =
    c.format_list.ensures
    ∙ ap (λ (n : ℕ). erases_of (order_by c.args.image.now.blocks n)) c.last_erased.ensures
    ∙ ap erases_of (sym (order_is c.look-seen.ensures))
