-- All but the last one, then that.
use mathlib.Core.Path.{sym, ap, ◌∙◌}
use mathlib.Core.Bool.{false}
use native.Mathlib.Omega.{arith}
use lib.ListN.{replicate}
use borrow.Author.Tests.{lt-ltb, le-ltb}
use Rattle.flash.specs.Flash.{max_blocks, block_numbers}
use Rattle.looks.specs.Seen.{Erases, erases_of, one_more, noted, others_in}
use Rattle.store.proofs.Ordering.{others-less, format_listed}
use Rattle.store.proofs.mounts.format_list.Goals as goal

pub push-requires : goal.push-requires
push-requires c = (
  omega arith,
  (
    omega (
      arith,
      c.requires,
      ap (λ (l : Erases). l.count) c.others-list.ensures,
      others-less c.args.last (replicate max_blocks false) 0 c.args.blocks (omega arith) (omega arith),
    ),
    omega arith,
  ),
)

pub returns-then-last-blocks : goal.returns-then-last-blocks
returns-then-last-blocks c =
    c.push.ensures
    ∙ ap (λ (l : Erases). one_more l c.args.last) c.others-list.ensures
    ∙ ap (noted (erases_of (others_in c.args.last (replicate max_blocks false) (block_numbers c.args.blocks))) c.args.last)
    (sym (lt-ltb _ _ c.if-last-blocks.true))
    ∙ format_listed c.args.blocks c.args.last c.requires

pub returns-else-last-blocks : goal.returns-else-last-blocks
returns-else-last-blocks c =
    c.others-list.ensures
    ∙ ap (noted (erases_of (others_in c.args.last (replicate max_blocks false) (block_numbers c.args.blocks))) c.args.last)
    (sym (le-ltb _ _ c.if-last-blocks.false))
    ∙ format_listed c.args.blocks c.args.last c.requires
