-- What is found lies in the image.
use Rattle.std.proofs.Common.{◌≡◌, ap, ◌∙◌, arith, ℕ, ◌+◌, ◌*◌, ◌≤◌, length}
use Rattle.std.specs.Result.{result_ok}
use Rattle.flash.specs.Flash.{size_of}
use Rattle.queue.proofs.Finding.{placed_inside}
use Rattle.queue.proofs.reads.at_place.Goals as goal
use Rattle.queue.proofs.reads.at_place.Goals.{In_ok-found}

inside : (c : In_ok-found) {n : ℕ} → let i = c.args.image.now in let y = c.in_ok-found.found in
    n ≡ size_of i.blocks i.bytes.now → (c.args.rest.block * n + y.at + y.size ≤ length i.bytes.now) × (length i.bytes.now ≤ 65536)
inside c e =
    placed_inside c.args.image.now c.args.rest c.args.id c.args.place c.in_ok-found.found e c.block-block.ensures c.from-edition.ensures c.value_at.ensures
    (c.ok_or.ensures.ok_part ∙ ap result_ok c.in_ok-found.was)

pub overflow_mul-result : goal.overflow_mul-result
overflow_mul-result c = rw c.from.ensures (omega (arith, inside (goal.at.overflow_mul-result c).In_ok-found c.size.ensures))

pub overflow_add-result : goal.overflow_add-result
overflow_add-result c = rw c.from.ensures (omega (arith, inside (goal.at.overflow_add-result c).In_ok-found c.size.ensures))

pub returns-clause-inside : goal.returns-clause-inside
returns-clause-inside c = rw (c.from.ensures, c.from-2.ensures) (inside (goal.at.returns-clause-inside c).In_ok-found c.size.ensures).0
