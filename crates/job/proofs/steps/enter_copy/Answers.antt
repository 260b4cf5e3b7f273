-- The next frame to copy, or the block sealed.
use Rattle.job.proofs.Entering.{going_leaves}
use Rattle.job.specs.Code.{assemble, going, LeadsTo}
use Rattle.board.specs.Step.{first}
use Rattle.board.specs.declared.Stage.TheVariants.{Seal}
use Rattle.fetch.specs.Fetch.{Inside}
use Rattle.fetch.proofs.Copying.{fetches}
use Rattle.job.proofs.Loading.{frame_found, none_found}
use mathlib.Core.Path.{ap, subst, ◌∙◌}
use Prim.Native.Nat.{ℕ}
use Rattle.flash.specs.Flash.{block}
use Rattle.job.proofs.steps.enter_copy.Goals as goal

pub load-requires : goal.load-requires
load-requires c =
    subst (Inside c.block_of-source.result.now) c.in-Some.is (fetches _ _ _ _ _ _ _ _ c.next_load.ensures).1

pub returns-in-Some : goal.returns-in-Some
returns-in-Some c =
    λ f a. subst (LeadsTo _ _ f c.load.result)
    (frame_found c.args.blocks c.args.image.now (assemble c.args.n c.args.places.now c.args.unit.now f) c.block_of-source.result.now
    (c.block_of-source.ensures ∙ ap (λ (s : ℕ). block s c.args.n.rest.block c.args.image.now) c.size_of-size.ensures)
    c.from-edition.result c.from-edition.ensures c.next_load.result (fetches _ _ _ _ _ _ _ _ c.next_load.ensures).0 c.in-Some.fetch
    c.in-Some.is) (c.load.ensures f a)

pub returns-in-None : goal.returns-in-None
returns-in-None c =
    λ f a. rw c.enter.ensures (subst (LeadsTo c.args.places.now c.args.unit.now f
    (going Seal (first c.args.n.cursor) c.args.n))
    (none_found c.args.blocks c.args.image.now (assemble c.args.n c.args.places.now c.args.unit.now f) c.block_of-source.result.now
    (c.block_of-source.ensures ∙ ap (λ (s : ℕ). block s c.args.n.rest.block c.args.image.now) c.size_of-size.ensures)
    c.from-edition.result c.from-edition.ensures c.next_load.result (fetches _ _ _ _ _ _ _ _ c.next_load.ensures).0 c.in-None.is)
    (going_leaves c.args.places.now c.args.unit.now f Seal (first c.args.n.cursor) c.args.n))
