-- A stage of a job: its step calls do its steps one by one.
use mathlib.Core.Path.{◌≡◌, sym, ap, ap₂, subst, ◌∙◌}
use mathlib.Core.List.{List, [], ◌∷◌, ◌++◌}
use mathlib.Core.Bool.{Bool, true, ◌&&◌, cond}
use Prim.Native.Nat.{ℕ, zero, suc, ◌+◌, ◌<◌}
use native.Mathlib.Omega.{arith}
use lib.Dec.{eqb, ltb}
use lib.ListN.{length, get_or, drop, drop_of_length-le}
use lib.Seq.{drop-cons}
use borrow.Author.Tests.{eq-eqb, lt-ltb, ltb-true}
use Rattle.flash.specs.Flash.{size_in, is_count, Step, program, erase, block, size_of, block_of, offset_of, within, apply, apply_all}
use Rattle.flash.proofs.Cases.{and_both, and_right}
use Rattle.flash.proofs.Image.{length-apply, other-program, other-erase}
use Rattle.wire.specs.declared.Refusal.TheVariants as refusal
use Rattle.board.specs.declared.Stage.{Stage}
use Rattle.board.specs.declared.Phase.{Phase}
use Rattle.board.specs.declared.Phase.TheVariants.{Busy}
use Rattle.board.specs.declared.Rest.{Rest}
use Rattle.board.specs.declared.Record.{Record}
use Rattle.board.specs.Record.{landing, Out, out, refuse, answer_in, answer_of}
use Rattle.board.specs.Step.{action, advance, same_shape, stepped, step_in, step_busy, step_on}
use Rattle.board.specs.Exec.{exec}
use Rattle.board.specs.Plan.{Follows}

-- ---- the step inside the image

pub inside-yes : {N : ℕ} (s : ℕ) (x : Step) → is_count N ≡ true → block_of x < N → offset_of x < s → within N s x ≡ true
inside-yes {N} s x c h k =
    and_both (is_count N) (ltb (block_of x) N && ltb (offset_of x) s) c
    (and_both (ltb (block_of x) N) (ltb (offset_of x) s) (lt-ltb (block_of x) N h) (lt-ltb (offset_of x) s k))

-- a step inside its block keeps every other block
pub other_block : (N : ℕ) (s k : ℕ) (x : Step) (img : List ℕ) → (k ≡ block_of x → ⊥) → within N s x ≡ true → block s k (apply s x img) ≡ block s k img
other_block N s k (program j o v) img n w =
    other-program s k j o v img n (ltb-true o s (and_right (ltb j N) (ltb o s) (and_right (is_count N) (ltb j N && ltb o s) w)))
other_block N s k (erase j) img n w = other-erase s k j img n

-- ---- one step

-- a record that stands there is of an image of N blocks of s bytes
pub record Shape (N : ℕ) (z : Rest) (s : ℕ) : Type 0 where
  pub count : is_count N ≡ true
  pub blocks : z.blocks ≡ N
  pub size : size_in N (suc z.last) ≡ s

-- another block of the same image
pub shape-landing : {N s : ℕ} {z : Rest} (n k e : ℕ) → Shape N z s → Shape N (landing z n k e) s
shape-landing n k e x = record { count = x.count; blocks = x.blocks; size = x.size }

pub same-shape : {N : ℕ} (n : ℕ) (r : Record) → n ≡ suc r.rest.last → N ≡ r.rest.blocks → same_shape N n r ≡ true
same-shape {N} n r l b = and_both (eqb n (suc r.rest.last)) (eqb N r.rest.blocks) (eq-eqb n (suc r.rest.last) l) (eq-eqb N r.rest.blocks b)

-- what a step call in a job does, by its test
abbrev step_if : ℕ → Stage → List ℕ → Record → Bool → ℕ → Step → Out
step_if N st img r b s x = cond b (stepped (apply s x img) (advance N st (apply s x img) r)) (refuse refusal.Stale img r [])

step-taken : (N : ℕ) (s : ℕ) (st : Stage) (img : List ℕ) (r : Record) (x : Step) → size_of N img ≡ s → r.phase ≡ Busy st → same_shape N (length img) r ≡ true
    → action st r ≡ x → within N s x ≡ true → step_on N img r ≡ stepped (apply s x img) (advance N st (apply s x img) r)
unfolding step_on step_busy
step-taken N s st img r x q p l a w =
    let same : Bool = same_shape N (length img) r in
    ap (λ (f : Phase). step_in N f img r) p
    ∙ ap₂ (λ (n : ℕ) (y : Step). step_if N st img r (same && within N n y) n y) q a
    ∙ ap (λ (b : Bool). step_if N st img r b s x) (and_both same (within N s x) l w)

pub follows-step : (N : ℕ) (s : ℕ) (st : Stage) (img : List ℕ) (r next : Record) (x : Step) (xs : List Step) (z : Record) → size_of N img ≡ s
    → r.phase ≡ Busy st
    → same_shape N (length img) r ≡ true → action st r ≡ x → within N s x ≡ true → advance N st (apply s x img) r ≡ next
    → Follows N (exec N) (apply s x img) next xs z
    → Follows N (exec N) img r (x ∷ xs) z
follows-step N s st img r next x xs z q p l a w n f = (
  ap answer_in p,
  (
    next,
    step-taken N s st img r x q p l a w ∙ ap (stepped (apply s x img)) n ∙ ap (λ (m : ℕ). out (answer_of next) (apply m x img) next []) (sym q),
    subst (λ (m : ℕ). Follows N (exec N) (apply m x img) next xs z) (sym q) f,
  ),
)

-- ---- a stage

-- record i of a stage is about to do step i of its list; after the last step comes another record
pub record Runs (N : ℕ) (z : Rest) (s : ℕ) (st : Stage) (at : ℕ → Record) (after : List ℕ → Record) (xs : List Step) (d : Step) : Type 0 where
  pub phase : (i : ℕ) → (at i).phase ≡ Busy st
  pub stands : (i : ℕ) → (at i).rest ≡ z
  pub acts : (i : ℕ) → i < length xs → action st (at i) ≡ get_or xs i d
  pub inside : (i : ℕ) → i < length xs → within N s (get_or xs i d) ≡ true
  pub goes : (i : ℕ) (img : List ℕ) → suc i < length xs → advance N st img (at i) ≡ at (suc i)
  pub ends : (i : ℕ) (img : List ℕ) → suc i ≡ length xs → advance N st img (at i) ≡ after img

module _ {N : ℕ} (z : Rest) (s : ℕ) (st : Stage) (at : ℕ → Record) (after : List ℕ → Record) (xs : List Step) (d : Step) (shape : Shape N z s)
    (c : Runs N z s st at after xs d) (tail : List Step) (done : Record) where
  one-step : (i : ℕ) (img : List ℕ) (next : Record) → i < length xs → length img ≡ suc z.last → advance N st (apply s (get_or xs i d) img) (at i) ≡ next
      → Follows N (exec N) (apply s (get_or xs i d) img) next (drop (suc i) xs ++ tail) done → Follows N (exec N) img (at i) (drop i xs ++ tail) done
  one-step i img next h e n f =
      subst (λ (ys : List Step). Follows N (exec N) img (at i) (ys ++ tail) done) (sym (drop-cons xs i d h))
      (follows-step N s st img (at i) next (get_or xs i d) (drop (suc i) xs ++ tail) done (ap (size_in N) e ∙ shape.size) (c.phase i)
      (same-shape (length img) (at i) (e ∙ ap (λ (y : Rest). suc y.last) (sym (c.stands i)))
      (sym (ap (λ (y : Rest). y.blocks) (c.stands i) ∙ shape.blocks))) (c.acts i h) (c.inside i h) n f)

  run-from : (n i : ℕ) (img : List ℕ) → i + suc n ≡ length xs → length img ≡ suc z.last
      → Follows N (exec N) (apply_all s (drop i xs) img) (after (apply_all s (drop i xs) img)) tail done → Follows N (exec N) img (at i) (drop i xs ++ tail) done
  unfolding apply_all
  run-from zero i img q e f =
      let x : Step = get_or xs i d in
      let none : drop (suc i) xs ≡ [] = drop_of_length-le xs {i = suc i} (omega arith) in
      let split : drop i xs ≡ x ∷ [] = drop-cons xs i d (omega arith) ∙ ap (λ (ys : List Step). x ∷ ys) none in
      one-step i img (after (apply s x img)) (omega arith) e (c.ends i (apply s x img) (omega arith))
      (subst (λ (ys : List Step). Follows N (exec N) (apply s x img) (after (apply s x img)) (ys ++ tail) done) (sym none)
      (subst (λ (ys : List Step). Follows N (exec N) (apply_all s ys img) (after (apply_all s ys img)) tail done) split f))
  run-from (suc n) i img q e f =
      let x : Step = get_or xs i d in
      one-step i img (at (suc i)) (omega arith) e (c.goes i (apply s x img) (omega arith))
      (run-from n (suc i) (apply s x img) (omega arith) (length-apply s x img ∙ e)
      (subst (λ (ys : List Step). Follows N (exec N) (apply_all s ys img) (after (apply_all s ys img)) tail done) (drop-cons xs i d (omega arith)) f))

  pub follows_stage : (n : ℕ) (img : List ℕ) → suc n ≡ length xs → length img ≡ suc z.last
      → Follows N (exec N) (apply_all s xs img) (after (apply_all s xs img)) tail done → Follows N (exec N) img (at 0) (xs ++ tail) done
  follows_stage n img q e f = run-from n 0 img (omega arith) e f

-- the stage's steps keep a block that none of them is on
module _ (N : ℕ) (s : ℕ) (xs : List Step) (d : Step) (inside : (i : ℕ) → i < length xs → within N s (get_or xs i d) ≡ true) (k : ℕ)
    (other : (i : ℕ) → k ≡ block_of (get_or xs i d) → ⊥) where
  kept_from : (n i : ℕ) (img : List ℕ) → i + n ≡ length xs → block s k (apply_all s (drop i xs) img) ≡ block s k img
  unfolding apply_all
  kept_from zero i img q =
      let none : drop i xs ≡ [] = drop_of_length-le xs {i = i} (omega arith) in ap (λ (ys : List Step). block s k (apply_all s ys img)) none
  kept_from (suc n) i img q =
      let x : Step = get_or xs i d in
      ap (λ (ys : List Step). block s k (apply_all s ys img)) (drop-cons xs i d (omega arith))
      ∙ kept_from n (suc i) (apply s x img) (omega arith) ∙ other_block N s k x img (other i) (inside i (omega arith))

  pub kept_stage : (img : List ℕ) → block s k (apply_all s xs img) ≡ block s k img
  kept_stage img = kept_from (length xs) 0 img (omega arith)
