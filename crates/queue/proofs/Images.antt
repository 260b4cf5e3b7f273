-- The record's image.
use mathlib.Core.Path.{◌≡◌, refl, sym, ap, ◌∙◌}
use mathlib.Core.List.{List, [], ◌∷◌}
use mathlib.Core.Bool.{Bool, true, ◌&&◌, ◌||◌}
use Prim.Native.Nat.{ℕ, zero, suc, ◌<◌}
use native.Mathlib.Numerals.{add-one}
use lib.Dec.{eqb, ltb}
use lib.ListN.{length}
use borrow.Author.Tests.{eqb-true, ltb-true}
use Rattle.flash.specs.Bytes.{all_ff}
use Rattle.flash.specs.Flash.{numbers_from, block_numbers, block, size_of}
use Rattle.flash.proofs.Cases.{and_left, and_right}
use Rattle.board.specs.declared.Record.{Record}
use Rattle.board.specs.Step.{same_shape}
use Rattle.board.specs.Queue.{others_blank, same_image}
use Rattle.std.specs.List.{list_all, range_with_len}

-- ---- the other blocks

module _ (N k : ℕ) (img : List ℕ) where
  -- a block that is blank, or passed over
  abbrev pub passes : ℕ → Bool
  passes j = eqb k j || all_ff (block (size_of N img) j img)

  all_pass : (js : List ℕ) → others_blank N k img js ≡ list_all passes js
  all_pass [] = refl
  all_pass (j ∷ js) = ap (λ (t : Bool). passes j && t) (all_pass js)

  from : (i n : ℕ) → numbers_from i n ≡ range_with_len i n
  unfolding numbers_from
  from i zero = refl
  from i (suc n) = ap (λ (js : List ℕ). i ∷ js) (from (suc i) n ∙ ap (λ (j : ℕ). range_with_len j n) (sym (add-one i)))

  pub blank_is : others_blank N k img (block_numbers N) ≡ list_all passes (range_with_len 0 N)
  blank_is = all_pass (block_numbers N) ∙ ap (list_all passes) (from 0 N)

-- ---- what an image that is the record's says

module _ (N : ℕ) (img : List ℕ) (r : Record) (e : same_image N img r ≡ true) where
  pub same_count : N ≡ r.rest.blocks
  same_count = eqb-true N r.rest.blocks
      (and_right (eqb (length img) (suc r.rest.last)) (eqb N r.rest.blocks) (and_left (same_shape N (length img) r) _ e))

  pub same_inside : r.rest.block < N
  same_inside = ltb-true r.rest.block N (and_left (ltb r.rest.block N) _ (and_right (same_shape N (length img) r) _ e))
