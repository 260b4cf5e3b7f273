-- Lists of block numbers: what a job wipes.
use mathlib.Core.Path.{◌≡◌, refl, sym, subst, ◌∙◌}
use mathlib.Core.List.{List, [], ◌∷◌, map}
use mathlib.Core.Bool.{Bool, true, ◌||◌, cond}
use Prim.Native.Nat.{ℕ, zero, suc, ◌+◌, ◌≤◌, ◌<◌}
use native.Mathlib.Omega.{arith}
use lib.Dec.{eqb}
use lib.ListN.{length, get_or}
use borrow.Author.Tests.{eqb-true, eqb-false}
use Rattle.flash.specs.Bytes.{all_ff}
use Rattle.flash.specs.Flash.{numbers_from, block_numbers, size_of, block, erase, apply, apply_all}
use Rattle.flash.proofs.Cases.{on_test, and_left, and_right, and_both, or_left, or_right, or_no-left}
use Rattle.flash.proofs.Image.{other-erase}
use Rattle.board.specs.Queue.{others_blank}
use Rattle.board.specs.Mount.{Found, found, all_found, is_blank, wipe_list}

-- the numbers are blocks
abbrev pub Blocks : ℕ → List ℕ → Type 0
Blocks N [] = Unit {0}
Blocks N (n ∷ ns) = (n < N) × Blocks N ns

-- and none is k
abbrev pub Besides : ℕ → ℕ → List ℕ → Type 0
Besides N k [] = Unit {0}
Besides N k (n ∷ ns) = (n < N) × (k ≡ n → ⊥) × Besides N k ns

pub besides_blocks : (N : ℕ) (k : ℕ) (ns : List ℕ) → Besides N k ns → Blocks N ns
besides_blocks N k [] h = tt
besides_blocks N k (n ∷ ns) (a, b, h) = (a, besides_blocks N k ns h)

-- wipes of other blocks keep a block
pub besides_kept : (N : ℕ) (s k : ℕ) (ns : List ℕ) (img : List ℕ) → Besides N k ns → block s k (apply_all s (map erase ns) img) ≡ block s k img
unfolding apply_all
besides_kept N s k [] img h = refl
besides_kept N s k (n ∷ ns) img (a, b, h) = besides_kept N s k ns (apply s (erase n) img) h ∙ other-erase s k n img b

pub a_block : {N : ℕ} (ns : List ℕ) (i : ℕ) → Blocks N ns → i < length ns → get_or ns i 0 < N
a_block [] i b h = absurd (omega arith)
a_block (n ∷ ns) zero (b, bs) h = b
a_block (n ∷ ns) (suc i) (b, bs) h = a_block ns i bs (omega arith)

-- what a mount wipes is besides its block
abbrev Numbered : ℕ → List Found → Type 0
Numbered N [] = Unit {0}
Numbered N (x ∷ xs) = (x.number < N) × Numbered N xs

besides_found : (N : ℕ) (k : ℕ) (xs : List Found) → Numbered N xs → Besides N k (wipe_list k xs)
besides_found N k [] h = tt
besides_found N k (x ∷ xs) (a, h) =
    let rest : Besides N k (wipe_list k xs) = besides_found N k xs h in
    on_test (eqb k x.number || is_blank x.state)
    (λ t. subst (λ (b : Bool). Besides N k (cond b (wipe_list k xs) (x.number ∷ wipe_list k xs))) (sym t) rest)
    (λ t.
    subst (λ (b : Bool). Besides N k (cond b (wipe_list k xs) (x.number ∷ wipe_list k xs))) (sym t)
    (a, eqb-false k x.number (or_no-left (eqb k x.number) (is_blank x.state) t), rest))

numbered-from : (N k n : ℕ) (img : List ℕ) → k + n ≤ N → Numbered N (map (found N img) (numbers_from k n))
unfolding numbers_from
numbered-from N k zero img h = tt
numbered-from N k (suc n) img h = (omega arith, numbered-from N (suc k) n img (omega arith))

pub wiped_besides : (N : ℕ) (k : ℕ) (img : List ℕ) → Besides N k (wipe_list k (all_found N img))
wiped_besides N k img = besides_found N k (all_found N img) (numbered-from N 0 N img (omega arith))

-- ---- "other half blank", block by block

module _ (N k : ℕ) (img : List ℕ) where
  -- block j is k, or it is blank
  abbrev Clear : ℕ → Type 0
  Clear j = (eqb k j || all_ff (block (size_of N img) j img)) ≡ true

  others_from : (a n : ℕ) → ((j : ℕ) → a ≤ j → j < a + n → Clear j) → others_blank N k img (numbers_from a n) ≡ true
  unfolding numbers_from
  others_from a zero f = refl
  others_from a (suc n) f =
      and_both (eqb k a || all_ff (block (size_of N img) a img)) (others_blank N k img (numbers_from (suc a) n)) (f a (omega arith) (omega arith))
      (others_from (suc a) n (λ j l h. f j (omega arith) (omega arith)))

  others_each : (a n : ℕ) → others_blank N k img (numbers_from a n) ≡ true → (j : ℕ) → a ≤ j → j < a + n → Clear j
  unfolding numbers_from
  others_each a zero t j l h = absurd (omega arith)
  others_each a (suc n) t j l h =
      on_test (eqb a j)
      (λ e. subst Clear (eqb-true a j e) (and_left (eqb k a || all_ff (block (size_of N img) a img)) (others_blank N k img (numbers_from (suc a) n)) t))
      (λ e. others_each (suc a) n (and_right (eqb k a || all_ff (block (size_of N img) a img)) (others_blank N k img (numbers_from (suc a) n)) t) j
      (omega (arith, eqb-false a j e)) (omega arith))

  pub others_are : ((j : ℕ) → j < N → (j ≡ k → ⊥) → all_ff (block (size_of N img) j img) ≡ true) → others_blank N k img (block_numbers N) ≡ true
  others_are f =
      others_from 0 N
      (λ j l h.
      on_test (eqb k j) (or_left (eqb k j) (all_ff (block (size_of N img) j img)))
      (λ t. or_right (eqb k j) (all_ff (block (size_of N img) j img)) (f j (omega arith) (λ e. eqb-false k j t (sym e)))))

  pub others-blank : others_blank N k img (block_numbers N) ≡ true → (j : ℕ) → j < N → (j ≡ k → ⊥) → all_ff (block (size_of N img) j img) ≡ true
  others-blank t j h n =
      let c : Clear j = others_each 0 N t j (omega arith) (omega arith) in on_test (eqb k j) (λ e. absurd (n (sym (eqb-true k j e)))) (λ e. rw e at c)
