-- What steps do to each byte of an image.
use mathlib.Core.Path.{◌≡◌, refl, ◌∙◌}
use mathlib.Core.List.{List, [], ◌∷◌, ◌++◌}
use Prim.Native.Nat.{ℕ, ◌+◌, ◌*◌, ◌<◌}
use native.Mathlib.Omega.{arith}
use lib.ListN.{length, get_or, drop, replicate, length-take, length-drop, length-replicate, get_or-replicate}
use Rattle.flash.specs.Flash.{Step, program, erase, block, apply, apply_all}
use Rattle.flash.specs.Applied.{Misses, MissesAll, AppliedExact}
use Rattle.flash.proofs.Replaced.{replaced, replaced_others}
use Rattle.flash.proofs.Image.{length-apply, program-same, program-other}

-- ---- an erase is a block of 0xFF

module _ (s k : ℕ) (img : List ℕ) where
  ones : length {A = ℕ} (replicate (length (block s k img)) 255) ≡ length (block s k img)
  ones = length-replicate (length (block s k img)) 255

  erased : (o : ℕ) → o < s → k * s + o < length img → get_or (apply s (erase k) img) (k * s + o) 0 ≡ 255
  erased o h g =
      let b : o < length (block s k img) = omega (arith, length-take s (drop (k * s) img), length-drop (k * s) img) in
      replaced s k (replicate (length (block s k img)) 255) img ones o (omega (arith, ones, b)) ∙ get_or-replicate (length (block s k img)) o 255 0 b

-- ---- steps in order

pub apply-append : (s : ℕ) (xs ys : List Step) (img : List ℕ) → apply_all s (xs ++ ys) img ≡ apply_all s ys (apply_all s xs img)
unfolding apply_all
apply-append s [] ys img = refl
apply-append s (x ∷ xs) ys img = apply-append s xs ys (apply s x img)

last_step : (s : ℕ) (xs : List Step) (x : Step) (img : List ℕ) → apply_all s (xs ++ (x ∷ [])) img ≡ apply s x (apply_all s xs img)
unfolding apply_all
last_step s xs x img = apply-append s xs (x ∷ []) img

pub length-all-steps : (s : ℕ) (xs : List Step) (img : List ℕ) → length (apply_all s xs img) ≡ length img
unfolding apply_all
length-all-steps s [] img = refl
length-all-steps s (x ∷ xs) img = length-all-steps s xs (apply s x img) ∙ length-apply s x img

missed : (s i : ℕ) (x : Step) (img : List ℕ) → Misses s i x → get_or (apply s x img) i 0 ≡ get_or img i 0
missed s i (program k o v) img h = program-other img (k * s + o) v i h
missed s i (erase k) img h = replaced_others s k (replicate (length (block s k img)) 255) img (ones s k img) i h

missed-all : (s i : ℕ) (xs : List Step) (img : List ℕ) → MissesAll s i xs → get_or (apply_all s xs img) i 0 ≡ get_or img i 0
unfolding apply_all
missed-all s i [] img h = refl
missed-all s i (x ∷ xs) img (h, hs) = missed-all s i xs (apply s x img) hs ∙ missed s i x img h

no_step : (s : ℕ) (img : List ℕ) → apply_all s [] img ≡ img
unfolding apply_all
no_step s img = refl

pub applied-exact : AppliedExact
applied-exact =
    record {
      programmed = λ s k o v img. program-same img (k * s + o) v;
      program_others = λ s k o v i img h. program-other img (k * s + o) v i h;
      erased = λ s k o img h g. erased s k img o h g;
      erase_others = λ s k i img h. missed s i (erase k) img h;
      replaced = λ s k o new img l h. replaced s k new img l o h;
      replaced_others = λ s k i new img l h. replaced_others s k new img l i h;
      no_step = no_step;
      last_step = last_step;
      others = missed-all;
      long = length-all-steps;
    }
