-- Prefixes of plans: what holds at every step of a list of steps.
use mathlib.Core.Path.{◌≡◌, refl, sym, ap, subst, subst₂, ◌∙◌}
use mathlib.Core.List.{List, [], ◌∷◌, ◌++◌}
use Prim.Native.Nat.{ℕ, zero, suc, ◌+◌, ◌-◌, ◌≤◌, ◌<◌}
use native.Mathlib.Omega.{arith}
use lib.Dec.{ltb}
use lib.ListN.{length, get_or, take, length-map, length-append, get_or-append}
use lib.Seq.{take-append-le, take-append-add, get_or-append-add}
use borrow.Author.Tests.{ltb-true, ltb-false}
use Rattle.flash.specs.Flash.{Step, erase, apply_all, Write, write_step}
use Rattle.flash.proofs.Cases.{on_test}
use Rattle.flash.proofs.Offsets.{Below}
use Rattle.board.specs.Plan.{on_block}
use Rattle.board.proofs.Images.{apply-append}

-- P holds of every step of a plan and the image it is done on
abbrev pub Each : ℕ → (Step → List ℕ → Type 0) → List Step → List ℕ → Type 0
Each s P plan img = (j : ℕ) → j < length plan → P (get_or plan j (erase 0)) (apply_all s (take j plan) img)

pub each_append : (s : ℕ) (P : Step → List ℕ → Type 0) (xs ys : List Step) (img : List ℕ) → Each s P xs img → Each s P ys (apply_all s xs img)
    → Each s P (xs ++ ys) img
each_append s P xs ys img a b j h =
    on_test (ltb j (length xs))
    (λ e. let l : j < length xs = ltb-true j (length xs) e in
    subst₂ P (sym (get_or-append xs ys (erase 0) j l)) (ap (λ (p : List Step). apply_all s p img) (sym (take-append-le j xs ys (omega arith)))) (a j l))
    (λ e. past (omega (arith, ltb-false j (length xs) e)))
  where
    past : length xs ≤ j → P (get_or (xs ++ ys) j (erase 0)) (apply_all s (take j (xs ++ ys)) img)
    past l =
        let n : ℕ = j - length xs in
        let e : length xs + n ≡ j = omega arith in
        subst (λ (i : ℕ). P (get_or (xs ++ ys) i (erase 0)) (apply_all s (take i (xs ++ ys)) img)) e
        (subst₂ P (sym (get_or-append-add xs ys n (erase 0)))
        (sym (ap (λ (p : List Step). apply_all s p img) (take-append-add xs ys n) ∙ apply-append s xs (take n ys) img))
        (b n (omega (arith, length-append xs ys))))

pub each-one : (s : ℕ) (P : Step → List ℕ → Type 0) (x : Step) (img : List ℕ) → P x img → Each s P (x ∷ []) img
unfolding apply_all
each-one s P x img p zero h = p
each-one s P x img p (suc j) h = absurd (omega arith)

-- ---- writes to one block

pub length-on : (k : ℕ) (ws : List Write) → length (on_block k ws) ≡ length ws
length-on k ws = length-map ws (write_step k)

pub take_on : (k j : ℕ) (ws : List Write) → take j (on_block k ws) ≡ on_block k (take j ws)
take_on k zero ws = refl
take_on k (suc j) [] = refl
take_on k (suc j) (w ∷ ws) = ap (λ (l : List Step). write_step k w ∷ l) (take_on k j ws)

pub get_or-on : (k j : ℕ) (ws : List Write) (e : Step) (d : Write) → j < length ws → get_or (on_block k ws) j e ≡ write_step k (get_or ws j d)
get_or-on k j [] e d h = absurd (omega arith)
get_or-on k zero (w ∷ ws) e d h = refl
get_or-on k (suc j) (w ∷ ws) e d h = get_or-on k j ws e d (omega arith)

pub each-writes : (s k : ℕ) (P : Step → List ℕ → Type 0) (ws : List Write) (d : Write) (img : List ℕ)
    → ((j : ℕ) → j < length ws → P (write_step k (get_or ws j d)) (apply_all s (on_block k (take j ws)) img)) → Each s P (on_block k ws) img
each-writes s k P ws d img a j h =
    let l : j < length ws = omega (arith, length-on k ws) in
    subst₂ P (sym (get_or-on k j ws (erase 0) d l)) (ap (λ (p : List Step). apply_all s p img) (sym (take_on k j ws))) (a j l)

pub below-take : (s j : ℕ) (ws : List Write) → Below s ws → Below s (take j ws)
below-take s zero ws b = tt
below-take s (suc j) [] b = tt
below-take s (suc j) (w ∷ ws) (h, b) = (h, below-take s j ws b)
