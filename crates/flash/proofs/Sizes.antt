-- The size of a block, by how many there are.
use mathlib.Core.Path.{◌≡◌, sym, ap, subst, ◌∙◌}
use Prim.Native.Nat.{ℕ, ◌+◌, ◌*◌, ◌/◌, ◌≤◌, ◌<◌}
use native.Mathlib.Omega.{arith}
use native.Mathlib.Nat.{mul-div_cancel_left, mul-div-le, mul-le-mul_right, zero-mul}
use lib.Dec.{eqb}
use borrow.Author.Tests.{eqb-true, eqb-false}
use Rattle.flash.specs.Flash.{size_in}
use Rattle.flash.proofs.Cases.{on_test}
use Rattle.flash.proofs.Image.{blocks-le}

pub size-some : (N n : ℕ) → (N ≡ 0 → ⊥) → n / N ≡ size_in N n
unfolding size_in
size-some N n h = on_test (eqb N 0) (λ t. absurd (h (eqb-true N 0 t))) (λ t. rw t)

-- S, where the image is N blocks of that size
pub size_is : (N s : ℕ) → 1 ≤ N → size_in N (N * s) ≡ s
size_is N s h = sym (size-some N (N * s) (λ e. omega arith)) ∙ mul-div_cancel_left s h

pub size-within : (N n : ℕ) → N * size_in N n ≤ n
size-within N n =
    on_test (eqb N 0)
    (λ t. let e : N * size_in N n ≡ 0 = ap (λ (k : ℕ). k * size_in N n) (eqb-true N 0 t) ∙ zero-mul (size_in N n) in omega arith)
    (λ t. subst (λ (s : ℕ). N * s ≤ n) (size-some N n (eqb-false N 0 t)) (mul-div-le n N))

-- of two blocks or more, one is at most half of the image
pub size-half : (N n : ℕ) → 2 ≤ N → 2 * size_in N n ≤ n
size-half N n h = omega (arith, mul-le-mul_right {m = 2} {n = N} (size_in N n) h, size-within N n)

-- an offset up to a block's end is at most the image's length
pub place-most : (N n s k o : ℕ) → s ≡ size_in N n → k < N → o ≤ s → k * s + o ≤ n
place-most N n s k o e h l = omega (arith, blocks-le s k N h, subst (λ (z : ℕ). N * z ≤ n) (sym e) (size-within N n))
