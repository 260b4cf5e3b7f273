-- Numbers of blocks: the one that a transfer goes to, and all of them.
use mathlib.Core.Path.{◌≡◌, refl, sym, ap, ap₂, ◌∙◌}
use mathlib.Core.List.{List, ◌∷◌, ◌++◌}
use Prim.Native.Nat.{ℕ, zero, suc, ◌+◌, ◌-◌, ◌≤◌, ◌<◌}
use native.Mathlib.Omega.{arith}
use lib.Dec.{eqb, ltb}
use lib.ListN.{length, get_or, length-append, get_or-append}
use lib.Seq.{get_or-append-add}
use borrow.Author.Tests.{eqb-true, eqb-false, ltb-true, ltb-false, ne_eqb}
use Rattle.flash.specs.Flash.{numbers_from, block_numbers}
use Rattle.flash.proofs.Cases.{on_test}
use Rattle.board.specs.Mount.{next_block, numbers_but}

-- the next in number, or 0 after the last
pub next_up : (N k : ℕ) → suc k < N → next_block N k ≡ suc k
next_up N k h = on_test (ltb (suc k) N) (λ t. rw t) (λ t. absurd (omega (arith, ltb-false (suc k) N t)))

pub next-round : (N k : ℕ) → N ≤ suc k → next_block N k ≡ 0
next-round N k h = on_test (ltb (suc k) N) (λ t. absurd (omega (arith, ltb-true (suc k) N t))) (λ t. rw t)

pub next-there : {N : ℕ} (k : ℕ) → k < N → next_block N k < N
next-there {N} k h =
    on_test (ltb (suc k) N) (λ t. omega (arith, next_up N k (ltb-true (suc k) N t), ltb-true (suc k) N t))
    (λ t. omega (arith, next-round N k (ltb-false (suc k) N t)))

pub next-other : {N : ℕ} (k : ℕ) → 2 ≤ N → k < N → next_block N k ≡ k → ⊥
next-other {N} k l h e =
    on_test (ltb (suc k) N) (λ t. omega (arith, next_up N k (ltb-true (suc k) N t)))
    (λ t. omega (arith, next-round N k (ltb-false (suc k) N t), ltb-false (suc k) N t))

-- ---- all of them

pub length_numbers : (k n : ℕ) → length (numbers_from k n) ≡ n
unfolding numbers_from
length_numbers k zero = refl
length_numbers k (suc n) = ap suc (length_numbers (suc k) n)

pub number_at : (k n i : ℕ) → i < n → get_or (numbers_from k n) i 0 ≡ k + i
unfolding numbers_from
number_at k zero i h = absurd (omega arith)
number_at k (suc n) zero h = omega arith
number_at k (suc n) (suc i) h = number_at (suc k) n i (omega arith) ∙ omega arith

-- ---- all but one

but-past : (k a n : ℕ) → k < a → numbers_but k (numbers_from a n) ≡ numbers_from a n
unfolding numbers_from
but-past k a zero h = refl
but-past k a (suc n) h = rw (ne_eqb k a (λ e. omega arith)) (ap (λ (l : List ℕ). a ∷ l) (but-past k (suc a) n (omega arith)))

-- those below it, and those above
but-is : (k a n : ℕ) → a ≤ k → k < a + n → numbers_but k (numbers_from a n) ≡ numbers_from a (k - a) ++ numbers_from (suc k) (a + n - suc k)
unfolding numbers_from
but-is k a zero l h = absurd (omega arith)
but-is k a (suc n) l h =
    let parts : ℕ → ℕ → List ℕ = λ i m. numbers_from a i ++ numbers_from (suc k) m in
    on_test (eqb k a)
    (λ t. let e : k ≡ a = eqb-true k a t in
    let low : 0 ≡ k - a = omega arith in
    let high : n ≡ a + suc n - suc k = omega arith in
    rw t (but-past k (suc a) n (omega arith) ∙ ap (λ (i : ℕ). numbers_from (suc i) n) (sym e) ∙ ap₂ parts low high))
    (λ t. let d : k ≡ a → ⊥ = eqb-false k a t in
    let low : suc (k - suc a) ≡ k - a = omega (arith, d) in
    let high : suc a + n - suc k ≡ a + suc n - suc k = omega arith in
    rw t (ap (λ (l : List ℕ). a ∷ l) (but-is k (suc a) n (omega (arith, d)) (omega arith)) ∙ ap₂ parts low high))

-- of the blocks of an image
module _ (N k : ℕ) (h : k < N) where
  abbrev low : List ℕ
  low = numbers_from 0 (k - 0)

  abbrev high : List ℕ
  high = numbers_from (suc k) (0 + N - suc k)

  parts : numbers_but k (block_numbers N) ≡ low ++ high
  parts = but-is k 0 N (omega arith) (omega arith)

  low_long : length low ≡ k
  low_long = length_numbers 0 (k - 0) ∙ omega arith

  pub length_but : length (numbers_but k (block_numbers N)) ≡ N - 1
  length_but = ap length parts ∙ length-append low high ∙ omega (arith, low_long, length_numbers (suc k) (0 + N - suc k))

  pub but_below : (i : ℕ) → i < k → get_or (numbers_but k (block_numbers N)) i 0 ≡ i
  but_below i l =
      ap (λ (ns : List ℕ). get_or ns i 0) parts ∙ get_or-append low high 0 i (omega (arith, low_long)) ∙ number_at 0 (k - 0) i (omega arith) ∙ omega arith

  pub but_above : (i : ℕ) → k ≤ i → suc i < N → get_or (numbers_but k (block_numbers N)) i 0 ≡ suc i
  but_above i l g =
      let e : i ≡ length low + (i - k) = omega (arith, low_long) in
      ap (λ (ns : List ℕ). get_or ns i 0) parts ∙ ap (λ (n : ℕ). get_or (low ++ high) n 0) e ∙ get_or-append-add low high (i - k) 0
      ∙ number_at (suc k) (0 + N - suc k) (i - k) (omega arith) ∙ omega arith
