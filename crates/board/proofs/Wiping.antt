-- The blocks that a mount erases.
use mathlib.Core.Path.{◌≡◌, refl, sym, ap, subst, ◌∙◌}
use mathlib.Core.List.{List, [], ◌∷◌, map}
use mathlib.Core.Logic.{◌⊎◌, inl, inr, ◌↔◌}
use mathlib.Core.Bool.{Bool, true, false, ◌||◌, cond, false≢true}
use Prim.Native.Nat.{ℕ, zero, suc, ◌+◌, ◌≤◌, ◌<◌}
use native.Mathlib.Omega.{arith}
use lib.Dec.{eqb}
use lib.ListN.{length, replicate}
use borrow.Author.Tests.{eqb-true, eqb-false, ne_eqb}
use Rattle.flash.specs.Flash.{numbers_from, block, size_of}
use Rattle.flash.proofs.Cases.{on_test, clash, or_neither, or_no-left, or_no_right}
use Rattle.journal.specs.Block.{BlockState, blank, in_progress, valid, foreign, block_state}
use Rattle.journal.proofs.States.{blank-is}
use Rattle.board.specs.Mount.{found, all_found, is_blank, wipe_list}
use Rattle.board.proofs.Images.{Sized, size-of}
use Rattle.board.proofs.Invariant.{Others}
use Rattle.board.proofs.Current.{block-long}
use Rattle.board.proofs.Erasing.{In}

-- rising numbers, from a on
abbrev pub Rising : ℕ → List ℕ → Type 0
Rising a [] = Unit {0}
Rising a (n ∷ ns) = (a ≤ n) × Rising (suc n) ns

rising-from : (a : ℕ) (ns : List ℕ) → Rising (suc a) ns → Rising a ns
rising-from a [] r = tt
rising-from a (n ∷ ns) (h, r) = (omega arith, r)

-- ---- a block's state by its test

blank-state : (a : BlockState) → is_blank a ≡ true → a ≡ blank
blank-state blank e = refl
blank-state in_progress e = absurd (false≢true e)
blank-state (valid w) e = absurd (false≢true e)
blank-state (foreign f) e = absurd (false≢true e)

not_blank : (a : BlockState) → (a ≡ blank → ⊥) → is_blank a ≡ false
not_blank a n = on_test (is_blank a) (λ t. absurd (n (blank-state a t))) (λ t. t)

-- ---- of an image, by number

module _ (N k : ℕ) (img : List ℕ) where
  abbrev state : ℕ → BlockState
  state j = block_state (block (size_of N img) j img)

  abbrev stays : ℕ → Bool
  stays j = eqb k j || is_blank (state j)

  -- of n blocks from a on
  abbrev wiped : ℕ → ℕ → List ℕ
  wiped a n = wipe_list k (map (found N img) (numbers_from a n))

  -- the first of them is erased, or it stays
  wiped_cases : (P : List ℕ → Type 0) (a n : ℕ) → (stays a ≡ true → P (wiped (suc a) n)) → (stays a ≡ false → P (a ∷ wiped (suc a) n))
      → P (wiped a (suc n))
  unfolding numbers_from
  wiped_cases P a n f g =
      let ks : List ℕ = wiped (suc a) n in
      on_test (stays a) (λ t. subst (λ (b : Bool). P (cond b ks (a ∷ ks))) (sym t) (f t)) (λ t. subst (λ (b : Bool). P (cond b ks (a ∷ ks))) (sym t) (g t))

  wiped_rising : (a n : ℕ) → Rising a (wiped a n)
  unfolding numbers_from
  wiped_rising a zero = tt
  wiped_rising a (suc n) =
      wiped_cases (Rising a) a n (λ t. rising-from a (wiped (suc a) n) (wiped_rising (suc a) n)) (λ t. (omega arith, wiped_rising (suc a) n))

  wiped_most : (a n : ℕ) → length (wiped a n) ≤ n
  unfolding numbers_from
  wiped_most a zero = omega arith
  wiped_most a (suc n) =
      wiped_cases (λ l. length l ≤ suc n) a n (λ t. omega (arith, wiped_most (suc a) n)) (λ t. omega (arith, wiped_most (suc a) n))

  wiped_fewer : (a n : ℕ) → a ≤ k → k < a + n → length (wiped a n) < n
  wiped_fewer a zero l h = absurd (omega arith)
  wiped_fewer a (suc n) l h =
      wiped_cases (λ ks. length ks < suc n) a n (λ t. omega (arith, wiped_most (suc a) n))
      (λ t. let d : k ≡ a → ⊥ = eqb-false k a (or_no-left (eqb k a) (is_blank (state a)) t) in
      omega (arith, d, wiped_fewer (suc a) n (omega (arith, d)) (omega arith)))

  wiped_in : (a n j : ℕ) → a ≤ j → j < a + n → stays j ≡ false → In j (wiped a n)
  wiped_in a zero j l h e = absurd (omega arith)
  wiped_in a (suc n) j l h e =
      let later : eqb j a ≡ false → In j (wiped (suc a) n) = λ q. wiped_in (suc a) n j (omega (arith, eqb-false j a q)) (omega arith) e in
      wiped_cases (In j) a n (λ t. on_test (eqb j a) (λ q. clash (stays a) t (ap stays (sym (eqb-true j a q)) ∙ e)) later)
      (λ t. on_test (eqb j a) (λ q. inl (eqb-true j a q)) (λ q. inr (later q)))

  wiped_is : (a n j : ℕ) → In j (wiped a n) → (j < a + n) × (stays j ≡ false)
  unfolding numbers_from
  wiped_is a zero j i = absurd i
  wiped_is a (suc n) j i =
      let later : In j (wiped (suc a) n) → (j < a + suc n) × (stays j ≡ false) = λ i. let y = wiped_is (suc a) n j i in (omega (arith, y.0), y.1) in
      wiped_cases (λ ks. In j ks → (j < a + suc n) × (stays j ≡ false)) a n (λ t. later) (λ t. first later t) i
    where
      first : (In j (wiped (suc a) n) → (j < a + suc n) × (stays j ≡ false)) → stays a ≡ false → (j ≡ a) ⊎ In j (wiped (suc a) n)
          → (j < a + suc n) × (stays j ≡ false)
      first later t (inl e) = (omega arith, ap stays e ∙ t)
      first later t (inr i) = later i

  -- ---- K14: "mount erases every other that isn't blank, by number"

  pub wipes_rise : Rising 0 (wipe_list k (all_found N img))
  wipes_rise = wiped_rising 0 N

  pub wipes_few : k < N → length (wipe_list k (all_found N img)) < N
  wipes_few h = wiped_fewer 0 N (omega arith) (omega arith)

  abbrev Wiped : ℕ → Type 0
  Wiped j = (j < N) × (j ≡ k → ⊥) × (state j ≡ blank → ⊥)

  pub wipes_exact : (j : ℕ) → In j (wipe_list k (all_found N img)) ↔ Wiped j
  wipes_exact j = (
    λ i. let y = wiped_is 0 N j i in (
      omega (arith, y.0),
      λ e. eqb-false k j (or_no-left (eqb k j) (is_blank (state j)) y.1) (sym e),
      λ e. clash (is_blank (state j)) (ap is_blank e) (or_no_right (eqb k j) (is_blank (state j)) y.1),
    ),
    λ (h, d, n). wiped_in 0 N j (omega arith) (omega arith) (or_neither (eqb k j) (is_blank (state j)) (ne_eqb k j (λ e. d (sym e))) (not_blank (state j) n)),
  )

-- every other is blank or erased
pub wipes-others : {N : ℕ} {s : ℕ} {img : List ℕ} → Sized N s img → (n : ℕ)
    → Others N (λ j. (block s j img ≡ replicate s 255) ⊎ In j (wipe_list n (all_found N img))) n
wipes-others {N} {s} {img} z n j h d =
    let same : block_state (block (size_of N img) j img) ≡ block_state (block s j img) = ap (λ (m : ℕ). block_state (block m j img)) (size-of z) in
    on_test (is_blank (block_state (block s j img)))
    (λ t. inl (blank-is (block s j img) (blank-state (block_state (block s j img)) t) ∙ ap (λ (m : ℕ). replicate m 255) (block-long j z h)))
    (λ t. inr ((wipes_exact N n img j).1 (h, d, λ e. clash (is_blank (block_state (block s j img))) (ap is_blank (sym same ∙ e)) t)))
