-- A block given other bytes, as many as it has: it has those, and no byte outside it changes.
use mathlib.Core.Path.{◌≡◌, sym, ap, ◌∙◌}
use mathlib.Core.List.{List, ◌++◌}
use mathlib.Core.Logic.{inl, inr}
use Prim.Native.Nat.{ℕ, ◌+◌, ◌-◌, ◌*◌, ◌≤◌, ◌<◌}
use native.Mathlib.Omega.{arith}
use lib.ListN.{length, get_or, take, drop, length-append, length-take, length-drop, get_or-append, get_or-eq_default}
use lib.Seq.{get_or-append-add, get_or-take, get_or-drop}
use Rattle.flash.specs.Flash.{block, with_block}
use Rattle.flash.specs.Applied.{Outside}
use Rattle.flash.proofs.Cases.{on-order}

module _ (s k : ℕ) (new img : List ℕ) (l : length new ≡ length (block s k img)) where
  length_replaced : length (with_block s k new img) ≡ length img
  length_replaced = simp (length-append, length-take, length-drop) (omega (arith, l, length-take s (drop (k * s) img), length-drop (k * s) img))

  pub replaced : (o : ℕ) → o < length new → get_or (with_block s k new img) (k * s + o) 0 ≡ get_or new o 0
  replaced o h =
      let f : length (take (k * s) img) ≡ k * s =
      omega (arith, l, length-take s (drop (k * s) img), length-drop (k * s) img, length-take (k * s) img) in
      ap (λ (n : ℕ). get_or (with_block s k new img) (n + o) 0) (sym f)
      ∙ get_or-append-add (take (k * s) img) (new ++ drop (k * s + s) img) o 0 ∙ get_or-append new (drop (k * s + s) img) 0 o h

  -- past the end on both sides
  past : (i : ℕ) → length img ≤ i → get_or (with_block s k new img) i 0 ≡ get_or img i 0
  past i h = get_or-eq_default (with_block s k new img) 0 (omega (arith, length_replaced)) ∙ sym (get_or-eq_default img 0 h)

  pub replaced_others : (i : ℕ) → Outside s k i → get_or (with_block s k new img) i 0 ≡ get_or img i 0
  replaced_others i (inl h) =
      on-order i (length img)
      (λ e g. get_or-append (take (k * s) img) (new ++ drop (k * s + s) img) 0 i (omega (arith, length-take (k * s) img)) ∙ get_or-take (k * s) img i 0 h)
      (λ e g. past i (omega arith)) (λ e g. past i (omega arith))
  replaced_others i (inr h) = on-order i (length img) (λ e g. after g) (λ e g. past i (omega arith)) (λ e g. past i (omega arith))
    where
      after : i < length img → get_or (with_block s k new img) i 0 ≡ get_or img i 0
      after g =
          let f : length (take (k * s) img) ≡ k * s = omega (arith, length-take (k * s) img) in
          let m : length new ≡ s = omega (arith, l, length-take s (drop (k * s) img), length-drop (k * s) img) in
          let n : ℕ = i - (k * s + s) in
          let p : i ≡ length (take (k * s) img) + (length new + n) = omega (arith, f, m) in
          let q : k * s + s + n ≡ i = omega arith in
          ap (λ (j : ℕ). get_or (with_block s k new img) j 0) p
          ∙ get_or-append-add (take (k * s) img) (new ++ drop (k * s + s) img) (length new + n) 0
          ∙ get_or-append-add new (drop (k * s + s) img) n 0 ∙ get_or-drop (k * s + s) img n 0 ∙ ap (λ (j : ℕ). get_or img j 0) q
