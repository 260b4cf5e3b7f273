-- Lists of blocks to erase, as they grow in the record's array.
use mathlib.Core.Path.{◌≡◌, refl, sym, ap, ap₂, ◌∙◌}
use mathlib.Core.List.{List, [], ◌∷◌, ◌++◌, append-nil, append_assoc}
use mathlib.Core.Bool.{Bool, true, false, ◌||◌, not}
use Prim.Native.Nat.{ℕ, suc, ◌-◌, ◌≤◌, ◌<◌}
use native.Mathlib.Omega.{arith}
use native.Mathlib.Nat.{sub-zero}
use lib.Dec.{eqb}
use lib.ListN.{length, get_or, set, replicate, length-append}
use lib.Seq.{set-append_seam}
use Rattle.flash.specs.Flash.{max_blocks, numbers_from, block_numbers}
use Rattle.flash.proofs.Cases.{on_test}
use Rattle.board.specs.Mount.{wipe_array}
use Rattle.looks.specs.Seen.{Erases, erases_of, noted, others_in}

pub numbers_next : (k N : ℕ) → k < N → numbers_from k (N - k) ≡ k ∷ numbers_from (suc k) (N - suc k)
unfolding numbers_from
numbers_next k N h = let e : N - k ≡ suc (N - suc k) = omega arith in rw e

-- ---- one more block

abbrev erases : List ℕ → ℕ → Erases
erases w n = record { items = w; count = n }

wipe-more : (ks : List ℕ) (k : ℕ) → length ks < max_blocks → set (wipe_array ks) (length ks) k ≡ wipe_array (ks ++ (k ∷ []))
wipe-more ks k h =
    let m : ℕ = 15 - length ks in
    let e : max_blocks - length ks ≡ suc m = omega arith in
    let f : max_blocks - length (ks ++ (k ∷ [])) ≡ m = omega (arith, length-append ks (k ∷ [])) in
    ap (λ (n : ℕ). set (ks ++ replicate n 0) (length ks) k) e
    ∙ set-append_seam ks 0 (replicate m 0) k
    ∙ sym (ap (λ (n : ℕ). (ks ++ (k ∷ [])) ++ replicate n 0) f ∙ append_assoc ks (k ∷ []) (replicate m 0))

pub note_more : (ks : List ℕ) (k : ℕ) → length ks < max_blocks → noted (erases_of ks) k true ≡ erases_of (ks ++ (k ∷ []))
note_more ks k h = ap₂ erases (wipe-more ks k h) (omega (arith, length-append ks (k ∷ [])))

-- ---- all blocks but some

-- the blocks below k are passed
pub record Listed (N c : ℕ) (skips : List Bool) (k : ℕ) (l : Erases) : Type 0 where
  pub done : List ℕ
  pub is : l ≡ erases_of done
  pub few : length done ≤ k
  pub whole : done ++ others_in c skips (numbers_from k (N - k)) ≡ others_in c skips (block_numbers N)

module _ (N c : ℕ) (skips : List Bool) where
  pub listed_none : Listed N c skips 0 (erases_of [])
  listed_none = record { done = []; is = refl; few = omega arith; whole = ap (λ (n : ℕ). others_in c skips (numbers_from 0 n)) (sub-zero N) }

  -- block k is noted where that is due
  pub listed_next : (k : ℕ) (l : Erases) (due : Bool) → not (eqb c k || get_or skips k false) ≡ due → k < N → k < max_blocks → Listed N c skips k l
      → Listed N c skips (suc k) (noted l k due)
  listed_next k l due e h r x =
      rw (sym e) (on_test (eqb c k || get_or skips k false)
      (λ t. rw t (record { done = x.done; is = x.is; few = omega (arith, x.few); whole = sym (passed t) ∙ x.whole }))
      (λ t. rw t
      (record {
        done = x.done ++ (k ∷ []);
        is = ap (λ (m : Erases). noted m k true) x.is ∙ note_more x.done k (omega (arith, x.few));
        few = omega (arith, x.few, length-append x.done (k ∷ []));
        whole = append_assoc x.done (k ∷ []) others ∙ sym (taken t) ∙ x.whole;
      })))
    where
      others : List ℕ
      others = others_in c skips (numbers_from (suc k) (N - suc k))

      passed : (eqb c k || get_or skips k false) ≡ true → x.done ++ others_in c skips (numbers_from k (N - k)) ≡ x.done ++ others
      passed t = rw (numbers_next k N h, t)

      taken : (eqb c k || get_or skips k false) ≡ false → x.done ++ others_in c skips (numbers_from k (N - k)) ≡ x.done ++ (k ∷ others)
      taken t = rw (numbers_next k N h, t)

  pub listed_all : (k : ℕ) (l : Erases) → N ≤ k → Listed N c skips k l → l ≡ erases_of (others_in c skips (block_numbers N))
  unfolding numbers_from
  listed_all k l h x =
      let e : N - k ≡ 0 = omega arith in
      x.is
      ∙ ap erases_of (sym (append-nil x.done) ∙ sym (ap (λ (n : ℕ). x.done ++ others_in c skips (numbers_from k n)) e) ∙ x.whole)
