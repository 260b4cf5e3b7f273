-- The order in which a format erases: all blocks by number, but the last one.
use mathlib.Core.Path.{◌≡◌, refl, sym, ap, subst}
use mathlib.Core.List.{List, [], ◌∷◌, ◌++◌, append-nil}
use mathlib.Core.Bool.{Bool, true, false, ◌||◌}
use Prim.Native.Nat.{ℕ, zero, suc, ◌+◌, ◌≤◌, ◌<◌}
use native.Mathlib.Omega.{arith}
use lib.Dec.{eqb, ltb}
use lib.ListN.{length, get_or, replicate}
use borrow.Author.Tests.{eqb-false, ne_eqb, ltb-true}
use Rattle.flash.specs.Flash.{max_blocks, numbers_from, block_numbers}
use Rattle.flash.proofs.Cases.{on_test}
use Rattle.board.specs.Mount.{numbers_but}
use Rattle.looks.specs.Seen.{erases_of, noted, others_in}
use Rattle.looks.proofs.Listing.{note_more}
use Rattle.store.specs.Mounts.{ends_with, order_by}

others-few : (c : ℕ) (skips : List Bool) (k n : ℕ) → length (others_in c skips (numbers_from k n)) ≤ n
unfolding numbers_from
others-few c skips k zero = omega arith
others-few c skips k (suc n) =
    on_test (eqb c k || get_or skips k false)
    (λ t. rw t (omega (arith, others-few c skips (suc k) n)))
    (λ t. rw t (omega (arith, others-few c skips (suc k) n)))

-- the current block leaves room for itself
pub others-less : (c : ℕ) (skips : List Bool) (k n : ℕ) → k ≤ c → c < k + n → length (others_in c skips (numbers_from k n)) < n
unfolding numbers_from
others-less c skips k zero h l = absurd (omega arith)
others-less c skips k (suc n) h l =
    on_test (eqb c k)
    (λ e. rw e (omega (arith, others-few c skips (suc k) n)))
    (λ e. let r = others-less c skips (suc k) n (omega (arith, eqb-false c k e)) (omega arith) in
    on_test (get_or skips k false) (λ t. rw (e, t) (omega arith)) (λ t. rw (e, t) (omega arith)))

-- ---- a format's order

none_skipped : (m k : ℕ) → get_or (replicate m false) k false ≡ false
none_skipped zero k = refl
none_skipped (suc m) zero = refl
none_skipped (suc m) (suc k) = none_skipped m k

pub others-all : (c : ℕ) (ks : List ℕ) → others_in c (replicate max_blocks false) ks ≡ numbers_but c ks
others-all c [] = refl
others-all c (k ∷ ks) =
    on_test (eqb c k)
    (λ e. rw e (others-all c ks))
    (λ e. rw (e, none_skipped max_blocks k) (ap (λ (l : List ℕ). k ∷ l) (others-all c ks)))

-- a block past them is none of them
pub but-none : (c k n : ℕ) → k + n ≤ c → numbers_but c (numbers_from k n) ≡ numbers_from k n
unfolding numbers_from
but-none c k zero h = refl
but-none c k (suc n) h = rw (ne_eqb c k (λ e. omega arith)) (ap (λ (l : List ℕ). k ∷ l) (but-none c (suc k) n (omega arith)))

pub format_listed : (N c : ℕ) → N ≤ max_blocks
    → noted (erases_of (others_in c (replicate max_blocks false) (block_numbers N))) c (ltb c N) ≡ erases_of (order_by N c)
format_listed N c h = rw (others-all c (block_numbers N)) (go (ltb c N) refl)
  where
    but : List ℕ
    but = numbers_but c (block_numbers N)

    room : ltb c N ≡ true → length but < max_blocks
    room t =
        let r : length but < N = subst (λ (l : List ℕ). length l < N) (others-all c (block_numbers N))
        (others-less c (replicate max_blocks false) 0 N (omega arith) (omega (arith, ltb-true c N t))) in omega arith

    go : (b : Bool) → ltb c N ≡ b → noted (erases_of but) c b ≡ erases_of (but ++ ends_with b c)
    go true t = note_more but c (room t)
    go false t = ap erases_of (sym (append-nil but))
