-- The order in which a format erases the blocks: all of them, in number order but for the current one, which is last.
use mathlib.Core.Path.{◌≡◌, refl, sym, ap, subst, ◌∙◌}
use mathlib.Core.List.{List, [], ◌∷◌, ◌++◌}
use mathlib.Core.Logic.{inl, inr}
use mathlib.Core.Bool.{true, false}
use Prim.Native.Nat.{ℕ, zero, suc, ◌+◌, ◌≤◌, ◌<◌}
use native.Mathlib.Omega.{arith}
use lib.Dec.{eqb}
use lib.ListN.{length, length-append}
use borrow.Author.Tests.{eqb-true, eqb-false}
use Rattle.flash.specs.Flash.{numbers_from, block_numbers, block, size_of}
use Rattle.flash.proofs.Cases.{on_test}
use Rattle.journal.specs.Block.{Journal, BlockState, blank, in_progress, valid, foreign, block_state}
use Rattle.board.specs.Mount.{Store, all_found, stores, newest, numbers_but, tied, order_for, format_order, time_of}
use Rattle.board.specs.CutFormat.{Beside}
use Rattle.board.proofs.Numbers.{length_numbers, length_but}
use Rattle.board.proofs.Blocks.{Blocks, Besides, besides_blocks}
use Rattle.board.proofs.Erasing.{In}
use Rattle.board.proofs.Found.{Among, Rising, newest-among, newest-most, newest-strict, Pair, tied-pair, store, Holds, among_holds, holds_among}
use Rattle.board.proofs.Found.{stores_rise, stores_none}

-- what is valid only with a smaller time
pub beside-of : {t : ℕ} (a : BlockState) → ((w : Journal) → a ≡ valid w → w.time < t) → Beside t a
beside-of blank f = tt
beside-of in_progress f = tt
beside-of (valid w) f = f w refl
beside-of (foreign e) f = tt

-- ---- lists of numbers

blocks_from : (N a n : ℕ) → a + n ≤ N → Blocks N (numbers_from a n)
unfolding numbers_from
blocks_from N a zero h = tt
blocks_from N a (suc n) h = (omega arith, blocks_from N (suc a) n (omega arith))

in_from : (a n j : ℕ) → a ≤ j → j < a + n → In j (numbers_from a n)
unfolding numbers_from
in_from a zero j l h = absurd (omega arith)
in_from a (suc n) j l h =
    on_test (eqb j a) (λ t. inl (eqb-true j a t)) (λ t. inr (in_from (suc a) n j (omega (arith, eqb-false j a t)) (omega arith)))

besides_but : (N k : ℕ) (ns : List ℕ) → Blocks N ns → Besides N k (numbers_but k ns)
besides_but N k [] b = tt
besides_but N k (n ∷ ns) (h, b) = on_test (eqb k n) (λ t. rw t (besides_but N k ns b)) (λ t. rw t (h, eqb-false k n t, besides_but N k ns b))

in_but : (k j : ℕ) (ns : List ℕ) → (j ≡ k → ⊥) → In j ns → In j (numbers_but k ns)
in_but k j [] d i = i
in_but k j (n ∷ ns) d (inl e) = on_test (eqb k n) (λ t. absurd (d (e ∙ sym (eqb-true k n t)))) (λ t. rw t (inl e))
in_but k j (n ∷ ns) d (inr i) = on_test (eqb k n) (λ t. rw t (in_but k j ns d i)) (λ t. rw t (inr (in_but k j ns d i)))

-- the blocks of an image but one
pub but_besides : (N k : ℕ) → Besides N k (numbers_but k (block_numbers N))
but_besides N k = besides_but N k (block_numbers N) (blocks_from N 0 N (omega arith))

pub but-every : (N k j : ℕ) → j < N → (j ≡ k → ⊥) → In j (numbers_but k (block_numbers N))
but-every N k j h d = in_but k j (block_numbers N) d (in_from 0 N j (omega arith) (omega arith))

-- ---- of an image

abbrev pub StateOf : ℕ → List ℕ → ℕ → BlockState
StateOf N img k = block_state (block (size_of N img) k img)

-- block k is the current one: valid, and every other valid one has a smaller time
pub record Newest (N : ℕ) (img : List ℕ) (k : ℕ) : Type 0 where
  pub journal : Journal
  pub there : k < N
  pub is-valid : StateOf N img k ≡ valid journal
  pub others : (j : ℕ) → j < N → (j ≡ k → ⊥) → Beside journal.time (StateOf N img j)

-- K14: "Format erases all in number order, but the current block last if there is one"
pub data Order (N : ℕ) (img : List ℕ) : Type 0 where
  by_number : ((k : ℕ) → Newest N img k → ⊥) → format_order N img ≡ block_numbers N → Order N img
  last_is : (k : ℕ) → Newest N img k → format_order N img ≡ numbers_but k (block_numbers N) ++ (k ∷ []) → Order N img

module _ (N : ℕ) (img : List ℕ) where
  order_is : {xs : List Store} → stores (all_found N img) ≡ xs → format_order N img ≡ order_for N xs
  unfolding format_order
  order_is e = ap (order_for N) e

  module _ {y : Store} {ys : List Store} (e : stores (all_found N img) ≡ y ∷ ys) where
    abbrev x : Store
    x = newest y ys

    holds : (p : Store) → Among p (y ∷ ys) → Holds (StateOf N img) 0 N p
    holds p i = among_holds (StateOf N img) 0 N p (subst (Among p) (sym e) i)

    among : (j : ℕ) (w : Journal) → j < N → StateOf N img j ≡ valid w → Among (store j w) (y ∷ ys)
    among j w h v = subst (Among (store j w)) e (holds_among (StateOf N img) 0 N j w (omega arith) (omega arith) v)

    -- no other has its time
    newest_there : tied (time_of x) (y ∷ ys) ≡ false → Newest N img x.number
    newest_there t =
        let h : Holds (StateOf N img) 0 N x = holds x (newest-among y ys) in
        record {
          journal = x.journal;
          there = omega (arith, h.below);
          is-valid = h.is-valid;
          others = λ j l d. beside-of (StateOf N img j) (λ w v. newest-strict y ys t (store j w) (among j w l v) d);
        }

    -- one of two that have it is not k
    newest_not : tied (time_of x) (y ∷ ys) ≡ true → (k : ℕ) → Newest N img k → ⊥
    newest_not t k n =
        let p : Pair (time_of x) (y ∷ ys) = tied-pair (time_of x) (y ∷ ys) (subst Rising e (stores_rise (StateOf N img) 0 N)) t in
        on_test (eqb p.low.number k)
        (λ a. other p.high p.high_in p.high_time (λ b. omega (arith, p.rises, eqb-true p.low.number k a)))
        (λ a. other p.low p.low_in p.low_time (eqb-false p.low.number k a))
      where
        other : (q : Store) → Among q (y ∷ ys) → time_of q ≡ time_of x → (q.number ≡ k → ⊥) → ⊥
        other q i a d =
            let h : Holds (StateOf N img) 0 N q = holds q i in
            let less : time_of q < n.journal.time = subst (Beside n.journal.time) h.is-valid (n.others q.number (omega (arith, h.below)) d) in
            omega (arith, newest-most y ys (store k n.journal) (among k n.journal n.there n.is-valid))

  pub order_of : Order N img
  order_of = go (stores (all_found N img)) refl
    where
      go : (xs : List Store) → stores (all_found N img) ≡ xs → Order N img
      go [] e =
          by_number (λ k n. stores_none (StateOf N img) 0 N e k n.journal (omega arith) (omega (arith, n.there)) n.is-valid)
          (order_is e)
      go (y ∷ ys) e =
          on_test (tied (time_of (newest y ys)) (y ∷ ys)) (λ t. by_number (newest_not e t) (order_is e ∙ rw t))
          (λ t. last_is (newest y ys).number (newest_there e t) (order_is e ∙ rw t))

-- ---- one block at most is the current one

pub newest-one : {N k j : ℕ} {img : List ℕ} → Newest N img k → Newest N img j → k ≡ j
newest-one {N} {k} {j} a b = on_test (eqb k j) (eqb-true k j) (λ t. absurd (clash (eqb-false k j t)))
  where
    clash : (k ≡ j → ⊥) → ⊥
    clash d =
        let up : b.journal.time < a.journal.time = subst (Beside a.journal.time) b.is-valid (a.others j b.there (λ e. d (sym e))) in
        let down : a.journal.time < b.journal.time = subst (Beside b.journal.time) a.is-valid (b.others k a.there d) in
        omega arith

pub order-last : {N k : ℕ} {img : List ℕ} → Newest N img k → format_order N img ≡ numbers_but k (block_numbers N) ++ (k ∷ [])
order-last {N} {k} {img} n = go (order_of N img)
  where
    go : Order N img → format_order N img ≡ numbers_but k (block_numbers N) ++ (k ∷ [])
    go (by_number f e) = absurd (f k n)
    go (last_is j m e) = subst (λ (i : ℕ). format_order N img ≡ numbers_but i (block_numbers N) ++ (i ∷ [])) (newest-one m n) e

pub order-rises : {N : ℕ} {img : List ℕ} → ((k : ℕ) → Newest N img k → ⊥) → format_order N img ≡ block_numbers N
order-rises {N} {img} f = go (order_of N img)
  where
    go : Order N img → format_order N img ≡ block_numbers N
    go (by_number g e) = e
    go (last_is j m e) = absurd (f j m)

-- ---- either way every block, once

blocks_snoc : {N : ℕ} (k : ℕ) (ns : List ℕ) → Blocks N ns → k < N → Blocks N (ns ++ (k ∷ []))
blocks_snoc k [] b h = (h, tt)
blocks_snoc k (n ∷ ns) (l, b) h = (l, blocks_snoc k ns b h)

in_snoc : (j k : ℕ) (ns : List ℕ) → ((j ≡ k → ⊥) → In j ns) → In j (ns ++ (k ∷ []))
in_snoc j k ns f = on_test (eqb j k) (λ t. last ns (eqb-true j k t)) (λ t. front ns (f (eqb-false j k t)))
  where
    last : (ns : List ℕ) → j ≡ k → In j (ns ++ (k ∷ []))
    last [] e = inl e
    last (n ∷ ns) e = inr (last ns e)

    front : (ns : List ℕ) → In j ns → In j (ns ++ (k ∷ []))
    front [] i = absurd i
    front (n ∷ ns) (inl e) = inl e
    front (n ∷ ns) (inr i) = inr (front ns i)

length_last : (N k : ℕ) → k < N → length (numbers_but k (block_numbers N) ++ (k ∷ [])) ≡ N
length_last N k h = length-append (numbers_but k (block_numbers N)) (k ∷ []) ∙ omega (arith, length_but N k h)

module _ (N : ℕ) (img : List ℕ) where
  pub order_blocks : Blocks N (format_order N img)
  order_blocks = go (order_of N img)
    where
      go : Order N img → Blocks N (format_order N img)
      go (by_number f e) = subst (Blocks N) (sym e) (blocks_from N 0 N (omega arith))
      go (last_is k n e) =
          let ks : List ℕ = numbers_but k (block_numbers N) in
          subst (Blocks N) (sym e) (blocks_snoc k ks (besides_blocks N k ks (but_besides N k)) n.there)

  pub order_every : (j : ℕ) → j < N → In j (format_order N img)
  order_every j h = go (order_of N img)
    where
      go : Order N img → In j (format_order N img)
      go (by_number f e) = subst (In j) (sym e) (in_from 0 N j (omega arith) (omega arith))
      go (last_is k n e) = subst (In j) (sym e) (in_snoc j k (numbers_but k (block_numbers N)) (but-every N k j h))

  pub length_order : length (format_order N img) ≡ N
  length_order = go (order_of N img)
    where
      go : Order N img → length (format_order N img) ≡ N
      go (by_number f e) = ap length e ∙ length_numbers 0 N
      go (last_is k n e) = ap length e ∙ length_last N k n.there
