-- The valid blocks of an image in the order of their numbers: which they are, the newest, those of one time; and the lowest foreign block.
use mathlib.Core.Path.{◌≡◌, refl, sym, ap, subst, ◌∙◌}
use mathlib.Core.List.{List, [], ◌∷◌, map}
use mathlib.Core.Logic.{◌⊎◌, inl, inr}
use mathlib.Core.Bool.{Bool, true, false, cond, false≢true}
use Prim.Native.Nat.{ℕ, zero, suc, ◌+◌, ◌≤◌, ◌<◌}
use native.Mathlib.Omega.{arith}
use lib.Dec.{eqb, ltb}
use borrow.Author.Tests.{eqb-true, eqb-false, eq-eqb, ltb-true, ltb-false}
use Rattle.flash.specs.Flash.{numbers_from, block, size_of}
use Rattle.flash.proofs.Cases.{on_test, clash, or_right, or_left, or_no-left, or_no_right}
use Rattle.frame.specs.declared.Fault.{Fault}
use Rattle.journal.specs.Block.{Journal, BlockState, blank, in_progress, valid, foreign, block_state}
use Rattle.wire.specs.declared.Refusal.{Refusal}
use Rattle.wire.specs.declared.Refusal.TheVariants as refusal
use Rattle.board.specs.Mount.{Found, all_found, is_foreign, Store, store_in, stores, same_time, equal_times, newest, or_foreign, none_valid, lowest_tied, tied}
use Rattle.board.specs.Mount.{time_of}

-- ---- lists of stores

abbrev pub Among : Store → List Store → Type 0
Among x [] = ⊥
Among x (y ∷ ys) = (x ≡ y) ⊎ Among x ys

abbrev pub Rising : List Store → Type 0
Rising [] = Unit {0}
Rising (x ∷ xs) = ((y : Store) → Among y xs → x.number < y.number) × Rising xs

pub same_number : {x y : Store} → x ≡ y → x.number ≡ y.number
same_number e = ap (λ (z : Store). z.number) e

time_is : {x y : Store} → x ≡ y → time_of x ≡ time_of y
time_is e = ap time_of e

-- the newest is one of them, and none is newer

pub newest-among : (y : Store) (ys : List Store) → Among (newest y ys) (y ∷ ys)
newest-among y [] = inl refl
newest-among y (z ∷ zs) = on_test (ltb (time_of y) (time_of z)) (λ t. from (newest z zs) (one t) (inr (newest-among z zs)))
    (λ t. from (newest y zs) (one t) (go (newest-among y zs)))
  where
    one : {b : Bool} → ltb (time_of y) (time_of z) ≡ b → newest y (z ∷ zs) ≡ cond b (newest z zs) (newest y zs)
    one t = ap (λ (b : Bool). cond b (newest z zs) (newest y zs)) t

    from : (s : Store) → newest y (z ∷ zs) ≡ s → Among s (y ∷ z ∷ zs) → Among (newest y (z ∷ zs)) (y ∷ z ∷ zs)
    from s e a = subst (λ (t : Store). Among t (y ∷ z ∷ zs)) (sym e) a

    go : Among (newest y zs) (y ∷ zs) → Among (newest y zs) (y ∷ z ∷ zs)
    go (inl e) = inl e
    go (inr i) = inr (inr i)

pub newest-most : (y : Store) (ys : List Store) (x : Store) → Among x (y ∷ ys) → time_of x ≤ time_of (newest y ys)
newest-most y [] x (inl e) = omega (arith, time_is e)
newest-most y [] x (inr i) = absurd i
newest-most y (z ∷ zs) x i =
    on_test (ltb (time_of y) (time_of z)) (λ t. rw t (later (ltb-true (time_of y) (time_of z) t) (newest-most z zs) i))
    (λ t. rw t (stays (ltb-false (time_of y) (time_of z) t) (newest-most y zs) i))
  where
    later : time_of y < time_of z → ((w : Store) → Among w (z ∷ zs) → time_of w ≤ time_of (newest z zs)) → Among x (y ∷ z ∷ zs) → time_of x ≤ time_of (newest z zs)
    later l m (inl e) = omega (arith, time_is e, m z (inl refl))
    later l m (inr j) = m x j

    stays : time_of z ≤ time_of y → ((w : Store) → Among w (y ∷ zs) → time_of w ≤ time_of (newest y zs)) → Among x (y ∷ z ∷ zs) → time_of x ≤ time_of (newest y zs)
    stays l m (inl e) = m x (inl e)
    stays l m (inr (inl e)) = omega (arith, time_is e, m y (inl refl))
    stays l m (inr (inr j)) = m x (inr j)

-- ---- one time twice

has-time : (t : ℕ) (xs : List Store) (x : Store) → Among x xs → t ≡ time_of x → same_time t xs ≡ true
has-time t [] x i p = absurd i
has-time t (y ∷ ys) x (inl e) p = or_left (eqb t (time_of y)) (same_time t ys) (eq-eqb t (time_of y) (p ∙ time_is e))
has-time t (y ∷ ys) x (inr i) p = or_right (eqb t (time_of y)) (same_time t ys) (has-time t ys x i p)

time-of : (t : ℕ) (xs : List Store) → same_time t xs ≡ true → (x : Store) × Among x xs × (t ≡ time_of x)
time-of t [] e = absurd (false≢true e)
time-of t (y ∷ ys) e = on_test (eqb t (time_of y)) (λ a. (y, inl refl, eqb-true t (time_of y) a)) (λ a. more (time-of t ys (sym (rw a) ∙ e)))
  where
    more : (x : Store) × Among x ys × (t ≡ time_of x) → (x : Store) × Among x (y ∷ ys) × (t ≡ time_of x)
    more (x, i, p) = (x, inr i, p)

-- two of a list that have the time, the lower first
pub record Pair (t : ℕ) (xs : List Store) : Type 0 where
  pub low : Store
  pub high : Store
  pub low_in : Among low xs
  pub high_in : Among high xs
  pub rises : low.number < high.number
  pub low_time : time_of low ≡ t
  pub high_time : time_of high ≡ t

abbrev pair-more : {t : ℕ} {y : Store} {ys : List Store} → Pair t ys → Pair t (y ∷ ys)
pair-more p =
    record {
      low = p.low;
      high = p.high;
      low_in = inr p.low_in;
      high_in = inr p.high_in;
      rises = p.rises;
      low_time = p.low_time;
      high_time = p.high_time;
    }

-- the first of a list, and one behind it
abbrev pair-first : {y : Store} {ys : List Store} → Rising (y ∷ ys) → same_time (time_of y) ys ≡ true → Pair (time_of y) (y ∷ ys)
pair-first {y} {ys} (r, rs) e =
    let w = time-of (time_of y) ys e in
    record {
      low = y;
      high = w.0;
      low_in = inl refl;
      high_in = inr w.1;
      rises = r w.0 w.1;
      low_time = refl;
      high_time = sym w.2;
    }

pub tied-pair : (t : ℕ) (xs : List Store) → Rising xs → tied t xs ≡ true → Pair t xs
tied-pair t [] r e = absurd (false≢true e)
tied-pair t (y ∷ ys) r e =
    on_test (eqb t (time_of y))
    (λ a. let p : t ≡ time_of y = eqb-true t (time_of y) a in
    subst (λ (n : ℕ). Pair n (y ∷ ys)) (sym p) (pair-first r (subst (λ (n : ℕ). same_time n ys ≡ true) p (sym (rw a) ∙ e))))
    (λ a. pair-more (tied-pair t ys r.1 (sym (rw a) ∙ e)))

-- where the time isn't there twice, whatever has it is one
pub untied-one : (t : ℕ) (xs : List Store) → tied t xs ≡ false → (x y : Store) → Among x xs → Among y xs → time_of x ≡ t → time_of y ≡ t → x ≡ y
untied-one t [] e x y i j p q = absurd i
untied-one t (z ∷ zs) e x y i j p q =
    on_test (eqb t (time_of z)) (λ a. first (sym (rw a) ∙ e) i j) (λ a. behind a (λ b d. untied-one t zs (sym (rw a) ∙ e) x y b d p q) i j)
  where
    first : same_time t zs ≡ false → Among x (z ∷ zs) → Among y (z ∷ zs) → x ≡ y
    first f (inl a) (inl b) = a ∙ sym b
    first f (inr a) b = clash (same_time t zs) (has-time t zs x a (sym p)) f
    first f (inl a) (inr b) = clash (same_time t zs) (has-time t zs y b (sym q)) f

    behind : eqb t (time_of z) ≡ false → (Among x zs → Among y zs → x ≡ y) → Among x (z ∷ zs) → Among y (z ∷ zs) → x ≡ y
    behind n f (inl a) b = absurd (eqb-false t (time_of z) n (sym p ∙ time_is a))
    behind n f (inr a) (inl b) = absurd (eqb-false t (time_of z) n (sym q ∙ time_is b))
    behind n f (inr a) (inr b) = f a b

pub newest-strict : (y : Store) (ys : List Store) → tied (time_of (newest y ys)) (y ∷ ys) ≡ false → (x : Store) → Among x (y ∷ ys)
    → (x.number ≡ (newest y ys).number → ⊥) → time_of x < time_of (newest y ys)
newest-strict y ys e x i n =
    on_test (eqb (time_of x) (time_of (newest y ys)))
    (λ a.
    absurd (n (same_number (untied-one (time_of (newest y ys)) (y ∷ ys) e x (newest y ys) i (newest-among y ys)
    (eqb-true (time_of x) (time_of (newest y ys)) a) refl))))
    (λ a. omega (arith, newest-most y ys x i, eqb-false (time_of x) (time_of (newest y ys)) a))

-- ---- any time twice

pub unequal_untied : (t : ℕ) (xs : List Store) → equal_times xs ≡ false → tied t xs ≡ false
unequal_untied t [] e = refl
unequal_untied t (y ∷ ys) e =
    on_test (eqb t (time_of y))
    (λ a. rw a (subst (λ (n : ℕ). same_time n ys ≡ false) (sym (eqb-true t (time_of y) a)) (or_no-left (same_time (time_of y) ys) (equal_times ys) e)))
    (λ a. rw a (unequal_untied t ys (or_no_right (same_time (time_of y) ys) (equal_times ys) e)))

-- the lowest that has the time of another
pub record LowestPair (xs : List Store) : Type 0 where
  pub time : ℕ
  pub pair : Pair time xs
  pub is_low : lowest_tied xs ≡ pair.low.number
  pub lowest : (x y : Store) → Among x xs → Among y xs → (x.number ≡ y.number → ⊥) → time_of x ≡ time_of y → lowest_tied xs ≤ x.number

pub lowest-pair : (xs : List Store) → Rising xs → equal_times xs ≡ true → LowestPair xs
lowest-pair [] r e = absurd (false≢true e)
lowest-pair (z ∷ zs) r e = on_test (same_time (time_of z) zs) here (λ a. behind a (lowest-pair zs r.1 (sym (rw a) ∙ e)))
  where
    from : (x : Store) → Among x (z ∷ zs) → z.number ≤ x.number
    from x (inl a) = omega (arith, same_number a)
    from x (inr i) = omega (arith, r.0 x i)

    here : same_time (time_of z) zs ≡ true → LowestPair (z ∷ zs)
    here a = record { time = time_of z; pair = pair-first r a; is_low = rw a; lowest = λ x y i j n p. rw a (from x i) }

    behind : same_time (time_of z) zs ≡ false → LowestPair zs → LowestPair (z ∷ zs)
    behind a w = record { time = w.time; pair = pair-more w.pair; is_low = rw a w.is_low; lowest = λ x y i j n p. rw a (low x y i j n p) }
      where
        low : (x y : Store) → Among x (z ∷ zs) → Among y (z ∷ zs) → (x.number ≡ y.number → ⊥) → time_of x ≡ time_of y → lowest_tied zs ≤ x.number
        low x y (inl i) (inl j) n p = absurd (n (same_number (i ∙ sym j)))
        low x y (inl i) (inr j) n p = clash (same_time (time_of z) zs) (has-time (time_of z) zs y j (sym (time_is i) ∙ p)) a
        low x y (inr i) (inl j) n p = clash (same_time (time_of z) zs) (has-time (time_of z) zs x i (sym (time_is j) ∙ sym p)) a
        low x y (inr i) (inr j) n p = w.lowest x y i j n p

-- ---- blocks in number order, by their states

abbrev pub found_from : (ℕ → BlockState) → ℕ → ℕ → List Found
found_from f k n = map (λ (i : ℕ). record { number = i; state = f i }) (numbers_from k n)

pub found_all : {s : ℕ} (N : ℕ) (img : List ℕ) → size_of N img ≡ s → all_found N img ≡ found_from (λ k. block_state (block s k img)) 0 N
found_all N img e = ap (λ (n : ℕ). found_from (λ k. block_state (block n k img)) 0 N) e

abbrev pub store : ℕ → Journal → Store
store k w = record { number = k; journal = w }

among-behind : (x : Store) (xs : List Store) (k : ℕ) (a : BlockState) → Among x xs → Among x (store_in k a xs)
among-behind x xs k blank i = i
among-behind x xs k in_progress i = i
among-behind x xs k (foreign w) i = i
among-behind x xs k (valid w) i = inr i

module _ (f : ℕ → BlockState) where
  -- one of n blocks from k on, and the store that it holds
  pub record Holds (k n : ℕ) (x : Store) : Type 0 where
    pub from : k ≤ x.number
    pub below : x.number < k + n
    pub is-valid : f x.number ≡ valid x.journal

  pub among_holds : (k n : ℕ) (x : Store) → Among x (stores (found_from f k n)) → Holds k n x
  unfolding numbers_from
  among_holds k zero x i = absurd i
  among_holds k (suc n) x i = go (f k) refl (λ j. up (among_holds (suc k) n x j)) i
    where
      up : Holds (suc k) n x → Holds k (suc n) x
      up h = record { from = omega (arith, h.from); below = omega (arith, h.below); is-valid = h.is-valid }

      go : (a : BlockState) → f k ≡ a → (Among x (stores (found_from f (suc k) n)) → Holds k (suc n) x)
          → Among x (store_in k a (stores (found_from f (suc k) n))) → Holds k (suc n) x
      go blank e g j = g j
      go in_progress e g j = g j
      go (foreign w) e g j = g j
      go (valid w) e g (inr j) = g j
      go (valid w) e g (inl j) = subst (Holds k (suc n)) (sym j) (record { from = omega arith; below = omega arith; is-valid = e })

  pub holds_among : (k n j : ℕ) (w : Journal) → k ≤ j → j < k + n → f j ≡ valid w → Among (store j w) (stores (found_from f k n))
  unfolding numbers_from
  holds_among k zero j w l h e = absurd (omega arith)
  holds_among k (suc n) j w l h e =
      on_test (eqb j k) (λ a. here (eqb-true j k a))
      (λ a. among-behind (store j w) (stores (found_from f (suc k) n)) k (f k)
      (holds_among (suc k) n j w (omega (arith, eqb-false j k a)) (omega arith) e))
    where
      here : j ≡ k → Among (store j w) (store_in k (f k) (stores (found_from f (suc k) n)))
      here a = rw (sym (ap f a) ∙ e) (inl (ap (λ (i : ℕ). store i w) a))

  pub stores_rise : (k n : ℕ) → Rising (stores (found_from f k n))
  unfolding numbers_from
  stores_rise k zero = tt
  stores_rise k (suc n) = go (f k) (stores_rise (suc k) n)
    where
      go : (a : BlockState) → Rising (stores (found_from f (suc k) n)) → Rising (store_in k a (stores (found_from f (suc k) n)))
      go blank r = r
      go in_progress r = r
      go (foreign w) r = r
      go (valid w) r = ((λ y i. (among_holds (suc k) n y i).from), r)

  -- no store: no block is valid
  pub stores_none : (k n : ℕ) → stores (found_from f k n) ≡ [] → (j : ℕ) (w : Journal) → k ≤ j → j < k + n → f j ≡ valid w → ⊥
  stores_none k n e j w l h v = subst (Among (store j w)) e (holds_among k n j w l h v)

  -- ---- the lowest foreign block

  pub data Strangest (k n : ℕ) : Type 0 where
    no_foreign : ((j : ℕ) → k ≤ j → j < k + n → is_foreign (f j) ≡ false) → none_valid (found_from f k n) ≡ refusal.NoStore → Strangest k n
    first_foreign : (j : ℕ) (e : Fault) → k ≤ j → j < k + n → f j ≡ foreign e → ((i : ℕ) → k ≤ i → i < j → is_foreign (f i) ≡ false)
        → none_valid (found_from f k n) ≡ refusal.Foreign j e → Strangest k n

  pub strangest : (k n : ℕ) → Strangest k n
  unfolding numbers_from
  strangest k zero = no_foreign (λ j l h. absurd (omega arith)) refl
  strangest k (suc n) = go (f k) refl (strangest (suc k) n)
    where
      told : Refusal
      told = none_valid (found_from f (suc k) n)

      from : {j : ℕ} → is_foreign (f k) ≡ false → k ≤ j → (suc k ≤ j → is_foreign (f j) ≡ false) → is_foreign (f j) ≡ false
      from {j} e l g = on_test (eqb j k) (λ a. ap (λ (i : ℕ). is_foreign (f i)) (eqb-true j k a) ∙ e) (λ a. g (omega (arith, eqb-false j k a)))

      more : is_foreign (f k) ≡ false → or_foreign k (f k) told ≡ told → Strangest (suc k) n → Strangest k (suc n)
      more e p (no_foreign g q) = no_foreign (λ j l h. from e l (λ b. g j b (omega arith))) (p ∙ q)
      more e p (first_foreign j w l h v g q) = first_foreign j w (omega arith) (omega arith) v (λ i a b. from e a (λ d. g i d b)) (p ∙ q)

      passes : (a : BlockState) → f k ≡ a → is_foreign a ≡ false → or_foreign k a told ≡ told → Strangest (suc k) n → Strangest k (suc n)
      passes a e q p r = more (ap is_foreign e ∙ q) (ap (λ (b : BlockState). or_foreign k b told) e ∙ p) r

      go : (a : BlockState) → f k ≡ a → Strangest (suc k) n → Strangest k (suc n)
      go blank e r = passes blank e refl refl r
      go in_progress e r = passes in_progress e refl refl r
      go (valid w) e r = passes (valid w) e refl refl r
      go (foreign w) e r =
          first_foreign k w (omega arith) (omega arith) e (λ i a b. absurd (omega arith)) (ap (λ (b : BlockState). or_foreign k b told) e)
