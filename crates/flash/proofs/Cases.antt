-- Cases on a test or on an order, and what a test made of two says.
use mathlib.Core.Path.{◌≡◌, refl, sym, ap, ◌∙◌}
use mathlib.Core.Bool.{Bool, true, false, ◌&&◌, ◌||◌, false≢true}
use Prim.Native.Nat.{ℕ, ◌≤◌, ◌<◌, compare, Ordering}
use native.Mathlib.Omega.{arith}
use lib.Dec.{leb, is_le, compare_is_eq}
use borrow.Author.Tests.{leb-true, leb-false, eqb-true, eqb-false, le-leb}

pub on_test {ℓ} : {P : Type ℓ} (b : Bool) → (b ≡ true → P) → (b ≡ false → P) → P
on_test true f g = f refl
on_test false f g = g refl

pub on-order {ℓ} : {P : Type ℓ} (i j : ℕ) → (compare i j ≡ Ordering.lt → i < j → P) → (compare i j ≡ Ordering.eq → i ≡ j → P)
    → (compare i j ≡ Ordering.gt → j < i → P) → P
on-order {P} i j f g h = go (compare i j) refl
  where
    go : (o : Ordering) → compare i j ≡ o → P
    go Ordering.lt e = f e (omega (arith, leb-true i j (ap is_le e), eqb-false i j (ap compare_is_eq e)))
    go Ordering.eq e = g e (eqb-true i j (ap compare_is_eq e))
    go Ordering.gt e = h e (leb-false i j (ap is_le e))

-- a test that is true and false
pub clash {ℓ} : {P : Type ℓ} (b : Bool) → b ≡ true → b ≡ false → P
clash b t f = absurd (false≢true (sym f ∙ t))

pub and_both : (a b : Bool) → a ≡ true → b ≡ true → (a && b) ≡ true
and_both true b p q = q
and_both false b p q = p

pub and_left : (a b : Bool) → (a && b) ≡ true → a ≡ true
and_left true b e = refl
and_left false b e = e

pub and_right : (a b : Bool) → (a && b) ≡ true → b ≡ true
and_right true b e = e
and_right false b e = absurd (false≢true e)

pub and_no-left : (a b : Bool) → a ≡ false → (a && b) ≡ false
and_no-left true b e = absurd (false≢true (sym e))
and_no-left false b e = refl

pub and_no_right : (a b : Bool) → b ≡ false → (a && b) ≡ false
and_no_right true b e = e
and_no_right false b e = refl

pub or_left : (a b : Bool) → a ≡ true → (a || b) ≡ true
or_left true b e = refl
or_left false b e = absurd (false≢true e)

pub or_right : (a b : Bool) → b ≡ true → (a || b) ≡ true
or_right true b e = refl
or_right false b e = e

pub or_neither : (a b : Bool) → a ≡ false → b ≡ false → (a || b) ≡ false
or_neither true b p q = p
or_neither false b p q = q

pub or_no-left : (a b : Bool) → (a || b) ≡ false → a ≡ false
or_no-left true b e = e
or_no-left false b e = refl

pub or_no_right : (a b : Bool) → (a || b) ≡ false → b ≡ false
or_no_right true b e = absurd (false≢true (sym e))
or_no_right false b e = e

-- a number between two
pub between-yes : (a n b : ℕ) → a ≤ n → n ≤ b → (leb a n && leb n b) ≡ true
between-yes a n b h k = and_both (leb a n) (leb n b) (le-leb a n h) (le-leb n b k)

pub between : (a n b : ℕ) → (leb a n && leb n b) ≡ true → (a ≤ n) × (n ≤ b)
between a n b e = (leb-true a n (and_left (leb a n) (leb n b) e), leb-true n b (and_right (leb a n) (leb n b) e))
