-- `==` on lists of numbers is the definition's.
use mathlib.Core.Path.{◌≡◌, refl}
use mathlib.Core.List.{List, [], ◌∷◌}
use Prim.Native.Nat.{ℕ}
use lib.Dec.{eqb}
use Rattle.std.specs.Cmp.Lexicographic.{pointwise}
use Rattle.flash.specs.Bytes.{same_bytes_of}
use Rattle.flash.proofs.Cases.{on_test}

pub same_is : (p q : List ℕ) → pointwise eqb p q ≡ same_bytes_of p q
unfolding same_bytes_of
same_is [] [] = refl
same_is [] (b ∷ q) = refl
same_is (a ∷ p) [] = refl
same_is (a ∷ p) (b ∷ q) = on_test (eqb a b) (λ e. rw (e, same_bytes_of) (same_is p q)) (λ e. rw (e, same_bytes_of))
