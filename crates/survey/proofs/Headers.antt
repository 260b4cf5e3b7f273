-- What the code of a header tests.
use mathlib.Core.Path.{◌≡◌, refl, sym, ◌∙◌}
use mathlib.Core.List.{List, [], ◌∷◌}
use Prim.Native.Nat.{ℕ}
use lib.Dec.{eqb}
use lib.ListN.{take}
use lib.Pointwise.{pointwise}
use borrow.Author.Tests.{eq-eqb, ne_eqb, eqb-true, eqb-false}
use Rattle.flash.specs.Bytes.{u16le, same_bytes_of}
use Rattle.flash.proofs.Cases.{on_test}
use Rattle.frame.specs.declared.Edition.{Edition}
use Rattle.frame.specs.declared.Edition.TheVariants as edition
use Rattle.frame.specs.Frame.{edition_number}
use Rattle.journal.specs.Block.{header_kind}

-- ---- two bytes at a place

eqb_comm : (a b : ℕ) → eqb a b ≡ eqb b a
eqb_comm a b =
    on_test (eqb a b) (λ t. t ∙ sym (eq-eqb b a (sym (eqb-true a b t)))) (λ t. t ∙ sym (ne_eqb b a (λ e. eqb-false a b t (sym e))))

pub two_same : (l : List ℕ) (a b : ℕ) → pointwise eqb (a ∷ b ∷ []) (take 2 l) ≡ same_bytes_of (take 2 l) (a ∷ b ∷ [])
unfolding same_bytes_of
two_same [] a b = refl
two_same (x ∷ []) a b = rw (eqb_comm a x) (on_test (eqb x a) (λ t. rw (t, same_bytes_of)) (λ t. rw (t, same_bytes_of)))
two_same (x ∷ y ∷ l) a b =
    rw (eqb_comm a x, eqb_comm b y)
    (on_test (eqb x a) (λ t. on_test (eqb y b) (λ u. rw (t, u, same_bytes_of)) (λ u. rw (t, u, same_bytes_of))) (λ t. rw (t, same_bytes_of)))

-- ---- the kind

pub kind-bytes : (ed : Edition) → u16le (header_kind ed) ≡ edition_number ed ∷ 0x4A ∷ []
kind-bytes edition.First = refl
kind-bytes edition.Second = refl
