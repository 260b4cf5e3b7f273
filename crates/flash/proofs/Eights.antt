-- The blank test by eights: a list is blank exactly if its whole eights are, and what is left after them.
use mathlib.Core.Path.{◌≡◌, refl, sym, ap, ap₂, ◌∙◌}
use mathlib.Core.List.{List, [], ◌∷◌, ◌++◌}
use mathlib.Core.Bool.{Bool, ◌&&◌}
use Prim.Native.Nat.{ℕ, zero, suc, ◌+◌, ◌*◌, ◌/◌, ◌≤◌}
use native.Mathlib.Omega.{arith}
use lib.Dec.{eqb}
use lib.ListN.{length, take, drop, replicate, take-append-drop, length-take, length-drop}
use lib.Seq.{drop-drop}
use Rattle.std.proofs.Math.Bool.{and_assoc}
use Rattle.std.specs.List.{list_all}
use Rattle.std.proofs.lemmas.List.Folds.{list_all-append}
use Rattle.std.specs.Simd.{first_chunks}
use Rattle.std.specs.Cmp.Lexicographic.{pointwise, same_text}
use Rattle.flash.specs.Bytes.{all_ff}
use Rattle.flash.proofs.Cases.{on_test, clash}
use Rattle.flash.proofs.Blank.{all_ff-all, all_ff_lem}

abbrev pub byte_ff : ℕ → Bool
byte_ff b = eqb b 255

abbrev pub eight_ff : List ℕ → Bool
eight_ff e = pointwise eqb e (replicate 8 255)

-- byte by byte
pub each_ff : (l : List ℕ) → list_all byte_ff l ≡ all_ff l
unfolding all_ff
each_ff [] = refl
each_ff (x ∷ l) = on_test (byte_ff x) (λ t. rw (t, all_ff) (each_ff l)) (λ t. rw (t, all_ff))

all_ff-append : (a b : List ℕ) → all_ff (a ++ b) ≡ all_ff a && all_ff b
all_ff-append a b = sym (each_ff (a ++ b)) ∙ list_all-append byte_ff a b ∙ ap₂ (λ (t u : Bool). t && u) (each_ff a) (each_ff b)

-- eight bytes at once
eight_is : (e : List ℕ) → length e ≡ 8 → eight_ff e ≡ all_ff e
eight_is e l =
    on_test (eight_ff e) (λ t. t ∙ sym (ap all_ff (same_text e (replicate 8 255) (sym t)) ∙ all_ff-all 8))
    (λ t. on_test (all_ff e) (λ u. clash (eight_ff e) (ap eight_ff (all_ff_lem e u ∙ ap (λ (n : ℕ). replicate n 255) l)) t) (λ u. t ∙ sym u))

by_eights : (k : ℕ) (s : List ℕ) → k * 8 ≤ length s → list_all eight_ff (first_chunks 8 k s) && all_ff (drop (k * 8) s) ≡ all_ff s
by_eights zero s h = refl
by_eights (suc k) s h =
    let after : List ℕ = drop 8 s in
    let next : k * 8 ≤ length after = omega (arith, length-drop 8 s) in
    let at : 8 + k * 8 ≡ suc k * 8 = omega arith in
    and_assoc (eight_ff (take 8 s)) (list_all eight_ff (first_chunks 8 k after)) (all_ff (drop (suc k * 8) s))
    ∙ ap₂ (λ (t u : Bool). t && u) (eight_is (take 8 s) (omega (arith, length-take 8 s)))
    (ap (λ (l : List ℕ). list_all eight_ff (first_chunks 8 k after) && all_ff l) (sym (drop-drop (k * 8) 8 s ∙ ap (λ (n : ℕ). drop n s) at)) ∙ by_eights k after next)
    ∙ sym (all_ff-append (take 8 s) after)
    ∙ ap all_ff (take-append-drop 8 s)

-- the eights were tested first
pub blank_is : (s : List ℕ) (r : Bool) → r ≡ list_all eight_ff (first_chunks 8 (length s / 8) s) → r && all_ff (drop (length s / 8 * 8) s) ≡ all_ff s
blank_is s r e = ap (λ (t : Bool). t && all_ff (drop (length s / 8 * 8) s)) e ∙ by_eights (length s / 8) s (omega arith)
