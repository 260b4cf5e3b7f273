-- From tests in their order to the table's lines: the first test that holds gives its line's number.
use mathlib.Core.Path.{◌≡◌, refl, sym, ap, ◌∙◌}
use mathlib.Core.List.{List, [], ◌∷◌}
use mathlib.Core.Logic.{inl, inr}
use mathlib.Core.Option.{some}
use mathlib.Core.Bool.{Bool, true, false, not}
use Prim.Native.Nat.{ℕ}
use native.Mathlib.Omega.{arith}
use Rattle.flash.proofs.Cases.{on_test, clash}
use Rattle.wire.specs.declared.Answer.{Answer}
use Rattle.wire.specs.declared.Answer.TheVariants.{Done, More, Refused}
use Rattle.wire.specs.declared.Refusal.{Refusal}
use Rattle.wire.specs.Answer.{number_of, refusal_number}
use Rattle.board.specs.Table.{Line, line, Exactly}
use Rattle.board.specs.Demand2.{Accepted}
use Rattle.board.proofs.Checks.{Check, check, first_of, refusal_in}

-- the first line that holds
first-stop : (k : Refusal) (b : Bool) (cs : List Check) → b ≡ true → first_of (check k b ∷ cs) ≡ some k
unfolding first_of
first-stop k true cs e = refl
first-stop k false cs e = let w : ◌≡◌ {A = ℕ} 0 1 = cc in absurd (omega arith)

first-skip : (k : Refusal) (b : Bool) (cs : List Check) → b ≡ false → first_of (check k b ∷ cs) ≡ first_of cs
unfolding first_of
first-skip k true cs e = let w : ◌≡◌ {A = ℕ} 0 1 = cc in absurd (omega arith)
first-skip k false cs e = refl

refusal_is : (a : Answer) (k : Refusal) → refusal_in a ≡ some k → a ≡ Refused k
refusal_is Done k e = let w : ◌≡◌ {A = ℕ} 0 1 = cc in absurd (omega arith)
refusal_is More k e = let w : ◌≡◌ {A = ℕ} 0 1 = cc in absurd (omega arith)
refusal_is (Refused n) k e = cc

none-refused : (a : Answer) → refusal_in a ≡ first_of [] → Accepted a
unfolding first_of
none-refused Done e = tt
none-refused More e = tt
none-refused (Refused n) e = let w : ◌≡◌ {A = ℕ} 0 1 = cc in absurd (omega arith)

-- a test says whether a line holds
pub record Tests (b : Bool) (P : Type 0) : Type 0 where
  pub yes : b ≡ true → P
  pub no : P → b ≡ true

-- the tests of a call, in order, and the lines that they are of; a test is asked where those before it failed
pub data Rows : List Check → List Line → Type 1 where
  end : Rows [] []
  row : (n : Refusal) {b : Bool} {P : Type 0} {cs : List Check} {ls : List Line} → Tests b P → (b ≡ false → Rows cs ls)
      → Rows (check n b ∷ cs) (line (refusal_number n) P ∷ ls)

pub exactly : {cs : List Check} {ls : List Line} → Rows cs ls → (a : Answer) → refusal_in a ≡ first_of cs → Exactly ls a
exactly end a e = none-refused a e
exactly (row n {b} {P} {cs} {ls} t f) a e =
    on_test b
    (λ y. inl (t.yes y, ap number_of (refusal_is a n (e ∙ first-stop n b cs y))))
    (λ y. inr ((λ p. clash b (t.no p) y), exactly (f y) a (e ∙ first-skip n b cs y)))

pub false-true {ℓ} : {P : Type ℓ} → false ≡ true → P
false-true e = let w : ◌≡◌ {A = ℕ} 0 1 = cc in absurd (omega arith)

pub not_yes : (b : Bool) → not b ≡ true → b ≡ true → ⊥
not_yes true e f = false-true e
not_yes false e f = false-true f

pub not-no : (b : Bool) → (b ≡ true → ⊥) → not b ≡ true
not-no true f = absurd (f refl)
not-no false f = refl

pub not-not : (b : Bool) → not b ≡ false → b ≡ true
not-not true e = refl
not-not false e = false-true (sym e)
