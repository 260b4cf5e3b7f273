-- Programming only clears bits.
use mathlib.Core.Path.{◌≡◌, refl, sym, ap₂, subst, ◌∙◌}
use mathlib.Core.List.{List}
use mathlib.Core.Logic.{◌⊎◌, inl, inr}
use Prim.Native.Nat.{ℕ, ◌+◌, ◌*◌, ◌/◌, ◌%◌, ◌≤◌, min}
use native.Mathlib.Omega.{arith}
use native.Mathlib.Nat.{min-le_left, min-eq_left}
use lib.Arith.{bin_ind}
use lib.Bits.{bit_and, and_step, and_self}
use lib.ListN.{get_or}
use Rattle.flash.specs.Flash.{Step, program, erase, apply, program_at, size_of}
use Rattle.flash.proofs.Image.{clears}
use Rattle.board.specs.declared.Record.{Record}
use Rattle.board.specs.Exec.{Machine, Call, request, step, mount, format}
use Rattle.board.specs.Demand1.{OneStep}
use Rattle.board.specs.Promise.{Calls, OnlyClears}

-- what is left after an AND has no bit that was not there
and_part : (a v : ℕ) → bit_and (bit_and a v) a ≡ bit_and a v
and_part =
    bin_ind (λ (n : ℕ). (v : ℕ) → bit_and (bit_and n v) n ≡ bit_and n v) (λ v. refl)
    (λ n ih v.
    let w : ℕ = bit_and n v in
    let e : w ≡ bit_and (n / 2) (v / 2) * 2 + min (n % 2) (v % 2) = and_step n v in
    let l : min (n % 2) (v % 2) ≤ n % 2 = min-le_left (n % 2) (v % 2) in
    let d : w / 2 ≡ bit_and (n / 2) (v / 2) = omega arith in
    let r : w % 2 ≡ min (n % 2) (v % 2) = omega arith in
    and_step w n ∙ ap₂ (λ (x y : ℕ). bit_and x (n / 2) * 2 + min y (n % 2)) d r
    ∙ ap₂ (λ (x y : ℕ). x * 2 + y) (ih (v / 2)) (min-eq_left l) ∙ sym e)

same-clears : (N : ℕ) (img : List ℕ) → OnlyClears N img img
same-clears N img = inl (λ i. and_self (get_or img i 0))

pub program-clears : (img : List ℕ) (i v j : ℕ) → bit_and (get_or (program_at img i v) j 0) (get_or img j 0) ≡ get_or (program_at img i v) j 0
program-clears img i v j = go (clears img i v j)
  where
    new : ℕ
    new = get_or (program_at img i v) j 0

    go : (new ≡ get_or img j 0) ⊎ (new ≡ bit_and (get_or img j 0) v) → bit_and new (get_or img j 0) ≡ new
    go (inl e) = subst (λ (n : ℕ). bit_and n (get_or img j 0) ≡ n) (sym e) (and_self (get_or img j 0))
    go (inr e) = subst (λ (n : ℕ). bit_and n (get_or img j 0) ≡ n) (sym e) (and_part (get_or img j 0) v)

step-clears : (N : ℕ) (img : List ℕ) (x : Step) → OnlyClears N img (apply (size_of N img) x img)
step-clears N img (program k o v) = inl (program-clears img (k * size_of N img + o) v)
step-clears N img (erase k) = inr (k, refl)

one-clears : (N : ℕ) (img after : List ℕ) → OneStep N img after → OnlyClears N img after
one-clears N img after (inl e) = subst (OnlyClears N img) (sym e) (same-clears N img)
one-clears N img after (inr (x, e)) = subst (OnlyClears N img) (sym e) (step-clears N img x)

pub only-clears : {N : ℕ} {m : Machine} → Calls N m → (img : List ℕ) (r : Record) (c : Call) → OnlyClears N img (m img r c).image
only-clears {N} p img r (request h msg reply) = subst (OnlyClears N img) (sym (p.one-step img r (request h msg reply))) (same-clears N img)
only-clears {N} {m} p img r step = one-clears N img (m img r step).image (p.one-step img r step)
only-clears {N} p img r mount = subst (OnlyClears N img) (sym (p.one-step img r mount)) (same-clears N img)
only-clears {N} p img r format = subst (OnlyClears N img) (sym (p.one-step img r format)) (same-clears N img)
