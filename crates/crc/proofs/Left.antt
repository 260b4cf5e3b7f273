-- What the lowest four bits leave, by the table: held against the definition at each of the 64 places, by computing.
use mathlib.Core.Path.{◌≡◌, refl, sym, ap, ◌∙◌}
use mathlib.Core.List.{List, []}
use mathlib.Core.Bool.{Bool, true, ◌&&◌}
use mathlib.Core.Logic.{inl, inr}
use Prim.Native.Nat.{ℕ, zero, suc, ◌+◌, ◌*◌, ◌/◌, ◌%◌, ◌≤◌, ◌<◌}
use native.Mathlib.Omega.{arith}
use lib.Bits.{bit_xor, xor_comm}
use lib.Dec.{eqb}
use lib.ListN.{length, get_or, take}
use borrow.Author.Tests.{eqb-true}
use Rattle.std.specs.Int.Bits.{xor_assoc}
use Rattle.std.specs.List.{push}
use Rattle.std.proofs.lemmas.Bool.{cases_eq}
use Rattle.std.proofs.lemmas.List.{length_push, same_from_push, take_more}
use Rattle.flash.proofs.Cases.{and_left, and_right}
use Rattle.crc.specs.Crc.{times, shift32}
use Rattle.crc.specs.declared.TheConstants.{LEFT}
use Rattle.crc.proofs.Linear.{by-entry}

same_below : (ℕ → ℕ) → (ℕ → ℕ) → ℕ → Bool
same_below f g zero = true
same_below f g (suc n) = eqb (f n) (g n) && same_below f g n

same_at : (f g : ℕ → ℕ) (m : ℕ) → same_below f g m ≡ true → (n : ℕ) → n < m → f n ≡ g n
unfolding same_below
same_at f g zero h n l = absurd (omega arith)
same_at f g (suc m) h n l =
    elim (cases_eq n m) [
      | inl same ↦ rw same (eqb-true (f m) (g m) (and_left (eqb (f m) (g m)) (same_below f g m) h))
      | inr other ↦ same_at f g m (and_right (eqb (f m) (g m)) (same_below f g m) h) n (omega arith)
    ]

left_is : (k n : ℕ) → k < 4 → n < 16 → get_or (get_or LEFT k []) n 0 ≡ times ((k + 1) * 4) shift32 n
unfolding same_below shift32
left_is zero n h l = same_at (λ i. get_or (get_or LEFT 0 []) i 0) (times 4 shift32) 16 refl n l
left_is (suc zero) n h l = same_at (λ i. get_or (get_or LEFT 1 []) i 0) (times 8 shift32) 16 refl n l
left_is (suc (suc zero)) n h l = same_at (λ i. get_or (get_or LEFT 2 []) i 0) (times 12 shift32) 16 refl n l
left_is (suc (suc (suc zero))) n h l = same_at (λ i. get_or (get_or LEFT 3 []) i 0) (times 16 shift32) 16 refl n l
left_is (suc (suc (suc (suc k)))) n h l = absurd (omega arith)

-- four shifts more of the bits above, and what the lowest four leave after them all
four_more : (k above left e : ℕ) → e ≡ times ((k + 1) * 4) shift32 (above % 16)
    → bit_xor (times (k * 4) shift32 (above / 16)) (bit_xor left e) ≡ bit_xor (times ((k + 1) * 4) shift32 above) left
four_more k above left e h =
    let m : suc (suc (suc (suc (k * 4)))) ≡ (k + 1) * 4 = omega arith in
    let a : ℕ = times (k * 4) shift32 (above / 16) in
    ap (bit_xor a) (xor_comm left e) ∙ sym (xor_assoc a e left)
    ∙ ap (λ (x : ℕ). bit_xor (bit_xor a x) left) (h ∙ ap (λ (n : ℕ). times n shift32 (above % 16)) (sym m))
    ∙ ap (λ (x : ℕ). bit_xor x left) (by-entry (k * 4) above ∙ ap (λ (n : ℕ). times n shift32 above) m)

-- the tables from the last one down: what one turn with the last of them does
pub last_table : (tables rest : List (List ℕ)) (table : List ℕ) (n x above left : ℕ) → tables ≡ push rest table → tables ≡ take (length tables) LEFT
    → length tables ≤ n → n ≤ 4 → bit_xor (times (length tables * 4) shift32 above) left ≡ x
    → (rest ≡ take (length rest) LEFT) × (length rest ≤ n)
    × (bit_xor (times (length rest * 4) shift32 (above / 16)) (bit_xor left (get_or table (above % 16) 0)) ≡ x)
last_table tables rest table n x above left p q h i e =
    let k : ℕ = length rest in
    let long : length tables ≡ k + 1 = ap length p ∙ length_push rest table in
    let both = same_from_push rest (take k LEFT) table (get_or LEFT k [])
    (sym p ∙ q ∙ ap (λ (j : ℕ). take j LEFT) long ∙ take_more LEFT k [] (omega (arith, long))) in (
      both.0,
      omega (arith, long),
      four_more k above left _ (ap (λ (l : List ℕ). get_or l (above % 16) 0) both.1 ∙ left_is k (above % 16) (omega (arith, long)) (omega arith))
          ∙ ap (λ (j : ℕ). bit_xor (times (j * 4) shift32 above) left) (sym long) ∙ e,
    )
