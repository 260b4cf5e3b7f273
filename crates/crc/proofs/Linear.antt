-- A shift is linear in exclusive or, so some of them move the bits above down and add what the lowest four leave.
use mathlib.Core.Path.{◌≡◌, refl, sym, ap, ap₂, ◌∙◌}
use Prim.Native.Nat.{ℕ, zero, suc, ◌+◌, ◌*◌, ◌/◌, ◌%◌, ◌^◌, ◌<◌}
use native.Mathlib.Nat.{zero-mul, mul-one, mul_assoc, pow-suc}
use native.Mathlib.Omega.{arith}
use lib.Bits.{bit_xor, xor_zero_r, xor_comm, xor_self, xor_shr, xor_mod, xor_shifted}
use Rattle.std.specs.Int.Bits.{xor_assoc}
use Rattle.crc.specs.Crc.{times, shift32, shifted32}

-- what holds of 0 and of 1 holds of a lowest bit
bit : (P : ℕ → Type 0) → P 0 → P 1 → (a : ℕ) → P (a % 2)
bit P p q a = of (a % 2) (omega arith)
  where
    of : (r : ℕ) → r < 2 → P r
    of zero h = p
    of (suc zero) h = q
    of (suc (suc r)) h = absurd (omega (arith, h))

-- (w ^ x) ^ (y ^ z) = (w ^ y) ^ (x ^ z)
swap : (w x y z : ℕ) → bit_xor (bit_xor w x) (bit_xor y z) ≡ bit_xor (bit_xor w y) (bit_xor x z)
swap w x y z =
    xor_assoc w x (bit_xor y z)
    ∙ ap (bit_xor w) (sym (xor_assoc x y z) ∙ ap (λ m. bit_xor m z) (xor_comm x y) ∙ xor_assoc y x z)
    ∙ sym (xor_assoc w y (bit_xor x z))

scaled : (p a b : ℕ) → bit_xor (a % 2) (b % 2) * p ≡ bit_xor (a % 2 * p) (b % 2 * p)
scaled p a b =
    bit (λ r. bit_xor r (b % 2) * p ≡ bit_xor (r * p) (b % 2 * p)) (sym (ap (λ x. bit_xor x (b % 2 * p)) (zero-mul p)))
    (bit (λ s. bit_xor 1 s * p ≡ bit_xor (1 * p) (s * p))
    (sym (ap (bit_xor (1 * p)) (zero-mul p) ∙ xor_zero_r (1 * p)))
    (zero-mul p ∙ sym (xor_self (1 * p))) b) a

-- for any polynomial
linear-by : (p a b : ℕ)
    → bit_xor (bit_xor a b / 2) (bit_xor a b % 2 * p) ≡ bit_xor (bit_xor (a / 2) (a % 2 * p)) (bit_xor (b / 2) (b % 2 * p))
linear-by p a b =
    ap₂ (λ x y. bit_xor x (y * p)) (xor_shr a b 1) (xor_mod a b 1)
    ∙ ap (bit_xor (bit_xor (a / 2) (b / 2))) (scaled p a b)
    ∙ swap (a / 2) (b / 2) (a % 2 * p) (b % 2 * p)

linear : (a b : ℕ) → shift32 (bit_xor a b) ≡ bit_xor (shift32 a) (shift32 b)
unfolding shift32
linear a b = linear-by _ a b

linear-times : (n a b : ℕ) → times n shift32 (bit_xor a b) ≡ bit_xor (times n shift32 a) (times n shift32 b)
linear-times zero a b = refl
linear-times (suc n) a b = ap (times n shift32) (linear a b) ∙ linear-times n (shift32 a) (shift32 b)

even : (m : ℕ) → shift32 (m * 2) ≡ m
unfolding shift32
even m = rw (halved m, no_odd m) (xor_zero_r m)
  where
    halved : (m : ℕ) → m * 2 / 2 ≡ m
    halved m = omega arith

    no_odd : (m : ℕ) → m * 2 % 2 ≡ 0
    no_odd m = omega arith

above : (n a : ℕ) → times n shift32 (a * 2 ^ n) ≡ a
above zero a = mul-one a
above (suc n) a =
    ap (λ x. times n shift32 (shift32 x)) (ap (λ x. a * x) (pow-suc 2 n) ∙ sym (mul_assoc a (2 ^ n) 2))
    ∙ ap (times n shift32) (even (a * 2 ^ n))
    ∙ above n a

-- four more shifts: the bits above move down, and what the lowest four leave is added
pub by-entry : (n x : ℕ)
    → bit_xor (times n shift32 (x / 16)) (times (suc (suc (suc (suc n)))) shift32 (x % 16)) ≡ times (suc (suc (suc (suc n)))) shift32 x
by-entry n x =
    let m : ℕ = suc (suc (suc (suc n))) in
    sym (ap (times m shift32) (sym (xor_shifted (x / 16) 4 (x % 16) (omega arith) ∙ whole x))
    ∙ linear-times m (x / 16 * 16) (x % 16)
    ∙ ap (λ y. bit_xor (times n shift32 y) (times m shift32 (x % 16))) (above 4 (x / 16)))
  where
    whole : (x : ℕ) → x / 16 * 16 + x % 16 ≡ x
    whole x = omega arith

-- a second byte comes in eight shifts later
pub by_two : (c a b : ℕ) → a < 256 → times 16 shift32 (bit_xor c (a + b * 256)) ≡ shifted32 (bit_xor (shifted32 (bit_xor c a)) b)
unfolding shifted32
by_two c a b h =
    ap (times 16 shift32) (ap (bit_xor c) (sum ∙ sym (xor_shifted b 8 a h) ∙ xor_comm (b * 256) a) ∙ sym (xor_assoc c a (b * 256)))
    ∙ ap (times 8 shift32) (linear-times 8 (bit_xor c a) (b * 256) ∙ ap (bit_xor (times 8 shift32 (bit_xor c a))) (above 8 b))
  where
    sum : a + b * 256 ≡ b * 256 + a
    sum = omega arith
