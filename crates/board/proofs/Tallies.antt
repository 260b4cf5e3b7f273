-- K12's sums, by numbers alone: frames of n bytes are accepted, and appended after a transfer where they don't fit.
use mathlib.Core.Path.{◌≡◌, refl, sym, ap, ◌∙◌}
use mathlib.Core.Bool.{true}
use Prim.Native.Nat.{ℕ, zero, suc, ◌+◌, ◌-◌, ◌*◌, ◌/◌, ◌≤◌, ◌<◌}
use native.Mathlib.Nat.{suc-mul, mul-suc, zero-mul, mul-add, mul-le-mul_left, mul-div-le}
use native.Mathlib.Omega.{arith}
use Rattle.board.specs.Endurance.{Tally, accepting, causing, erasing}

module _ (s most least longest : ℕ) where
  -- at every time
  pub record Bounds (t : Tally) : Type 0 where
    pub sum : (t.erases - 1) * (suc s - most) ≤ t.bytes + t.caused
    pub few : least * t.erases ≤ t.bytes
    pub large : t.caused ≤ (t.erases - 1) * longest
    pub less : t.caused ≤ t.bytes

  -- between jobs, with whole frames up to `end`; `since` are the bytes accepted since the last transfer, its own frame among them
  pub record Between (t : Tally) (end : ℕ) : Type 0 where
    pub since : ℕ
    pub sum : 1 ≤ t.erases → ((t.erases - 1) * (suc s - most) + since ≤ t.bytes + t.caused) × (end ≤ most + since)
    pub bounds : Bounds t

  pub accepted_bounds : (n : ℕ) (t : Tally) → Bounds t → Bounds (accepting n t)
  accepted_bounds n t b =
      record { sum = omega (arith, b.sum); few = omega (arith, b.few); large = b.large; less = omega (arith, b.less) }

  -- a frame that fits
  pub appended : (n end : ℕ) (t : Tally) → Between t end → Between (accepting n t) (end + n)
  appended n end t b =
      record {
        since = b.since + n;
        sum = λ h. let u = b.sum h in (omega (arith, u.0), omega (arith, u.1));
        bounds = accepted_bounds n t b.bounds;
      }

  -- one that does not, with C bytes to copy
  module _ (n end claimed : ℕ) (t : Tally) (c : claimed ≤ most) (full : s < end + n) (lo : least ≤ n) (hi : n ≤ longest) (b : Between t end) where
    abbrev x : ℕ
    x = suc s - most

    abbrev after : Tally
    after = erasing true (accepting n t)

    one_more : (k e : ℕ) → t.erases ≡ suc e → t.erases * k ≡ (t.erases - 1) * k + k
    one_more k e q =
        let l : t.erases - 1 ≡ e = omega (arith, q) in
        ap (λ (i : ℕ). i * k) q ∙ suc-mul e k ∙ ap (λ (i : ℕ). i * k + k) (sym l)

    -- E transfers before this one
    sum_after : (e : ℕ) → t.erases ≡ e → t.erases * x + n ≤ t.bytes + n + (t.caused + causing t.erases n)
    sum_after zero q =
        let z : t.erases * x ≡ 0 = ap (λ (k : ℕ). k * x) q ∙ zero-mul x in omega arith
    sum_after (suc e) q =
        let u = b.sum (omega (arith, q)) in
        let v : t.erases * x ≡ (t.erases - 1) * x + x = one_more x e q in
        let w : causing t.erases n ≡ n = ap (λ (k : ℕ). causing k n) q in
        omega (arith, u.0, u.1, full)

    large_after : (e : ℕ) → t.erases ≡ e → t.caused + causing t.erases n ≤ t.erases * longest
    large_after zero q =
        let w : causing t.erases n ≡ 0 = ap (λ (k : ℕ). causing k n) q in
        let z : (t.erases - 1) * longest ≡ 0 = ap (λ (k : ℕ). (k - 1) * longest) q ∙ zero-mul longest in
        omega (arith, b.bounds.large)
    large_after (suc e) q =
        let w : causing t.erases n ≡ n = ap (λ (k : ℕ). causing k n) q in
        let v : t.erases * longest ≡ (t.erases - 1) * longest + longest = one_more longest e q in
        omega (arith, b.bounds.large)

    less_after : (e : ℕ) → t.erases ≡ e → t.caused + causing t.erases n ≤ t.bytes + n
    less_after zero q = let w : causing t.erases n ≡ 0 = ap (λ (k : ℕ). causing k n) q in omega (arith, b.bounds.less)
    less_after (suc e) q = let w : causing t.erases n ≡ n = ap (λ (k : ℕ). causing k n) q in omega (arith, b.bounds.less)

    pub transferred : Between after (claimed + n)
    transferred =
        let l : suc t.erases - 1 ≡ t.erases = omega arith in
        let u : (suc t.erases - 1) * x ≡ t.erases * x = ap (λ (k : ℕ). k * x) l in
        let v : (suc t.erases - 1) * longest ≡ t.erases * longest = ap (λ (k : ℕ). k * longest) l in
        let g = sum_after t.erases refl in
        record {
          since = n;
          sum = λ _. (omega (arith, g), omega arith);
          bounds =
              record {
                sum = omega (arith, g);
                few = omega (arith, mul-suc least t.erases, b.bounds.few);
                large = omega (arith, large_after t.erases refl);
                less = less_after t.erases refl;
              };
        }

-- ---- what follows, with C at most S/2

module _ (s least longest : ℕ) (t : Tally) (b : Bounds s (s / 2) least longest t) where
  pub twice : (t.erases - 1) * (s / 2 + 1) ≤ 2 * t.bytes
  twice =
      let h : 2 * (s / 2) ≤ s = mul-div-le s 2 in
      let l : s / 2 + 1 ≤ suc s - s / 2 = omega arith in
      omega (arith, mul-le-mul_left (t.erases - 1) l, b.sum, b.less)

  pub asked_bound : longest ≤ s / 2 → (t.erases - 1) * (s / 2 - longest + 1) ≤ t.bytes
  asked_bound h =
      let e : ℕ = t.erases - 1 in
      let d : 2 * (s / 2) ≤ s = mul-div-le s 2 in
      let l : s / 2 - longest + 1 + longest ≤ suc s - s / 2 = omega arith in
      omega (arith, mul-le-mul_left e l, mul-add e (s / 2 - longest + 1) longest, b.sum, b.large)
