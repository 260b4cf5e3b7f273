-- A buffer laid over zeros, and a byte of it.
use mathlib.Core.Path.{◌≡◌, refl, sym, ap, ◌∙◌}
use mathlib.Core.List.{List, [], ◌∷◌, ◌++◌}
use Prim.Native.Nat.{ℕ, zero, suc, ◌+◌, ◌-◌, ◌≤◌}
use native.Mathlib.Omega.{arith}
use lib.ListN.{length, get_or, take, drop, replicate, length-take, length-replicate, replicate-append-replicate}
use lib.Seq.{drop_at}
use borrow.Author.Tests.{le-ltb}
use Rattle.wire.specs.Code.{overlay}
use Rattle.lent.specs.Layout.{bytes_in}

zeros-after : (n m : ℕ) → n ≤ m → drop n (replicate {A = ℕ} m 0) ≡ replicate (m - n) 0
zeros-after n m h =
    let e : m ≡ n + (m - n) = omega arith in
    ap (λ (k : ℕ). drop n (replicate {A = ℕ} k 0)) e
    ∙ ap (drop n) (sym (replicate-append-replicate {A = ℕ} n (m - n) 0))
    ∙ drop_at (replicate n 0) (replicate (m - n) 0) n (length-replicate n 0)

on-zeros : (n : ℕ) (s : List ℕ) → length s ≤ n → overlay s (replicate n 0) ≡ s ++ replicate (n - length s) 0
unfolding overlay
on-zeros n s h = rw (length-replicate {A = ℕ} n 0, le-ltb n (length s) h, overlay, zeros-after (length s) n h)

pub laid-on-zeros : (n : ℕ) (l : List ℕ) → overlay (take n l) (replicate n 0) ≡ bytes_in n l
laid-on-zeros n l = on-zeros n (take n l) (simp length-take (omega arith))

-- ---- a byte of a buffer

zeros-at : (m i : ℕ) → get_or (replicate {A = ℕ} m 0) i 0 ≡ 0
zeros-at zero i = refl
zeros-at (suc m) zero = refl
zeros-at (suc m) (suc i) = zeros-at m i

before-zeros : (l : List ℕ) (m i : ℕ) → get_or (l ++ replicate m 0) i 0 ≡ get_or l i 0
before-zeros [] m i = zeros-at m i
before-zeros (x ∷ l) m zero = refl
before-zeros (x ∷ l) m (suc i) = before-zeros l m i

pub front_byte : (n i : ℕ) (l : List ℕ) → get_or (take n l) i 0 ≡ get_or (bytes_in n l) i 0
front_byte n i l = sym (before-zeros (take n l) (n - length (take n l)) i)
