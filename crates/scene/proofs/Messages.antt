-- A put's message, cut from a buffer.
use mathlib.Core.Path.{◌≡◌, ap}
use mathlib.Core.List.{List, [], ◌∷◌}
use Prim.Native.Nat.{ℕ, suc, ◌+◌, ◌≤◌, ◌<◌, ◌%◌, ◌/◌}
use native.Mathlib.Omega.{arith}
use lib.ListN.{take, replicate}
use Rattle.std.proofs.lemmas.List.{take-replicate}
use Rattle.wire.specs.Code.{overlay}
use Rattle.scene.specs.Runs.{put_message}

-- the length and the id, low byte first, laid over a buffer of one value, and so many bytes after them
pub cut-message : (id v n k size : ℕ) (l : List ℕ) → id < 65536 → n ≤ 255 → k ≡ n → size ≡ 6 + k
    → l ≡ overlay ((6 + k) % 256 ∷ (6 + k) / 256 % 256 ∷ 1 ∷ 1 ∷ id % 256 ∷ id / 256 % 256 ∷ []) (replicate 261 v)
    → take size l ≡ put_message id v n
unfolding overlay
cut-message id v n k size l i h e f g =
    let high : (6 + k) / 256 % 256 ≡ (6 + n) / 256 = omega arith in
    let id_high : id / 256 % 256 ≡ id / 256 = omega arith in
    let s : size ≡ suc (suc (suc (suc (suc (suc n))))) = omega arith in
    rw (g, high, id_high, s, e) (ap (λ (x : List ℕ). (6 + n) % 256 ∷ (6 + n) / 256 ∷ 1 ∷ 1 ∷ id % 256 ∷ id / 256 ∷ x) (take-replicate n 255 v h))
