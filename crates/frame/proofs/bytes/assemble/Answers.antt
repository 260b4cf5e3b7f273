-- A frame put together in a buffer of zeros.
use mathlib.Core.Path.{◌≡◌, ap, ap₂, ◌∙◌}
use mathlib.Core.List.{List, ◌∷◌, ◌++◌}
use Prim.Native.Nat.{ℕ, ◌+◌, ◌-◌}
use native.Mathlib.Omega.{arith}
use lib.ListN.{length, length-append, drop, replicate}
use Rattle.flash.specs.Bytes.{u16le}
use Rattle.frame.specs.Frame.{sealed, buffer, buffer_len}
use Rattle.frame.proofs.Encode.{check-short}
use Rattle.frame.proofs.Stores.{assembled_at, front_bytes}
use Rattle.frame.proofs.bytes.assemble.Goals as goal

pub returns : goal.returns
returns c =
    let e = c.args.edition in
    let fields : List ℕ = c.args.fields.now in
    let v : List ℕ = c.args.value.now in
    let k : ℕ = c.args.kind in
    let start : ℕ = 4 + length fields in
    let n : ℕ = start + length v + c.check_len.result + 1 in
    let q : start - 4 ≡ length fields = omega arith in
    c.seal.ensures
    ∙ assembled_at e (n ∷ 0 ∷ k ∷ 0 ∷ fields) v _ _ buffer_len start (start + length v) (omega arith) (omega arith) (omega (arith, c.requires))
    (ap₂ (λ (x : ℕ) (y : List ℕ). n ∷ 0 ∷ k ∷ 0 ∷ (y ++ drop x (replicate 248 0))) q c.copy_from_slice.ensures.after)
    c.copy_from_slice-2.ensures.after
    ∙ ap (λ (x : List ℕ). buffer (sealed e x))
    (front_bytes n k (fields ++ v) (omega (arith, c.check_len.ensures, check-short e, c.requires)) (omega (arith, c.ranges.kind.fits))
    ∙ ap (λ (x : ℕ). u16le x ++ (u16le k ++ (fields ++ v))) (omega (arith, c.check_len.ensures, length-append fields v)))
