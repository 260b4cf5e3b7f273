-- Programming: what a list of writes makes of an area of 0xFF.
use mathlib.Core.Path.{◌≡◌, refl, sym, ap, ◌∙◌}
use mathlib.Core.List.{List, [], ◌∷◌, ◌++◌}
use Prim.Native.Nat.{ℕ, zero, suc, ◌+◌, ◌≤◌, ◌<◌}
use native.Mathlib.Omega.{arith}
use native.Mathlib.Nat.{mod-eq_of_lt, zero-add}
use lib.Bits.{bit_and, and_comm, and_mask, and_le_l}
use lib.ListN.{length, get_or, take, set, replicate, length-append, length-set}
use lib.Seq.{set_at, get_or_at, append_snoc}
use Rattle.flash.specs.Bytes.{Bytes}
use Rattle.flash.specs.Flash.{program_at, Write, write, writes, write_all}

-- on 0xFF programming gives the byte; elsewhere it only clears bits
pub and_ff : (b : ℕ) → b < 256 → bit_and 255 b ≡ b
and_ff b h = and_comm 255 b ∙ and_mask b 8 ∙ mod-eq_of_lt h

pub only-clears : (a b : ℕ) → bit_and a b ≤ a
only-clears = and_le_l

pub program_ff : (p q : List ℕ) (i b : ℕ) → length p ≡ i → b < 256 → program_at (p ++ (255 ∷ q)) i b ≡ p ++ (b ∷ q)
program_ff p q i b l h =
    ap (λ (x : ℕ). set (p ++ (255 ∷ q)) i (bit_and x b)) (get_or_at p 255 q 0 i l)
    ∙ ap (λ (x : ℕ). set (p ++ (255 ∷ q)) i x) (and_ff b h) ∙ set_at p 255 q b i l

-- the bytes of a list written from offset o on to an area of 0xFF
pub write_bytes : (o : ℕ) (p q : List ℕ) (n : ℕ) (bs : List ℕ) → o ≡ length p → Bytes bs
    → write_all (p ++ (replicate (length bs + n) 255 ++ q)) (writes o bs) ≡ p ++ (bs ++ (replicate n 255 ++ q))
unfolding write_all writes
write_bytes o p q n [] l h = rw (zero-add n)
write_bytes o p q n (b ∷ t) l (h, r) =
    let e : suc (length t) + n ≡ suc (length t + n) = omega arith in
    let rest : List ℕ = replicate (length t + n) 255 ++ q in
    rw e
    (ap (λ (x : List ℕ). write_all x (writes (suc o) t)) (program_ff p rest o b (sym l) h ∙ sym (append_snoc p b rest))
    ∙ write_bytes (suc o) (p ++ (b ∷ [])) q n t (simp length-append (omega arith)) r
    ∙ append_snoc p b (t ++ (replicate n 255 ++ q)))

-- ---- lists of writes

-- a prefix of the writes is the writes of a prefix
pub take-writes : (o j : ℕ) (bs : List ℕ) → take j (writes o bs) ≡ writes o (take j bs)
unfolding writes
take-writes o zero bs = refl
take-writes o (suc j) [] = refl
take-writes o (suc j) (b ∷ bs) = ap (λ (x : List Write). write o b ∷ x) (take-writes (suc o) j bs)

pub write-append : (l : List ℕ) (xs ys : List Write) → write_all l (xs ++ ys) ≡ write_all (write_all l xs) ys
unfolding write_all
write-append l [] ys = refl
write-append l (x ∷ xs) ys = write-append (program_at l x.at x.byte) xs ys

pub length-write : (l : List ℕ) (ws : List Write) → length (write_all l ws) ≡ length l
unfolding write_all
length-write l [] = refl
length-write l (w ∷ ws) = length-write (program_at l w.at w.byte) ws ∙ length-set l w.at _

pub length-writes : (o : ℕ) (bs : List ℕ) → length (writes o bs) ≡ length bs
unfolding writes
length-writes o [] = refl
length-writes o (b ∷ bs) = ap suc (length-writes (suc o) bs)

pub writes-append : (o : ℕ) (cs bs : List ℕ) → writes o (cs ++ bs) ≡ writes o cs ++ writes (o + length cs) bs
unfolding writes
writes-append o [] bs = let e : o ≡ o + 0 = omega arith in ap (λ (n : ℕ). writes n bs) e
writes-append o (c ∷ cs) bs =
    let e : suc o + length cs ≡ o + suc (length cs) = omega arith in
    ap (λ (x : List Write). write o c ∷ x) (writes-append (suc o) cs bs ∙ ap (λ (n : ℕ). writes (suc o) cs ++ writes n bs) e)

-- write number i of the bytes of a list
pub writes_at : (o : ℕ) (bs : List ℕ) (i : ℕ) (d : Write) → i < length bs → get_or (writes o bs) i d ≡ write (o + i) (get_or bs i 0)
unfolding writes
writes_at o [] i d h = absurd (omega arith)
writes_at o (b ∷ bs) zero d h = let e : o ≡ o + 0 = omega arith in ap (λ (x : ℕ). write x b) e
writes_at o (b ∷ bs) (suc i) d h =
    let e : suc o + i ≡ o + suc i = omega arith in
    writes_at (suc o) bs i d (omega arith) ∙ ap (λ (x : ℕ). write x (get_or bs i 0)) e
