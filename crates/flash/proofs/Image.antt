-- The image: what a step does to each block. Blocks are known by number, and there may be any number of them.
use mathlib.Core.Path.{◌≡◌, refl, sym, ap, subst, ◌∙◌}
use mathlib.Core.List.{List, [], ◌∷◌, ◌++◌}
use mathlib.Core.Logic.{◌⊎◌, inl, inr}
use Prim.Native.Nat.{ℕ, zero, suc, ◌+◌, ◌-◌, ◌*◌, ◌≤◌, ◌<◌}
use native.Mathlib.Omega.{arith}
use native.Mathlib.Nat.{mul-le-mul_right, suc-mul, suc-add, zero-add, le_trans, le_of_eq}
use lib.Bits.{bit_and, and_zero_l}
use lib.ListN.{length, get_or, take, drop, set, replicate, length-append, length-take, length-drop, length-set, length-replicate, get_or-eq_default}
use lib.Seq.{drop-set-add, take-set-lt, take-set-le, drop-set-lt, get_or-take, get_or-drop, get_or-set_same, get_or-set_other, take-take, drop-drop}
use lib.Seq.{take-nil, drop-nil}
use Rattle.flash.specs.Bytes.{Bytes}
use Rattle.flash.specs.Flash.{Step, program, erase, block, program_at, erase_block, apply}
use Rattle.flash.proofs.Cases.{on-order}
use Rattle.flash.proofs.Blank.{bytes-append, bytes_take, bytes_drop, bytes-replicate, bytes-set, byte_at}
use Rattle.flash.proofs.Programming.{only-clears}

-- ---- a step keeps the image's length

pub length-program : (img : List ℕ) (i v : ℕ) → length (program_at img i v) ≡ length img
length-program img i v = length-set img i (bit_and (get_or img i 0) v)

pub length-erase : (s k : ℕ) (img : List ℕ) → length (erase_block s k img) ≡ length img
length-erase s k img = simp (length-append, length-take, length-replicate, length-drop) (omega arith)

pub length-apply : (s : ℕ) (x : Step) (img : List ℕ) → length (apply s x img) ≡ length img
length-apply s (program k o v) img = length-program img (k * s + o) v
length-apply s (erase k) img = length-erase s k img

-- ---- where blocks stand

-- a block ends where the next one starts
pub blocks-le : (s k j : ℕ) → k < j → k * s + s ≤ j * s
blocks-le s k j h = le_trans (le_of_eq (sym (suc-mul k s))) (mul-le-mul_right s h)

pub in_image : (s blocks k : ℕ) (img : List ℕ) → length img ≡ blocks * s → k < blocks → k * s + s ≤ length img
in_image s blocks k img e h = omega (arith, blocks-le s k blocks h)

pub length-block : (s k : ℕ) (img : List ℕ) → k * s + s ≤ length img → length (block s k img) ≡ s
length-block s k img h = simp (length-take, length-drop) (omega arith)

pub take-drop-take : (s n m : ℕ) (l : List ℕ) → n + s ≤ m → take s (drop n (take m l)) ≡ take s (drop n l)
take-drop-take s zero m l h = take-take s m l (omega arith)
take-drop-take s (suc n) zero l h = absurd (omega arith)
take-drop-take s (suc n) (suc m) [] h = refl
take-drop-take s (suc n) (suc m) (x ∷ l) h = take-drop-take s n m l (omega arith)

-- a block hangs on what stands before a later one, and on what stands after an earlier one
block-before : (s j k : ℕ) (img : List ℕ) → j < k → block s j img ≡ block s j (take (k * s) img)
block-before s j k img h = sym (take-drop-take s (j * s) (k * s) img (blocks-le s j k h))

block-after : (s j k : ℕ) (img : List ℕ) → k < j → block s j img ≡ take s (drop (j * s - (k * s + s)) (drop (k * s + s) img))
block-after s j k img h =
    let e : j * s ≡ k * s + s + (j * s - (k * s + s)) = omega (arith, blocks-le s k j h) in
    ap (take s) (ap (λ (n : ℕ). drop n img) e ∙ sym (drop-drop (j * s - (k * s + s)) (k * s + s) img))

-- a step that changes neither what stands before a block nor what stands after it keeps every other block
pub other-kept : (s j k : ℕ) (img img' : List ℕ) → (j ≡ k → ⊥) → take (k * s) img' ≡ take (k * s) img
    → drop (k * s + s) img' ≡ drop (k * s + s) img → block s j img' ≡ block s j img
other-kept s j k img img' n front back =
    on-order j k
    (λ e h. block-before s j k img' h ∙ ap (block s j) front ∙ sym (block-before s j k img h))
    (λ e h. absurd (n h))
    (λ e h. block-after s j k img' h ∙ ap (λ (l : List ℕ). take s (drop (j * s - (k * s + s)) l)) back ∙ sym (block-after s j k img h))

-- ---- a byte programmed

pub block-program : (s k o v : ℕ) (img : List ℕ) → o < s → block s k (program_at img (k * s + o) v) ≡ program_at (block s k img) o v
block-program s k o v img h =
    let e : get_or (block s k img) o 0 ≡ get_or img (k * s + o) 0 = get_or-take s (drop (k * s) img) o 0 h ∙ get_or-drop (k * s) img o 0 in
    ap (take s) (drop-set-add (k * s) img o (bit_and (get_or img (k * s + o) 0) v))
    ∙ take-set-lt s (drop (k * s) img) o (bit_and (get_or img (k * s + o) 0) v) h
    ∙ ap (λ (x : ℕ). set (block s k img) o (bit_and x v)) (sym e)

pub other-program : (s j k o v : ℕ) (img : List ℕ) → (j ≡ k → ⊥) → o < s → block s j (program_at img (k * s + o) v) ≡ block s j img
other-program s j k o v img n h =
    let b : ℕ = bit_and (get_or img (k * s + o) 0) v in
    other-kept s j k img (set img (k * s + o) b) n (take-set-le (k * s) img (k * s + o) b (omega arith))
    (drop-set-lt (k * s + s) img (k * s + o) b (omega arith))

-- the byte there is cleared where the given one has a 0; every other stays
pub program-same : (img : List ℕ) (i v : ℕ) → get_or (program_at img i v) i 0 ≡ bit_and (get_or img i 0) v
program-same img i v =
    on-order i (length img)
    (λ e h. get_or-set_same img i (bit_and (get_or img i 0) v) 0 h)
    (λ e h. past (le_of_eq (sym h)))
    (λ e h. past (omega arith))
  where
    past : length img ≤ i → get_or (program_at img i v) i 0 ≡ bit_and (get_or img i 0) v
    past h =
        get_or-eq_default (program_at img i v) 0 (le_trans (le_of_eq (length-program img i v)) h)
        ∙ sym (ap (λ (x : ℕ). bit_and x v) (get_or-eq_default img 0 h) ∙ and_zero_l v)

pub program-other : (img : List ℕ) (i v j : ℕ) → (j ≡ i → ⊥) → get_or (program_at img i v) j 0 ≡ get_or img j 0
program-other img i v j n = get_or-set_other img i j (bit_and (get_or img i 0) v) 0 n

pub clears : (img : List ℕ) (i v j : ℕ)
    → (get_or (program_at img i v) j 0 ≡ get_or img j 0) ⊎ (get_or (program_at img i v) j 0 ≡ bit_and (get_or img j 0) v)
clears img i v j =
    on-order j i
    (λ e h. inl (program-other img i v j (λ q. omega arith)))
    (λ e h. inr (subst (λ (x : ℕ). get_or (program_at img i v) x 0 ≡ bit_and (get_or img x 0) v) (sym h) (program-same img i v)))
    (λ e h. inl (program-other img i v j (λ q. omega arith)))

-- ---- a stretch of s bytes from a on erased, as far as it is there

abbrev erased : ℕ → ℕ → List ℕ → List ℕ
erased a s l = take a l ++ (replicate (length (take s (drop a l))) 255 ++ drop (a + s) l)

erased_nil : (a s : ℕ) → erased a s [] ≡ []
erased_nil a s = rw (take-nil {A = ℕ} a, drop-nil {A = ℕ} a, take-nil {A = ℕ} s, drop-nil {A = ℕ} (a + s))

-- what stands before and after stays, and the stretch is 0xFF
front : (a s : ℕ) (l : List ℕ) → take a (erased a s l) ≡ take a l
front zero s l = refl
front (suc a) s [] = ap (take (suc a)) (erased_nil (suc a) s)
front (suc a) s (x ∷ l) = rw (suc-add a s) (ap (λ (t : List ℕ). x ∷ t) (front a s l))

back₀ : (s : ℕ) (l : List ℕ) → drop s (replicate (length (take s l)) 255 ++ drop s l) ≡ drop s l
back₀ zero l = refl
back₀ (suc s) [] = refl
back₀ (suc s) (x ∷ l) = back₀ s l

back : (a s : ℕ) (l : List ℕ) → drop (a + s) (erased a s l) ≡ drop (a + s) l
back zero s l = rw (zero-add s) (back₀ s l)
back (suc a) s [] = ap (drop (suc a + s)) (erased_nil (suc a) s)
back (suc a) s (x ∷ l) = rw (suc-add a s) (back a s l)

inner₀ : (s : ℕ) (l : List ℕ) → take s (replicate (length (take s l)) 255 ++ drop s l) ≡ replicate (length (take s l)) 255
inner₀ zero l = refl
inner₀ (suc s) [] = refl
inner₀ (suc s) (x ∷ l) = ap (λ (t : List ℕ). 255 ∷ t) (inner₀ s l)

inner : (a s : ℕ) (l : List ℕ) → take s (drop a (erased a s l)) ≡ replicate (length (take s (drop a l))) 255
inner zero s l = rw (zero-add s) (inner₀ s l)
inner (suc a) s [] =
    ap (λ (t : List ℕ). take s (drop (suc a) t)) (erased_nil (suc a) s) ∙ take-nil s ∙ sym (ap (λ (t : List ℕ). replicate (length t) 255) (take-nil s))
inner (suc a) s (x ∷ l) = rw (suc-add a s) (inner a s l)

-- ---- a block erased

pub block-erase : (s k : ℕ) (img : List ℕ) → k * s + s ≤ length img → block s k (erase_block s k img) ≡ replicate s 255
block-erase s k img h = inner (k * s) s img ∙ ap (λ (n : ℕ). replicate n 255) (length-block s k img h)

pub other-erase : (s j k : ℕ) (img : List ℕ) → (j ≡ k → ⊥) → block s j (erase_block s k img) ≡ block s j img
other-erase s j k img n = other-kept s j k img (erase_block s k img) n (front (k * s) s img) (back (k * s) s img)

-- ---- bytes stay bytes

pub bytes-block : (s k : ℕ) (img : List ℕ) → Bytes img → Bytes (block s k img)
bytes-block s k img b = bytes_take s (drop (k * s) img) (bytes_drop (k * s) img b)

pub bytes-program : (img : List ℕ) (i v : ℕ) → Bytes img → Bytes (program_at img i v)
bytes-program img i v b = bytes-set img i (bit_and (get_or img i 0) v) (omega (arith, only-clears (get_or img i 0) v, byte_at img i b)) b

pub bytes-erase : (s k : ℕ) (img : List ℕ) → Bytes img → Bytes (erase_block s k img)
bytes-erase s k img b =
    bytes-append (take (k * s) img) (replicate (length (block s k img)) 255 ++ drop (k * s + s) img) (bytes_take (k * s) img b)
    (bytes-append (replicate (length (block s k img)) 255) (drop (k * s + s) img) (bytes-replicate (length (block s k img))) (bytes_drop (k * s + s) img b))

pub bytes-apply : (s : ℕ) (x : Step) (img : List ℕ) → Bytes img → Bytes (apply s x img)
bytes-apply s (program k o v) img b = bytes-program img (k * s + o) v b
bytes-apply s (erase k) img b = bytes-erase s k img b
