-- Lists of writes by the offsets that they go to, and what lands on a blank area.
use mathlib.Core.Path.{◌≡◌, refl, sym, ◌∙◌}
use mathlib.Core.List.{List, [], ◌∷◌, ◌++◌}
use Prim.Native.Nat.{ℕ, zero, suc, ◌+◌, ◌≤◌, ◌<◌}
use native.Mathlib.Omega.{arith}
use lib.ListN.{length, get_or, take, replicate, get_or-replicate}
use Rattle.flash.specs.Bytes.{Bytes}
use Rattle.flash.specs.Flash.{program_at, Write, writes, write_all}
use Rattle.flash.proofs.Image.{program-other}

-- each write goes below s
abbrev pub Below : ℕ → List Write → Type 0
Below s [] = Unit {0}
Below s (w ∷ ws) = (w.at < s) × Below s ws

pub below_at : (s : ℕ) (ws : List Write) (q : ℕ) (d : Write) → Below s ws → q < length ws → (get_or ws q d).at < s
below_at s [] q d b h = absurd (omega arith)
below_at s (w ∷ ws) zero d (a, b) h = a
below_at s (w ∷ ws) (suc q) d (a, b) h = below_at s ws q d b (omega arith)

pub below_more : (s m : ℕ) (ws : List Write) → s ≤ m → Below s ws → Below m ws
below_more s m [] h b = tt
below_more s m (w ∷ ws) h (a, b) = (omega arith, below_more s m ws h b)

pub below-append : (s : ℕ) (xs ys : List Write) → Below s xs → Below s ys → Below s (xs ++ ys)
below-append s [] ys a b = b
below-append s (x ∷ xs) ys (h, a) b = (h, below-append s xs ys a b)

pub below-writes : (s o : ℕ) (bs : List ℕ) → o + length bs ≤ s → Below s (writes o bs)
unfolding writes
below-writes s o [] h = tt
below-writes s o (b ∷ bs) h = (omega arith, below-writes s (suc o) bs (omega arith))

-- each writes a byte
abbrev pub Given : List Write → Type 0
Given [] = Unit {0}
Given (w ∷ ws) = (w.byte < 256) × Given ws

pub given_at : (ws : List Write) (q : ℕ) (d : Write) → Given ws → q < length ws → (get_or ws q d).byte < 256
given_at [] q d b h = absurd (omega arith)
given_at (w ∷ ws) zero d (a, b) h = a
given_at (w ∷ ws) (suc q) d (a, b) h = given_at ws q d b (omega arith)

pub given_append : (xs ys : List Write) → Given xs → Given ys → Given (xs ++ ys)
given_append [] ys a b = b
given_append (x ∷ xs) ys (h, a) b = (h, given_append xs ys a b)

pub given_writes : (o : ℕ) (bs : List ℕ) → Bytes bs → Given (writes o bs)
unfolding writes
given_writes o [] b = tt
given_writes o (x ∷ bs) (h, b) = (h, given_writes (suc o) bs b)

-- none goes to offset o
abbrev pub Off : ℕ → List Write → Type 0
Off o [] = Unit {0}
Off o (w ∷ ws) = (w.at ≡ o → ⊥) × Off o ws

pub off-append : (o : ℕ) (xs ys : List Write) → Off o xs → Off o ys → Off o (xs ++ ys)
off-append o [] ys a b = b
off-append o (x ∷ xs) ys (h, a) b = (h, off-append o xs ys a b)

pub off-take : (o q : ℕ) (ws : List Write) → Off o ws → Off o (take q ws)
off-take o zero ws a = tt
off-take o (suc q) [] a = tt
off-take o (suc q) (w ∷ ws) (h, a) = (h, off-take o q ws a)

-- offsets past all writes, and before a stretch
pub off-below : (o : ℕ) (ws : List Write) → Below o ws → Off o ws
off-below o [] b = tt
off-below o (w ∷ ws) (h, b) = ((λ e. omega arith), off-below o ws b)

pub off-writes : (p o : ℕ) (bs : List ℕ) → p < o → Off p (writes o bs)
unfolding writes
off-writes p o [] h = tt
off-writes p o (b ∷ bs) h = ((λ e. omega arith), off-writes p (suc o) bs (omega arith))

pub untouched : (o : ℕ) (l : List ℕ) (ws : List Write) → Off o ws → get_or (write_all l ws) o 0 ≡ get_or l o 0
unfolding write_all
untouched o l [] a = refl
untouched o l (w ∷ ws) (h, a) = untouched o (program_at l w.at w.byte) ws a ∙ program-other l w.at w.byte o (λ e. h (sym e))

-- no two go to one offset
abbrev pub Fresh : List Write → Type 0
Fresh [] = Unit {0}
Fresh (w ∷ ws) = Off w.at ws × Fresh ws

off_at : (o : ℕ) (ws : List Write) (q : ℕ) (d : Write) → Off o ws → q < length ws → (get_or ws q d).at ≡ o → ⊥
off_at o [] q d a h = absurd (omega arith)
off_at o (w ∷ ws) zero d (n, a) h = n
off_at o (w ∷ ws) (suc q) d (n, a) h = off_at o ws q d a (omega arith)

-- the writes before write number q don't go where it goes
pub fresh_at : (ws : List Write) (q : ℕ) (d : Write) → Fresh ws → q < length ws → Off (get_or ws q d).at (take q ws)
fresh_at [] q d f h = absurd (omega arith)
fresh_at (w ∷ ws) zero d (a, f) h = tt
fresh_at (w ∷ ws) (suc q) d (a, f) h = ((λ e. off_at w.at ws q d a (omega arith) (sym e)), fresh_at ws q d f (omega arith))

-- a stretch from o on, and then writes below it
pub fresh-writes : (o : ℕ) (bs : List ℕ) (ws : List Write) → Below o ws → Fresh ws → Fresh (writes o bs ++ ws)
unfolding writes
fresh-writes o [] ws b f = f
fresh-writes o (x ∷ bs) ws b f = (
  off-append o (writes (suc o) bs) ws (off-writes o (suc o) bs (omega arith)) (off-below o ws b),
  fresh-writes (suc o) bs ws
      (below_more o (suc o) ws (omega arith) b) f,
)

pub fresh-stretch : (o : ℕ) (bs : List ℕ) → Fresh (writes o bs)
unfolding writes
fresh-stretch o [] = tt
fresh-stretch o (x ∷ bs) = (off-writes o (suc o) bs (omega arith), fresh-stretch (suc o) bs)

-- a fresh write meets 0xFF
pub fresh_ff : (s : ℕ) (ws : List Write) (q : ℕ) (d : Write) → Fresh ws → Below s ws → q < length ws
    → get_or (write_all (replicate s 255) (take q ws)) (get_or ws q d).at 0 ≡ 255
fresh_ff s ws q d f b h =
    untouched (get_or ws q d).at (replicate s 255) (take q ws) (fresh_at ws q d f h) ∙ get_or-replicate s (get_or ws q d).at 255 0 (below_at s ws q d b h)
