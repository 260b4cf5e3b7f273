-- Bits that rise: a programmed byte raises none, an erase of a valid block does.
use mathlib.Core.Path.{◌≡◌, refl, sym, ap, subst, ◌∙◌}
use mathlib.Core.List.{List, [], ◌∷◌}
use mathlib.Core.Bool.{true, false, not, ◌||◌, false≢true}
use Prim.Native.Nat.{ℕ, zero, suc, ◌+◌, ◌*◌, ◌≤◌, ◌<◌}
use native.Mathlib.Nat.{suc_inj}
use native.Mathlib.Omega.{arith}
use lib.Bits.{bit_and, and_self}
use lib.Dec.{eqb}
use lib.ListN.{length, get_or, drop, get_or-replicate}
use lib.Seq.{get_or-take, get_or-drop}
use borrow.Author.Tests.{eq-eqb, ne_eqb, eqb-false}
use Rattle.flash.specs.Bytes.{Bytes}
use Rattle.flash.specs.Flash.{program_at, block, erase_block}
use Rattle.flash.proofs.Cases.{on_test}
use Rattle.flash.proofs.Blank.{byte_at}
use Rattle.flash.proofs.Image.{length-erase, block-erase}
use Rattle.flash.proofs.Programming.{and_ff}
use Rattle.journal.specs.Block.{Journal, state_at, valid_data}
use Rattle.journal.specs.Sentences.{ValidBlock}
use Rattle.board.specs.Endurance.{rose, RoseExact}
use Rattle.board.proofs.Clearing.{program-clears}

none-rose : (before after : List ℕ) → ((i : ℕ) → bit_and (get_or after i 0) (get_or before i 0) ≡ get_or after i 0) → rose before after ≡ false
unfolding rose
none-rose [] after f = refl
none-rose (b ∷ before) [] f = refl
none-rose (b ∷ before) (a ∷ after) f = rw (eq-eqb (bit_and a b) a (f 0)) (none-rose before after (λ i. f (suc i)))

where_rose : (before after : List ℕ) → rose before after ≡ true → (i : ℕ) × (bit_and (get_or after i 0) (get_or before i 0) ≡ get_or after i 0 → ⊥)
unfolding rose
where_rose [] after e = absurd (false≢true e)
where_rose (b ∷ before) [] e = absurd (false≢true e)
where_rose (b ∷ before) (a ∷ after) e =
    on_test (eqb (bit_and a b) a)
    (λ t. let w = where_rose before after (subst (λ k. not k || rose before after ≡ true) t e) in (suc w.0, w.1))
    (λ t. (0, eqb-false (bit_and a b) a t))

one-rose : (i : ℕ) (before after : List ℕ) → length before ≡ length after → (bit_and (get_or after i 0) (get_or before i 0) ≡ get_or after i 0 → ⊥)
    → rose before after ≡ true
unfolding rose
one-rose i [] [] l n = absurd (n refl)
one-rose i [] (a ∷ after) l n = absurd (omega (arith, l))
one-rose i (b ∷ before) [] l n = absurd (omega (arith, l))
one-rose zero (b ∷ before) (a ∷ after) l n = rw (ne_eqb (bit_and a b) a n) refl
one-rose (suc i) (b ∷ before) (a ∷ after) l n =
    on_test (eqb (bit_and a b) a) (λ t. rw t (one-rose i before after (suc_inj l) n)) (λ t. rw t refl)

pub rose-exact : RoseExact
unfolding RoseExact
rose-exact before after l = (where_rose before after, λ w. one-rose w.0 before after l w.1)

pub same-rose : (img : List ℕ) → rose img img ≡ false
same-rose img = none-rose img img (λ i. and_self (get_or img i 0))

pub program-rose : (img : List ℕ) (i v : ℕ) → rose img (program_at img i v) ≡ false
program-rose img i v = none-rose img (program_at img i v) (program-clears img i v)

-- a block with some byte that isn't 0xFF
erase-rose : (s k o : ℕ) (img : List ℕ) → Bytes img → k * s + s ≤ length img → o < s → (get_or (block s k img) o 0 ≡ 255 → ⊥)
    → rose img (erase_block s k img) ≡ true
erase-rose s k o img by h l n =
    let at : (b : List ℕ) → get_or (block s k b) o 0 ≡ get_or b (k * s + o) 0 = λ b. get_or-take s (drop (k * s) b) o 0 l ∙ get_or-drop (k * s) b o 0 in
    let up : get_or (erase_block s k img) (k * s + o) 0 ≡ 255 =
    sym (at (erase_block s k img)) ∙ ap (λ (b : List ℕ). get_or b o 0) (block-erase s k img h) ∙ get_or-replicate s o 255 0 l in
    one-rose (k * s + o) img (erase_block s k img) (sym (length-erase s k img))
    (λ e. n (at img ∙ sym (and_ff (get_or img (k * s + o) 0) (byte_at img (k * s + o) by))
    ∙ ap (λ (v : ℕ). bit_and v (get_or img (k * s + o) 0)) (sym up) ∙ e ∙ up))

-- a valid one has 0xFC in byte 8
valid-byte : (b : List ℕ) (x : Journal) → ValidBlock b x → get_or b state_at 0 ≡ valid_data
valid-byte b x v = ap (λ (l : List ℕ). get_or l state_at 0) v.bytes

pub valid-rose : (s k : ℕ) (img : List ℕ) (x : Journal) → Bytes img → k * s + s ≤ length img → state_at < s → ValidBlock (block s k img) x
    → rose img (erase_block s k img) ≡ true
valid-rose s k img x by h l v = erase-rose s k state_at img by h l (λ e. let w = valid-byte (block s k img) x v in omega (arith, e, w))
