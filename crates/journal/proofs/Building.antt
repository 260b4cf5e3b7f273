-- How a block is built: what each write of `build` meets, and what the block reads as meanwhile and after.
use mathlib.Core.Path.{◌≡◌, refl, sym, ap, subst, subst₂, ◌∙◌}
use mathlib.Core.List.{List, [], ◌∷◌, ◌++◌, append_assoc, append-nil}
use mathlib.Core.Logic.{◌⊎◌, inl, inr}
use Prim.Native.Nat.{ℕ, zero, suc, ◌+◌, ◌-◌, ◌/◌, ◌%◌, ◌≤◌, ◌<◌}
use native.Mathlib.Omega.{arith}
use lib.Bits.{bit_and}
use lib.Dec.{ltb}
use lib.ListN.{length, get_or, take, replicate, length-append, length-replicate, get_or-replicate, replicate-append-replicate, get_or-append, get_or-eq_default}
use lib.Seq.{take-append-le, get_or_at}
use borrow.Author.Tests.{ltb-true, ltb-false}
use Rattle.flash.specs.Bytes.{Bytes, u16le, u32le}
use Rattle.flash.specs.Flash.{program_at, Write, write, writes, write_all}
use Rattle.flash.proofs.Cases.{on_test}
use Rattle.flash.proofs.Blank.{bytes_u32}
use Rattle.flash.proofs.Programming.{and_ff, write_bytes, write-append, length-write, length-writes}
use Rattle.flash.proofs.Image.{program-same}
use Rattle.flash.proofs.Offsets.{Below, off-below, below-append, below-writes, Given, given_append, given_writes, given_at, Off, off-append}
use Rattle.flash.proofs.Offsets.{off-take, off-writes, untouched, Fresh, fresh-writes, fresh-stretch, fresh_ff}
use Rattle.frame.specs.declared.Edition.{Edition}
use Rattle.frame.specs.declared.Edition.TheVariants as edition
use Rattle.frame.specs.Frame.{Frame, encode_all, total, AllMayStand, next_of}
use Rattle.frame.specs.Reader.{clean, cut}
use Rattle.frame.proofs.Encode.{bytes-all, length-all}
use Rattle.frame.proofs.Scanning.{scan-blank}
use Rattle.journal.specs.Block.{header_len, header_kind, last_time, state_at, in_transfer, valid_data, header, Journal, journal, in_progress, valid}
use Rattle.journal.specs.Block.{block_state, open_writes, seal_writes, build}
use Rattle.journal.proofs.Blocks.{Layout, valid-block, progress-block}

-- ---- the writes

-- all but the first and the last of them, which go to the state byte
abbrev middle : (ed : Edition) → ℕ → List Frame → List Write
middle ed t fs = writes 0 (u16le header_len ++ u16le (header_kind ed)) ++ (writes header_len (encode_all ed fs) ++ writes 4 (u32le (last_time - t)))

abbrev unsealed : (ed : Edition) → ℕ → List Frame → List Write
unsealed ed t fs = write state_at in_transfer ∷ middle ed t fs

abbrev seal : List Write
seal = write state_at valid_data ∷ []

build-is : (ed : Edition) (t : ℕ) (fs : List Frame) → build ed t fs ≡ unsealed ed t fs ++ seal
unfolding writes
build-is ed t fs = simp append_assoc

length-unsealed : (ed : Edition) (t : ℕ) (fs : List Frame) → length (unsealed ed t fs) ≡ 9 + total ed fs
unfolding writes
length-unsealed ed t fs =
    omega (
      arith,
      length-append (writes header_len (encode_all ed fs)) (writes 4 (u32le (last_time - t))),
      length-writes header_len (encode_all ed fs),
      length-all ed fs,
    )

pub length-build : (ed : Edition) (t : ℕ) (fs : List Frame) → length (build ed t fs) ≡ 10 + total ed fs
length-build ed t fs = ap length (build-is ed t fs) ∙ length-append (unsealed ed t fs) seal ∙ omega (arith, length-unsealed ed t fs)

below-unsealed : (ed : Edition) (s t : ℕ) (fs : List Frame) → header_len + total ed fs ≤ s → Below s (unsealed ed t fs)
unfolding writes
below-unsealed ed s t fs h = (
  omega arith,
  (
    omega arith,
    (
      omega arith,
      (
        omega arith,
        (
          omega arith,
          below-append s (writes header_len (encode_all ed fs)) (writes 4 (u32le (last_time - t)))
              (below-writes s header_len (encode_all ed fs) (omega (arith, length-all ed fs))) (omega arith, (omega arith, (omega arith, (omega arith, tt)))),
        ),
      ),
    ),
  ),
)

pub below-build : (ed : Edition) (s t : ℕ) (fs : List Frame) → header_len + total ed fs ≤ s → Below s (build ed t fs)
below-build ed s t fs h =
    subst (Below s) (sym (build-is ed t fs)) (below-append s (unsealed ed t fs) seal (below-unsealed ed s t fs h) (omega arith, tt))

kind-small : (ed : Edition) → header_kind ed < 65536
kind-small edition.First = omega arith
kind-small edition.Second = omega arith

given_unsealed : (ed : Edition) (t : ℕ) (fs : List Frame) → AllMayStand ed 0 fs → Given (unsealed ed t fs)
unfolding writes
given_unsealed ed t fs g = (
  omega arith,
  (
    omega arith,
    (
      omega arith,
      (
        omega arith,
        (
          omega (arith, kind-small ed),
          given_append (writes header_len (encode_all ed fs)) (writes 4 (u32le (last_time - t)))
              (given_writes header_len (encode_all ed fs) (bytes-all ed 0 fs g)) (given_writes 4 (u32le (last_time - t)) (bytes_u32 (last_time - t) (omega arith))),
        ),
      ),
    ),
  ),
)

-- an offset of the header that isn't one of the time's
off_rest : (ed : Edition) (p t : ℕ) (fs : List Frame) → p < header_len → (p < 4) ⊎ (7 < p)
    → Off p (writes header_len (encode_all ed fs) ++ writes 4 (u32le (last_time - t)))
off_rest ed p t fs h c = off-append p (writes header_len (encode_all ed fs)) (writes 4 (u32le (last_time - t))) (off-writes p header_len (encode_all ed fs) h) (go c)
  where
    go : (p < 4) ⊎ (7 < p) → Off p (writes 4 (u32le (last_time - t)))
    go (inl a) = off-writes p 4 (u32le (last_time - t)) a
    go (inr a) = off-below p (writes 4 (u32le (last_time - t))) (below-writes p 4 (u32le (last_time - t)) (omega arith))

fresh-unsealed : (ed : Edition) (t : ℕ) (fs : List Frame) → Fresh (unsealed ed t fs)
unfolding writes
fresh-unsealed ed t fs = (
  (omega arith, (omega arith, (omega arith, (omega arith, off_rest ed 8 t fs (omega arith) (inr (omega arith)))))),
  (
    (omega arith, (omega arith, (omega arith, off_rest ed 0 t fs (omega arith) (inl (omega arith))))),
    (
      (omega arith, (omega arith, off_rest ed 1 t fs (omega arith) (inl (omega arith)))),
      (
        (omega arith, off_rest ed 2 t fs (omega arith) (inl (omega arith))),
        (
          off_rest ed 3 t fs (omega arith) (inl (omega arith)),
          fresh-writes header_len (encode_all ed fs) (writes 4 (u32le (last_time - t)))
              (below-writes header_len 4 (u32le (last_time - t)) (omega arith)) (fresh-stretch 4 (u32le (last_time - t))),
        ),
      ),
    ),
  ),
)

off-middle : (ed : Edition) (t : ℕ) (fs : List Frame) → Off state_at (middle ed t fs)
off-middle ed t fs = (fresh-unsealed ed t fs).0

-- ---- all of them written

-- the header of a block whose writes have just begun, up to its time, and past it
abbrev opening : Edition → List ℕ
opening ed = 16 ∷ 0 ∷ header_kind ed % 256 ∷ header_kind ed / 256 ∷ []

abbrev opened : Edition → List ℕ
opened ed = opening ed ++ (255 ∷ 255 ∷ 255 ∷ 255 ∷ in_transfer ∷ 255 ∷ 255 ∷ 255 ∷ 255 ∷ 255 ∷ 255 ∷ 255 ∷ [])

open_on : (ed : Edition) (l : List ℕ) → write_all (replicate 16 255 ++ l) (open_writes ed) ≡ opened ed ++ l
unfolding write_all writes
open_on edition.First l = refl
open_on edition.Second l = refl

built-on : (ed : Edition) (t m : ℕ) (fs : List Frame) → Bytes (encode_all ed fs)
    → write_all (replicate 16 255 ++ replicate (length (encode_all ed fs) + m) 255) (build ed t fs)
    ≡ header ed t valid_data ++ (encode_all ed fs ++ replicate m 255)
unfolding write_all writes
built-on ed t m fs b =
    let ff : List ℕ = replicate (length (encode_all ed fs) + m) 255 in
    let u : List ℕ = u32le (last_time - t) in
    let p : List ℕ = opened ed in
    let q : List ℕ = encode_all ed fs ++ replicate m 255 in
    let r : List ℕ = in_transfer ∷ 255 ∷ 255 ∷ 255 ∷ 255 ∷ 255 ∷ 255 ∷ 255 ∷ q in
    let frames : write_all (p ++ ff) (writes header_len (encode_all ed fs)) ≡ p ++ q =
    simp append-nil at (write_bytes header_len p [] m (encode_all ed fs) refl b) in
    let time : write_all (p ++ q) (writes 4 u) ≡ opening ed ++ (u ++ r) =
    write_bytes 4 (opening ed) r 0 u refl (bytes_u32 (last_time - t) (omega arith)) in
    write-append (replicate 16 255 ++ ff) (open_writes ed) (writes header_len (encode_all ed fs) ++ seal_writes t)
    ∙ ap (λ (y : List ℕ). write_all y (writes header_len (encode_all ed fs) ++ seal_writes t)) (open_on ed ff)
    ∙ write-append (p ++ ff) (writes header_len (encode_all ed fs)) (seal_writes t) ∙ ap (λ (y : List ℕ). write_all y (seal_writes t)) frames
    ∙ write-append (p ++ q) (writes 4 u) seal ∙ ap (λ (y : List ℕ). write_all y seal) time

pub built : (ed : Edition) (s t : ℕ) (fs : List Frame) → header_len + total ed fs ≤ s → AllMayStand ed 0 fs
    → write_all (replicate s 255) (build ed t fs) ≡ header ed t valid_data ++ (encode_all ed fs ++ replicate (s - (header_len + total ed fs)) 255)
built ed s t fs h g =
    let m : ℕ = s - (header_len + total ed fs) in
    let n : ℕ = length (encode_all ed fs) + m in
    let e : s ≡ 16 + n = omega (arith, length-all ed fs) in
    ap (λ (x : List ℕ). write_all x (build ed t fs)) (ap (λ (k : ℕ). replicate k 255) e ∙ sym (replicate-append-replicate 16 n 255))
    ∙ built-on ed t m fs (bytes-all ed 0 fs g)

pub made : (ed : Edition) (s t : ℕ) (fs : List Frame) → header_len + total ed fs ≤ s → AllMayStand ed 0 fs → 0 < t → t ≤ last_time
    → Layout s (write_all (replicate s 255) (build ed t fs)) (journal ed t fs clean) (replicate (s - (header_len + total ed fs)) 255)
made ed s t fs h g lo hi =
    record { is = built ed s t fs h g; stands = g; time_lo = lo; time_hi = hi; size = length-write (replicate s 255) (build ed t fs) ∙ length-replicate s 255 }

pub made-valid : (ed : Edition) (s t : ℕ) (fs : List Frame) → header_len + total ed fs ≤ s → AllMayStand ed 0 fs → 0 < t → t ≤ last_time
    → block_state (write_all (replicate s 255) (build ed t fs)) ≡ valid (journal ed t fs clean)
made-valid ed s t fs h g lo hi =
    valid-block (journal ed t fs clean) (made ed s t fs h g lo hi) (scan-blank ed (next_of 0 fs) (header_len + total ed fs) (s - (header_len + total ed fs))) tt

-- ---- some of them written

-- the state byte after the first write and some of the middle
marked : (ed : Edition) (s t q : ℕ) (fs : List Frame) → header_len + total ed fs ≤ s
    → get_or (write_all (replicate s 255) (take (suc q) (unsealed ed t fs))) state_at 0 ≡ in_transfer
unfolding write_all
marked ed s t q fs h =
    let ff : List ℕ = replicate s 255 in
    untouched state_at (program_at ff state_at in_transfer) (take q (middle ed t fs)) (off-take state_at q (middle ed t fs) (off-middle ed t fs))
    ∙ program-same ff state_at in_transfer ∙ ap (λ (x : ℕ). bit_and x in_transfer) (get_or-replicate s state_at 255 0 (omega arith))

take-build : (ed : Edition) (t q : ℕ) (fs : List Frame) → q < length (build ed t fs) → take q (build ed t fs) ≡ take q (unsealed ed t fs)
take-build ed t q fs h =
    ap (take q) (build-is ed t fs) ∙ take-append-le q (unsealed ed t fs) seal (omega (arith, length-build ed t fs, length-unsealed ed t fs))

pub making : (ed : Edition) (s t q : ℕ) (fs : List Frame) → header_len + total ed fs ≤ s → 1 ≤ q → q < length (build ed t fs)
    → block_state (write_all (replicate s 255) (take q (build ed t fs))) ≡ in_progress
making ed s t zero fs h p l = absurd (omega arith)
making ed s t (suc q) fs h p l =
    let n = length-write (replicate s 255) (take (suc q) (unsealed ed t fs)) ∙ length-replicate s 255 in
    ap (λ (ws : List Write). block_state (write_all (replicate s 255) ws)) (take-build ed t (suc q) fs l)
    ∙ progress-block (write_all (replicate s 255) (take (suc q) (unsealed ed t fs))) (omega arith) (marked ed s t q fs h)

-- a write of 0 to the kind's low byte of a torn frame
pub record ClosesKind (l : List ℕ) (w : Write) : Type 0 where
  pub journal : Journal
  pub long : ℕ
  pub is-valid : block_state l ≡ valid journal
  pub is-torn : journal.tail ≡ cut long
  pub at_kind : w.at ≡ header_len + total journal.edition journal.frames + 2
  pub to_zero : w.byte ≡ 0

-- a write that meets 0xFF, or the state byte's 0xFE, or closes a frame, and leaves the byte that it gives
pub record Lands (l : List ℕ) (w : Write) : Type 0 where
  pub inside : w.at < length l
  pub before : (get_or l w.at 0 ≡ 255) ⊎ (((w.at ≡ state_at) × (get_or l w.at 0 ≡ in_transfer)) ⊎ ClosesKind l w)
  pub after : get_or (program_at l w.at w.byte) w.at 0 ≡ w.byte

-- a byte that isn't 0 lies in the list
some-inside : (l : List ℕ) (i : ℕ) → 0 < get_or l i 0 → i < length l
some-inside l i h =
    on_test (ltb i (length l)) (ltb-true i (length l))
    (λ t. let e : get_or l i 0 ≡ 0 = get_or-eq_default l 0 (ltb-false i (length l) t) in absurd (omega arith))

-- where 0xFF stands every byte lands
pub lands_ff : (l : List ℕ) (w : Write) → w.byte < 256 → get_or l w.at 0 ≡ 255 → Lands l w
lands_ff l w h was =
    record {
      inside = some-inside l w.at (omega arith);
      before = inl was;
      after = program-same l w.at w.byte ∙ ap (λ (x : ℕ). bit_and x w.byte) was ∙ and_ff w.byte h;
    }

pub lands : (ed : Edition) (s t q : ℕ) (fs : List Frame) (d : Write) → header_len + total ed fs ≤ s → AllMayStand ed 0 fs → q < length (build ed t fs)
    → Lands (write_all (replicate s 255) (take q (build ed t fs))) (get_or (build ed t fs) q d)
lands ed s t q fs d h g l =
    on_test (ltb q (length (unsealed ed t fs)))
    (λ e. early (ltb-true q (length (unsealed ed t fs)) e))
    (λ e. last (omega (arith, ltb-false q (length (unsealed ed t fs)) e, length-build ed t fs, length-unsealed ed t fs)))
  where
    ws : List Write
    ws = unsealed ed t fs

    -- the same of the writes up to the seal
    over : (w : Write) → get_or (build ed t fs) q d ≡ w → Lands (write_all (replicate s 255) (take q ws)) w
        → Lands (write_all (replicate s 255) (take q (build ed t fs))) (get_or (build ed t fs) q d)
    over w e x =
        subst₂ Lands (ap (write_all (replicate s 255)) (sym (take-build ed t q fs l))) (sym e) x

    early : q < length (unsealed ed t fs) → Lands (write_all (replicate s 255) (take q (build ed t fs))) (get_or (build ed t fs) q d)
    early k =
        let w : Write = get_or ws q d in
        let was = fresh_ff s ws q d (fresh-unsealed ed t fs) (below-unsealed ed s t fs h) k in
        over w (ap (λ (x : List Write). get_or x q d) (build-is ed t fs) ∙ get_or-append ws seal d q k)
        (lands_ff (write_all (replicate s 255) (take q ws)) w (given_at ws q d (given_unsealed ed t fs g) k) was)

    last : q ≡ length (unsealed ed t fs) → Lands (write_all (replicate s 255) (take q (build ed t fs))) (get_or (build ed t fs) q d)
    last k =
        let x : List ℕ = write_all (replicate s 255) (take q ws) in
        let was : get_or x state_at 0 ≡ in_transfer =
        ap (λ (n : ℕ). get_or (write_all (replicate s 255) (take n ws)) state_at 0) k ∙ marked ed s t (length (middle ed t fs)) fs h in
        over (write state_at valid_data) (ap (λ (y : List Write). get_or y q d) (build-is ed t fs) ∙ get_or_at ws (write state_at valid_data) [] d q (sym k))
        (record {
          inside = some-inside x state_at (omega arith);
          before = inr (inl (refl, was));
          after = program-same x state_at valid_data ∙ ap (λ (n : ℕ). bit_and n valid_data) was;
        })

-- ---- each by its number
