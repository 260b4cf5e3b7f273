-- A half whose erase was cut never looks newer, and one beside a newer one stays harmless.
use mathlib.Core.Path.{◌≡◌, refl, sym, ap, ◌∙◌}
use mathlib.Core.List.{List}
use mathlib.Core.Logic.{◌⊎◌, inl, inr}
use Prim.Native.Nat.{ℕ, ◌+◌, ◌%◌, ◌≤◌, ◌<◌}
use native.Mathlib.Omega.{arith}
use lib.Bits.{bit_and}
use lib.ListN.{get_or, take, drop, replicate, get_or-replicate}
use lib.Seq.{get_or-take, get_or-drop}
use Rattle.flash.specs.Bytes.{u16le}
use Rattle.flash.specs.Raised.{Raised}
use Rattle.flash.proofs.Raising.{byte-up, low_bits}
use Rattle.frame.specs.declared.Edition.{Edition}
use Rattle.frame.specs.declared.Edition.TheVariants as edition
use Rattle.journal.specs.Block.{header_kind, state_at, time_at, in_transfer, created_at, Journal, in_progress, valid, block_state}
use Rattle.journal.specs.Sentences.{NeverNewer}
use Rattle.journal.proofs.States.{Stamped, valid_stamped}
use Rattle.journal.proofs.Sentences.{progress-is}

not-later : (old new : List ℕ) → Raised old new → created_at new ≤ created_at old
not-later old new r =
    omega (arith, byte-up old new time_at r, byte-up old new (time_at + 1) r, byte-up old new (time_at + 2) r, byte-up old new (time_at + 3) r)

-- the kind's low byte
low-kind : (b : List ℕ) (ed : Edition) → take 2 (drop 2 b) ≡ u16le (header_kind ed) → get_or b 2 0 ≡ header_kind ed % 256
low-kind b ed e = sym (get_or-drop 2 b 0 0) ∙ sym (get_or-take 2 (drop 2 b) 0 0 (omega arith)) ∙ ap (λ (l : List ℕ). get_or l 0 0) e

-- 1 and 2 have no bit in common
same_edition : (old new : List ℕ) (d ed : Edition) → Raised old new → take 2 (drop 2 old) ≡ u16le (header_kind d)
    → take 2 (drop 2 new) ≡ u16le (header_kind ed) → ed ≡ d
same_edition old new edition.First edition.First r p q = refl
same_edition old new edition.Second edition.Second r p q = refl
same_edition old new edition.First edition.Second r p q =
    let z : bit_and 2 1 ≡ 1 = rw (low-kind old edition.First p, low-kind new edition.Second q) at (r.bits 2) in absurd (omega arith)
same_edition old new edition.Second edition.First r p q =
    let z : bit_and 1 2 ≡ 2 = rw (low-kind old edition.Second p, low-kind new edition.First q) at (r.bits 2) in absurd (omega arith)

-- ---- beside a block of time t

-- one of the two low bits is in byte 8, or the creation time is smaller
abbrev pub Harmless : ℕ → List ℕ → Type 0
Harmless t b = (0 < get_or b state_at 0 % 4) ⊎ (created_at b < t)

-- whatever bits a cut erase raises
pub harmless_raised : (t : ℕ) (old new : List ℕ) → Raised old new → Harmless t old → Harmless t new
harmless_raised t old new r (inl h) = inl (low_bits old new state_at r h)
harmless_raised t old new r (inr h) = inr (omega (arith, not-later old new r))

-- it isn't valid with this time or a larger one
pub harmless_older : {t : ℕ} {j : Journal} (b : List ℕ) → Harmless t b → block_state b ≡ valid j → j.time < t
harmless_older b (inl h) e = let y : Stamped b _ _ = valid_stamped e in absurd (omega (arith, y.state))
harmless_older b (inr h) e = let y : Stamped b _ _ = valid_stamped e in omega (arith, y.created)

-- blank and half_made blocks are so, and an older valid one
pub blank_harmless : (s t : ℕ) (b : List ℕ) → state_at < s → b ≡ replicate s 255 → Harmless t b
blank_harmless s t b h e =
    let f : get_or b state_at 0 ≡ 255 = ap (λ (l : List ℕ). get_or l state_at 0) e ∙ get_or-replicate s state_at 255 0 h in inl (omega arith)

pub progress_harmless : (t : ℕ) (b : List ℕ) → block_state b ≡ in_progress → Harmless t b
progress_harmless t b e = let f : get_or b state_at 0 ≡ in_transfer = progress-is b e in inl (omega arith)

pub valid_harmless : {t : ℕ} {j : Journal} (b : List ℕ) → block_state b ≡ valid j → j.time < t → Harmless t b
valid_harmless b e h = let y : Stamped b _ _ = valid_stamped e in inr (omega (arith, y.created))

pub never-newer : NeverNewer
never-newer =
    record {
      of_valid = λ old new j i r p q. omega (arith, not-later old new r, (valid_stamped p).created, (valid_stamped q).created);
      same_edition = λ old new j i r p q. same_edition old new j.edition i.edition r (valid_stamped p).kind (valid_stamped q).kind;
      of_any = not-later;
      stays_out = λ old new j r h q. omega (arith, low_bits old new state_at r h, (valid_stamped q).state);
    }
