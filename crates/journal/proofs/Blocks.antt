-- What each shape of a block reads as.
use mathlib.Core.Path.{◌≡◌, refl, ap, ap₂, ◌∙◌}
use mathlib.Core.List.{List, ◌++◌}
use mathlib.Core.Option.{none}
use mathlib.Core.Bool.{true, false}
use Prim.Native.Nat.{ℕ, ◌+◌, ◌-◌, ◌≤◌, ◌<◌}
use native.Mathlib.Omega.{arith}
use lib.Dec.{eqb}
use lib.ListN.{length, get_or, take, drop, replicate, length-append}
use borrow.Author.Tests.{ne_eqb}
use Rattle.flash.specs.Bytes.{u16le, all_ff, same_bytes_of}
use Rattle.flash.proofs.Blank.{all_ff-no, all_ff-all, all_ff-at, same_refl, le32_u32}
use Rattle.frame.specs.declared.Edition.{Edition}
use Rattle.frame.specs.declared.Edition.TheVariants as edition
use Rattle.frame.specs.Frame.{encode_all, total, AllMayStand, next_of}
use Rattle.frame.specs.Reader.{Tail, clean, cut, bad, Scan, scan, ends}
use Rattle.frame.proofs.Encode.{length-all}
use Rattle.frame.proofs.Scanning.{scan_with}
use Rattle.journal.specs.Block.{header_len, header_kind, last_time, state_at, in_transfer, valid_data, header, created_at, edition_in, header_fault}
use Rattle.journal.specs.Block.{Journal, journal, blank, in_progress, valid, of_tail, of_journal, block_state}

-- a block of s bytes: header, frames, and what follows them
pub record Layout (s : ℕ) (b : List ℕ) (j : Journal) (rest : List ℕ) : Type 0 where
  pub is : b ≡ header j.edition j.time valid_data ++ (encode_all j.edition j.frames ++ rest)
  pub stands : AllMayStand j.edition 0 j.frames
  pub time_lo : 0 < j.time
  pub time_hi : j.time ≤ last_time
  pub size : length b ≡ s

pub layout-size : {s : ℕ} {b : List ℕ} {j : Journal} {rest : List ℕ} → Layout s b j rest → s ≡ header_len + total j.edition j.frames + length rest
layout-size {s} {b} {j} {rest} y =
    let e : length b ≡ header_len + length (encode_all j.edition j.frames ++ rest) = ap length y.is ∙ omega arith in
    omega (arith, y.size, length-append (encode_all j.edition j.frames) rest, length-all j.edition j.frames)

-- ---- the header

-- a header without fault is this
pub record Header (b : List ℕ) : Type 0 where
  pub long : same_bytes_of (take 2 b) (u16le header_len) ≡ true
  pub kind : same_bytes_of (take 2 (drop 2 b)) (u16le (header_kind (edition_in b))) ≡ true
  pub created : eqb (created_at b) 0 ≡ false
  pub state : eqb (get_or b state_at 0) valid_data ≡ true
  pub spare : all_ff (take 7 (drop 9 b)) ≡ true

header-none : (b : List ℕ) → Header b → header_fault b ≡ none
unfolding header_fault
header-none b h = rw (h.long, h.kind, h.created, h.state, h.spare, header_fault)

-- the kind tells the edition
pub edition-back : (ed : Edition) (t mark : ℕ) (rest : List ℕ) → edition_in (header ed t mark ++ rest) ≡ ed
unfolding edition_in same_bytes_of
edition-back edition.First t mark rest = refl
edition-back edition.Second t mark rest = refl

pub time-back : (ed : Edition) (t mark : ℕ) (rest : List ℕ) → t ≤ last_time → created_at (header ed t mark ++ rest) ≡ t
time-back ed t mark rest h = ap (λ (x : ℕ). last_time - x) (le32_u32 (last_time - t)) ∙ omega arith

header_is : (ed : Edition) (t : ℕ) (rest : List ℕ) → 0 < t → t ≤ last_time → Header (header ed t valid_data ++ rest)
header_is ed t rest lo hi =
    record {
      long = same_refl (u16le header_len);
      kind = ap (λ (x : Edition). same_bytes_of (u16le (header_kind ed)) (u16le (header_kind x))) (edition-back ed t valid_data rest)
          ∙ same_refl (u16le (header_kind ed));
      created = ap (λ (x : ℕ). eqb x 0) (time-back ed t valid_data rest hi) ∙ ne_eqb t 0 (omega arith);
      state = refl;
      spare = all_ff-all 7;
    }

-- ---- valid

-- a valid block's tail
abbrev pub Okay : Tail → Type 0
Okay clean = Unit {0}
Okay (cut n) = Unit {0}
Okay (bad e) = ⊥

okay-tail : (j : Journal) (c : Tail) → Okay c → of_tail j c ≡ valid j
okay-tail j clean o = refl
okay-tail j (cut n) o = refl
okay-tail j (bad e) o = absurd o

-- past its header
abbrev pub scan_of : List ℕ → Edition → Scan
scan_of b ed = scan ed 0 header_len 0 (drop header_len b)

abbrev pub scanned : Edition → ℕ → Scan → Journal
scanned ed t s = journal ed t s.frames s.tail

valid-step : (b : List ℕ) → all_ff b ≡ false → eqb (get_or b state_at 0) in_transfer ≡ false → header_fault b ≡ none
    → block_state b ≡ of_journal (scanned (edition_in b) (created_at b) (scan_of b (edition_in b)))
unfolding block_state
valid-step b p q e = rw (p, q, e, block_state)

-- a right header and frames, whatever follows them
pub headed-block : {s : ℕ} {b rest : List ℕ} (j : Journal) → Layout s b j rest
    → scan j.edition (next_of 0 j.frames) (header_len + total j.edition j.frames) 0 rest ≡ ends j.tail → block_state b ≡ of_journal j
headed-block {s} {b} {rest} j y reads =
    let h : List ℕ = header j.edition j.time valid_data in
    let r : List ℕ = encode_all j.edition j.frames ++ rest in
    ap block_state y.is
    ∙ valid-step (h ++ r) (all_ff-no header_len _ (omega arith)) refl (header-none (h ++ r) (header_is j.edition j.time r y.time_lo y.time_hi))
    ∙ ap₂ (λ (ed : Edition) (t : ℕ). of_journal (scanned ed t (scan_of (h ++ r) ed))) (edition-back j.edition j.time valid_data r)
    (time-back j.edition j.time valid_data r y.time_hi)
    ∙ ap (λ (s : Scan). of_journal (scanned j.edition j.time s)) (scan_with j.edition 0 header_len j.frames rest j.tail y.stands reads)

pub valid-block : {s : ℕ} {b rest : List ℕ} (j : Journal) → Layout s b j rest
    → scan j.edition (next_of 0 j.frames) (header_len + total j.edition j.frames) 0 rest ≡ ends j.tail → Okay j.tail → block_state b ≡ valid j
valid-block j y reads o = headed-block j y reads ∙ okay-tail j j.tail o

-- ---- blank and in progress

pub blank-block : (s : ℕ) → block_state (replicate s 255) ≡ blank
unfolding block_state
blank-block s = rw (all_ff-all s, block_state)

pub progress-block : (b : List ℕ) → state_at < length b → get_or b state_at 0 ≡ in_transfer → block_state b ≡ in_progress
unfolding block_state
progress-block b l e = rw (all_ff-at b state_at l (omega arith), e, block_state)
