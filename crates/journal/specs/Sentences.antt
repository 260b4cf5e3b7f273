-- Document 01's sentence on the states of a half, and the statement that `block_state` says exactly this; document 02's, K4, on a half whose
-- erase was cut.
use Rattle.std.specs.Prelude.{List, [], ◌∷◌, ◌++◌, ◌↔◌, ◌≡◌, ℕ, ◌+◌, ◌%◌, ◌≤◌, ◌<◌, length, get_or, take}
use Rattle.flash.specs.Bytes.{Bytes}
use Rattle.flash.specs.Flash.{Write, write_all}
use Rattle.flash.specs.Raised.{Raised}
use Rattle.frame.specs.declared.Edition.{Edition}
use Rattle.frame.specs.declared.Fault.{Fault}
use Rattle.frame.specs.Frame.{closed, encode_all, total, AllMayStand, next_of}
use Rattle.frame.specs.Reader.{Tail, clean, cut, bad}
use Rattle.journal.specs.Faults.{FaultIn}
use Rattle.frame.specs.Sentences.{Blank, Torn}
use Rattle.journal.specs.Block.{header_len, last_time, state_at, in_transfer, valid_data, header, created_at}
use Rattle.journal.specs.Block.{Journal, journal, blank, in_progress, valid, foreign, block_state, close_writes}

-- "A half is blank if every byte is 0xFF"
abbrev pub BlankBlock : List ℕ → Type 0
BlankBlock b = Blank b

-- "in progress if byte 8 is 0xFE"
abbrev pub InProgressBlock : List ℕ → Type 0
InProgressBlock b = get_or b state_at 0 ≡ in_transfer

-- "a tail that is all 0xFF or torn": the bytes after the frames, up to the block's end
abbrev pub TailIs : Edition → ℕ → List ℕ → Tail → Type 0
TailIs ed next t clean = Blank t
TailIs ed next t (cut n) = Torn ed next t n
TailIs ed next t (bad e) = ⊥

-- "valid if byte 8 is 0xFC, the header is as above, and whole legal frames, the settled ones placed as said above, run to a tail that
-- is all 0xFF or torn"; `header` has 0xFC in byte 8
pub record ValidBlock (b : List ℕ) (j : Journal) : Type 0 where
  pub rest : List ℕ
  pub bytes : b ≡ header j.edition j.time valid_data ++ (encode_all j.edition j.frames ++ rest)
  pub time_lo : 1 ≤ j.time
  pub time_hi : j.time ≤ last_time
  pub frames : AllMayStand j.edition 0 j.frames
  pub tail : TailIs j.edition (next_of 0 j.frames) rest j.tail

-- "Any other half is foreign."
pub record ForeignBlock (b : List ℕ) : Type 0 where
  pub not_blank : BlankBlock b → ⊥
  pub not_in_progress : InProgressBlock b → ⊥
  pub not_valid : (j : Journal) → ValidBlock b j → ⊥

-- every block of bytes that has a header is blank, in progress, valid or foreign exactly as the sentence says; its state being one,
-- they exclude each other; a foreign one has the fault that document 02, K5, names
pub record StatesExact : Type 0 where
  pub is-blank : (b : List ℕ) → Bytes b → header_len ≤ length b → (block_state b ≡ blank) ↔ BlankBlock b
  pub is_in_progress : (b : List ℕ) → Bytes b → header_len ≤ length b → (block_state b ≡ in_progress) ↔ InProgressBlock b
  pub is-valid : (b : List ℕ) (j : Journal) → Bytes b → header_len ≤ length b → (block_state b ≡ valid j) ↔ ValidBlock b j
  pub is_foreign_at : (b : List ℕ) (e : Fault) → Bytes b → header_len ≤ length b → (block_state b ≡ foreign e) ↔ (ForeignBlock b × FaultIn b e)
  pub is-foreign : (b : List ℕ) → Bytes b → header_len ≤ length b → ((e : Fault) × (block_state b ≡ foreign e)) ↔ ForeignBlock b

-- K4: "A half-erased old half can still read as valid, but its inverted time has only gained ones, so it never looks newer; show that."
pub record NeverNewer : Type 0 where
  pub of_valid : (old new : List ℕ) (j i : Journal) → Raised old new → block_state old ≡ valid j → block_state new ≡ valid i → i.time ≤ j.time
  -- and K9: it never changes its edition, as 0x4A01 and 0x4A02 each need a bit cleared to become the other
  pub same_edition : (old new : List ℕ) (j i : Journal) → Raised old new → block_state old ≡ valid j → block_state new ≡ valid i → i.edition ≡ j.edition
  -- by the bytes alone, whatever the half reads as
  pub of_any : (old new : List ℕ) → Raised old new → created_at new ≤ created_at old
  -- 0xFC has neither of its two low bits: with one of them in byte 8 a half isn't valid and never becomes so
  pub stays_out : (old new : List ℕ) (j : Journal) → Raised old new → 0 < get_or old state_at 0 % 4 → block_state new ≡ valid j → ⊥

-- ---- K11: "A torn frame is closed in place by clearing bits"

-- the writes that close the torn frame of a valid block
abbrev pub closes_in : List ℕ → Journal → List Write
closes_in b j = close_writes b (header_len + total j.edition j.frames) j.tail

-- before its last write the frame is torn still, and the block holds what it held; after it the frame is a closed one of the same length, with only 0xFF
-- behind it
pub record ClosingExact : Type 0 where
  pub torn_still : (b : List ℕ) (j : Journal) (i : ℕ) → Bytes b → ValidBlock b j → i < length (closes_in b j) → ValidBlock (write_all b (take i (closes_in b j))) j
  pub closed_then : (b : List ℕ) (j : Journal) (n : ℕ) → Bytes b → ValidBlock b j → j.tail ≡ cut n
      → (v : List ℕ) × (length v + 5 ≡ n) × ValidBlock (write_all b (closes_in b j)) (journal j.edition j.time (j.frames ++ (closed v ∷ [])) clean)
