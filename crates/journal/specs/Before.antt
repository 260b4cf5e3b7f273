-- The rule for headers as it stood before document 02's K9: what it makes of a block of edition 2, and that every other header is read as it was. The
-- frames after it are read by today's reader, which knows K11's kinds too.
use Rattle.std.specs.Prelude.{List, [], ◌∷◌, true, false, ◌≡◌, ℕ, eqb, get_or, take, drop}
use Rattle.std.proofs.Math.Option.{Option, none, some}
use Rattle.flash.specs.Bytes.{u16le, all_ff, same_bytes_of}
use Rattle.frame.specs.declared.Edition.TheVariants as edition
use Rattle.frame.specs.declared.Fault.{Fault}
use Rattle.frame.specs.declared.Field.TheVariants as field
use Rattle.frame.specs.Reader.{fault, Scan, scan}
use Rattle.journal.specs.Block.{created_at, Journal, journal, BlockState, blank, in_progress, valid, foreign, of_journal, block_state}
use Rattle.journal.specs.Sentences.{ValidBlock}

-- the first field that isn't as document 01's table of the half header says
unfoldable pub fault_before : List ℕ → Option Fault
fault_before b =
    elim (same_bytes_of (take 2 b) (u16le 16)) [
      | false ↦ some (fault field.Length 0)
      | true ↦ elim (same_bytes_of (take 2 (drop 2 b)) (u16le 0x4A01)) [
        | false ↦ some (fault field.Kind 2)
        | true ↦ elim (eqb (created_at b) 0) [
          | true ↦ some (fault field.Created 4)
          | false ↦ elim (eqb (get_or b 8 0) 0xFC) [
            | false ↦ some (fault field.State 8)
            | true ↦ elim (all_ff (take 7 (drop 9 b))) [ false ↦ some (fault field.Spare 9) | true ↦ none ]
          ]
        ]
      ]
    ]

-- past the header, frames without a check
abbrev pub read_before : List ℕ → Option Fault → BlockState
read_before b (some e) = foreign e
read_before b none =
    let s : Scan = scan edition.First 0 16 0 (drop 16 b) in of_journal (journal edition.First (created_at b) s.frames s.tail)

unfoldable pub state_before : List ℕ → BlockState
state_before b =
    elim (all_ff b) [
      | true ↦ blank
      | false ↦ elim (eqb (get_or b 8 0) 0xFE) [ true ↦ in_progress | false ↦ read_before b (fault_before b) ]
    ]

pub record Compatible : Type 0 where
  -- by that rule a valid block of edition 2 is foreign, at its kind
  pub second-foreign : (b : List ℕ) (j : Journal) → ValidBlock b j → j.edition ≡ edition.Second → state_before b ≡ foreign (fault field.Kind 2)
  -- a block whose bytes 2 and 3 are not 0x4A02 is read as by that rule, whatever its other bytes are
  pub as_before : (b : List ℕ) → (take 2 (drop 2 b) ≡ 0x02 ∷ 0x4A ∷ [] → ⊥) → block_state b ≡ state_before b
  -- and what is valid by that rule is valid still: the same frames at the same time
  pub still_valid : (b : List ℕ) (j : Journal) → state_before b ≡ valid j → block_state b ≡ valid j
