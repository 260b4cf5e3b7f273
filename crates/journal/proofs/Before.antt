-- Blocks of edition 2 are foreign by the header's rule before K9, at their kind; all other headers are read as they were.
use mathlib.Core.Path.{◌≡◌, refl, sym, ap, ◌∙◌}
use mathlib.Core.List.{List, ◌++◌}
use mathlib.Core.Option.{Option, none, some}
use mathlib.Core.Bool.{Bool, true, false}
use Prim.Native.Nat.{ℕ}
use native.Mathlib.Omega.{arith}
use lib.Dec.{eqb}
use lib.ListN.{get_or, take, drop}
use Rattle.flash.specs.Bytes.{u16le, all_ff, same_bytes_of}
use Rattle.flash.proofs.Blank.{all_ff-no, same-is}
use Rattle.flash.proofs.Cases.{on_test}
use Rattle.frame.specs.declared.Edition.{Edition}
use Rattle.frame.specs.declared.Edition.TheVariants as edition
use Rattle.frame.specs.declared.Fault.{Fault}
use Rattle.frame.specs.declared.Field.TheVariants as field
use Rattle.frame.specs.Frame.{encode_all}
use Rattle.frame.specs.Reader.{fault}
use Rattle.journal.specs.Block.{header_kind, valid_data, header, edition_in, header_fault, Journal, blank, in_progress, valid, foreign, of_header, block_state}
use Rattle.journal.specs.Sentences.{ValidBlock}
use Rattle.journal.specs.Before.{fault_before, read_before, state_before, Compatible}

-- ---- the two tests that come first

read_by : (b : List ℕ) → all_ff b ≡ false → eqb (get_or b 8 0) 0xFE ≡ false → state_before b ≡ read_before b (fault_before b)
unfolding state_before
read_by b p q = rw (p, q, state_before)

kind_by : (b : List ℕ) → same_bytes_of (take 2 b) (u16le 16) ≡ true → same_bytes_of (take 2 (drop 2 b)) (u16le 0x4A01) ≡ false
    → fault_before b ≡ some (fault field.Kind 2)
unfolding fault_before
kind_by b p q = rw (p, q, fault_before)

-- ---- edition 2

second-kind : (t : ℕ) (rest : List ℕ) → state_before (header edition.Second t valid_data ++ rest) ≡ foreign (fault field.Kind 2)
unfolding same_bytes_of
second-kind t rest =
    let b : List ℕ = header edition.Second t valid_data ++ rest in
    read_by b (all_ff-no 16 (drop 1 b) (omega arith)) refl ∙ ap (read_before b) (kind_by b refl refl)

foreign-second : (b : List ℕ) (j : Journal) → ValidBlock b j → j.edition ≡ edition.Second → state_before b ≡ foreign (fault field.Kind 2)
foreign-second b j v e =
    ap state_before (v.bytes ∙ ap (λ (d : Edition). header d j.time valid_data ++ (encode_all j.edition j.frames ++ v.rest)) e)
    ∙ second-kind j.time (encode_all j.edition j.frames ++ v.rest)

-- ---- any other kind

abbrev is_second : List ℕ → Bool
is_second b = same_bytes_of (take 2 (drop 2 b)) (u16le 0x4A02)

first_kind : (b : List ℕ) → is_second b ≡ false → edition_in b ≡ edition.First
unfolding edition_in
first_kind b e = rw (e, edition_in) refl

same-fault : (b : List ℕ) → edition_in b ≡ edition.First → header_fault b ≡ fault_before b
unfolding header_fault fault_before
same-fault b e =
    let k : same_bytes_of (take 2 (drop 2 b)) (u16le (header_kind (edition_in b))) ≡ same_bytes_of (take 2 (drop 2 b)) (u16le 0x4A01) =
    ap (λ (d : Edition). same_bytes_of (take 2 (drop 2 b)) (u16le (header_kind d))) e in
    on_test (same_bytes_of (take 2 b) (u16le 16)) (λ p. rw (p, k, header_fault, fault_before) refl) (λ p. rw (p, header_fault, fault_before) refl)

same_read : (b : List ℕ) (o : Option Fault) → edition_in b ≡ edition.First → of_header b o ≡ read_before b o
same_read b (some f) e = refl
same_read b none e = rw e refl

same-state : (b : List ℕ) → is_second b ≡ false → block_state b ≡ state_before b
unfolding block_state state_before
same-state b e =
    let d : edition_in b ≡ edition.First = first_kind b e in
    let r : of_header b (header_fault b) ≡ read_before b (fault_before b) = ap (of_header b) (same-fault b d) ∙ same_read b (fault_before b) d in
    on_test (all_ff b) (λ p. rw (p, block_state, state_before) refl)
    (λ p. on_test (eqb (get_or b 8 0) 0xFE) (λ q. rw (p, q, block_state, state_before) refl) (λ q. rw (p, q, block_state, state_before) r))

-- ---- what was valid before

other-kind : (b : List ℕ) → is_second b ≡ true → same_bytes_of (take 2 (drop 2 b)) (u16le 0x4A01) ≡ false
unfolding same_bytes_of
other-kind b s = ap (λ (l : List ℕ). same_bytes_of l (u16le 0x4A01)) (same-is (take 2 (drop 2 b)) (u16le 0x4A02) s)

not_valid : {e : Fault} {j : Journal} → foreign e ≡ valid j → ⊥
not_valid q = let w : ◌≡◌ {A = ℕ} 0 1 = cc in omega arith

no_second : (b : List ℕ) (j : Journal) → is_second b ≡ true → state_before b ≡ valid j → ⊥
unfolding state_before fault_before
no_second b j s e =
    on_test (all_ff b)
    (λ p. let q : blank ≡ valid j = rw (p, state_before) at e in let w : ◌≡◌ {A = ℕ} 0 1 = cc in omega arith)
    (λ p. on_test (eqb (get_or b 8 0) 0xFE)
    (λ q. let u : in_progress ≡ valid j = rw (p, q, state_before) at e in let w : ◌≡◌ {A = ℕ} 0 1 = cc in omega arith)
    (λ q. let u : read_before b (fault_before b) ≡ valid j = sym (read_by b p q) ∙ e in
    on_test (same_bytes_of (take 2 b) (u16le 16))
    (λ l. not_valid (sym (ap (read_before b) (kind_by b l (other-kind b s))) ∙ u))
    (λ l. let f : fault_before b ≡ some (fault field.Length 0) = rw (l, fault_before) refl in not_valid (sym (ap (read_before b) f) ∙ u))))

pub compatible : Compatible
compatible =
    record {
      second-foreign = foreign-second;
      as_before = λ b n. on_test (is_second b) (λ t. absurd (n (same-is (take 2 (drop 2 b)) (u16le 0x4A02) t))) (same-state b);
      still_valid = λ b j e. on_test (is_second b) (λ t. absurd (no_second b j t e)) (λ t. same-state b t ∙ e);
    }
