-- The state of every block is the one that document 01's sentence gives it.
use mathlib.Core.Path.{◌≡◌, refl, sym, ap, subst, ◌∙◌}
use mathlib.Core.List.{List, [], ◌∷◌}
use Prim.Native.Nat.{ℕ, ◌+◌, ◌≤◌}
use native.Mathlib.Omega.{arith}
use lib.Dec.{eqb}
use lib.ListN.{length, get_or}
use borrow.Author.Tests.{eqb-true}
use Rattle.flash.specs.Bytes.{Bytes, all_ff}
use Rattle.flash.proofs.Cases.{on_test}
use Rattle.frame.specs.declared.Edition.{Edition}
use Rattle.frame.specs.declared.Fault.{Fault}
use Rattle.frame.specs.Frame.{total, next_of}
use Rattle.frame.specs.Reader.{Tail, clean, cut, bad, scan, ends}
use Rattle.frame.specs.Sentences.{Torn, cut_short, being-closed}
use Rattle.frame.proofs.Exact.{torn-reads}
use Rattle.frame.proofs.Scanning.{scan-read-torn, scan-blank}
use Rattle.frame.proofs.Scanned.{tail-clean, tail-cut}
use Rattle.journal.specs.Block.{header_len, state_at, in_transfer, header_fault, Journal, BlockState, blank, in_progress, valid, foreign, of_header, block_state}
use Rattle.journal.specs.Sentences.{BlankBlock, InProgressBlock, TailIs, ValidBlock, ForeignBlock, StatesExact}
use Rattle.journal.proofs.Blocks.{Okay, valid-block, blank-block, progress-block}
use Rattle.journal.proofs.Faults.{fault_in, fault_state}
use Rattle.journal.proofs.States.{Contents, valid_inv, Headed, header-headed, blank-is}

-- ---- blank and in progress

blank-state : (b : List ℕ) → BlankBlock b → block_state b ≡ blank
blank-state b e = ap block_state e ∙ blank-block (length b)

pub progress-is : (b : List ℕ) → block_state b ≡ in_progress → InProgressBlock b
unfolding block_state
progress-is b e =
    on_test (all_ff b)
    (λ a. let q : blank ≡ in_progress = rw (a, block_state) at e in let z : ◌≡◌ {A = ℕ} 0 1 = cc in absurd (omega arith))
    (λ a. on_test (eqb (get_or b state_at 0) in_transfer) (eqb-true (get_or b state_at 0) in_transfer)
    (λ p. let q : of_header b (header_fault b) ≡ in_progress = rw (a, p, block_state) at e in absurd (subst Headed q (header-headed b (header_fault b)))))

-- ---- valid

pub scan-torn : (ed : Edition) (next at : ℕ) (l : List ℕ) (n : ℕ) → Torn ed next l n → scan ed next at 0 l ≡ ends (cut n)
scan-torn ed next at [] n (cut_short y) = absurd (omega (arith, y.would_fit))
scan-torn ed next at [] n (being-closed y) = let z : ◌≡◌ {A = ℕ} 0 1 = cc in absurd (omega arith)
scan-torn ed next at (b ∷ l) n y = scan-read-torn ed next at b l n (torn-reads ed next at (b ∷ l) n y)

tail-okay : (ed : Edition) (next : ℕ) (l : List ℕ) (c : Tail) → TailIs ed next l c → Okay c
tail-okay ed next l clean y = tt
tail-okay ed next l (cut n) y = tt
tail-okay ed next l (bad e) y = y

tail-scan : (ed : Edition) (next at : ℕ) (l : List ℕ) (c : Tail) → TailIs ed next l c → scan ed next at 0 l ≡ ends c
tail-scan ed next at l clean y = ap (scan ed next at 0) y ∙ scan-blank ed next at (length l)
tail-scan ed next at l (cut n) y = scan-torn ed next at l n y
tail-scan ed next at l (bad e) y = absurd y

tail_is : (ed : Edition) (next at : ℕ) (l : List ℕ) (c : Tail) → Okay c → scan ed next at 0 l ≡ ends c → TailIs ed next l c
tail_is ed next at l clean o e = tail-clean ed next at l e
tail_is ed next at l (cut n) o e = tail-cut ed next at l n e
tail_is ed next at l (bad f) o e = o

pub valid-state : (b : List ℕ) (j : Journal) → ValidBlock b j → block_state b ≡ valid j
valid-state b j y =
    let n : ℕ = next_of 0 j.frames in
    valid-block {s = length b} j (record { is = y.bytes; stands = y.frames; time_lo = y.time_lo; time_hi = y.time_hi; size = refl })
    (tail-scan j.edition n (header_len + total j.edition j.frames) y.rest j.tail y.tail)
    (tail-okay j.edition n y.rest j.tail y.tail)

pub valid-is : (b : List ℕ) (j : Journal) → Contents b j → ValidBlock b j
valid-is b j x =
    record {
      rest = x.rest;
      bytes = x.layout.is;
      time_lo = x.layout.time_lo;
      time_hi = x.layout.time_hi;
      frames = x.layout.stands;
      tail = tail_is j.edition (next_of 0 j.frames) (header_len + total j.edition j.frames) x.rest j.tail x.okay x.reads;
    }

-- ---- all four

foreign-is : (b : List ℕ) (e : Fault) → header_len ≤ length b → block_state b ≡ foreign e → ForeignBlock b
foreign-is b e h q =
    record {
      not_blank = λ y. let r : blank ≡ foreign e = sym (blank-state b y) ∙ q in let z : ◌≡◌ {A = ℕ} 0 1 = cc in omega arith;
      not_in_progress = λ y. let r : in_progress ≡ foreign e = sym (progress-block b (omega arith) y) ∙ q in let z : ◌≡◌ {A = ℕ} 0 1 = cc in omega arith;
      not_valid = λ j y. let r : valid j ≡ foreign e = sym (valid-state b j y) ∙ q in let z : ◌≡◌ {A = ℕ} 0 1 = cc in omega arith;
    }

foreign-state : (b : List ℕ) → Bytes b → header_len ≤ length b → ForeignBlock b → (e : Fault) × (block_state b ≡ foreign e)
foreign-state b y h x = go (block_state b) refl
  where
    go : (a : BlockState) → block_state b ≡ a → (e : Fault) × (block_state b ≡ foreign e)
    go blank q = absurd (x.not_blank (blank-is b q))
    go in_progress q = absurd (x.not_in_progress (progress-is b q))
    go (valid j) q = absurd (x.not_valid j (valid-is b j (valid_inv b j y h q)))
    go (foreign e) q = (e, q)

pub states-exact : StatesExact
states-exact =
    record {
      is-blank = λ b y h. (blank-is b, blank-state b);
      is_in_progress = λ b y h. (progress-is b, progress-block b (omega arith));
      is-valid = λ b j y h. ((λ q. valid-is b j (valid_inv b j y h q)), valid-state b j);
      is_foreign_at = λ b e y h. (
        (λ q. (foreign-is b e h q, fault_in b e y h q)),
        (λ p. let z = foreign-state b y h p.0 in fault_state b z.0 e y h z.1 p.1),
      );
      is-foreign = λ b y h. ((λ p. foreign-is b p.0 h p.1), foreign-state b y h);
    }
