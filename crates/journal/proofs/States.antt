-- What a block's state says of its bytes.
use mathlib.Core.Path.{◌≡◌, refl, sym, ap, ap₂, subst, ◌∙◌}
use mathlib.Core.List.{List, [], ◌∷◌, ◌++◌}
use mathlib.Core.Option.{Option, none, some}
use Prim.Native.Nat.{ℕ, ◌+◌, ◌-◌, ◌*◌, ◌/◌, ◌%◌, ◌≤◌, ◌<◌}
use native.Mathlib.Omega.{arith}
use lib.Dec.{eqb}
use lib.ListN.{length, get_or, take, drop, replicate, take-append-drop, length-take, length-drop}
use lib.Seq.{drop-drop, drop-cons}
use borrow.Author.Tests.{eqb-true, eqb-false}
use Rattle.flash.specs.Bytes.{Bytes, u16le, u32le, le32, all_ff, same_bytes_of}
use Rattle.flash.proofs.Cases.{on_test}
use Rattle.flash.proofs.Blank.{all_ff_lem, same-is, le32-small, byte_at}
use Rattle.frame.specs.declared.Edition.{Edition}
use Rattle.frame.specs.declared.Fault.{Fault}
use Rattle.frame.specs.Frame.{total, next_of}
use Rattle.frame.specs.Reader.{Tail, clean, cut, bad, Scan, scan, ends}
use Rattle.frame.proofs.Scanned.{Scanned, scan_inv, scan-clean}
use Rattle.journal.specs.Block.{header_len, header_kind, last_time, state_at, in_transfer, valid_data, header, created_at, edition_in, header_fault}
use Rattle.journal.specs.Block.{Journal, BlockState, blank, in_progress, valid, foreign, of_tail, of_journal, of_header, block_state}
use Rattle.journal.proofs.Blocks.{Layout, Header, Okay, scan_of, scanned, valid-block}

some-none : {A : Type 0} {a : A} → some a ≡ none → ⊥
some-none e = let z : ◌≡◌ {A = ℕ} 0 1 = cc in omega arith

-- ---- the header

pub header_inv : (b : List ℕ) → header_fault b ≡ none → Header b
unfolding header_fault
header_inv b e =
    on_test (same_bytes_of (take 2 b) (u16le header_len))
    (λ p. on_test (same_bytes_of (take 2 (drop 2 b)) (u16le (header_kind (edition_in b))))
    (λ q. on_test (eqb (created_at b) 0)
    (λ r. absurd (some-none (rw (p, q, r, header_fault) at e)))
    (λ r. on_test (eqb (get_or b state_at 0) valid_data)
    (λ s. on_test (all_ff (take 7 (drop 9 b)))
    (λ u. record { long = p; kind = q; created = r; state = s; spare = u })
    (λ u. absurd (some-none (rw (p, q, r, s, u, header_fault) at e))))
    (λ s. absurd (some-none (rw (p, q, r, s, header_fault) at e)))))
    (λ q. absurd (some-none (rw (p, q, header_fault) at e))))
    (λ p. absurd (some-none (rw (p, header_fault) at e)))

part : (n m : ℕ) (l : List ℕ) → drop n l ≡ take m (drop n l) ++ drop (n + m) l
part n m l = sym (take-append-drop m (drop n l)) ∙ ap (λ (x : List ℕ). take m (drop n l) ++ x) (drop-drop m n l)

-- the low byte of a number
low : (b y : ℕ) → b < 256 → (b + 256 * y) % 256 ≡ b
low b y h = omega arith

u32_le32 : (a b c d : ℕ) → a < 256 → b < 256 → c < 256 → d < 256 → u32le (le32 a b c d) ≡ a ∷ b ∷ c ∷ d ∷ []
u32_le32 a b c d ha hb hc hd =
    let x : ℕ = le32 a b c d in
    let q1 : x / 256 ≡ b + 256 * (c + 256 * d) = omega arith in
    let q2 : x / 65536 ≡ c + 256 * d = omega arith in
    let e0 : x % 256 ≡ a = omega arith in
    let e1 : x / 256 % 256 ≡ b = ap (λ (n : ℕ). n % 256) q1 ∙ low b (c + 256 * d) hb in
    let e2 : x / 65536 % 256 ≡ c = ap (λ (n : ℕ). n % 256) q2 ∙ low c d hc in
    let e3 : x / 16777216 ≡ d = omega arith in
    cc

four : (b : List ℕ) → 8 ≤ length b → take 4 (drop 4 b) ≡ get_or b 4 0 ∷ get_or b 5 0 ∷ get_or b 6 0 ∷ get_or b 7 0 ∷ []
four b h =
    ap (take 4)
    (drop-cons b 4 0 (omega arith)
    ∙ ap (λ (l : List ℕ). get_or b 4 0 ∷ l)
    (drop-cons b 5 0 (omega arith)
    ∙ ap (λ (l : List ℕ). get_or b 5 0 ∷ l)
    (drop-cons b 6 0 (omega arith) ∙ ap (λ (l : List ℕ). get_or b 6 0 ∷ l) (drop-cons b 7 0 (omega arith)))))

pub time-bytes : (b : List ℕ) → Bytes b → 8 ≤ length b → take 4 (drop 4 b) ≡ u32le (last_time - created_at b)
time-bytes b y h =
    let x : ℕ = le32 (get_or b 4 0) (get_or b 5 0) (get_or b 6 0) (get_or b 7 0) in
    let small : x < 4294967296 =
    le32-small (get_or b 4 0) (get_or b 5 0) (get_or b 6 0) (get_or b 7 0) (byte_at b 4 y) (byte_at b 5 y) (byte_at b 6 y) (byte_at b 7 y) in
    let e : x ≡ last_time - (last_time - x) = omega arith in
    four b h ∙ sym (u32_le32 (get_or b 4 0) (get_or b 5 0) (get_or b 6 0) (get_or b 7 0) (byte_at b 4 y) (byte_at b 5 y) (byte_at b 6 y) (byte_at b 7 y))
    ∙ ap u32le e

-- the first sixteen bytes of a block whose header is without fault
pub header-bytes : (b : List ℕ) → Bytes b → header_len ≤ length b → Header b → b ≡ header (edition_in b) (created_at b) valid_data ++ drop header_len b
header-bytes b y h x =
    let join : List ℕ → List ℕ → List ℕ = λ u v. u ++ v in
    let mark : take 1 (drop 8 b) ≡ valid_data ∷ [] =
    ap (take 1) (drop-cons b 8 0 (omega arith)) ∙ ap (λ (n : ℕ). n ∷ []) (eqb-true (get_or b 8 0) valid_data x.state) in
    let seven : length (take 7 (drop 9 b)) ≡ 7 = simp (length-take, length-drop) (omega arith) in
    let spare : take 7 (drop 9 b) ≡ replicate 7 255 = all_ff_lem (take 7 (drop 9 b)) x.spare ∙ ap (λ (n : ℕ). replicate n 255) seven in
    part 0 2 b
    ∙ ap₂ join (same-is (take 2 b) (u16le header_len) x.long)
    (part 2 2 b
    ∙ ap₂ join (same-is (take 2 (drop 2 b)) (u16le (header_kind (edition_in b))) x.kind)
    (part 4 4 b
    ∙ ap₂ join (time-bytes b y (omega arith)) (part 8 1 b ∙ ap₂ join mark (part 9 7 b ∙ ap (λ (u : List ℕ). u ++ drop 16 b) spare))))

-- ---- blank

-- what a header makes of a block: valid or foreign
abbrev pub Headed : BlockState → Type 0
Headed blank = ⊥
Headed in_progress = ⊥
Headed (valid j) = Unit {0}
Headed (foreign e) = Unit {0}

tail-headed : (j : Journal) (c : Tail) → Headed (of_tail j c)
tail-headed j clean = tt
tail-headed j (cut n) = tt
tail-headed j (bad e) = tt

pub header-headed : (b : List ℕ) (o : Option Fault) → Headed (of_header b o)
header-headed b none = let s : Scan = scan_of b (edition_in b) in tail-headed (scanned (edition_in b) (created_at b) s) s.tail
header-headed b (some e) = tt

pub blank-is : (b : List ℕ) → block_state b ≡ blank → b ≡ replicate (length b) 255
unfolding block_state
blank-is b e =
    on_test (all_ff b) (all_ff_lem b)
    (λ a. on_test (eqb (get_or b state_at 0) in_transfer)
    (λ p. let q : in_progress ≡ blank = rw (a, p, block_state) at e in let z : ◌≡◌ {A = ℕ} 0 1 = cc in absurd (omega arith))
    (λ p. let q : of_header b (header_fault b) ≡ blank = rw (a, p, block_state) at e in absurd (subst Headed q (header-headed b (header_fault b)))))

-- ---- valid

-- a block of this journal, whatever its bytes past the frames are
pub record Contents (b : List ℕ) (j : Journal) : Type 0 where
  pub rest : List ℕ
  pub layout : Layout (length b) b j rest
  pub reads : scan j.edition (next_of 0 j.frames) (header_len + total j.edition j.frames) 0 rest ≡ ends j.tail
  pub okay : Okay j.tail
  pub clean_is : j.tail ≡ clean → rest ≡ replicate (length rest) 255

tail-valid : (i j : Journal) (c : Tail) → of_tail i c ≡ valid j → (i ≡ j) × Okay c
tail-valid i j clean e = (cc, tt)
tail-valid i j (cut n) e = (cc, tt)
tail-valid i j (bad f) e = let z : ◌≡◌ {A = ℕ} 0 1 = cc in absurd (omega arith)

contents : (b : List ℕ) → Bytes b → header_len ≤ length b → Header b
    → let s : Scan = scan_of b (edition_in b) in Okay s.tail → Contents b (scanned (edition_in b) (created_at b) s)
contents b y h x o =
    let s : Scan = scan_of b (edition_in b) in
    let z : Scanned (edition_in b) 0 header_len (drop header_len b) s = scan_inv (edition_in b) 0 header_len (drop header_len b) in
    record {
      rest = z.rest;
      layout = record {
        is = header-bytes b y h x ∙ ap (λ (l : List ℕ). header (edition_in b) (created_at b) valid_data ++ l) z.is;
        stands = z.stands;
        time_lo = omega (arith, eqb-false (created_at b) 0 x.created);
        time_hi = omega arith;
        size = refl;
      };
      reads = z.tail;
      okay = o;
      clean_is = scan-clean (edition_in b) 0 header_len (drop header_len b) s z;
    }

pub valid_inv : (b : List ℕ) (j : Journal) → Bytes b → header_len ≤ length b → block_state b ≡ valid j → Contents b j
unfolding block_state
valid_inv b j y h e =
    on_test (all_ff b)
    (λ a. let q : blank ≡ valid j = rw (a, block_state) at e in let z : ◌≡◌ {A = ℕ} 0 1 = cc in absurd (omega arith))
    (λ a. on_test (eqb (get_or b state_at 0) in_transfer)
    (λ p. let q : in_progress ≡ valid j = rw (a, p, block_state) at e in let z : ◌≡◌ {A = ℕ} 0 1 = cc in absurd (omega arith))
    (λ p. go (header_fault b) refl (rw (a, p, block_state) at e)))
  where
    go : (o : Option Fault) → header_fault b ≡ o → of_header b (header_fault b) ≡ valid j → Contents b j
    go (some f) g q = let r : foreign f ≡ valid j = rw g at q in let z : ◌≡◌ {A = ℕ} 0 1 = cc in absurd (omega arith)
    go none g q =
        let s : Scan = scan_of b (edition_in b) in
        let r : of_journal (scanned (edition_in b) (created_at b) s) ≡ valid j = rw g at q in
        let x = tail-valid (scanned (edition_in b) (created_at b) s) j s.tail r in
        subst (Contents b) x.0 (contents b y h (header_inv b g) x.1)

-- what a valid block's header says, whatever else the block holds
pub record Stamped (b : List ℕ) (ed : Edition) (t : ℕ) : Type 0 where
  pub edition : edition_in b ≡ ed
  pub kind : take 2 (drop 2 b) ≡ u16le (header_kind ed)
  pub created : created_at b ≡ t
  pub state : get_or b state_at 0 ≡ valid_data

pub valid_stamped : {b : List ℕ} {j : Journal} → block_state b ≡ valid j → Stamped b j.edition j.time
unfolding block_state
valid_stamped {b} {j} e =
    on_test (all_ff b)
    (λ a. let q : blank ≡ valid j = rw (a, block_state) at e in let z : ◌≡◌ {A = ℕ} 0 1 = cc in absurd (omega arith))
    (λ a. on_test (eqb (get_or b state_at 0) in_transfer)
    (λ p. let q : in_progress ≡ valid j = rw (a, p, block_state) at e in let z : ◌≡◌ {A = ℕ} 0 1 = cc in absurd (omega arith))
    (λ p. go (header_fault b) refl (rw (a, p, block_state) at e)))
  where
    go : (o : Option Fault) → header_fault b ≡ o → of_header b (header_fault b) ≡ valid j → Stamped b j.edition j.time
    go (some f) g q = let r : foreign f ≡ valid j = rw g at q in let z : ◌≡◌ {A = ℕ} 0 1 = cc in absurd (omega arith)
    go none g q =
        let s : Scan = scan_of b (edition_in b) in
        let r : of_journal (scanned (edition_in b) (created_at b) s) ≡ valid j = rw g at q in
        let is : scanned (edition_in b) (created_at b) s ≡ j = (tail-valid (scanned (edition_in b) (created_at b) s) j s.tail r).0 in
        record {
          edition = ap (λ (i : Journal). i.edition) is;
          kind =
              same-is (take 2 (drop 2 b)) (u16le (header_kind (edition_in b))) (header_inv b g).kind
              ∙ ap (λ (i : Journal). u16le (header_kind i.edition)) is;
          created = ap (λ (i : Journal). i.time) is;
          state = eqb-true (get_or b state_at 0) valid_data (header_inv b g).state;
        }

-- and back
pub contents-valid : {b : List ℕ} {j : Journal} → Contents b j → block_state b ≡ valid j
contents-valid {b} {j} x = valid-block j x.layout x.reads x.okay
