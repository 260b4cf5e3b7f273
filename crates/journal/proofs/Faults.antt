-- Where a foreign block is wrong: in the first bad field of its header, or at the reader's fault behind its frames.
use mathlib.Core.Path.{◌≡◌, refl, sym, ap, ap₂, subst, ◌∙◌}
use mathlib.Core.List.{List, [], ◌∷◌, ◌++◌}
use mathlib.Core.Logic.{inl, inr}
use mathlib.Core.Option.{Option, none, some}
use mathlib.Core.Bool.{true, false}
use Prim.Native.Nat.{ℕ, ◌+◌, ◌≤◌, ◌<◌}
use native.Mathlib.Omega.{arith}
use lib.Dec.{eqb}
use lib.ListN.{length, get_or, take, drop}
use lib.Seq.{drop-cons, take-take, take-add, take-append-le, get_or-take}
use borrow.Author.Tests.{eqb-true, eqb-false, eq-eqb}
use Rattle.flash.specs.Bytes.{Bytes, u16le, all_ff, same_bytes_of}
use Rattle.flash.proofs.Cases.{on_test, clash}
use Rattle.flash.proofs.Blank.{same-is, same_refl, all_ff-all, bytes_drop, bytes_right}
use Rattle.flash.proofs.Image.{take-drop-take}
use Rattle.frame.specs.declared.Edition.{Edition}
use Rattle.frame.specs.declared.Edition.TheVariants as edition
use Rattle.frame.specs.declared.Fault.{Fault}
use Rattle.frame.specs.declared.Field.{Field}
use Rattle.frame.specs.declared.Field.TheVariants as field
use Rattle.frame.specs.Frame.{Frame, encode_all, total, next_of}
use Rattle.frame.specs.Reader.{fault, Tail, clean, cut, bad, Scan, scan, ends}
use Rattle.frame.specs.Sentences.{Span, span, Among, WrongAt}
use Rattle.frame.proofs.Scanning.{scan-read-wrong}
use Rattle.frame.proofs.Scanned.{Scanned, scan_inv, tail-bad}
use Rattle.frame.proofs.Faults.{wrong-at-sound, wrong-at-reads}
use Rattle.frame.proofs.Fields.{Ordered, among-from, overlap, overlapping}
use Rattle.journal.specs.Block.{header_len, header_kind, last_time, state_at, in_transfer, valid_data, header, created_at, edition_in, header_fault}
use Rattle.journal.specs.Block.{Journal, journal, blank, in_progress, foreign, of_tail, of_header, block_state}
use Rattle.journal.specs.Faults.{header_fields, HeaderTo, BadHeader, BadFrame, FaultIn}
use Rattle.journal.proofs.Blocks.{Header, time-back, scan_of, scanned, headed-block}
use Rattle.journal.proofs.States.{header_inv, header-bytes, time-bytes}

-- ---- the header, up to a field

to-less : (b : List ℕ) (i j : ℕ) (ed : Edition) (t : ℕ) → i ≤ j → HeaderTo b j ed t → HeaderTo b i ed t
to-less b i j ed t h y = record {
  time_lo = y.time_lo;
  time_hi = y.time_hi;
  bytes = sym (take-take i j b h) ∙ ap (take i) y.bytes ∙ take-take i j (header ed t valid_data) h;
}

-- a field of bytes that begin a header
field_is : (n m j : ℕ) (b : List ℕ) (ed : Edition) (t : ℕ) → n + m ≤ j → HeaderTo b j ed t → take m (drop n b) ≡ take m (drop n (header ed t valid_data))
field_is n m j b ed t h y =
    sym (take-drop-take m n j b h) ∙ ap (λ (l : List ℕ). take m (drop n l)) y.bytes ∙ take-drop-take m n j (header ed t valid_data) h

byte-is : (i j : ℕ) (b : List ℕ) (ed : Edition) (t : ℕ) → i < j → HeaderTo b j ed t → get_or b i 0 ≡ get_or (header ed t valid_data) i 0
byte-is i j b ed t h y = sym (get_or-take j b i 0 h) ∙ ap (λ (l : List ℕ). get_or l i 0) y.bytes ∙ get_or-take j (header ed t valid_data) i 0 h

created-is : (b : List ℕ) (ed : Edition) (t : ℕ) → HeaderTo b 8 ed t → created_at b ≡ t
created-is b ed t y =
    let e4 = byte-is 4 8 b ed t (omega arith) y in
    let e5 = byte-is 5 8 b ed t (omega arith) y in
    let e6 = byte-is 6 8 b ed t (omega arith) y in
    let e7 = byte-is 7 8 b ed t (omega arith) y in
    let e : created_at b ≡ created_at (header ed t valid_data) = cc in
    e ∙ time-back ed t valid_data [] y.time_hi

-- one field more
to-more : (n m : ℕ) (b : List ℕ) (ed : Edition) (t : ℕ) → HeaderTo b n ed t → take m (drop n b) ≡ take m (drop n (header ed t valid_data))
    → HeaderTo b (n + m) ed t
to-more n m b ed t y e = record {
  time_lo = y.time_lo;
  time_hi = y.time_hi;
  bytes = take-add n m b ∙ ap₂ (λ (u v : List ℕ). u ++ v) y.bytes e ∙ sym (take-add n m (header ed t valid_data));
}

kind-of : (b : List ℕ) (ed : Edition) → take 2 (drop 2 b) ≡ u16le (header_kind ed) → edition_in b ≡ ed
unfolding edition_in same_bytes_of
kind-of b edition.First e = rw (e, edition_in) refl
kind-of b edition.Second e = rw (e, edition_in) refl

-- ---- the first bad field

at_field : (b : List ℕ) (s : Span) (ed : Edition) (t : ℕ) → Among s header_fields → HeaderTo b s.start ed t
    → ((d : Edition) (u : ℕ) → HeaderTo b s.end d u → ⊥) → BadHeader b (fault s.field s.start)
at_field b s ed t m y n = record { span = s; has = m; edition = ed; time = t; before = y; none = n; is = refl }

module _ (b : List ℕ) (by : Bytes b) (h : header_len ≤ length b) where
  to_2 : (ed : Edition) (t : ℕ) → 1 ≤ t → t ≤ last_time → same_bytes_of (take 2 b) (u16le header_len) ≡ true → HeaderTo b 2 ed t
  to_2 ed t lo hi p = record { time_lo = lo; time_hi = hi; bytes = same-is (take 2 b) (u16le header_len) p }

  abbrev kind : Edition
  kind = edition_in b

  to_4 : (t : ℕ) → 1 ≤ t → t ≤ last_time → same_bytes_of (take 2 b) (u16le header_len) ≡ true → same_bytes_of (take 2 (drop 2 b)) (u16le (header_kind kind)) ≡ true
      → HeaderTo b 4 kind t
  to_4 t lo hi p q = to-more 2 2 b kind t (to_2 kind t lo hi p) (same-is (take 2 (drop 2 b)) (u16le (header_kind kind)) q)

  to_8 : same_bytes_of (take 2 b) (u16le header_len) ≡ true → same_bytes_of (take 2 (drop 2 b)) (u16le (header_kind kind)) ≡ true → eqb (created_at b) 0 ≡ false
      → HeaderTo b 8 kind (created_at b)
  to_8 p q r = to-more 4 4 b kind (created_at b) (to_4 (created_at b) (omega (arith, eqb-false (created_at b) 0 r)) (omega arith) p q)
      (time-bytes b by (omega arith))

  header_bad : (e : Fault) → header_fault b ≡ some e → BadHeader b e
  unfolding header_fault
  header_bad e g =
      on_test (same_bytes_of (take 2 b) (u16le header_len))
      (λ p. on_test (same_bytes_of (take 2 (drop 2 b)) (u16le (header_kind kind)))
      (λ q. on_test (eqb (created_at b) 0)
      (λ r. over field.Created 4 (rw (p, q, r, header_fault) at g)
      (at_field b (span field.Created 4 8) kind 1 (inr (inr (inl refl))) (to_4 1 (omega arith) (omega arith) p q)
      (λ d u y. omega (arith, created-is b d u y, eqb-true (created_at b) 0 r, y.time_lo))))
      (λ r. on_test (eqb (get_or b state_at 0) valid_data)
      (λ s. on_test (all_ff (take 7 (drop 9 b)))
      (λ w. let z : none ≡ some e = rw (p, q, r, s, w, header_fault) at g in let o : ◌≡◌ {A = ℕ} 0 1 = cc in absurd (omega arith))
      (λ w. over field.Spare 9 (rw (p, q, r, s, w, header_fault) at g)
      (at_field b (span field.Spare 9 16) kind (created_at b) (inr (inr (inr (inr (inl refl))))) (to-more 8 1 b kind (created_at b) (to_8 p q r) (mark s))
      (λ d u y. clash (all_ff (take 7 (drop 9 b))) (ap all_ff (field_is 9 7 16 b d u (omega arith) y) ∙ all_ff-all 7) w))))
      (λ s. over field.State 8 (rw (p, q, r, s, header_fault) at g)
      (at_field b (span field.State 8 9) kind (created_at b) (inr (inr (inr (inl refl)))) (to_8 p q r)
      (λ d u y. clash (eqb (get_or b state_at 0) valid_data) (eq-eqb (get_or b state_at 0) valid_data (byte-is 8 9 b d u (omega arith) y)) s)))))
      (λ q. over field.Kind 2 (rw (p, q, header_fault) at g)
      (at_field b (span field.Kind 2 4) edition.First 1 (inr (inl refl)) (to_2 edition.First 1 (omega arith) (omega arith) p)
      (λ d u y. clash (same_bytes_of (take 2 (drop 2 b)) (u16le (header_kind kind))) (kind_right d (field_is 2 2 4 b d u (omega arith) y)) q))))
      (λ p. over field.Length 0 (rw (p, header_fault) at g)
      (at_field b (span field.Length 0 2) edition.First 1 (inl refl) (record { time_lo = omega arith; time_hi = omega arith; bytes = refl })
      (λ d u y. clash (same_bytes_of (take 2 b) (u16le header_len))
      (ap (λ (l : List ℕ). same_bytes_of l (u16le header_len)) y.bytes ∙ same_refl (u16le header_len)) p)))
    where
      over : (f : Field) (p : ℕ) → some (fault f p) ≡ some e → BadHeader b (fault f p) → BadHeader b e
      over f p q y = let r : fault f p ≡ e = cc in subst (BadHeader b) r y

      -- a kind that is some edition's is that of the edition that it is held against
      kind_right : (d : Edition) → take 2 (drop 2 b) ≡ u16le (header_kind d) → same_bytes_of (take 2 (drop 2 b)) (u16le (header_kind kind)) ≡ true
      kind_right d e =
          ap (λ (k : Edition). same_bytes_of (take 2 (drop 2 b)) (u16le (header_kind k))) (kind-of b d e) ∙ ap (λ (l : List ℕ). same_bytes_of l (u16le (header_kind d))) e
          ∙ same_refl (u16le (header_kind d))

      mark : eqb (get_or b state_at 0) valid_data ≡ true → take 1 (drop 8 b) ≡ valid_data ∷ []
      mark s = ap (take 1) (drop-cons b 8 0 (omega arith)) ∙ ap (λ (n : ℕ). n ∷ []) (eqb-true (get_or b 8 0) valid_data s)

-- there is one
header-one : (b : List ℕ) (d e : Fault) → BadHeader b d → BadHeader b e → d ≡ e
header-one b d e x y =
    let ordered : Ordered 0 header_fields = omega arith in
    let sized : (z : Span) → Among z header_fields → z.start < z.end = λ z m. (among-from 0 header_fields z ordered m).1 in
    let o : (x.span.start < y.span.end) × (y.span.start < x.span.end) =
    overlapping (λ j. (d : Edition) × (t : ℕ) × HeaderTo b j d t) x.span y.span (λ i j h z. (z.0, z.1, to-less b i j z.0 z.1 h z.2))
    (sized x.span x.has) (sized y.span y.has) (λ h. (x.edition, x.time, x.before)) (λ h. (y.edition, y.time, y.before))
    (λ z. x.none z.0 z.1 z.2) (λ z. y.none z.0 z.1 z.2) in
    let same : x.span ≡ y.span = overlap 0 header_fields x.span y.span ordered x.has y.has o.0 o.1 in
    x.is ∙ ap (λ (s : Span). fault s.field s.start) same ∙ sym y.is

in_header : (s : Span) → Among s header_fields → s.end ≤ header_len
in_header s (inl e) = omega (arith, ap (λ (x : Span). x.end) e)
in_header s (inr (inl e)) = omega (arith, ap (λ (x : Span). x.end) e)
in_header s (inr (inr (inl e))) = omega (arith, ap (λ (x : Span). x.end) e)
in_header s (inr (inr (inr (inl e)))) = omega (arith, ap (λ (x : Span). x.end) e)
in_header s (inr (inr (inr (inr (inl e))))) = omega (arith, ap (λ (x : Span). x.end) e)
in_header s (inr (inr (inr (inr (inr e))))) = absurd e

-- behind a right header no field of it is bad
not-both : (b : List ℕ) (d e : Fault) → BadFrame b d → BadHeader b e → ⊥
not-both b d e x y =
    let n : ℕ = y.span.end in
    y.none x.edition x.time (record {
      time_lo = x.time_lo;
      time_hi = x.time_hi;
      bytes = ap (take n) x.bytes ∙ take-append-le n (header x.edition x.time valid_data) (encode_all x.edition x.frames ++ x.rest)
          (in_header y.span y.has);
    })

-- ---- the frames

tail_of : (j : Journal) (c : Tail) (e : Fault) → of_tail j c ≡ foreign e → c ≡ bad e
tail_of j clean e q = let z : ◌≡◌ {A = ℕ} 0 1 = cc in absurd (omega arith)
tail_of j (cut n) e q = let z : ◌≡◌ {A = ℕ} 0 1 = cc in absurd (omega arith)
tail_of j (bad f) e q = let r : f ≡ e = cc in ap bad r

scan-wrong : (ed : Edition) (next at : ℕ) (l : List ℕ) (e : Fault) → Bytes l → WrongAt ed next at l e → scan ed next at 0 l ≡ ends (bad e)
scan-wrong ed next at [] e y w = absurd (w.wrong.not_blank refl)
scan-wrong ed next at (b ∷ l) e y w = scan-read-wrong ed next at b l e (wrong-at-reads ed next at (b ∷ l) e y w)

frame-state : (b : List ℕ) (e : Fault) → Bytes b → BadFrame b e → block_state b ≡ foreign e
frame-state b e y x =
    let fs : List Frame = x.frames in
    let es : List ℕ = encode_all x.edition fs in
    let r : Bytes x.rest =
    bytes_right es x.rest (bytes_right (header x.edition x.time valid_data) (es ++ x.rest) (subst (λ (l : List ℕ). Bytes l) x.bytes y)) in
    headed-block {s = length b} (journal x.edition x.time fs (bad e))
    (record { is = x.bytes; stands = x.stand; time_lo = x.time_lo; time_hi = x.time_hi; size = refl })
    (scan-wrong x.edition (next_of 0 fs) (header_len + total x.edition fs) x.rest e r x.wrong)

-- ---- both

pub fault_in : (b : List ℕ) (e : Fault) → Bytes b → header_len ≤ length b → block_state b ≡ foreign e → FaultIn b e
unfolding block_state
fault_in b e y h q =
    on_test (all_ff b)
    (λ a. let r : blank ≡ foreign e = rw (a, block_state) at q in let z : ◌≡◌ {A = ℕ} 0 1 = cc in absurd (omega arith))
    (λ a. on_test (eqb (get_or b state_at 0) in_transfer)
    (λ p. let r : in_progress ≡ foreign e = rw (a, p, block_state) at q in let z : ◌≡◌ {A = ℕ} 0 1 = cc in absurd (omega arith))
    (λ p. go (header_fault b) refl (rw (a, p, block_state) at q)))
  where
    go : (o : Option Fault) → header_fault b ≡ o → of_header b (header_fault b) ≡ foreign e → FaultIn b e
    go (some f) g r = let s : foreign f ≡ foreign e = rw g at r in let same : f ≡ e = cc in inl (header_bad b y h e (g ∙ ap some same))
    go none g r =
        let ed : Edition = edition_in b in
        let s : Scan = scan_of b ed in
        let x : Header b = header_inv b g in
        let z : Scanned ed 0 header_len (drop header_len b) s = scan_inv ed 0 header_len (drop header_len b) in
        let l : s.tail ≡ bad e = tail_of (scanned ed (created_at b) s) s.tail e (rw g at r) in
        let n : ℕ = next_of 0 s.frames in
        let at : ℕ = header_len + total ed s.frames in
        let rest : Bytes z.rest = bytes_right (encode_all ed s.frames) z.rest (subst (λ (u : List ℕ). Bytes u) z.is (bytes_drop header_len b y)) in
        inr (record {
          edition = ed;
          time = created_at b;
          frames = s.frames;
          rest = z.rest;
          bytes = header-bytes b y h x ∙ ap (λ (u : List ℕ). header ed (created_at b) valid_data ++ u) z.is;
          time_lo = omega (arith, eqb-false (created_at b) 0 x.created);
          time_hi = omega arith;
          stand = z.stands;
          wrong = wrong-at-sound ed n at z.rest e rest (tail-bad ed n at z.rest e (z.tail ∙ ap ends l));
        })

-- a foreign block has one fault
pub fault_state : (b : List ℕ) (d e : Fault) → Bytes b → header_len ≤ length b → block_state b ≡ foreign d → FaultIn b e → block_state b ≡ foreign e
fault_state b d e y h q (inr x) = frame-state b e y x
fault_state b d e y h q (inl x) = go (fault_in b d y h q)
  where
    go : FaultIn b d → block_state b ≡ foreign e
    go (inl z) = q ∙ ap foreign (header-one b d e z x)
    go (inr z) = absurd (not-both b d e z x)
