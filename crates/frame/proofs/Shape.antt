-- The other way: kind and body that fit a layout are a legal frame's, and its fields cover the layout's slots.
use mathlib.Core.Path.{◌≡◌, refl, sym, ap, subst}
use mathlib.Core.List.{List, [], ◌∷◌}
use mathlib.Core.Logic.{◌⊎◌, inl, inr, ⊎_elim}
use mathlib.Core.Bool.{Bool, true, false}
use Prim.Native.Nat.{ℕ, zero, suc, ◌+◌, ◌-◌, ◌/◌, ◌%◌, ◌≤◌, ◌<◌}
use native.Mathlib.Omega.{arith}
use lib.Dec.{eqb}
use lib.ListN.{length}
use borrow.Author.Tests.{eqb-true, eqb-false, eq-eqb}
use Rattle.flash.specs.Bytes.{Bytes}
use Rattle.flash.proofs.Cases.{on_test, clash, or_right}
use Rattle.frame.specs.declared.Edition.{Edition}
use Rattle.frame.specs.declared.Field.TheVariants as field
use Rattle.frame.specs.Frame.{Frame, change, commit, abort, settled, closed, reset, put, delete, host_of, id_of, id_max, value_max, kind_of, body, seal_of}
use Rattle.frame.specs.Frame.{overhead, put_len, delete_len, end_len, settled_len, closed_len, reset_len, ClosedLength, MayStand, Tears}
use Rattle.frame.specs.Reader.{Slot, value_slots, Layout, last_kind, change_layout, end_layout, settled_layout, closed_layout, reset_layout, has_length}
use Rattle.frame.specs.Reader.{only_settled, layout_of}
use Rattle.frame.specs.Sentences.{Span, span, Among, body_fields}
use Rattle.frame.proofs.Fit.{Fit, Wide}
use Rattle.frame.proofs.Own.{last-kind, closed-least, only_yes, only-size, layout-settled, layout-closed, layout-reset, layout-end, layout-change}
use Rattle.frame.proofs.Own.{length_inv}

-- ---- slots and fields

-- a slot lies behind the start it names, and takes any byte or lies in a field that starts there
abbrev pub Covers : List Span → ℕ → Slot → Type 0
Covers l i p = (p.start ≤ i) × (((p.lo ≡ 0) × (255 ≤ p.hi)) ⊎ ((e : ℕ) × Among (span p.field p.start e) l × (i < e)))

abbrev pub Covered : List Span → ℕ → List Slot → Type 0
Covered l i [] = Unit {0}
Covered l i (p ∷ ps) = Covers l i p × Covered l (suc i) ps

-- ---- what fits

-- kind and body are some frame's
pub record Made (e : Edition) (next : ℕ) (l : Layout) (k : ℕ) (b : List ℕ) : Type 0 where
  pub frame : Frame
  pub stands : MayStand e next frame
  pub kind : kind_of frame ≡ k
  pub is_body : body frame ≡ b
  pub seal : seal_of e frame ≡ l.seal
  pub tears : l.tears ≡ true → Tears frame
  pub covered : Covered (body_fields frame) 4 l.body

-- every kind and body that fit the layout are, and it has n bytes
pub record Shape (e : Edition) (next n : ℕ) (l : Layout) : Type 0 where
  pub kinds : l.from ≤ l.to
  pub small : l.to < 255
  pub wide : Wide l.body
  pub size : overhead l.seal + length l.body ≡ n
  pub make : (k : ℕ) (b : List ℕ) → l.from ≤ k → k ≤ l.to → Fit l.body b → Made e next l k b

-- ---- values

value-bytes : (o n : ℕ) (v : List ℕ) → Fit (value_slots o n) v → (length v ≡ n) × Bytes v
value-bytes o zero [] r = (refl, tt)
value-bytes o zero (b ∷ v) r = absurd r
value-bytes o (suc n) [] r = absurd r
value-bytes o (suc n) (b ∷ v) (l, h, r) = let y : (length v ≡ n) × Bytes v = value-bytes (suc o) n v r in (ap suc y.0, (omega arith, y.1))

wide_value : (o n : ℕ) → Wide (value_slots o n)
wide_value o zero = tt
wide_value o (suc n) = (omega arith, wide_value (suc o) n)

length-value : (o n : ℕ) → length (value_slots o n) ≡ n
length-value o zero = refl
length-value o (suc n) = ap suc (length-value (suc o) n)

cover_value : (l : List Span) (o i n : ℕ) → o ≤ i → Covered l i (value_slots o n)
cover_value l o i zero h = tt
cover_value l o i (suc n) h = ((h, inl (refl, omega arith)), cover_value l (suc o) (suc i) n (omega arith))

-- ---- bytes that fit a layout

last-small : (b : Bool) → last_kind b < 255
last-small true = omega arith
last-small false = omega arith

-- only a frame of a delete's length has kind 2
kind_2 : (e : Edition) (n k : ℕ) → k ≤ last_kind (eqb n (delete_len e)) → 1 ≤ k → (k ≡ 1 → ⊥) → (k ≡ 2) × (n ≡ delete_len e)
kind_2 e n k h l m =
    on_test (eqb n (delete_len e))
    (λ q. let r : k ≤ last_kind true = rw q at h in (omega arith, eqb-true n (delete_len e) q))
    (λ q. let r : k ≤ last_kind false = rw q at h in absurd (m (omega arith)))

no_value : (l : List ℕ) → length l ≡ 0 → l ≡ []
no_value [] e = refl
no_value (x ∷ l) e = absurd (omega arith)

cons : {a b : ℕ} {x y : List ℕ} → a ≡ b → x ≡ y → ◌≡◌ {A = List ℕ} (a ∷ x) (b ∷ y)
cons p q = cc

module _ (e : Edition) (next n : ℕ) where
  cover_change : (f : Frame) → body_fields f ≡ span field.Host 4 5 ∷ span field.Id 5 7 ∷ [] → Covered (body_fields f) 4 (change_layout e n).body
  cover_change f q =
      let l : List Span = span field.Host 4 5 ∷ span field.Id 5 7 ∷ [] in
      subst (λ (x : List Span). Covered x 4 (change_layout e n).body) (sym q) (
        (omega arith, inr (5, inl refl, omega arith)),
        (
          (omega arith, inr (7, inr (inl refl), omega arith)),
          ((omega arith, inr (7, inr (inl refl), omega arith)), cover_value l 7 7 (n - put_len e 0) (omega arith)),
        ),
      )

  make_change : (k : ℕ) (b : List ℕ) → put_len e 0 ≤ n → n ≤ put_len e value_max → 1 ≤ k → k ≤ last_kind (eqb n (delete_len e))
      → Fit (change_layout e n).body b → Made e next (change_layout e n) k b
  make_change k (h ∷ i ∷ z ∷ v) lo hi k1 k2 ((h1, h2, (i1, i2, (z1, z2, r)))) =
      let y : (length v ≡ n - put_len e 0) × Bytes v = value-bytes 7 (n - put_len e 0) v r in
      let q1 : i % 256 ≡ i = omega arith in
      let q2 : i / 256 ≡ z = omega arith in
      on_test (eqb k 1)
      (λ q. let f : Frame = change (host_of h) (put (id_of i) v) in record {
        frame = f;
        stands = (h2, i2, (omega (arith, y.0), y.1));
        kind = sym (eqb-true k 1 q);
        is_body = cons refl (cons q1 (cons q2 refl));
        seal = refl;
        tears = λ u. tt;
        covered = cover_change f refl;
      })
      (λ q.
      let w : (k ≡ 2) × (n ≡ delete_len e) = kind_2 e n k k2 k1 (eqb-false k 1 q) in
      let f : Frame = change (host_of h) (delete (id_of i)) in record {
        frame = f;
        stands = (h2, i2);
        kind = sym w.0;
        is_body = cons refl (cons q1 (cons q2 (sym (no_value v (omega (arith, y.0, w.1))))));
        seal = refl;
        tears = λ u. tt;
        covered = cover_change f refl;
      })
  make_change k [] lo hi k1 k2 r = absurd r
  make_change k (h ∷ []) lo hi k1 k2 r = absurd r.2
  make_change k (h ∷ i ∷ []) lo hi k1 k2 r = absurd r.2.2

  make_end : (k : ℕ) (b : List ℕ) → 3 ≤ k → k ≤ 4 → Fit (end_layout e).body b → Made e next (end_layout e) k b
  make_end k (h ∷ []) k1 k2 (h1, h2, r) =
      on_test (eqb k 3)
      (λ q. record {
        frame = commit (host_of h);
        stands = h2;
        kind = sym (eqb-true k 3 q);
        is_body = refl;
        seal = refl;
        tears = λ u. tt;
        covered = ((omega arith, inr (5, inl refl, omega arith)), tt);
      })
      (λ q. record {
        frame = abort (host_of h);
        stands = h2;
        kind = omega (arith, eqb-false k 3 q);
        is_body = refl;
        seal = refl;
        tears = λ u. tt;
        covered = ((omega arith, inr (5, inl refl, omega arith)), tt);
      })
  make_end k [] k1 k2 r = absurd r
  make_end k (h ∷ x ∷ b) k1 k2 r = absurd r.2

  make_settled : (k : ℕ) (b : List ℕ) → settled_len e 0 ≤ n → n ≤ settled_len e value_max → 5 ≤ k → k ≤ 5
      → Fit (settled_layout e next n).body b → Made e next (settled_layout e next n) k b
  make_settled k (i ∷ z ∷ v) lo hi k1 k2 ((i1, i2, (z1, z2, r))) =
      let y : (length v ≡ n - settled_len e 0) × Bytes v = value-bytes 6 (n - settled_len e 0) v r in
      let q1 : i % 256 ≡ i = omega arith in
      let q2 : i / 256 ≡ z = omega arith in
      record {
        frame = settled (id_of i) v;
        stands = (i1, i2, (omega (arith, y.0), y.1));
        kind = omega arith;
        is_body = cons q1 (cons q2 refl);
        seal = refl;
        tears = λ u. clash true refl (sym u);
        covered = (
          (omega arith, inr (6, inl refl, omega arith)),
          ((omega arith, inr (6, inl refl, omega arith)), cover_value (span field.Id 4 6 ∷ []) 6 6 (n - settled_len e 0) (omega arith)),
        );
      }
  make_settled k [] lo hi k1 k2 r = absurd r
  make_settled k (i ∷ []) lo hi k1 k2 r = absurd r.2

  make_closed : (k : ℕ) (b : List ℕ) → ClosedLength e n → 0 ≤ k → k ≤ 0 → Fit (closed_layout n).body b → Made e next (closed_layout n) k b
  make_closed k b h k1 k2 r =
      let y : (length b ≡ n - closed_len 0) × Bytes b = value-bytes 4 (n - closed_len 0) b r in
      let q : n ≡ closed_len (length b) = omega (arith, y.0, closed-least e n h) in
      record {
        frame = closed b;
        stands = (subst (ClosedLength e) q h, y.1);
        kind = omega arith;
        is_body = refl;
        seal = refl;
        tears = λ u. clash true refl (sym u);
        covered = cover_value [] 4 4 (n - closed_len 0) (omega arith);
      }

  make_reset : (k : ℕ) (b : List ℕ) → 7 ≤ k → k ≤ 7 → Fit (reset_layout e).body b → Made e next (reset_layout e) k b
  make_reset k [] k1 k2 r = record { frame = reset; stands = tt; kind = omega arith; is_body = refl; seal = refl; tears = λ u. tt; covered = tt }
  make_reset k (x ∷ b) k1 k2 r = absurd r

  shape_closed : ClosedLength e n → Shape e next n (closed_layout n)
  shape_closed h = record {
    kinds = omega arith;
    small = omega arith;
    wide = wide_value 4 (n - closed_len 0);
    size = omega (arith, length-value 4 (n - closed_len 0), closed-least e n h);
    make = λ k b k1 k2 r. make_closed k b h k1 k2 r;
  }

  shape_reset : n ≡ reset_len e → Shape e next n (reset_layout e)
  shape_reset q = record { kinds = omega arith; small = omega arith; wide = tt; size = omega arith; make = make_reset }

  shape_change : put_len e 0 ≤ n → n ≤ put_len e value_max → Shape e next n (change_layout e n)
  shape_change lo hi = record {
    kinds = last-kind (eqb n (delete_len e));
    small = last-small (eqb n (delete_len e));
    wide = (omega arith, (omega arith, (omega arith, wide_value 7 (n - put_len e 0))));
    size = omega (arith, length-value 7 (n - put_len e 0));
    make = λ k b k1 k2 r. make_change k b lo hi k1 k2 r;
  }

  shape_end : n ≡ end_len e → Shape e next n (end_layout e)
  shape_end q = record { kinds = omega arith; small = omega arith; wide = omega arith; size = omega arith; make = make_end }

  shape_settled : settled_len e 0 ≤ n → n ≤ settled_len e value_max → next ≤ id_max → Shape e next n (settled_layout e next n)
  shape_settled lo hi h = record {
    kinds = omega arith;
    small = omega arith;
    wide = (h, (omega arith, wide_value 6 (n - settled_len e 0)));
    size = omega (arith, length-value 6 (n - settled_len e 0));
    make = λ k b k1 k2 r. make_settled k b lo hi k1 k2 r;
  }

  shape_host : (k : ℕ) → only_settled e next n k ≡ false → (k ≡ 0 → ⊥) → ClosedLength e n → Shape e next n (layout_of e next n k)
  shape_host k s z (inl h) = subst (Shape e next n) (sym (layout-reset e next n k s z h)) (shape_reset h)
  shape_host k s z (inr (inl h)) = subst (Shape e next n) (sym (layout-end e next n k s z h)) (shape_end h)
  shape_host k s z (inr (inr (lo, hi))) = subst (Shape e next n) (sym (layout-change e next n k s z lo)) (shape_change lo hi)

  pub shape : (k : ℕ) → has_length e next n ≡ true → Shape e next n (layout_of e next n k)
  shape k q =
      on_test (only_settled e next n k)
      (λ s.
      let w : (settled_len e 0 ≤ n) × (n ≤ settled_len e value_max) × (next ≤ id_max) = only-size e next n k s in
      subst (Shape e next n) (sym (layout-settled e next n k s)) (shape_settled w.0 w.1 w.2))
      (λ s. ⊎_elim
      (λ h. on_test (eqb k 0)
      (λ z. subst (Shape e next n) (sym (layout-closed e next n k s (eqb-true k 0 z))) (shape_closed h))
      (λ z. shape_host k s (eqb-false k 0 z) h))
      (λ h. clash (only_settled e next n k)
      (only_yes e next n k h.0 (omega (arith, h.1)) (omega (arith, h.1))
      (or_right (eqb k 5) (eqb n (settled_len e 0)) (eq-eqb n (settled_len e 0) h.1))) s)
      (length_inv e next n q))
