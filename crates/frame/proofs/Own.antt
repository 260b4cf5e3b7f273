-- What each kind of frame is to the reader: its length, the layout it fits, its bytes read back.
-- A further kind is a case more in each law of this file, of Shape, Encode and Fields; no other file goes by kinds.
use mathlib.Core.Path.{◌≡◌, refl, sym, ap, ap₂, subst, ◌∙◌}
use mathlib.Core.List.{List, [], ◌∷◌, ◌++◌, append_assoc}
use mathlib.Core.Logic.{◌⊎◌, inl, inr, ⊎_elim}
use mathlib.Core.Bool.{Bool, true, false, not, ◌&&◌, ◌||◌}
use Prim.Native.Nat.{ℕ, zero, suc, ◌-◌, ◌/◌, ◌%◌, ◌≤◌, ◌<◌}
use native.Mathlib.Omega.{arith}
use lib.Dec.{eqb, leb}
use lib.ListN.{length, take}
use lib.Seq.{take_at}
use borrow.Author.Tests.{eqb-true, eq-eqb, ne_eqb, le-leb, lt-leb, leb-true}
use Rattle.flash.specs.Bytes.{Bytes, le16}
use Rattle.flash.proofs.Cases.{on_test, and_both, and_left, and_right, and_no-left, and_no_right, or_left, or_right, or_neither, between, between-yes}
use Rattle.flash.proofs.Blank.{le16_u16}
use Rattle.frame.specs.declared.Edition.{Edition}
use Rattle.frame.specs.declared.Edition.TheVariants as edition
use Rattle.frame.specs.declared.ObjectId.{ObjectId}
use Rattle.frame.specs.Frame.{Frame, change, commit, abort, settled, closed, reset, put, delete, id_of, id_max, value_max, kind_of, body, check}
use Rattle.frame.specs.Frame.{finish, seal_of, frame_len, front, encode, put_len, delete_len, end_len, settled_len, closed_len, reset_len}
use Rattle.frame.specs.Frame.{ClosedLength, MayStand, Tears}
use Rattle.frame.specs.Reader.{value_slots, Layout, last_kind, change_layout, end_layout, settled_layout, closed_layout, reset_layout, host_layout, id_left}
use Rattle.frame.specs.Reader.{has_length, only_settled, layout_of, decode}
use Rattle.frame.proofs.Fit.{Fit}

-- the layout is the frame's own
pub record Own (e : Edition) (f : Frame) (l : Layout) : Type 0 where
  pub from : l.from ≤ kind_of f
  pub to : kind_of f ≤ l.to
  pub fit : Fit l.body (body f)
  pub seal : l.seal ≡ seal_of e f
  pub tears : Tears f → l.tears ≡ true

-- a value's bytes fit its slots
pub fit-value : (o n : ℕ) (v : List ℕ) → n ≡ length v → Bytes v → Fit (value_slots o n) v
fit-value o zero [] q h = tt
fit-value o zero (b ∷ v) q h = absurd (omega arith)
fit-value o (suc n) [] q h = absurd (omega arith)
fit-value o (suc n) (b ∷ v) q (h, r) = (omega arith, omega arith, fit-value (suc o) n v (omega arith) r)

-- ---- which layout

only_no : (e : Edition) (next n k : ℕ) → (k ≡ 5 → ⊥) → (n ≡ settled_len e 0 → ⊥) → only_settled e next n k ≡ false
only_no e next n k h l =
    and_no_right (id_left next && (leb (settled_len e 0) n && leb n (settled_len e value_max))) (eqb k 5 || eqb n (settled_len e 0))
    (or_neither (eqb k 5) (eqb n (settled_len e 0)) (ne_eqb k 5 h) (ne_eqb n (settled_len e 0) l))

pub only_yes : (e : Edition) (next n k : ℕ) → next ≤ id_max → settled_len e 0 ≤ n → n ≤ settled_len e value_max
    → (eqb k 5 || eqb n (settled_len e 0)) ≡ true → only_settled e next n k ≡ true
only_yes e next n k h lo hi q =
    let size : Bool = leb (settled_len e 0) n && leb n (settled_len e value_max) in
    and_both (id_left next && size) (eqb k 5 || eqb n (settled_len e 0))
    (and_both (id_left next) size (le-leb next _ (omega arith)) (between-yes (settled_len e 0) n (settled_len e value_max) lo hi)) q

pub only-size : (e : Edition) (next n k : ℕ) → only_settled e next n k ≡ true → (settled_len e 0 ≤ n) × (n ≤ settled_len e value_max) × (next ≤ id_max)
only-size e next n k q =
    let size : Bool = leb (settled_len e 0) n && leb n (settled_len e value_max) in
    let r : (id_left next && size) ≡ true = and_left (id_left next && size) (eqb k 5 || eqb n (settled_len e 0)) q in
    let w : (settled_len e 0 ≤ n) × (n ≤ settled_len e value_max) = between (settled_len e 0) n (settled_len e value_max) (and_right (id_left next) size r) in
    (w.0, w.1, omega (arith, leb-true next _ (and_left (id_left next) size r)))

pub layout-settled : (e : Edition) (next n k : ℕ) → only_settled e next n k ≡ true → layout_of e next n k ≡ settled_layout e next n
unfolding layout_of
layout-settled e next n k q = rw (q, layout_of)

pub layout-closed : (e : Edition) (next n k : ℕ) → only_settled e next n k ≡ false → k ≡ 0 → layout_of e next n k ≡ closed_layout n
unfolding layout_of
layout-closed e next n k q z = rw (q, eq-eqb k 0 z, layout_of)

pub layout-host : (e : Edition) (next n k : ℕ) → only_settled e next n k ≡ false → (k ≡ 0 → ⊥) → layout_of e next n k ≡ host_layout e n
unfolding layout_of
layout-host e next n k q z = rw (q, ne_eqb k 0 z, layout_of)

pub host-reset : (e : Edition) (n : ℕ) → n ≡ reset_len e → host_layout e n ≡ reset_layout e
unfolding host_layout
host-reset e n h = rw (eq-eqb n (reset_len e) h, host_layout)

pub host-end : (e : Edition) (n : ℕ) → n ≡ end_len e → host_layout e n ≡ end_layout e
unfolding host_layout
host-end e n h = rw (ne_eqb n (reset_len e) (omega arith), eq-eqb n (end_len e) h, host_layout)

pub host-change : (e : Edition) (n : ℕ) → put_len e 0 ≤ n → host_layout e n ≡ change_layout e n
unfolding host_layout
host-change e n h = rw (ne_eqb n (reset_len e) (omega arith), ne_eqb n (end_len e) (omega arith), host_layout)

pub layout-reset : (e : Edition) (next n k : ℕ) → only_settled e next n k ≡ false → (k ≡ 0 → ⊥) → n ≡ reset_len e → layout_of e next n k ≡ reset_layout e
layout-reset e next n k q z h = layout-host e next n k q z ∙ host-reset e n h

pub layout-end : (e : Edition) (next n k : ℕ) → only_settled e next n k ≡ false → (k ≡ 0 → ⊥) → n ≡ end_len e → layout_of e next n k ≡ end_layout e
layout-end e next n k q z h = layout-host e next n k q z ∙ host-end e n h

pub layout-change : (e : Edition) (next n k : ℕ) → only_settled e next n k ≡ false → (k ≡ 0 → ⊥) → put_len e 0 ≤ n → layout_of e next n k ≡ change_layout e n
layout-change e next n k q z h = layout-host e next n k q z ∙ host-change e n h

host_may_tear : (e : Edition) (n : ℕ) → (host_layout e n).tears ≡ true
unfolding host_layout
host_may_tear e n =
    on_test (eqb n (reset_len e))
    (λ r. rw (r, host_layout))
    (λ r. on_test (eqb n (end_len e)) (λ q. rw (r, q, host_layout)) (λ q. rw (r, q, host_layout)))

-- settled frames and closed ones are never cut short
pub tears-closed : (e : Edition) (next n k : ℕ) → k ≡ 0 → (layout_of e next n k).tears ≡ false
unfolding layout_of
tears-closed e next n k z = on_test (only_settled e next n k) (λ s. rw (s, layout_of)) (λ s. rw (s, eq-eqb k 0 z, layout_of))

pub tears-not : (e : Edition) (next n k : ℕ) → (k ≡ 0 → ⊥) → (layout_of e next n k).tears ≡ not (only_settled e next n k)
unfolding layout_of
tears-not e next n k z =
    on_test (only_settled e next n k)
    (λ s. rw (s, layout_of))
    (λ s. rw (s, ne_eqb k 0 z, layout_of) (host_may_tear e n))

-- ---- a frame's own layout

pub last-kind : (b : Bool) → 1 ≤ last_kind b
last-kind true = omega arith
last-kind false = omega arith

-- a closed frame has no length of settled frames alone
pub closed-other : (e : Edition) (n : ℕ) → ClosedLength e n → n ≡ settled_len e 0 → ⊥
closed-other e n (inl h) q = omega arith
closed-other e n (inr (inl h)) q = omega arith
closed-other e n (inr (inr h)) q = omega arith

pub closed-least : (e : Edition) (n : ℕ) → ClosedLength e n → closed_len 0 ≤ n
closed-least e n (inl h) = omega arith
closed-least e n (inr (inl h)) = omega arith
closed-least e n (inr (inr h)) = omega arith

pub own : (e : Edition) (next : ℕ) (f : Frame) → MayStand e next f → Own e f (layout_of e next (frame_len e f) (kind_of f))
own e next (change h (put i v)) (hh, hi, (hv, hb)) =
    let f : Frame = change h (put i v) in
    let n : ℕ = frame_len e f in
    subst (Own e f) (sym (layout-change e next n 1 (only_no e next n 1 (omega arith) (omega arith)) (omega arith) (omega arith))) (record {
      from = omega arith;
      to = last-kind (eqb n (delete_len e));
      fit = (omega arith, omega arith, (omega arith, omega arith, (omega arith, omega arith, fit-value 7 (n - put_len e 0) v (omega arith) hb)));
      seal = refl;
      tears = λ u. refl;
    })
own e next (change h (delete i)) (hh, hi) =
    let f : Frame = change h (delete i) in
    let n : ℕ = frame_len e f in
    subst (Own e f) (sym (layout-change e next n 2 (only_no e next n 2 (omega arith) (omega arith)) (omega arith) (omega arith))) (record {
      from = omega arith;
      to = rw (eq-eqb n (delete_len e) (omega arith)) (omega arith);
      fit = (omega arith, omega arith, (omega arith, omega arith, (omega arith, omega arith, fit-value 7 (n - put_len e 0) [] (omega arith) tt)));
      seal = refl;
      tears = λ u. refl;
    })
own e next (commit h) hh =
    let n : ℕ = frame_len e (commit h) in
    subst (Own e (commit h)) (sym (layout-end e next n 3 (only_no e next n 3 (omega arith) (omega arith)) (omega arith) (omega arith)))
    (record { from = omega arith; to = omega arith; fit = (omega arith, omega arith, tt); seal = refl; tears = λ u. refl })
own e next (abort h) hh =
    let n : ℕ = frame_len e (abort h) in
    subst (Own e (abort h)) (sym (layout-end e next n 4 (only_no e next n 4 (omega arith) (omega arith)) (omega arith) (omega arith)))
    (record { from = omega arith; to = omega arith; fit = (omega arith, omega arith, tt); seal = refl; tears = λ u. refl })
own e next (settled i v) (hn, hi, (hv, hb)) =
    let f : Frame = settled i v in
    let n : ℕ = frame_len e f in
    subst (Own e f) (sym (layout-settled e next n 5 (only_yes e next n 5 (omega arith) (omega arith) (omega arith) refl))) (record {
      from = omega arith;
      to = omega arith;
      fit = (omega arith, omega arith, (omega arith, omega arith, fit-value 6 (n - settled_len e 0) v (omega arith) hb));
      seal = refl;
      tears = λ u. absurd u;
    })
own e next (closed v) (h, hb) =
    let f : Frame = closed v in
    let n : ℕ = frame_len e f in
    subst (Own e f) (sym (layout-closed e next n 0 (only_no e next n 0 (omega arith) (closed-other e n h)) refl)) (record {
      from = omega arith;
      to = omega arith;
      fit = fit-value 4 (n - closed_len 0) v (omega arith) hb;
      seal = refl;
      tears = λ u. absurd u;
    })
own e next reset g =
    let n : ℕ = frame_len e reset in
    subst (Own e reset) (sym (layout-reset e next n 7 (only_no e next n 7 (omega arith) (omega arith)) (omega arith) (omega arith)))
    (record { from = omega arith; to = omega arith; fit = tt; seal = refl; tears = λ u. refl })

-- the layout before the kind can be seen
host-tears : (e : Edition) (next n k : ℕ) → (k ≡ 5 → ⊥) → (k ≡ 0 → ⊥) → ClosedLength e n → (layout_of e next n k).tears ≡ true
host-tears e next n k a z h = tears-not e next n k z ∙ ap not (only_no e next n k a (closed-other e n h))

pub unseen : (e : Edition) (next : ℕ) (f : Frame) → Tears f → MayStand e next f → (layout_of e next (frame_len e f) 255).tears ≡ true
unseen e next (change h (put i v)) u (hh, hi, (hv, hb)) =
    host-tears e next (frame_len e (change h (put i v))) 255 (omega arith) (omega arith) (inr (inr (omega arith, omega arith)))
unseen e next (change h (delete i)) u g =
    host-tears e next (frame_len e (change h (delete i))) 255 (omega arith) (omega arith) (inr (inr (omega arith, omega arith)))
unseen e next (commit h) u g = host-tears e next (end_len e) 255 (omega arith) (omega arith) (inr (inl refl))
unseen e next (abort h) u g = host-tears e next (end_len e) 255 (omega arith) (omega arith) (inr (inl refl))
unseen e next (settled i v) u g = absurd u
unseen e next (closed v) u g = absurd u
unseen e next reset u g = host-tears e next (frame_len e reset) 255 (omega arith) (omega arith) (inl (omega arith))

-- a settled frame that may stand is known by its kind, or by its length if it has no value
pub settled-tears : (e : Edition) (next : ℕ) (i : ObjectId) (v : List ℕ) (k : ℕ) → MayStand e next (settled i v) → (k ≡ 5) ⊎ (v ≡ [])
    → (layout_of e next (frame_len e (settled i v)) k).tears ≡ false
settled-tears e next i v k (hn, hi, (hv, hb)) h =
    let n : ℕ = frame_len e (settled i v) in
    ap (λ (l : Layout). l.tears) (layout-settled e next n k (only_yes e next n k (omega arith) (omega arith) (omega arith) (⊎_elim
    (λ q. or_left (eqb k 5) (eqb n (settled_len e 0)) (eq-eqb k 5 q))
    (λ q. or_right (eqb k 5) (eqb n (settled_len e 0)) (eq-eqb n (settled_len e 0) (ap (λ (x : List ℕ). frame_len e (settled i x)) q ∙ omega arith)))
    h)))

pub last-layout : (e : Edition) (next n : ℕ) → id_max < next → put_len e 0 ≤ n → (layout_of e next n 5).to < 5
last-layout e next n h lo =
    let none : only_settled e next n 5 ≡ false =
    and_no-left (id_left next && (leb (settled_len e 0) n && leb n (settled_len e value_max))) (eqb 5 5 || eqb n (settled_len e 0))
    (and_no-left (id_left next) (leb (settled_len e 0) n && leb n (settled_len e value_max)) (lt-leb next _ (omega arith))) in
    subst (λ (l : Layout). l.to < 5) (sym (layout-change e next n 5 none (omega arith) (omega arith))) (last_below (eqb n (delete_len e)))
  where
    last_below : (b : Bool) → last_kind b < 5
    last_below true = omega arith
    last_below false = omega arith

-- ---- its length

pub on_or : {P : Type 0} (a b : Bool) → (a || b) ≡ true → (a ≡ true → P) → (b ≡ true → P) → P
on_or true b q f g = f refl
on_or false b q f g = g q

-- a length of kinds 1 to 4 or 7, or the shortest settled frame's
abbrev pub SomeLength : Edition → ℕ → ℕ → Type 0
SomeLength e next n = ClosedLength e n ⊎ ((next ≤ id_max) × (n ≡ settled_len e 0))

pub length_inv : (e : Edition) (next n : ℕ) → has_length e next n ≡ true → SomeLength e next n
length_inv e next n q =
    on_or (eqb n (reset_len e)) _ q
    (λ a. inl (inl (eqb-true n (reset_len e) a)))
    (λ p. on_or (eqb n (end_len e)) _ p
    (λ a. inl (inr (inl (eqb-true n (end_len e) a))))
    (λ r. on_or (leb _ n && leb n _) _ r
    (λ a. let w = between _ n _ a in inl (inr (inr (omega (arith, w.0), omega (arith, w.1)))))
    (λ a. inr (
      omega (arith, leb-true next _ (and_left (id_left next) (eqb n (settled_len e 0)) a)),
      eqb-true n (settled_len e 0) (and_right (id_left next) (eqb n (settled_len e 0)) a),
    ))))

pub length-of : (e : Edition) (next n : ℕ) → SomeLength e next n → has_length e next n ≡ true
length-of e next n (inl (inl h)) = or_left (eqb n (reset_len e)) _ (eq-eqb n (reset_len e) h)
length-of e next n (inl (inr (inl h))) = or_right (eqb n (reset_len e)) _ (or_left (eqb n (end_len e)) _ (eq-eqb n (end_len e) h))
length-of e next n (inl (inr (inr (lo, hi)))) =
    or_right (eqb n (reset_len e)) _
    (or_right (eqb n (end_len e)) _ (or_left (leb _ n && leb n _) _ (and_both _ _ (le-leb _ n (omega arith)) (le-leb n _ (omega arith)))))
length-of e next n (inr (lo, hi)) =
    or_right (eqb n (reset_len e)) _ (or_right (eqb n (end_len e)) _
    (or_right (leb _ n && leb n _) _ (and_both (id_left next) (eqb n (settled_len e 0)) (le-leb next _ (omega arith)) (eq-eqb n (settled_len e 0) hi))))

pub has-length : (e : Edition) (next : ℕ) (f : Frame) → MayStand e next f → has_length e next (frame_len e f) ≡ true
has-length e next (change h (put i v)) (hh, hi, (hv, hb)) = length-of e next (frame_len e (change h (put i v))) (inl (inr (inr (omega arith, omega arith))))
has-length e next (change h (delete i)) g = length-of e next (frame_len e (change h (delete i))) (inl (inr (inr (omega arith, omega arith))))
has-length e next (commit h) g = length-of e next (end_len e) (inl (inr (inl refl)))
has-length e next (abort h) g = length-of e next (end_len e) (inl (inr (inl refl)))
has-length e next (settled i []) (hn, hi, (hv, hb)) = length-of e next (frame_len e (settled i [])) (inr (omega arith, omega arith))
has-length e next (settled i (b ∷ v)) (hn, hi, (hv, hb)) = length-of e next (frame_len e (settled i (b ∷ v))) (inl (inr (inr (omega arith, omega arith))))
has-length e next (closed v) (h, hb) = length-of e next (frame_len e (closed v)) (inl h)
has-length e next reset g = length-of e next (frame_len e reset) (inl (inl (omega arith)))

-- where none may stand, its length or its kind is no frame's
pub last-length : (e : Edition) (next n : ℕ) → id_max < next → n ≡ settled_len e 0 → has_length e next n ≡ false
last-length e next n h q =
    on_test (has_length e next n)
    (λ a. absurd (⊎_elim (λ b. closed-other e n b q) (λ b. let c : next ≤ id_max = b.0 in omega arith) (length_inv e next n a)))
    (λ a. a)

-- ---- its bytes read back

pub value-back : (v tail rest : List ℕ) (n : ℕ) → length v ≡ n → take n ((v ++ tail) ++ rest) ≡ v
value-back v tail rest n q = ap (take n) (append_assoc v tail rest) ∙ take_at v (tail ++ rest) n q

id-back : (i : ObjectId) → id_of (le16 (i.0 % 256) (i.0 / 256)) ≡ i
id-back i = ap id_of (le16_u16 i.0)

pub decode-own : (e : Edition) (f : Frame) (rest : List ℕ) → decode e (kind_of f) (frame_len e f) (encode e f ++ rest) ≡ f
decode-own e (change h (put i v)) rest =
    let f : Frame = change h (put i v) in
    ap₂ (λ (x : ObjectId) (y : List ℕ). change h (put x y)) (id-back i)
    (value-back v (check e (front e f) ++ (finish ∷ [])) rest (frame_len e f - put_len e 0) (omega arith))
decode-own e (change h (delete i)) rest = ap (λ (x : ObjectId). change h (delete x)) (id-back i)
decode-own e (commit h) rest = refl
decode-own e (abort h) rest = refl
decode-own e (settled i v) rest =
    let f : Frame = settled i v in
    ap₂ settled (id-back i) (value-back v (check e (front e f) ++ (finish ∷ [])) rest (frame_len e f - settled_len e 0) (omega arith))
decode-own e (closed v) rest =
    let f : Frame = closed v in
    ap closed (value-back v (check edition.First (front e f) ++ (finish ∷ [])) rest (frame_len e f - closed_len 0) (omega arith))
decode-own e reset rest = refl
