-- The fields of frames, in address order, and the frames that bytes begin: there is one first bad field.
use mathlib.Core.Path.{◌≡◌, refl, sym, ap, ap₂, subst, ◌∙◌}
use mathlib.Core.List.{List, [], ◌∷◌, ◌++◌}
use mathlib.Core.Logic.{inl, inr}
use mathlib.Core.Bool.{true, false, ◌||◌}
use Prim.Native.Nat.{ℕ, ◌+◌, ◌-◌, ◌≤◌, ◌<◌}
use native.Mathlib.Omega.{arith}
use lib.Dec.{eqb, leb}
use lib.ListN.{length, take, drop}
use lib.Seq.{take-take}
use borrow.Author.Tests.{leb-true, leb-false}
use Rattle.flash.proofs.Cases.{on_test}
use Rattle.frame.specs.declared.Edition.{Edition}
use Rattle.frame.specs.declared.Edition.TheVariants as edition
use Rattle.frame.specs.declared.Field.TheVariants as field
use Rattle.frame.specs.Frame.{Frame, change, commit, abort, settled, closed, reset, put, delete, kind_of, body, check_len, seal_of, body_at, encode, frame_len}
use Rattle.frame.specs.Sentences.{Span, span, Among, body_fields, seal_fields, fields_of, Begins, FirstBad}
use Rattle.frame.proofs.Layouts.{begins_length, begins_kind}

-- ---- spans in address order

abbrev pub Ordered : ℕ → List Span → Type 0
Ordered lo [] = Unit {0}
Ordered lo (x ∷ l) = (lo ≤ x.start) × (x.start < x.end) × Ordered x.end l

pub among-from : (lo : ℕ) (l : List Span) (x : Span) → Ordered lo l → Among x l → (lo ≤ x.start) × (x.start < x.end)
among-from lo [] x o m = absurd m
among-from lo (y ∷ l) x (a, b, o) (inl e) = subst (λ (z : Span). (lo ≤ z.start) × (z.start < z.end)) (sym e) (a, b)
among-from lo (y ∷ l) x (a, b, o) (inr m) = let r : (y.end ≤ x.start) × (x.start < x.end) = among-from y.end l x o m in (omega arith, r.1)

-- two of them that overlap are one
pub overlap : (lo : ℕ) (l : List Span) (x y : Span) → Ordered lo l → Among x l → Among y l → x.start < y.end → y.start < x.end → x ≡ y
overlap lo [] x y o m n p q = absurd m
overlap lo (z ∷ l) x y (a, b, o) (inl e) (inl f) p q = e ∙ sym f
overlap lo (z ∷ l) x y (a, b, o) (inl e) (inr n) p q = absurd (omega (arith, ap (λ (s : Span). s.end) e, (among-from z.end l y o n).0))
overlap lo (z ∷ l) x y (a, b, o) (inr m) (inl f) p q = absurd (omega (arith, ap (λ (s : Span). s.end) f, (among-from z.end l x o m).0))
overlap lo (z ∷ l) x y (a, b, o) (inr m) (inr n) p q = overlap z.end l x y o m n p q

-- two first bad fields overlap: what P says up to the start of one it says up to the end of no other
pub overlapping : (P : ℕ → Type 0) (x y : Span) → ((i j : ℕ) → i ≤ j → P j → P i) → x.start < x.end → y.start < y.end → (0 < x.start → P x.start)
    → (0 < y.start → P y.start) → (P x.end → ⊥) → (P y.end → ⊥) → (x.start < y.end) × (y.start < x.end)
overlapping P x y less p q b c n m = (
  on_test (leb y.end x.start) (λ h. let k = leb-true y.end x.start h in absurd (m (less y.end x.start k (b (omega arith)))))
      (leb-false y.end x.start),
  on_test (leb x.end y.start) (λ h. let k = leb-true x.end y.start h in absurd (n (less x.end y.start k (c (omega arith)))))
      (leb-false x.end y.start),
)

ordered-seal : (s : Edition) (o lo : ℕ) → lo ≤ o → Ordered lo (seal_fields s o)
ordered-seal edition.First o lo h = (omega arith, omega arith, tt)
ordered-seal edition.Second o lo h = (omega arith, omega arith, (omega arith, omega arith, tt))

-- ---- by kind

ordered-body : (e : Edition) (f : Frame) → Ordered 4 (body_fields f ++ seal_fields (seal_of e f) (body_at + length (body f)))
ordered-body e (change h (put i v)) =
    (omega arith, omega arith, (omega arith, omega arith, ordered-seal e (body_at + length (body (change h (put i v)))) 7 (omega arith)))
ordered-body e (change h (delete i)) = (omega arith, omega arith, (omega arith, omega arith, ordered-seal e 7 7 (omega arith)))
ordered-body e (commit h) = (omega arith, omega arith, ordered-seal e 5 5 (omega arith))
ordered-body e (abort h) = (omega arith, omega arith, ordered-seal e 5 5 (omega arith))
ordered-body e (settled i v) = (omega arith, omega arith, ordered-seal e (body_at + length (body (settled i v))) 6 (omega arith))
ordered-body e (closed v) = ordered-seal edition.First (body_at + length v) 4 (omega arith)
ordered-body e reset = ordered-seal e 4 4 (omega arith)

-- the fields by the number of the kind
abbrev body_by : ℕ → List Span
body_by k =
    elim (eqb k 5) [
      | true ↦ span field.Id 4 6 ∷ []
      | false ↦ elim (eqb k 0 || eqb k 7) [
        | true ↦ []
        | false ↦ elim (leb k 2) [ true ↦ span field.Host 4 5 ∷ span field.Id 5 7 ∷ [] | false ↦ span field.Host 4 5 ∷ [] ]
      ]
    ]

abbrev seal_by : Edition → ℕ → Edition
seal_by e k = elim (eqb k 0) [ true ↦ edition.First | false ↦ e ]

body-by : (f : Frame) → body_fields f ≡ body_by (kind_of f)
body-by (change h (put i v)) = refl
body-by (change h (delete i)) = refl
body-by (commit h) = refl
body-by (abort h) = refl
body-by (settled i v) = refl
body-by (closed v) = refl
body-by reset = refl

seal-by : (e : Edition) (f : Frame) → seal_of e f ≡ seal_by e (kind_of f)
seal-by e (change h (put i v)) = refl
seal-by e (change h (delete i)) = refl
seal-by e (commit h) = refl
seal-by e (abort h) = refl
seal-by e (settled i v) = refl
seal-by e (closed v) = refl
seal-by e reset = refl

-- ---- the fields of a frame

ordered-fields : (e : Edition) (f : Frame) → Ordered 0 (fields_of e f)
ordered-fields e f = (omega arith, omega arith, (omega arith, omega arith, ordered-body e f))

abbrev fields_by : Edition → ℕ → ℕ → List Span
fields_by e k n = span field.Length 0 2 ∷ span field.Kind 2 4 ∷ (body_by k ++ seal_fields (seal_by e k) (n - 1 - check_len (seal_by e k)))

fields-by : (e : Edition) (f : Frame) → fields_of e f ≡ fields_by e (kind_of f) (frame_len e f)
fields-by e f =
    let o : body_at + length (body f) ≡ frame_len e f - 1 - check_len (seal_of e f) = omega arith in
    ap₂ (λ (b s : List Span). span field.Length 0 2 ∷ span field.Kind 2 4 ∷ (b ++ s)) (body-by f)
    (ap (seal_fields (seal_of e f)) o ∙ ap (λ (s : Edition). seal_fields s (frame_len e f - 1 - check_len s)) (seal-by e f))

-- ---- frames that bytes begin

begins-less : (e : Edition) (next : ℕ) (t : List ℕ) (i j : ℕ) (f : Frame) → i ≤ j → Begins e next t j f → Begins e next t i f
begins-less e next t i j f h y = record {
  stands = y.stands;
  fits = y.fits;
  bytes = sym (take-take i j t h) ∙ ap (take i) y.bytes ∙ take-take i j (encode e f) h;
}

-- ---- one first bad field

begins-fields : (e : Edition) (next : ℕ) (t : List ℕ) (f g : Frame) → Begins e next t 4 f → Begins e next t 4 g → fields_of e f ≡ fields_of e g
begins-fields e next t f g y z =
    let k : kind_of f ≡ kind_of g =
    sym (begins_kind e next t 4 f y.stands y.bytes (omega arith)) ∙ begins_kind e next t 4 g z.stands z.bytes (omega arith) in
    let n : frame_len e f ≡ frame_len e g =
    sym (begins_length e next t 4 f y.stands y.bytes (omega arith)) ∙ begins_length e next t 4 g z.stands z.bytes (omega arith) in
    fields-by e f ∙ ap₂ (fields_by e) k n ∙ sym (fields-by e g)

-- past the kind the two frames have the same fields; before its end all frames have
common : (e : Edition) (next : ℕ) (t : List ℕ) (x y : Span) (f g : Frame) → Among x (fields_of e f) → Among y (fields_of e g)
    → (0 < x.start → Begins e next t x.start f) → (0 < y.start → Begins e next t y.start g) → x.start < y.end → y.start < x.end → x ≡ y
common e next t x y f g (inl r) n b c p q = overlap 0 (fields_of e g) x y (ordered-fields e g) (inl r) n p q
common e next t x y f g (inr (inl r)) n b c p q = overlap 0 (fields_of e g) x y (ordered-fields e g) (inr (inl r)) n p q
common e next t x y f g (inr (inr m)) (inl r) b c p q = overlap 0 (fields_of e f) x y (ordered-fields e f) (inr (inr m)) (inl r) p q
common e next t x y f g (inr (inr m)) (inr (inl r)) b c p q = overlap 0 (fields_of e f) x y (ordered-fields e f) (inr (inr m)) (inr (inl r)) p q
common e next t x y f g (inr (inr m)) (inr (inr n)) b c p q =
    let lo : 4 ≤ x.start = (among-from 4 (drop 2 (fields_of e f)) x (ordered-fields e f).2.2 m).0 in
    let hi : 4 ≤ y.start = (among-from 4 (drop 2 (fields_of e g)) y (ordered-fields e g).2.2 n).0 in
    let r : fields_of e g ≡ fields_of e f =
    begins-fields e next t g f (begins-less e next t 4 y.start g hi (c (omega arith))) (begins-less e next t 4 x.start f lo (b (omega arith))) in
    overlap 0 (fields_of e f) x y (ordered-fields e f) (inr (inr m)) (subst (Among y) r (inr (inr n))) p q

pub first_one : (e : Edition) (next : ℕ) (t : List ℕ) (x y : Span) → FirstBad e next t x → FirstBad e next t y → x ≡ y
first_one e next t x y a b =
    let o : (x.start < y.end) × (y.start < x.end) =
    overlapping (λ j. (f : Frame) × Begins e next t j f) x y (λ i j h z. (z.0, begins-less e next t i j z.0 h z.1)) (sized x a) (sized y b)
    (λ h. (a.frame, a.before h)) (λ h. (b.frame, b.before h)) (λ z. a.none z.0 z.1) (λ z. b.none z.0 z.1) in
    common e next t x y a.frame b.frame a.has b.has a.before b.before o.0 o.1
  where
    sized : (x : Span) → FirstBad e next t x → x.start < x.end
    sized x a = (among-from 0 (fields_of e a.frame) x (ordered-fields e a.frame) a.has).1
