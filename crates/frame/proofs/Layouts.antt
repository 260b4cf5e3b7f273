-- Frames and the slots that bytes are held against, for every kind and edition at once: a frame that the bytes begin fits as far as they go,
-- and bytes that fit as far as they go begin a frame. Past the front the seal can only be the check of what stands before it.
use mathlib.Core.Path.{◌≡◌, refl, sym, ap, ap₂, subst, ◌∙◌}
use mathlib.Core.List.{List, [], ◌∷◌, ◌++◌}
use mathlib.Core.Logic.{inl, inr}
use mathlib.Core.Bool.{true}
use Prim.Native.Nat.{ℕ, zero, suc, ◌+◌, ◌-◌, ◌/◌, ◌%◌, ◌≤◌, ◌<◌}
use native.Mathlib.Omega.{arith}
use lib.Dec.{leb}
use lib.ListN.{length, get_or, take, drop, length-append, take-append-drop}
use lib.Seq.{take-append-le, take-append-add, take_at, take-take, get_or-take, length-take-le}
use borrow.Author.Tests.{leb-true, leb-false}
use Rattle.flash.proofs.Cases.{on_test}
use Rattle.frame.specs.declared.Edition.{Edition}
use Rattle.frame.specs.declared.Edition.TheVariants as edition
use Rattle.frame.specs.declared.Field.TheVariants as field
use Rattle.frame.specs.Frame.{Frame, kind_of, body, check, check_len, finish, seal_of, overhead, frame_len, front, encode, body_at, MayStand, Tears}
use Rattle.frame.specs.Reader.{Slot, slot, Layout, has_length, layout_of, front_slots, check_slots, finish_slot, seal_slots, laid}
use Rattle.frame.specs.Sentences.{Span, span, Among, body_fields, seal_fields, fields_of}
use Rattle.frame.proofs.Encode.{check-length, frame_small, kind-small}
use Rattle.frame.proofs.Fit.{Fit, fit_length, fit_append, fit-split, fit-take, least, fit-complete, Closed, closed-append}
use Rattle.frame.proofs.Own.{Own, own}
use Rattle.frame.proofs.Shape.{Covered, Made, Shape, shape}

-- ---- seals

fit-check : (o : ℕ) (c : List ℕ) → Fit (check_slots o c) c
fit-check o [] = tt
fit-check o (x ∷ c) = (omega arith, omega arith, fit-check o c)

fit-seal : (s : Edition) (o : ℕ) (x : List ℕ) → Fit (seal_slots s o x) (check s x ++ (finish ∷ []))
fit-seal s o x =
    fit_append (check_slots o (check s x)) (finish_slot (o + check_len s) ∷ []) (check s x) (finish ∷ []) (fit-check o (check s x)) (omega arith, omega arith, tt)

length-seal : (s : Edition) (o : ℕ) (x : List ℕ) → length (seal_slots s o x) ≡ check_len s + 1
length-seal s o x = fit_length (seal_slots s o x) (check s x ++ (finish ∷ [])) (fit-seal s o x) ∙ simp length-append (omega (arith, check-length s x))

-- each slot takes one byte alone
abbrev Only : List Slot → Type 0
Only [] = Unit {0}
Only (p ∷ ps) = (p.lo ≡ p.hi) × Only ps

only-seal : (o n : ℕ) (c : List ℕ) → Only (check_slots o c ++ (finish_slot n ∷ []))
only-seal o n [] = (refl, tt)
only-seal o n (x ∷ c) = (refl, only-seal o n c)

only_one : (j : ℕ) (ps : List Slot) (xs ys : List ℕ) → Only ps → Fit ps xs → Fit (take j ps) ys → ys ≡ take j xs
only_one zero ps xs [] o f g = refl
only_one zero ps xs (y ∷ ys) o f g = absurd g
only_one (suc j) [] [] [] o f g = refl
only_one (suc j) [] (x ∷ xs) ys o f g = absurd f
only_one (suc j) [] [] (y ∷ ys) o f g = absurd g
only_one (suc j) (p ∷ ps) [] ys o f g = absurd f
only_one (suc j) (p ∷ ps) (x ∷ xs) [] o f g = absurd g
only_one (suc j) (p ∷ ps) (x ∷ xs) (y ∷ ys) (q, o) (a, b, f) (c, d, g) =
    let e : y ≡ x = omega arith in let r : ys ≡ take j xs = only_one j ps xs ys o f g in cc

-- ---- what bytes are held against

abbrev pub layout_at : Edition → ℕ → List ℕ → Layout
layout_at e next t = layout_of e next (get_or t 0 0) (get_or t 2 0)

abbrev pub slots_at : Edition → ℕ → List ℕ → List Slot
slots_at e next t = laid (get_or t 0 0) (layout_at e next t) t

pub length_slots : (e : Edition) (next : ℕ) (t : List ℕ) → has_length e next (get_or t 0 0) ≡ true → length (slots_at e next t) ≡ get_or t 0 0
length_slots e next t q =
    let l : Layout = layout_at e next t in
    let m : ℕ = body_at + length l.body in
    let y : Shape e next (get_or t 0 0) l = shape e next (get_or t 0 0) (get_or t 2 0) q in
    length-append (front_slots (get_or t 0 0) l) (seal_slots l.seal m (take m t)) ∙ omega (arith, length-seal l.seal m (take m t), y.size)

pub closed_slots : (e : Edition) (next : ℕ) (t : List ℕ) → Closed (slots_at e next t)
closed_slots e next t =
    let l : Layout = layout_at e next t in
    let m : ℕ = body_at + length l.body in
    closed-append (front_slots (get_or t 0 0) l) (seal_slots l.seal m (take m t))
    (closed-append (check_slots m (check l.seal (take m t))) (finish_slot (m + check_len l.seal) ∷ []) (omega arith))

-- ---- a frame that the bytes begin fits

fit-two : (j m n : ℕ) (ps : List Slot) (xs : List ℕ) → m ≡ n → n < 255 → j ≤ 2
    → Fit (take j (slot field.Length 0 m m ∷ slot field.Length 0 0 0 ∷ ps)) (take j (n % 256 ∷ n / 256 ∷ xs))
fit-two zero m n ps xs q h l = tt
fit-two (suc zero) m n ps xs q h l = (omega arith, omega arith, tt)
fit-two (suc (suc zero)) m n ps xs q h l = (omega arith, omega arith, (omega arith, omega arith, tt))
fit-two (suc (suc (suc j))) m n ps xs q h l = absurd (omega arith)

module _ (e : Edition) (next : ℕ) (t : List ℕ) (j : ℕ) (f : Frame) (g : MayStand e next f) (q : take j t ≡ take j (encode e f)) where
  fit_own : Fit (take j (laid (frame_len e f) (layout_of e next (frame_len e f) (kind_of f)) t)) (take j (encode e f))
  fit_own =
      let n : ℕ = frame_len e f in
      let l : Layout = layout_of e next n (kind_of f) in
      let y : Own e f l = own e next f g in
      let m : ℕ = body_at + length l.body in
      let s : Edition = seal_of e f in
      let a : List Slot = front_slots n l in
      let x : List ℕ = front e f in
      let c : List ℕ = check s x ++ (finish ∷ []) in
      let n1 : n < 255 = frame_small e next f g in
      let k1 : kind_of f < 255 = kind-small f in
      let len : length l.body ≡ length (body f) = fit_length l.body (body f) y.fit in
      let fx : Fit a x =
      (omega arith, omega arith, (omega arith, omega arith, (omega (arith, y.from), omega (arith, y.to), (omega arith, omega arith, y.fit)))) in
      on_test (leb j m)
      (λ h.
      let h1 : j ≤ m = leb-true j m h in
      let b : List Slot = seal_slots l.seal m (take m t) in
      let r1 : take j (a ++ b) ≡ take j a = take-append-le j a b (omega arith) in
      let r2 : take j (x ++ c) ≡ take j x = take-append-le j x c (omega arith) in
      rw (r1, r2) (fit-take j a x fx))
      (λ h.
      let h1 : m < j = leb-false j m h in
      let r : take m t ≡ x = sym (take-take m j t (omega arith)) ∙ ap (take m) q ∙ take-take m j (encode e f) (omega arith) ∙ take_at x c m (omega arith) in
      let w : Fit (a ++ seal_slots s m x) (x ++ c) = fit_append a (seal_slots s m x) x c fx (fit-seal s m x) in
      let v : Fit (a ++ seal_slots l.seal m (take m t)) (x ++ c) =
      subst (λ (z : List ℕ). Fit (a ++ seal_slots l.seal m z) (x ++ c)) (sym r)
      (subst (λ (z : Edition). Fit (a ++ seal_slots z m x) (x ++ c)) (sym y.seal) w) in
      fit-take j (a ++ seal_slots l.seal m (take m t)) (x ++ c) v)

  pub begins_length : 1 ≤ j → get_or t 0 0 ≡ frame_len e f
  begins_length h =
      sym (get_or-take j t 0 0 h) ∙ ap (λ (l : List ℕ). get_or l 0 0) q ∙ get_or-take j (encode e f) 0 0 h ∙ omega (arith, frame_small e next f g)

  pub begins_kind : 3 ≤ j → get_or t 2 0 ≡ kind_of f
  begins_kind h =
      sym (get_or-take j t 2 0 h) ∙ ap (λ (l : List ℕ). get_or l 2 0) q ∙ get_or-take j (encode e f) 2 0 h ∙ omega (arith, kind-small f)

  pub begins_fit : 1 ≤ j → Fit (take j (slots_at e next t)) (take j t)
  begins_fit h =
      let n : get_or t 0 0 ≡ frame_len e f = begins_length h in
      let l : Layout = layout_at e next t in
      subst (λ (z : List ℕ). Fit (take j (slots_at e next t)) z) (sym q)
      (on_test (leb j 2)
      (λ r. fit-two j (get_or t 0 0) (frame_len e f) (drop 2 (slots_at e next t)) (drop 2 (encode e f)) n (frame_small e next f g) (leb-true j 2 r))
      (λ r.
      let k : get_or t 2 0 ≡ kind_of f = begins_kind (leb-false j 2 r) in
      subst (λ (z : ℕ). Fit (take j (laid z (layout_of e next z (get_or t 2 0)) t)) (take j (encode e f))) (sym n)
      (subst (λ (z : ℕ). Fit (take j (laid (frame_len e f) (layout_of e next (frame_len e f) z) t)) (take j (encode e f))) (sym k) fit_own)))

-- ---- bytes that fit begin a frame

record Fronted (e : Edition) (next n : ℕ) (l : Layout) (xs : List ℕ) : Type 0 where
  frame : Frame
  stands : MayStand e next frame
  size : frame_len e frame ≡ n
  is_front : front e frame ≡ xs
  seal : seal_of e frame ≡ l.seal
  tears : l.tears ≡ true → Tears frame
  covered : Covered (body_fields frame) 4 l.body

four : {a b k c a' b' k' c' : ℕ} {x y : List ℕ} → a ≡ a' → b ≡ b' → k ≡ k' → c ≡ c' → x ≡ y
    → ◌≡◌ {A = List ℕ} (a ∷ b ∷ k ∷ c ∷ x) (a' ∷ b' ∷ k' ∷ c' ∷ y)
four p q r s t = cc

make-front : (e : Edition) (next n : ℕ) (l : Layout) (xs : List ℕ) → Shape e next n l → Fit (front_slots n l) xs → Fronted e next n l xs
make-front e next n l (a ∷ b ∷ k ∷ c ∷ xs) y (a1, a2, (b1, b2, (k1, k2, (c1, c2, r)))) =
    let z : Made e next l k xs = y.make k xs k1 k2 r in
    let f : Frame = z.frame in
    let size : frame_len e f ≡ n =
    ap₂ (λ (s : Edition) (w : List ℕ). overhead s + length w) z.seal z.is_body ∙ omega (arith, y.size, fit_length l.body xs r) in
    let small : frame_len e f < 255 = frame_small e next f z.stands in
    let kind : kind_of f ≡ k = z.kind in
    let most : l.to < 255 = y.small in
    record {
      frame = f;
      stands = z.stands;
      size = size;
      is_front = four (omega arith) (omega arith) (omega arith) (omega arith) z.is_body;
      seal = z.seal;
      tears = z.tears;
      covered = z.covered;
    }
make-front e next n l [] y r = absurd r
make-front e next n l (a ∷ []) y r = absurd r.2
make-front e next n l (a ∷ b ∷ []) y r = absurd r.2.2
make-front e next n l (a ∷ b ∷ k ∷ []) y r = absurd r.2.2.2

-- its fields

among_right : (a b : List Span) (x : Span) → Among x b → Among x (a ++ b)
among_right [] b x m = m
among_right (y ∷ a) b x m = inr (among_right a b x m)

among-left : (a b : List Span) (x : Span) → Among x a → Among x (a ++ b)
among-left [] b x m = absurd m
among-left (y ∷ a) b x (inl q) = inl q
among-left (y ∷ a) b x (inr m) = inr (among-left a b x m)

covered_more : (l m : List Span) (i : ℕ) (ps : List Slot) → ((x : Span) → Among x l → Among x m) → Covered l i ps → Covered m i ps
covered_more l m i [] h c = tt
covered_more l m i (p ∷ ps) h ((s, inl a), c) = ((s, inl a), covered_more l m (suc i) ps h c)
covered_more l m i (p ∷ ps) h ((s, inr (z, b, k)), c) = ((s, inr (z, h (span p.field p.start z) b, k)), covered_more l m (suc i) ps h c)

covered-append : (l : List Span) (i j : ℕ) (a b : List Slot) → j ≡ i + length a → Covered l i a → Covered l j b → Covered l i (a ++ b)
covered-append l i j [] b q c d = let z : j ≡ i = omega arith in subst (λ (x : ℕ). Covered l x b) z d
covered-append l i j (p ∷ a) b q (x, c) d = (x, covered-append l (suc i) j a b (omega arith) c d)

cover_seal : (s : Edition) (o : ℕ) (x : List ℕ) → Covered (seal_fields s o) o (seal_slots s o x)
cover_seal edition.First o x = ((omega arith, inr (o + 0 + 1, inl refl, omega arith)), tt)
cover_seal edition.Second o x = (
  (omega arith, inr (o + 4, inl refl, omega arith)),
  (
    (omega arith, inr (o + 4, inl refl, omega arith)),
    (
      (omega arith, inr (o + 4, inl refl, omega arith)),
      ((omega arith, inr (o + 4, inl refl, omega arith)), ((omega arith, inr (o + 4 + 1, inr (inl refl), omega arith)), tt)),
    ),
  ),
)

cover_frame : (e : Edition) (next n : ℕ) (l : Layout) (xs : List ℕ) (y : Fronted e next n l xs) (x : List ℕ) → length l.body ≡ length (body y.frame)
    → Covered (fields_of e y.frame) 0 (front_slots n l ++ seal_slots l.seal (body_at + length l.body) x)
cover_frame e next n l xs y x len =
    let f : Frame = y.frame in
    let m : ℕ = body_at + length l.body in
    let b : List Span = seal_fields (seal_of e f) (body_at + length (body f)) in
    let whole : List Span = fields_of e f in
    let r : seal_fields l.seal m ≡ b = ap₂ (λ (s : Edition) (o : ℕ). seal_fields s (body_at + o)) (sym y.seal) len in
    covered-append whole 0 m (front_slots n l) (seal_slots l.seal m x) (omega arith) (
      (omega arith, inr (2, inl refl, omega arith)),
      (
        (omega arith, inr (2, inl refl, omega arith)),
        (
          (omega arith, inr (4, inr (inl refl), omega arith)),
          (
            (omega arith, inr (4, inr (inl refl), omega arith)),
            covered_more (body_fields f) whole 4 l.body (λ z h. inr (inr (among-left (body_fields f) b z h))) y.covered,
          ),
        ),
      ),
    )
    (covered_more b whole m (seal_slots l.seal m x) (λ z h. inr (inr (among_right (body_fields f) b z h)))
    (subst (λ (z : List Span). Covered z m (seal_slots l.seal m x)) r (cover_seal l.seal m x)))

-- a frame of the bytes' own length that they begin, i bytes of it at least
pub record Begun (e : Edition) (next : ℕ) (t : List ℕ) (i : ℕ) : Type 0 where
  pub frame : Frame
  pub stands : MayStand e next frame
  pub size : frame_len e frame ≡ get_or t 0 0
  pub bytes : take i (encode e frame) ≡ take i t
  pub tears : (layout_at e next t).tears ≡ true → Tears frame
  pub covered : Covered (fields_of e frame) 0 (slots_at e next t)

module _ (e : Edition) (next : ℕ) (t : List ℕ) (i : ℕ) (q : has_length e next (get_or t 0 0) ≡ true) (r : Fit (take i (slots_at e next t)) (take i t))
    (h : i ≤ length (slots_at e next t)) where
  begun : (xs : List ℕ) → Fit (front_slots (get_or t 0 0) (layout_at e next t)) xs
      → ((s : Edition) → s ≡ (layout_at e next t).seal → take i (xs ++ (check s xs ++ (finish ∷ []))) ≡ take i t) → Begun e next t i
  begun xs w b =
      let n : ℕ = get_or t 0 0 in
      let l : Layout = layout_at e next t in
      let y : Fronted e next n l xs = make-front e next n l xs (shape e next n (get_or t 2 0) q) w in
      let f : Frame = y.frame in
      let len : length l.body ≡ length (body f) = omega (arith, fit_length (front_slots n l) xs w, ap length y.is_front) in
      record {
        frame = f;
        stands = y.stands;
        size = y.size;
        bytes = ap (λ (x : List ℕ). take i (x ++ (check (seal_of e f) x ++ (finish ∷ [])))) y.is_front ∙ b (seal_of e f) y.seal;
        tears = y.tears;
        covered = cover_frame e next n l xs y (take (body_at + length l.body) t) len;
      }

  pub complete : Begun e next t i
  complete =
      let n : ℕ = get_or t 0 0 in
      let l : Layout = layout_at e next t in
      let y : Shape e next n l = shape e next n (get_or t 2 0) q in
      let m : ℕ = body_at + length l.body in
      let a : List Slot = front_slots n l in
      let b : List Slot = seal_slots l.seal m (take m t) in
      on_test (leb i m)
      (λ p.
      let p1 : i ≤ m = leb-true i m p in
      let r1 : Fit (take i a) (take i t) = subst (λ (x : List Slot). Fit x (take i t)) (take-append-le i a b (omega arith)) r in
      let len : length (take i t) ≡ i = sym (fit_length (take i a) (take i t) r1) ∙ length-take-le i a (omega arith) in
      let z : List ℕ = least (drop i a) in
      let xs : List ℕ = take i t ++ z in
      let w : Fit a xs = fit-complete i a (take i t) r1 (omega arith, (omega arith, (y.kinds, (omega arith, y.wide)))) in
      begun xs w (λ s k. take-append-le i xs (check s xs ++ (finish ∷ [])) (omega (arith, length-append (take i t) z)) ∙ take_at (take i t) z i len))
      (λ p.
      let p1 : m < i = leb-false i m p in
      let j : ℕ = i - m in
      let q1 : i ≡ length a + j = omega arith in
      let r1 : take i (a ++ b) ≡ a ++ take j b = ap (λ (x : ℕ). take x (a ++ b)) q1 ∙ take-append-add a b j in
      let r2 : Fit a (take (length a) (take i t)) × Fit (take j b) (drop (length a) (take i t)) =
      fit-split a (take j b) (take i t) (subst (λ (x : List Slot). Fit x (take i t)) r1 r) in
      let xs : List ℕ = take m t in
      let q0 : length a ≡ m = omega arith in
      let r3 : take (length a) (take i t) ≡ xs = take-take (length a) i t (omega arith) ∙ ap (λ (x : ℕ). take x t) q0 in
      let w : Fit a xs = subst (Fit a) r3 r2.0 in
      let c : List ℕ = check l.seal xs ++ (finish ∷ []) in
      let r4 : drop (length a) (take i t) ≡ take j c =
      only_one j b c (drop (length a) (take i t)) (only-seal m (m + check_len l.seal) (check l.seal xs)) (fit-seal l.seal m xs) r2.1 in
      let q2 : i ≡ length xs + j = omega (arith, fit_length a xs w) in
      begun xs w (λ s k.
      ap (λ (x : Edition). take i (xs ++ (check x xs ++ (finish ∷ [])))) k
      ∙ ap (λ (x : ℕ). take x (xs ++ c)) q2
      ∙ take-append-add xs c j
      ∙ ap₂ (λ (u v : List ℕ). u ++ v) (sym r3) (sym r4)
      ∙ take-append-drop (length a) (take i t)))
