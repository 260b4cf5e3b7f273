-- The reader says blank, whole, torn or wrong exactly where the papers' sentences do. No law of this file goes by kinds or by editions.
use mathlib.Core.Path.{◌≡◌, refl, sym, ap, ap₂, subst, ◌∙◌}
use mathlib.Core.List.{List, [], ◌∷◌, ◌++◌}
use mathlib.Core.Logic.{◌⊎◌, inl, inr, ⊎_elim}
use mathlib.Core.Bool.{Bool, true, false, ◌&&◌}
use Prim.Native.Nat.{ℕ, zero, suc, ◌+◌, ◌≤◌, ◌<◌}
use native.Mathlib.Omega.{arith}
use lib.Dec.{leb}
use lib.ListN.{length, get_or, take, drop, replicate, length-append, length-drop, length-replicate, get_or-replicate, take-append-drop}
use lib.Seq.{take_at, take_all, take-length, length-take-le}
use borrow.Author.Tests.{leb-true, leb-false, le-leb}
use Rattle.flash.specs.Bytes.{all_ff}
use Rattle.flash.proofs.Cases.{on_test, clash, and_both, and_left, and_right}
use Rattle.flash.proofs.Blank.{all_ff-all, all_ff-at, all_ff_lem, is_ff}
use Rattle.frame.specs.declared.Edition.{Edition}
use Rattle.frame.specs.declared.Fault.{Fault}
use Rattle.frame.specs.declared.Field.TheVariants as field
use Rattle.frame.specs.Frame.{Frame, kind_of, encode, frame_len, max_frame, settled_len, ClosedLength, MayStand, Tears}
use Rattle.frame.specs.Reader.{Read, blank, whole, torn, wrong, fault, Slot, has_length, layout_of, Match, all, part, misfit, match, decode, of_match}
use Rattle.frame.specs.Reader.{being_closed, read_laid, read_frame}
use Rattle.frame.specs.Sentences.{Whole, CutShort, BeingClosed, Torn, cut_short, being-closed, Blank, Wrong}
use Rattle.frame.proofs.Encode.{frame_small, length-encode, length-shows, tears-kind}
use Rattle.frame.proofs.Fit.{Fit, match-all, Partly, match-some, match-seen, Stopped, Blanks, Stuck, match-stuck}
use Rattle.frame.proofs.Own.{own, unseen, SomeLength, length-of, length_inv, has-length, closed-least, decode-own}
use Rattle.frame.proofs.Layouts.{layout_at, slots_at, length_slots, closed_slots, begins_length, begins_kind, begins_fit, Begun, complete}
use Rattle.frame.proofs.BeingClosed.{Clearing, being_inv, being_of, not_kind, not_whole, being_sound, being_clears}

-- ---- the steps of the reader

pub read_ff : (e : Edition) (next at : ℕ) (t : List ℕ) → all_ff t ≡ true → read_frame e next at t ≡ blank
unfolding read_frame
read_ff e next at t p = rw (p, read_frame)

pub read-blank : (e : Edition) (next at m : ℕ) → read_frame e next at (replicate m 255) ≡ blank
read-blank e next at m = read_ff e next at (replicate m 255) (all_ff-all m)

-- a length that some frame has, and that fits
abbrev pub length_fits : Edition → ℕ → List ℕ → Bool
length_fits e next t = leb (get_or t 0 0) (length t) && has_length e next (get_or t 0 0)

pub read-laid : (e : Edition) (next at : ℕ) (t : List ℕ) → all_ff t ≡ false → length_fits e next t ≡ true → being_closed e (get_or t 0 0) t ≡ false
    → read_frame e next at t ≡ read_laid e next at (get_or t 0 0) (get_or t 2 0) t
unfolding read_frame
read-laid e next at t p q c = rw (p, q, c, read_frame)

pub read_being : (e : Edition) (next at : ℕ) (t : List ℕ) → all_ff t ≡ false → length_fits e next t ≡ true → being_closed e (get_or t 0 0) t ≡ true
    → read_frame e next at t ≡ torn (get_or t 0 0)
unfolding read_frame
read_being e next at t p q c = rw (p, q, c, read_frame)

pub read_short : (e : Edition) (next at : ℕ) (t : List ℕ) → all_ff t ≡ false → length_fits e next t ≡ false
    → read_frame e next at t ≡ wrong (fault field.Length at)
unfolding read_frame
read_short e next at t p q = rw (p, q, read_frame)

-- which of the four it takes
pub on_read : {P : Type 0} (e : Edition) (next at : ℕ) (t : List ℕ) (x : Read) → read_frame e next at t ≡ x → (all_ff t ≡ true → blank ≡ x → P)
    → (all_ff t ≡ false → length_fits e next t ≡ false → wrong (fault field.Length at) ≡ x → P)
    → (get_or t 0 0 ≤ length t → has_length e next (get_or t 0 0) ≡ true → being_closed e (get_or t 0 0) t ≡ true → torn (get_or t 0 0) ≡ x → P)
    → (all_ff t ≡ false → get_or t 0 0 ≤ length t → has_length e next (get_or t 0 0) ≡ true → read_laid e next at (get_or t 0 0) (get_or t 2 0) t ≡ x → P) → P
on_read e next at t x q f g k h =
    let n : ℕ = get_or t 0 0 in
    on_test (all_ff t)
    (λ a. f a (sym (read_ff e next at t a) ∙ q))
    (λ a. on_test (length_fits e next t)
    (λ b.
    let l : n ≤ length t = leb-true n (length t) (and_left (leb n (length t)) (has_length e next n) b) in
    let m : has_length e next n ≡ true = and_right (leb n (length t)) (has_length e next n) b in
    on_test (being_closed e n t)
    (λ c. k l m c (sym (read_being e next at t a b c) ∙ q))
    (λ c. h a l m (sym (read-laid e next at t a b c) ∙ q)))
    (λ b. g a b (sym (read_short e next at t a b) ∙ q)))

-- ---- bytes that begin a legal frame

module _ (e : Edition) (next at : ℕ) (t : List ℕ) (j : ℕ) (f : Frame) (g : MayStand e next f) (q : take j t ≡ take j (encode e f)) (h : 1 ≤ j)
    (l : frame_len e f ≤ length t) where
  pub begins_laid : being_closed e (get_or t 0 0) t ≡ false → read_frame e next at t ≡ read_laid e next at (get_or t 0 0) (get_or t 2 0) t
  begins_laid c =
      let n : get_or t 0 0 ≡ frame_len e f = begins_length e next t j f g q h in
      read-laid e next at t (all_ff-at t 0 (omega arith) (omega (arith, frame_small e next f g)))
      (and_both (leb (get_or t 0 0) (length t)) (has_length e next (get_or t 0 0)) (le-leb (get_or t 0 0) (length t) (omega arith))
      (ap (has_length e next) n ∙ has-length e next f g)) c

  pub begins_slots : length (slots_at e next t) ≡ frame_len e f
  begins_slots =
      let n : get_or t 0 0 ≡ frame_len e f = begins_length e next t j f g q h in
      length_slots e next t (ap (has_length e next) n ∙ has-length e next f g) ∙ n

-- ---- whole

pub read_back : (e : Edition) (next at : ℕ) (f : Frame) (rest : List ℕ) → MayStand e next f → read_frame e next at (encode e f ++ rest) ≡ whole f
read_back e next at f rest g =
    let t : List ℕ = encode e f ++ rest in
    let n : ℕ = frame_len e f in
    let len : length (encode e f) ≡ n = length-encode e f in
    let q0 : take n t ≡ encode e f = take_at (encode e f) rest n len in
    let q : take n t ≡ take n (encode e f) = q0 ∙ sym (take_all n (encode e f) (omega arith)) in
    let l : n ≤ length t = omega (arith, length-append (encode e f) rest) in
    let ps : List Slot = slots_at e next t in
    let size : length ps ≡ n = begins_slots e next at t n f g q (omega arith) l in
    let fit : Fit ps (encode e f) =
    subst (Fit ps) q0
    (subst (λ (x : List Slot). Fit x (take n t)) (take_all n ps (omega arith)) (begins_fit e next t n f g q (omega arith))) in
    begins_laid e next at t n f g q (omega arith) l (not_whole e f rest (get_or t 0 0) (begins_length e next t n f g q (omega arith)))
    ∙ ap₂ (λ (x : Frame) (m : Match). of_match at (get_or t 0 0) (layout_at e next t).tears x m)
    (ap₂ (λ (k m : ℕ). decode e k m t) (begins_kind e next t n f g q (omega arith)) (begins_length e next t n f g q (omega arith)) ∙ decode-own e f rest)
    (match-all ps (encode e f) rest fit)

pub whole-reads : (e : Edition) (next at : ℕ) (t : List ℕ) (f : Frame) → Whole e next t f → read_frame e next at t ≡ whole f
whole-reads e next at t f w = ap (read_frame e next at) w.bytes ∙ read_back e next at f w.rest w.stands

of-all : (at n : ℕ) (b : Bool) (g f : Frame) (m : Match) → of_match at n b g m ≡ whole f → (m ≡ all) × (g ≡ f)
of-all at n b g f all q = (refl, cc)
of-all at n true g f (part p) q = let z : ◌≡◌ {A = ℕ} 0 1 = cc in absurd (omega arith)
of-all at n false g f (part p) q = let z : ◌≡◌ {A = ℕ} 0 1 = cc in absurd (omega arith)
of-all at n b g f (misfit p) q = let z : ◌≡◌ {A = ℕ} 0 1 = cc in absurd (omega arith)

pub whole_decoded : (e : Edition) (next at : ℕ) (t : List ℕ) (f : Frame) → read_frame e next at t ≡ whole f → decode e (get_or t 2 0) (get_or t 0 0) t ≡ f
whole_decoded e next at t f q =
    on_read e next at t (whole f) q
    (λ a r. let z : ◌≡◌ {A = ℕ} 0 1 = cc in absurd (omega arith))
    (λ a b r. let z : ◌≡◌ {A = ℕ} 0 1 = cc in absurd (omega arith))
    (λ l b c r. let z : ◌≡◌ {A = ℕ} 0 1 = cc in absurd (omega arith))
    (λ a l b r. (of-all at (get_or t 0 0) (layout_at e next t).tears (decode e (get_or t 2 0) (get_or t 0 0) t) f (match (slots_at e next t) t) r).1)

pub whole-sound : (e : Edition) (next at : ℕ) (t : List ℕ) (f : Frame) → read_frame e next at t ≡ whole f → Whole e next t f
whole-sound e next at t f q =
    let n : ℕ = get_or t 0 0 in
    let ps : List Slot = slots_at e next t in
    on_read e next at t (whole f) q
    (λ a r. let z : ◌≡◌ {A = ℕ} 0 1 = cc in absurd (omega arith))
    (λ a b r. let z : ◌≡◌ {A = ℕ} 0 1 = cc in absurd (omega arith))
    (λ l b c r. let z : ◌≡◌ {A = ℕ} 0 1 = cc in absurd (omega arith))
    (λ a l b r.
    let m : match ps t ≡ all = (of-all at n (layout_at e next t).tears (decode e (get_or t 2 0) n t) f (match ps t) r).0 in
    let size : length ps ≡ n = length_slots e next t b in
    let fit : Fit (take (length ps) ps) (take (length ps) t) =
    subst (λ (x : List Slot). Fit x (take (length ps) t)) (sym (take-length ps)) (match-seen ps t m) in
    let y : Begun e next t (length ps) = complete e next t (length ps) b fit (omega arith) in
    let g : Frame = y.frame in
    let g-is : encode e g ≡ take (length ps) t =
    sym (take_all (length ps) (encode e g) (omega (arith, length-encode e g, y.size))) ∙ y.bytes in
    let i : t ≡ encode e g ++ drop (length ps) t =
    sym (take-append-drop (length ps) t) ∙ ap (λ (x : List ℕ). x ++ drop (length ps) t) (sym g-is) in
    let same : whole g ≡ whole f = sym (ap (read_frame e next at) i ∙ read_back e next at g (drop (length ps) t) y.stands) ∙ q in
    let s : g ≡ f = cc in
    subst (Whole e next t) s (record { rest = drop (length ps) t; stands = y.stands; bytes = i }))

-- ---- torn

-- how long a torn frame is
pub closed-most : (e : Edition) (n : ℕ) → ClosedLength e n → n ≤ max_frame e
closed-most e n (inl h) = omega arith
closed-most e n (inr (inl h)) = omega arith
closed-most e n (inr (inr h)) = h.1

being_fits : (e : Edition) (t : List ℕ) (n : ℕ) → BeingClosed e t n → n ≤ length t
being_fits e t n y =
    let r : List ℕ = replicate (suc y.left) 255 in
    omega (arith, ap length y.bytes, length-append y.body r, length-replicate {A = ℕ} (suc y.left) 255, y.size)

pub torn-fits : (e : Edition) (next : ℕ) (t : List ℕ) (n : ℕ) → Torn e next t n → (5 ≤ n) × (n ≤ length t)
torn-fits e next t n (cut_short y) = (omega (arith, y.long), omega (arith, y.long, y.would_fit))
torn-fits e next t n (being-closed y) = (closed-least e n y.has-length, being_fits e t n y)

pub length_cut : (k : ℕ) (x : List ℕ) (m : ℕ) → k ≤ length x → length (take k x ++ replicate m 255) ≡ k + m
length_cut k x m h =
    length-append (take k x) (replicate m 255) ∙ ap₂ (λ (a b : ℕ). a + b) (length-take-le k x h) (length-replicate {A = ℕ} m 255)

-- the third byte where at most two stand
third : (x : List ℕ) (m : ℕ) → length x ≤ 2 → 3 ≤ length x + m → get_or (x ++ replicate m 255) 2 0 ≡ 255
third [] m h l = get_or-replicate m 2 255 0 (omega arith)
third (a ∷ []) m h l = get_or-replicate m 1 255 0 (omega arith)
third (a ∷ b ∷ []) m h l = get_or-replicate m 0 255 0 (omega arith)
third (a ∷ b ∷ c ∷ x) m h l = absurd (omega arith)

pub read-torn : (e : Edition) (next at : ℕ) (f : Frame) (k m : ℕ) → Tears f → MayStand e next f → 1 ≤ k → k < frame_len e f → frame_len e f ≤ k + m
    → read_frame e next at (take k (encode e f) ++ replicate m 255) ≡ torn (frame_len e f)
read-torn e next at f k m u g h lo hi =
    let x : List ℕ = take k (encode e f) in
    let t : List ℕ = x ++ replicate m 255 in
    let len : length x ≡ k = length-take-le k (encode e f) (omega (arith, length-encode e f)) in
    let q : take k t ≡ take k (encode e f) = take_at x (replicate m 255) k len in
    let l : length t ≡ k + m = length_cut k (encode e f) m (omega (arith, length-encode e f)) in
    let n : get_or t 0 0 ≡ frame_len e f = begins_length e next t k f g q h in
    let ps : List Slot = slots_at e next t in
    let size : length ps ≡ frame_len e f = begins_slots e next at t k f g q h (omega arith) in
    let fit : Fit (take k ps) x = subst (Fit (take k ps)) q (begins_fit e next t k f g q h) in
    let p : Partly (match ps t) = match-some k ps x m fit (closed_slots e next t) (omega arith) (omega arith) in
    let kind : (get_or t 2 0 ≡ kind_of f) ⊎ (get_or t 2 0 ≡ 255) =
    on_test (leb 3 k)
    (λ b. inl (begins_kind e next t k f g q (leb-true 3 k b)))
    (λ b. inr (third x m (omega (arith, leb-false 3 k b)) (omega arith))) in
    let tears : (layout_at e next t).tears ≡ true =
    ap (λ (z : ℕ). (layout_of e next z (get_or t 2 0)).tears) n
    ∙ ⊎_elim
    (λ b. ap (λ (z : ℕ). (layout_of e next (frame_len e f) z).tears) b ∙ (own e next f g).tears u)
    (λ b. ap (λ (z : ℕ). (layout_of e next (frame_len e f) z).tears) b ∙ unseen e next f u g) kind in
    begins_laid e next at t k f g q h (omega arith)
    (not_kind e (get_or t 0 0) t (λ z. ⊎_elim (λ b. tears-kind f u (sym b ∙ z)) (λ b. omega arith) kind))
    ∙ ap₂ (λ (b : Bool) (y : Match). of_match at (get_or t 0 0) b (decode e (get_or t 2 0) (get_or t 0 0) t) y) tears p.is
    ∙ ap torn n

cut-reads : (e : Edition) (next at : ℕ) (t : List ℕ) (n : ℕ) → CutShort e next t n → read_frame e next at t ≡ torn n
cut-reads e next at t n y =
    let l : length t ≡ y.k + y.left =
    ap length y.bytes ∙ length_cut y.k (encode e y.frame) y.left (omega (arith, length-encode e y.frame, y.not_all)) in
    ap (read_frame e next at) y.bytes
    ∙ read-torn e next at y.frame y.k y.left y.tears y.legal y.some y.not_all (omega (arith, y.would_fit))
    ∙ ap torn (sym y.long)

being_reads : (e : Edition) (next at : ℕ) (t : List ℕ) (n : ℕ) → BeingClosed e t n → read_frame e next at t ≡ torn n
being_reads e next at t n y =
    let q : get_or t 0 0 ≡ n = ap (λ (x : List ℕ). get_or x 0 0) y.bytes in
    let l : n ≤ length t = being_fits e t n y in
    let five : 5 ≤ n = closed-least e n y.has-length in
    read_being e next at t (all_ff-at t 0 (omega arith) (omega (arith, closed-most e n y.has-length, length-shows e)))
    (and_both (leb (get_or t 0 0) (length t)) (has_length e next (get_or t 0 0)) (le-leb (get_or t 0 0) (length t) (omega arith))
    (ap (has_length e next) q ∙ length-of e next n (inl y.has-length)))
    (ap (λ (z : ℕ). being_closed e z t) q ∙ being_of e n t (being_clears e n t y))
    ∙ ap torn q

pub torn-reads : (e : Edition) (next at : ℕ) (t : List ℕ) (n : ℕ) → Torn e next t n → read_frame e next at t ≡ torn n
torn-reads e next at t n (cut_short y) = cut-reads e next at t n y
torn-reads e next at t n (being-closed y) = being_reads e next at t n y

record OfTorn (n : ℕ) (b : Bool) (m : Match) (x : ℕ) : Type 0 where
  tears : b ≡ true
  partly : Partly m
  long : n ≡ x

of-torn : (at n : ℕ) (b : Bool) (g : Frame) (m : Match) (x : ℕ) → of_match at n b g m ≡ torn x → OfTorn n b m x
of-torn at n b g all x q = let z : ◌≡◌ {A = ℕ} 0 1 = cc in absurd (omega arith)
of-torn at n true g (part p) x q = record { tears = refl; partly = record { at = p; is = refl }; long = cc }
of-torn at n false g (part p) x q = let z : ◌≡◌ {A = ℕ} 0 1 = cc in absurd (omega arith)
of-torn at n b g (misfit p) x q = let z : ◌≡◌ {A = ℕ} 0 1 = cc in absurd (omega arith)

-- where a match stops is before the end
pub stuck-before : (ps : List Slot) (t : List ℕ) (p : Slot) (y : Stuck ps t p) → y.place < length ps
stuck-before ps t p y = omega (arith, length-drop y.place ps, ap length y.is_slots)

pub torn-sound : (e : Edition) (next at : ℕ) (t : List ℕ) (x : ℕ) → read_frame e next at t ≡ torn x → Torn e next t x
torn-sound e next at t x q =
    let n : ℕ = get_or t 0 0 in
    let ps : List Slot = slots_at e next t in
    on_read e next at t (torn x) q
    (λ a r. let z : ◌≡◌ {A = ℕ} 0 1 = cc in absurd (omega arith))
    (λ a b r. let z : ◌≡◌ {A = ℕ} 0 1 = cc in absurd (omega arith))
    (λ l b c r.
    let s : n ≡ x = cc in
    let y : Clearing e n t = being_inv e n t c in
    subst (Torn e next t) s (being-closed (being_sound e n t refl l (closable y.other (length_inv e next n b)) y)))
    (λ a l b r.
    let o : OfTorn n (layout_at e next t).tears (match ps t) x =
    of-torn at n (layout_at e next t).tears (decode e (get_or t 2 0) n t) (match ps t) x r in
    let p : Slot = o.partly.at in
    let y : Stuck ps t p = match-stuck ps t p (subst (λ (m : Match). Stopped m p) (sym o.partly.is) refl) in
    let i : ℕ = y.place in
    let w : (left : ℕ) × (t ≡ take i t ++ replicate left 255) = subst (λ (m : Match). Blanks m t i) o.partly.is y.blanks in
    let size : length ps ≡ n = length_slots e next t b in
    let in-ps : i < length ps = stuck-before ps t p y in
    let z : Begun e next t i = complete e next t i b y.fit (omega arith) in
    cut_short (record {
      frame = z.frame;
      k = i;
      left = w.0;
      tears = z.tears o.tears;
      legal = z.stands;
      some = some i w.0 a w.1;
      not_all = omega (arith, z.size);
      would_fit = omega (arith, z.size);
      bytes = w.1 ∙ ap (λ (u : List ℕ). u ++ replicate w.0 255) (sym z.bytes);
      long = sym o.long ∙ sym z.size;
    }))
  where
    closable : {n : ℕ} → (n ≡ settled_len e 0 → ⊥) → SomeLength e next n → ClosedLength e n
    closable h (inl a) = a
    closable h (inr a) = absurd (h a.1)

    some : (i m : ℕ) → all_ff t ≡ false → t ≡ take i t ++ replicate m 255 → 1 ≤ i
    some zero m a r = clash (all_ff t) (ap all_ff r ∙ all_ff-all m) a
    some (suc i) m a r = omega arith

-- ---- blank and wrong

of-blank : (at n : ℕ) (b : Bool) (g : Frame) (m : Match) → of_match at n b g m ≡ blank → ⊥
of-blank at n b g all q = let z : ◌≡◌ {A = ℕ} 0 1 = cc in omega arith
of-blank at n true g (part p) q = let z : ◌≡◌ {A = ℕ} 0 1 = cc in omega arith
of-blank at n false g (part p) q = let z : ◌≡◌ {A = ℕ} 0 1 = cc in omega arith
of-blank at n b g (misfit p) q = let z : ◌≡◌ {A = ℕ} 0 1 = cc in omega arith

pub blank-sound : (e : Edition) (next at : ℕ) (t : List ℕ) → read_frame e next at t ≡ blank → Blank t
blank-sound e next at t q =
    on_read e next at t blank q
    (λ a r. all_ff_lem t a)
    (λ a b r. let z : ◌≡◌ {A = ℕ} 0 1 = cc in absurd (omega arith))
    (λ l b c r. let z : ◌≡◌ {A = ℕ} 0 1 = cc in absurd (omega arith))
    (λ a l b r. absurd (of-blank at (get_or t 0 0) (layout_at e next t).tears (decode e (get_or t 2 0) (get_or t 0 0) t) (match (slots_at e next t) t) r))

pub blank-reads : (e : Edition) (next at : ℕ) (t : List ℕ) → Blank t → read_frame e next at t ≡ blank
blank-reads e next at t b = read_ff e next at t (is_ff t b)

pub wrong-sound : (e : Edition) (next at : ℕ) (t : List ℕ) (x : Fault) → read_frame e next at t ≡ wrong x → Wrong e next t
wrong-sound e next at t x q = record {
  not_blank = λ b. let p : blank ≡ wrong x = sym (blank-reads e next at t b) ∙ q in let z : ◌≡◌ {A = ℕ} 0 1 = cc in omega arith;
  not_whole = λ f w. let p : whole f ≡ wrong x = sym (whole-reads e next at t f w) ∙ q in let z : ◌≡◌ {A = ℕ} 0 1 = cc in omega arith;
  not_torn = λ n y. let p : torn n ≡ wrong x = sym (torn-reads e next at t n y) ∙ q in let z : ◌≡◌ {A = ℕ} 0 1 = cc in omega arith;
}

pub wrong-reads : (e : Edition) (next at : ℕ) (t : List ℕ) → Wrong e next t → (x : Fault) × (read_frame e next at t ≡ wrong x)
wrong-reads e next at t w = go (read_frame e next at t) refl
  where
    go : (r : Read) → read_frame e next at t ≡ r → (x : Fault) × (read_frame e next at t ≡ wrong x)
    go blank q = absurd (w.not_blank (blank-sound e next at t q))
    go (whole f) q = absurd (w.not_whole f (whole-sound e next at t f q))
    go (torn n) q = absurd (w.not_torn n (torn-sound e next at t n q))
    go (wrong x) q = (x, q)
