-- The test of a frame that is being closed: what it says, that it is document 02's sentence, and which frames fail it.
use mathlib.Core.Path.{◌≡◌, refl, sym, ap, subst, ◌∙◌}
use mathlib.Core.List.{List, [], ◌∷◌, ◌++◌, append_assoc}
use mathlib.Core.Logic.{◌⊎◌, inl, inr, ⊎_elim}
use mathlib.Core.Bool.{Bool, true, false, not, ◌||◌}
use Prim.Native.Nat.{ℕ, suc, ◌+◌, ◌-◌, ◌≤◌, ◌<◌}
use native.Mathlib.Omega.{arith}
use native.Mathlib.Nat.{add-zero}
use lib.Dec.{eqb}
use lib.ListN.{length, get_or, take, drop, replicate, length-append, length-drop, take-append-drop}
use lib.Seq.{get_or_at, get_or-drop, drop_at, length-take-le}
use borrow.Author.Tests.{eqb-true, eqb-false, eq-eqb, ne_eqb, not-true}
use Rattle.flash.specs.Bytes.{all_ff}
use Rattle.flash.proofs.Cases.{on_test, clash, and_both, and_left, and_right, or_left, or_right}
use Rattle.flash.proofs.Blank.{all_ff-all, all_ff-at, all_ff_lem}
use Rattle.frame.specs.declared.Edition.{Edition}
use Rattle.frame.specs.Frame.{Frame, seal_of, check, finish, front, encode, frame_len, settled_len, ClosedLength}
use Rattle.frame.specs.Reader.{being_closed}
use Rattle.frame.specs.Sentences.{BeingClosed}
use Rattle.frame.proofs.Encode.{length-encode}
use Rattle.frame.proofs.Own.{on_or, closed-least, closed-other}

-- ---- what it says

pub record Clearing (e : Edition) (n : ℕ) (t : List ℕ) : Type 0 where
  pub kind : get_or t 2 0 ≡ 0
  pub long : get_or t 1 0 ≡ 0
  pub high : (get_or t 3 0 ≡ 0) ⊎ (get_or t 3 0 ≡ 255)
  pub other : n ≡ settled_len e 0 → ⊥
  pub blank : all_ff (drop (n - 1) t) ≡ true

module _ (e : Edition) (n : ℕ) (t : List ℕ) where
  pub being_inv : being_closed e n t ≡ true → Clearing e n t
  being_inv q =
      let h : Bool = eqb (get_or t 3 0) 0 || eqb (get_or t 3 0) 255 in
      let q1 = and_right (eqb (get_or t 2 0) 0) _ q in
      let q2 = and_right (eqb (get_or t 1 0) 0) _ q1 in
      let q3 = and_right h _ q2 in
      record {
        kind = eqb-true (get_or t 2 0) 0 (and_left (eqb (get_or t 2 0) 0) _ q);
        long = eqb-true (get_or t 1 0) 0 (and_left (eqb (get_or t 1 0) 0) _ q1);
        high = on_or (eqb (get_or t 3 0) 0) (eqb (get_or t 3 0) 255) (and_left h _ q2)
            (λ a. inl (eqb-true (get_or t 3 0) 0 a)) (λ a. inr (eqb-true (get_or t 3 0) 255 a));
        other = eqb-false n (settled_len e 0) (not-true (eqb n (settled_len e 0)) (and_left (not (eqb n (settled_len e 0))) _ q3));
        blank = and_right (not (eqb n (settled_len e 0))) _ q3;
      }

  pub being_of : Clearing e n t → being_closed e n t ≡ true
  being_of y =
      let h : Bool = eqb (get_or t 3 0) 0 || eqb (get_or t 3 0) 255 in
      let high : h ≡ true =
      ⊎_elim (λ a. or_left (eqb (get_or t 3 0) 0) (eqb (get_or t 3 0) 255) (eq-eqb (get_or t 3 0) 0 a))
      (λ a. or_right (eqb (get_or t 3 0) 0) (eqb (get_or t 3 0) 255) (eq-eqb (get_or t 3 0) 255 a)) y.high in
      and_both (eqb (get_or t 2 0) 0) _ (eq-eqb (get_or t 2 0) 0 y.kind) (and_both (eqb (get_or t 1 0) 0) _ (eq-eqb (get_or t 1 0) 0 y.long)
      (and_both h _ high (and_both (not (eqb n (settled_len e 0))) (all_ff (drop (n - 1) t)) (ap not (ne_eqb n (settled_len e 0) y.other)) y.blank)))

  -- ---- what fails it

  being_not : (Clearing e n t → ⊥) → being_closed e n t ≡ false
  being_not h = on_test (being_closed e n t) (λ q. absurd (h (being_inv q))) (λ q. q)

  pub not_kind : (get_or t 2 0 ≡ 0 → ⊥) → being_closed e n t ≡ false
  not_kind h = being_not (λ y. h y.kind)

  pub not_settled : n ≡ settled_len e 0 → being_closed e n t ≡ false
  not_settled h = being_not (λ y. y.other h)

  pub not_finish : n - 1 < length t → (get_or t (n - 1) 0 ≡ 255 → ⊥) → being_closed e n t ≡ false
  not_finish l h = being_not (λ y.
      clash (all_ff (drop (n - 1) t)) y.blank
      (all_ff-at (drop (n - 1) t) 0 (omega (arith, length-drop (n - 1) t))
      (λ q. h (ap (λ (i : ℕ). get_or t i 0) (sym (add-zero (n - 1))) ∙ sym (get_or-drop (n - 1) t 0 0) ∙ q))))
  -- ---- or its last test decides

-- a frame's last byte
pub last_byte : (e : Edition) (f : Frame) (rest : List ℕ) → get_or (encode e f ++ rest) (frame_len e f - 1) 0 ≡ finish
last_byte e f rest =
    let x : List ℕ = front e f in
    let c : List ℕ = check (seal_of e f) x in
    let q : encode e f ++ rest ≡ (x ++ c) ++ (finish ∷ rest) =
    append_assoc x (c ++ (finish ∷ [])) rest
    ∙ ap (λ (y : List ℕ). x ++ y) (append_assoc c (finish ∷ []) rest)
    ∙ sym (append_assoc x c (finish ∷ rest)) in
    let l : length (x ++ c) ≡ frame_len e f - 1 =
    omega (arith, length-encode e f, length-append x (c ++ (finish ∷ [])), length-append c (finish ∷ []), length-append x c) in
    ap (λ (y : List ℕ). get_or y (frame_len e f - 1) 0) q ∙ get_or_at (x ++ c) finish rest 0 (frame_len e f - 1) l

pub not_whole : (e : Edition) (f : Frame) (rest : List ℕ) (n : ℕ) → n ≡ frame_len e f → being_closed e n (encode e f ++ rest) ≡ false
not_whole e f rest n q =
    not_finish e n (encode e f ++ rest) (omega (arith, length-append (encode e f) rest, length-encode e f))
    (λ z. let y : ◌≡◌ {A = ℕ} finish 255 = sym (ap (λ (i : ℕ). get_or (encode e f ++ rest) (i - 1) 0) q ∙ last_byte e f rest) ∙ z in omega arith)

-- ---- it is the sentence

pub being_sound : (e : Edition) (n : ℕ) (t : List ℕ) → n ≡ get_or t 0 0 → n ≤ length t → ClosedLength e n → Clearing e n t → BeingClosed e t n
being_sound e n (a ∷ b ∷ c ∷ d ∷ r) q l h y =
    let five : 5 ≤ n = omega (arith, closed-least e n h) in
    let m : ℕ = n - 5 in
    let k : n - 1 ≡ suc (suc (suc (suc m))) = omega arith in
    let ff : drop m r ≡ replicate (length (drop m r)) 255 =
    all_ff_lem (drop m r) (ap (λ (i : ℕ). all_ff (drop i (a ∷ b ∷ c ∷ d ∷ r))) (sym k) ∙ y.blank) in
    let left : ℕ = length r + 4 - n in
    let s : length (drop m r) ≡ suc left = omega (arith, length-drop m r) in
    let r-is : r ≡ take m r ++ replicate (suc left) 255 =
    sym (take-append-drop m r) ∙ ap (λ (x : List ℕ). take m r ++ x) (ff ∙ ap (λ (i : ℕ). replicate i 255) s) in
    record {
      high = d;
      body = take m r;
      left = left;
      has-length = h;
      size = omega (arith, length-take-le m r (omega arith));
      high_is = y.high;
      bytes = five_of (sym q) y.long y.kind r-is;
    }
  where
    five_of : {a n b c : ℕ} {r s : List ℕ} → a ≡ n → b ≡ 0 → c ≡ 0 → r ≡ s → ◌≡◌ {A = List ℕ} (a ∷ b ∷ c ∷ d ∷ r) (n ∷ 0 ∷ 0 ∷ d ∷ s)
    five_of p q r s = cc
being_sound e n [] q l h y = absurd (omega (arith, closed-least e n h))
being_sound e n (a ∷ []) q l h y = absurd (omega (arith, closed-least e n h))
being_sound e n (a ∷ b ∷ []) q l h y = absurd (omega (arith, closed-least e n h))
being_sound e n (a ∷ b ∷ c ∷ []) q l h y = absurd (omega (arith, closed-least e n h))

pub being_clears : (e : Edition) (n : ℕ) (t : List ℕ) → BeingClosed e t n → Clearing e n t
being_clears e n t y =
    let r : List ℕ = y.body ++ replicate (suc y.left) 255 in
    let k : n - 1 ≡ suc (suc (suc (suc (length y.body)))) = omega (arith, y.size) in
    subst (Clearing e n) (sym y.bytes) (record {
      kind = refl;
      long = refl;
      high = y.high_is;
      other = closed-other e n y.has-length;
      blank =
          ap (λ (i : ℕ). all_ff (drop i (n ∷ 0 ∷ 0 ∷ y.high ∷ r))) k
          ∙ ap all_ff (drop_at y.body (replicate (suc y.left) 255) (length y.body) refl)
          ∙ all_ff-all (suc y.left);
    })
