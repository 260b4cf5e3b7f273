-- The reader is the papers': what it says, where it says wrong, and what that is of settled frames, in each edition.
use mathlib.Core.Path.{◌≡◌, sym, ap, ap₂, subst, ◌∙◌}
use mathlib.Core.List.{List, [], ◌∷◌, ◌++◌}
use mathlib.Core.Logic.{◌⊎◌, inl, inr, ⊎_elim}
use mathlib.Core.Bool.{Bool, false}
use Prim.Native.Nat.{ℕ, ◌+◌, ◌/◌, ◌%◌, ◌≤◌, ◌<◌}
use native.Mathlib.Omega.{arith}
use lib.Dec.{leb}
use lib.ListN.{length, get_or, take, drop, replicate, length-append}
use lib.Seq.{take_at, length-take-le}
use borrow.Author.Tests.{lt-leb, le-leb}
use Rattle.flash.proofs.Cases.{and_both, and_no_right, between-yes}
use Rattle.flash.proofs.Blank.{all_ff-no}
use Rattle.frame.specs.declared.Edition.{Edition}
use Rattle.frame.specs.declared.Fault.{Fault}
use Rattle.frame.specs.declared.Field.TheVariants as field
use Rattle.frame.specs.declared.ObjectId.{ObjectId}
use Rattle.frame.specs.Frame.{Frame, change, settled, put, host_of, id_of, id_max, body_at, encode, frame_len, LegalValue, MayStand}
use Rattle.frame.specs.Reader.{wrong, Slot, slot, Layout, layout_of, front_slots, seal_slots, has_length, Match, misfit, match, decode, fault_at}
use Rattle.frame.specs.Reader.{of_match, being_closed, read_frame}
use Rattle.frame.specs.Sentences.{ReaderExact, SettledWrong, last_fault}
use Rattle.frame.proofs.Encode.{frame_small, length-encode}
use Rattle.frame.proofs.Fit.{Fit, Partly, match-go, match-misfit, match-some}
use Rattle.frame.proofs.Own.{has-length, settled-tears, last-length, last-layout}
use Rattle.frame.proofs.Layouts.{layout_at, slots_at, closed_slots, begins_length, begins_kind, begins_fit}
use Rattle.frame.proofs.BeingClosed.{not_kind, not_settled}
use Rattle.frame.proofs.Exact.{read-laid, read_short, begins_laid, begins_slots, length_cut}
use Rattle.frame.proofs.Exact.{blank-sound, blank-reads, whole-sound, whole-reads, torn-sound, torn-reads, wrong-sound, wrong-reads}
use Rattle.frame.proofs.Faults.{wrong-at-sound, wrong-at-reads}

pub reader_exact : (e : Edition) → ReaderExact e
reader_exact e = record {
  is-blank = λ next at t. (blank-sound e next at t, blank-reads e next at t);
  is-whole = λ next at t f. (whole-sound e next at t f, whole-reads e next at t f);
  is-torn = λ next at t n. (torn-sound e next at t n, torn-reads e next at t n);
  is_wrong = λ next at t. ((λ p. wrong-sound e next at t p.0 p.1), wrong-reads e next at t);
  is_wrong_at = λ next at t x y. (wrong-at-sound e next at t x y, wrong-at-reads e next at t x y);
}

-- ---- settled frames after the last id

-- kind 5 in a layout of lower kinds
kind-bad : (l : Layout) (ps : List Slot) (n a : ℕ) (t : List ℕ) → a ≡ 0 → l.to < 5
    → match (front_slots n l ++ ps) (n ∷ a ∷ 5 ∷ t) ≡ misfit (slot field.Kind 2 l.from l.to)
kind-bad l ps n a t q h =
    match-go (slot field.Length 0 n n) (drop 1 (front_slots n l ++ ps)) n (a ∷ 5 ∷ t) (between-yes n n n (omega arith) (omega arith))
    ∙ match-go (slot field.Length 0 0 0) (drop 2 (front_slots n l ++ ps)) a (5 ∷ t) (between-yes 0 a 0 (omega arith) (omega arith))
    ∙ match-misfit (slot field.Kind 2 l.from l.to) (drop 3 (front_slots n l ++ ps)) 5 t
    (and_no_right (leb l.from 5) (leb 5 l.to) (lt-leb 5 l.to h))
    (all_ff-no 5 t (omega arith))

after_last : (e : Edition) (at : ℕ) (i : ObjectId) (v rest : List ℕ) → i.0 ≤ id_max → LegalValue v
    → read_frame e 256 at (encode e (settled i v) ++ rest) ≡ wrong (last_fault at v)
after_last e at i [] rest hi hv =
    let f : Frame = settled i [] in
    let n : ℕ = frame_len e f in
    let t : List ℕ = encode e f ++ rest in
    let small : n < 255 = frame_small e 0 f (omega arith, hi, hv) in
    read_short e 256 at t (all_ff-no (n % 256) (drop 1 t) (omega arith))
    (and_no_right (leb (n % 256) (length t)) (has_length e 256 (n % 256)) (last-length e 256 (n % 256) (omega arith) (omega arith)))
after_last e at i (b ∷ v) rest hi (hv, (h, hb)) =
    let f : Frame = settled i (b ∷ v) in
    let g : Frame = change (host_of 0) (put (id_of 0) v) in
    let n : ℕ = frame_len e f in
    let t : List ℕ = encode e f ++ rest in
    let small : n < 255 = frame_small e 0 f (omega arith, hi, (hv, (h, hb))) in
    let same : frame_len e g ≡ n % 256 = omega arith in
    let l : Layout = layout_of e 256 (n % 256) 5 in
    let m : ℕ = body_at + length l.body in
    read-laid e 256 at t (all_ff-no (n % 256) (drop 1 t) (omega arith))
    (and_both (leb (n % 256) (length t)) (has_length e 256 (n % 256))
    (le-leb (n % 256) (length t) (omega (arith, length-append (encode e f) rest, length-encode e f)))
    (ap (has_length e 256) (sym same) ∙ has-length e 256 g (omega arith, omega arith, (omega arith, hb)))) (not_kind e (n % 256) t (omega arith))
    ∙ ap (of_match at (n % 256) l.tears (decode e 5 (n % 256) t))
    (kind-bad l (seal_slots l.seal m (take m t)) (n % 256) (n / 256) (drop 3 t) (omega arith) (last-layout e 256 (n % 256) (omega arith) (omega arith)))

-- ---- settled frames cut off

cut_off : (e : Edition) (next at : ℕ) (i : ObjectId) (v : List ℕ) (k m : ℕ) → MayStand e next (settled i v) → (3 ≤ k) ⊎ ((1 ≤ k) × (v ≡ []))
    → 1 ≤ k → k < frame_len e (settled i v) → frame_len e (settled i v) ≤ k + m
    → (x : Fault) × (read_frame e next at (take k (encode e (settled i v)) ++ replicate m 255) ≡ wrong x)
cut_off e next at i v k m g s h lo hi =
    let f : Frame = settled i v in
    let x : List ℕ = take k (encode e f) in
    let t : List ℕ = x ++ replicate m 255 in
    let len : length x ≡ k = length-take-le k (encode e f) (omega (arith, length-encode e f)) in
    let q : take k t ≡ take k (encode e f) = take_at x (replicate m 255) k len in
    let l : length t ≡ k + m = length_cut k (encode e f) m (omega (arith, length-encode e f)) in
    let n : get_or t 0 0 ≡ frame_len e f = begins_length e next t k f g q h in
    let ps : List Slot = slots_at e next t in
    let size : length ps ≡ frame_len e f = begins_slots e next at t k f g q h (omega arith) in
    let fit : Fit (take k ps) x = subst (Fit (take k ps)) q (begins_fit e next t k f g q h) in
    let p : Partly (match ps t) = match-some k ps x m fit (closed_slots e next t) (omega arith) (omega arith) in
    let known : (get_or t 2 0 ≡ 5) ⊎ (v ≡ []) = seen s (λ b. begins_kind e next t k f g q b) in
    let open-still : being_closed e (get_or t 0 0) t ≡ false =
    ⊎_elim (λ b. not_kind e (get_or t 0 0) t (omega arith))
    (λ b. not_settled e (get_or t 0 0) t (n ∙ ap (λ (z : List ℕ). frame_len e (settled i z)) b ∙ omega arith))
    known in
    let tears : (layout_at e next t).tears ≡ false =
    ap (λ (z : ℕ). (layout_of e next z (get_or t 2 0)).tears) n ∙ settled-tears e next i v (get_or t 2 0) g known in (
      fault_at at p.at,
      begins_laid e next at t k f g q h (omega arith) open-still
          ∙ ap₂ (λ (b : Bool) (y : Match). of_match at (get_or t 0 0) b (decode e (get_or t 2 0) (get_or t 0 0) t) y) tears p.is,
    )
  where
    seen : {k : ℕ} {v : List ℕ} {P : Type 0} → (3 ≤ k) ⊎ ((1 ≤ k) × (v ≡ [])) → (3 ≤ k → P) → P ⊎ (v ≡ [])
    seen (inl a) b = inl (b a)
    seen (inr (a, c)) b = inr c

pub settled-wrong : (e : Edition) → SettledWrong e
settled-wrong e = record {
  after_last = λ at i v w rest hi hv. after_last e at i v rest hi hv;
  cut = λ next at i v k left g s lo hi. cut_off e next at i v k left g s (some k v s) lo hi;
}
  where
    some : (k : ℕ) (v : List ℕ) → (3 ≤ k) ⊎ ((1 ≤ k) × (v ≡ [])) → 1 ≤ k
    some k v (inl a) = omega arith
    some k v (inr (a, c)) = a
