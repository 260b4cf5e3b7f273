-- What is read: by the first byte that does not fit, and at an offset.
use mathlib.Core.Path.{◌≡◌, refl, sym, ap, ap₂, ◌∙◌}
use mathlib.Core.List.{List, [], ◌∷◌}
use mathlib.Core.Logic.{inl, inr}
use mathlib.Core.Bool.{Bool, true, false, ◌&&◌}
use Prim.Native.Nat.{ℕ, zero, suc, ◌+◌, ◌≤◌, ◌<◌}
use native.Mathlib.Omega.{arith}
use native.Mathlib.Nat.{zero-add, add-zero}
use Rattle.std.specs.Prelude.{Option, Some, None}
use Rattle.std.specs.Option.{option_or}
use lib.Dec.{eqb, leb}
use borrow.Author.Tests.{le-leb, lt-leb, eq-eqb}
use lib.ListN.{length, get_or, drop}
use Rattle.flash.specs.Bytes.{all_ff}
use Rattle.flash.proofs.Cases.{on_test, clash, and_both, and_no-left, and_no_right, or_right}
use Rattle.frame.specs.Frame.{Frame, check_len, put_len, settled_len, ClosedLength}
use Rattle.frame.specs.Reader.{Read, blank, whole, torn, wrong, fault, fault_at, Slot, fits, layout_of, laid, has_length, only_settled}
use Rattle.frame.specs.Reader.{Match, all, part, misfit, match, decode, of_match, being_closed, read_laid, read_frame}
use Rattle.frame.specs.Code.{head_of, read_of}
use Rattle.reader.specs.Misfits.{laid_misfit, misfit_at, misfit_from}
use Rattle.frame.specs.declared.Edition.{Edition}
use Rattle.frame.specs.declared.Fault.{Fault}
use Rattle.frame.specs.declared.Field.TheVariants as field
use Rattle.frame.specs.declared.FrameRead.{FrameRead}
use Rattle.frame.specs.declared.FrameRead.TheVariants as read
use Rattle.reader.specs.declared.fitting.Misfit.{Misfit}
use Rattle.frame.proofs.Fit.{match-go, match-part, match-misfit}
use Rattle.frame.proofs.Own.{only_yes, SomeLength, length_inv}
use Rattle.frame.proofs.Layouts.{length_slots}
use Rattle.frame.proofs.Exact.{length_fits, read_ff, read-laid, read_being, read_short}
use Rattle.reader.proofs.Misfits.{one-fits, one_fails}

-- ---- a misfit, and the match

found-go : (o : ℕ) (p : Slot) (ps : List Slot) (b : ℕ) (t : List ℕ) → fits p b ≡ true → misfit_from o (p ∷ ps) (b ∷ t) ≡ misfit_from (suc o) ps t
unfolding misfit_from
found-go o p ps b t e = ap (λ (x : Option Misfit). option_or x (misfit_from (suc o) ps t)) (one-fits o p b e)

found-stop : (o : ℕ) (p : Slot) (ps : List Slot) (b : ℕ) (t : List ℕ) → fits p b ≡ false → misfit_from o (p ∷ ps) (b ∷ t) ≡ misfit_at o p
unfolding misfit_from
found-stop o p ps b t e =
    ap (λ (x : Option Misfit). option_or x (misfit_from (suc o) ps t)) (one_fails o p b e)

-- tears, and only 0xFF follows
abbrev pub cut_off_of : Bool → Bool → ℕ → Fault → FrameRead
cut_off_of true true n e = read.Torn n
cut_off_of true false n e = read.Wrong e
cut_off_of false x n e = read.Wrong e

abbrev pub laid_read : Bool → ℕ → Frame → List ℕ → Option Misfit → FrameRead
laid_read b n f t None = read.Whole (head_of f)
laid_read b n f t (Some m) = cut_off_of b (all_ff (drop m.at t)) n m.fault

at_front : (p : Slot) → read_of (wrong (fault_at 0 p)) ≡ read.Wrong (fault p.field p.start)
at_front p = ap (λ (s : ℕ). read.Wrong (fault p.field s)) (zero-add p.start)

drop-next : (o b : ℕ) (t u : List ℕ) → drop o t ≡ b ∷ u → drop (suc o) t ≡ u
drop-next zero b (x ∷ t) u e = ap (drop 1) e
drop-next zero b [] u e = ap (drop 1) e
drop-next (suc o) b [] u e = ap (drop 1) e
drop-next (suc o) b (x ∷ t) u e = drop-next o b t u e

part_is : (b : Bool) (n : ℕ) (f : Frame) (p : Slot) → read_of (of_match 0 n b f (part p)) ≡ cut_off_of b true n (fault p.field p.start)
part_is true n f p = refl
part_is false n f p = at_front p

misfit-is : (b : Bool) (n : ℕ) (f : Frame) (p : Slot) → read_of (of_match 0 n b f (misfit p)) ≡ cut_off_of b false n (fault p.field p.start)
misfit-is true n f p = at_front p
misfit-is false n f p = at_front p

read-from : (b : Bool) (n : ℕ) (f : Frame) (t : List ℕ) (o : ℕ) (ps : List Slot) (u : List ℕ) → drop o t ≡ u → length ps ≤ length u
    → read_of (of_match 0 n b f (match ps u)) ≡ laid_read b n f t (misfit_from o ps u)
unfolding match misfit_from
read-from c n f t o [] u e l = refl
read-from c n f t o (p ∷ ps) [] e l = absurd (omega arith)
read-from c n f t o (p ∷ ps) (b ∷ u) e l =
    on_test (fits p b)
    (λ q. ap (λ (m : Match). read_of (of_match 0 n c f m)) (match-go p ps b u q)
    ∙ read-from c n f t (suc o) ps u (drop-next o b t u e) (omega arith)
    ∙ ap (laid_read c n f t) (sym (found-go o p ps b u q)))
    (λ q.
    let r : laid_read c n f t (misfit_from o (p ∷ ps) (b ∷ u)) ≡ cut_off_of c (all_ff (b ∷ u)) n (fault p.field p.start)
    = ap (laid_read c n f t) (found-stop o p ps b u q) ∙ ap (λ (x : List ℕ). cut_off_of c (all_ff x) n (fault p.field p.start)) e in
    on_test (all_ff (b ∷ u))
    (λ a. ap (λ (m : Match). read_of (of_match 0 n c f m)) (match-part p ps b u q a)
    ∙ part_is c n f p ∙ sym (r ∙ ap (λ (x : Bool). cut_off_of c x n (fault p.field p.start)) a))
    (λ a. ap (λ (m : Match). read_of (of_match 0 n c f m)) (match-misfit p ps b u q a)
    ∙ misfit-is c n f p ∙ sym (r ∙ ap (λ (x : Bool). cut_off_of c x n (fault p.field p.start)) a)))

-- the slots and the answer, where the length fits
module _ (e : Edition) (next n k : ℕ) (t : List ℕ) (p : n ≡ get_or t 0 0) (q : k ≡ get_or t 2 0) (l : has_length e next n ≡ true) (h : n ≤ length t) where
  size_is : length (laid n (layout_of e next n k) t) ≡ n
  size_is =
      ap₂ (λ (x y : ℕ). length (laid x (layout_of e next x y) t)) p q
      ∙ length_slots e next t (ap (has_length e next) (sym p) ∙ l) ∙ sym p

  pub laid-read : read_of (read_laid e next 0 n k t)
      ≡ laid_read (layout_of e next n k).tears n (decode e k n t) t (laid_misfit n (layout_of e next n k) t)
  laid-read = read-from (layout_of e next n k).tears n (decode e k n t) t 0 (laid n (layout_of e next n k) t) t refl (omega (arith, size_is))

-- ---- the steps of the reader

module _ (e : Edition) (next n : ℕ) (t : List ℕ) (p : n ≡ get_or t 0 0) (a : all_ff t ≡ false) where
  length-fits : n ≤ length t → has_length e next n ≡ true → length_fits e next t ≡ true
  length-fits h l =
      ap (λ (x : ℕ). leb x (length t) && has_length e next x) (sym p) ∙ and_both (leb n (length t)) (has_length e next n) (le-leb n (length t) h) l

  pub front_being : n ≤ length t → has_length e next n ≡ true → being_closed e n t ≡ true → read_of (read_frame e next 0 t) ≡ read.Torn n
  front_being h l c =
      ap read_of (read_being e next 0 t a (length-fits h l) (ap (λ (x : ℕ). being_closed e x t) (sym p) ∙ c)) ∙ ap read.Torn (sym p)

  pub front_laid : (k : ℕ) → k ≡ get_or t 2 0 → n ≤ length t → has_length e next n ≡ true → being_closed e n t ≡ false
      → read_of (read_frame e next 0 t) ≡ read_of (read_laid e next 0 n k t)
  front_laid k q h l c =
      ap read_of (read-laid e next 0 t a (length-fits h l) (ap (λ (x : ℕ). being_closed e x t) (sym p) ∙ c)
      ∙ ap₂ (λ (x y : ℕ). read_laid e next 0 x y t) (sym p) (sym q))

  -- and by its misfit
  pub front_match : n ≤ length t → has_length e next n ≡ true → being_closed e n t ≡ false
      → read_of (read_frame e next 0 t)
      ≡ laid_read (layout_of e next n (get_or t 2 0)).tears n (decode e (get_or t 2 0) n t) t (laid_misfit n (layout_of e next n (get_or t 2 0)) t)
  front_match h l c = front_laid (get_or t 2 0) refl h l c ∙ laid-read e next n (get_or t 2 0) t p refl l h

  pub front_long : length t < n → read_of (read_frame e next 0 t) ≡ read.Wrong (fault field.Length 0)
  front_long h =
      ap read_of (read_short e next 0 t a
      (ap (λ (x : ℕ). leb x (length t) && has_length e next x) (sym p) ∙ and_no-left (leb n (length t)) (has_length e next n) (lt-leb n (length t) h)))

  pub front_none : has_length e next n ≡ false → read_of (read_frame e next 0 t) ≡ read.Wrong (fault field.Length 0)
  front_none l =
      ap read_of (read_short e next 0 t a
      (ap (λ (x : ℕ). leb x (length t) && has_length e next x) (sym p) ∙ and_no_right (leb n (length t)) (has_length e next n) l))

-- ---- lengths

pub host-length : (e : Edition) (next n k : ℕ) → only_settled e next n k ≡ false → has_length e next n ≡ true → ClosedLength e n
host-length e next n k s q = go (length_inv e next n q)
  where
    go : SomeLength e next n → ClosedLength e n
    go (inl h) = h
    go (inr h) =
        clash (only_settled e next n k) (only_yes e next n k h.0 (omega arith) (omega arith)
        (or_right (eqb k 5) (eqb n (settled_len e 0)) (eq-eqb n (settled_len e 0) h.1))) s

pub put-least : (e : Edition) (n r : ℕ) → r ≡ check_len e → (n ≡ 5 + r → ⊥) → (n ≡ 6 + r → ⊥) → ClosedLength e n → put_len e 0 ≤ n
put-least e n r q a b (inl h) = absurd (a (omega arith))
put-least e n r q a b (inr (inl h)) = absurd (b (omega arith))
put-least e n r q a b (inr (inr h)) = h.0

-- ---- the same at an offset

abbrev pub shift_read : ℕ → FrameRead → FrameRead
shift_read at read.Blank = read.Blank
shift_read at (read.Whole h) = read.Whole h
shift_read at (read.Torn n) = read.Torn n
shift_read at (read.Wrong e) = read.Wrong (fault e.field (at + e.place))

-- only a fault moves
pub shift_other : (at : ℕ) (r : FrameRead) → ((e : Fault) → r ≡ read.Wrong e → ⊥) → shift_read at r ≡ r
shift_other at read.Blank h = refl
shift_other at (read.Whole f) h = refl
shift_other at (read.Torn n) h = refl
shift_other at (read.Wrong e) h = absurd (h e refl)

shift_match : (at n : ℕ) (b : Bool) (f : Frame) (m : Match) → read_of (of_match at n b f m) ≡ shift_read at (read_of (of_match 0 n b f m))
shift_match at n b f all = refl
shift_match at n true f (part p) = refl
shift_match at n false f (part p) = ap (λ (s : ℕ). read.Wrong (fault p.field (at + s))) (sym (zero-add p.start))
shift_match at n b f (misfit p) = ap (λ (s : ℕ). read.Wrong (fault p.field (at + s))) (sym (zero-add p.start))

pub shift_read_lem : (e : Edition) (next at : ℕ) (t : List ℕ) → read_of (read_frame e next at t) ≡ shift_read at (read_of (read_frame e next 0 t))
shift_read_lem e next at t =
    on_test (all_ff t)
    (λ a. ap read_of (read_ff e next at t a) ∙ ap (λ (r : Read). shift_read at (read_of r)) (sym (read_ff e next 0 t a)))
    (λ a. on_test (length_fits e next t)
    (λ b. on_test (being_closed e (get_or t 0 0) t)
    (λ c. ap read_of (read_being e next at t a b c) ∙ ap (λ (r : Read). shift_read at (read_of r)) (sym (read_being e next 0 t a b c)))
    (λ c. ap read_of (read-laid e next at t a b c)
    ∙ shift_match at (get_or t 0 0) (layout_of e next (get_or t 0 0) (get_or t 2 0)).tears (decode e (get_or t 2 0) (get_or t 0 0) t)
    (match (laid (get_or t 0 0) (layout_of e next (get_or t 0 0) (get_or t 2 0)) t) t)
    ∙ ap (λ (r : Read). shift_read at (read_of r)) (sym (read-laid e next 0 t a b c))))
    (λ b. ap read_of (read_short e next at t a b)
    ∙ ap (λ (s : ℕ). read.Wrong (fault field.Length s)) (sym (add-zero at))
    ∙ ap (λ (r : Read). shift_read at (read_of r)) (sym (read_short e next 0 t a b))))

pub moved : (e : Edition) (next at : ℕ) (t u : List ℕ) (r : FrameRead) → u ≡ t → r ≡ read_of (read_frame e next 0 u)
    → shift_read at r ≡ read_of (read_frame e next at t)
moved e next at t u r p q = ap (shift_read at) (q ∙ ap (λ (x : List ℕ). read_of (read_frame e next 0 x)) p) ∙ sym (shift_read_lem e next at t)

-- back from what the code has of a fault
pub wrong-read : (r : Read) (e : Fault) → read_of r ≡ read.Wrong e → r ≡ wrong e
wrong-read blank e q = let z : ◌≡◌ {A = ℕ} 0 1 = cc in absurd (omega arith)
wrong-read (whole f) e q = let z : ◌≡◌ {A = ℕ} 0 1 = cc in absurd (omega arith)
wrong-read (torn n) e q = let z : ◌≡◌ {A = ℕ} 0 1 = cc in absurd (omega arith)
wrong-read (wrong d) e q = cc
