-- The reader's short way: what its tests tell.
use mathlib.Core.Path.{◌≡◌, refl, sym, ap, ap₂, ◌∙◌}
use mathlib.Core.List.{List}
use mathlib.Core.Logic.{inl, inr}
use mathlib.Core.Bool.{true, false, ◌&&◌, ◌||◌}
use Prim.Native.Nat.{ℕ, zero, suc, ◌+◌, ◌-◌, ◌/◌, ◌%◌, ◌≤◌, ◌<◌}
use native.Mathlib.Omega.{arith}
use Rattle.std.specs.Prelude.{Option, None}
use Rattle.std.specs.Option.{option_or}
use lib.Dec.{eqb, leb}
use borrow.Author.Tests.{leb-true, eqb-true, eqb-false, eq-eqb, ne_eqb}
use lib.ListN.{length, get_or, take}
use Rattle.flash.specs.Bytes.{Bytes, le32}
use Rattle.flash.proofs.Blank.{byte_at, all_ff-at}
use Rattle.flash.proofs.Cases.{on_test, clash, and_left, and_right, and_no_right, or_left, or_neither}
use Rattle.crc.specs.Crc.{crc32_of}
use Rattle.frame.specs.Frame.{host_max, id_max, value_max, finish, check_len, put_len, delete_len, end_len, settled_len}
use Rattle.frame.specs.Reader.{slot, Layout, layout_of, last_kind, id_left, only_settled, decode, read_frame}
use Rattle.frame.specs.Code.{head_of, read_of}
use Rattle.frame.specs.declared.Edition.{Edition}
use Rattle.frame.specs.declared.Edition.TheVariants as edition
use Rattle.frame.specs.declared.Field.{Field}
use Rattle.frame.specs.declared.Field.TheVariants as field
use Rattle.frame.specs.declared.FrameRead.TheVariants as read
use Rattle.frame.proofs.Own.{SomeLength, length-of, only_yes, layout-settled, layout-end, layout-change, last-kind}
use Rattle.frame.proofs.BeingClosed.{not_kind}
use Rattle.reader.specs.Misfits.{seal_misfit, laid_misfit, one_misfit, front_misfit}
use Rattle.reader.specs.Whole.{checked, sealed, is_change, is_end, is_settled, of_kind, is_whole}
use Rattle.reader.specs.declared.fitting.Misfit.{Misfit}
use Rattle.reader.proofs.Misfits.{one-between, first-is, second_is, change_is, end_is, settled_is}
use Rattle.reader.proofs.Answers.{laid_read, laid-read, front_laid}

-- ---- no misfit

both : {x y : Option Misfit} → x ≡ None → y ≡ None → option_or x y ≡ None
both {x} {y} p q = ap₂ option_or p q

one_is : (o : ℕ) (f : Field) (s x b : ℕ) → b ≡ x → one_misfit o (slot f s x x) b ≡ None
one_is o f s x b q = one-between o (slot f s x x) b (omega arith) (omega arith)

front_none : (a b : ℕ) (t : List ℕ) → get_or t 1 0 ≡ 0 → get_or t 3 0 ≡ 0 → a ≤ get_or t 2 0 → get_or t 2 0 ≤ b → front_misfit a b t ≡ None
front_none a b t y z lo hi =
    both (both (one_is 1 field.Length 0 0 (get_or t 1 0) y) (one-between 2 (slot field.Kind 2 a b) (get_or t 2 0) lo hi))
    (one_is 3 field.Kind 2 0 (get_or t 3 0) z)

-- a number that four bytes are, byte by byte
module _ (c a b d f : ℕ) (q : c ≡ le32 a b d f) (ha : a < 256) (hb : b < 256) (hd : d < 256) (hf : f < 256) where
  byte_0 : a ≡ c % 256
  byte_0 = omega arith

  byte_1 : b ≡ c / 256 % 256
  byte_1 = omega arith

  byte_2 : d ≡ c / 65536 % 256
  byte_2 = omega arith

  byte_3 : f ≡ c / 16777216
  byte_3 = omega arith

seal-none : (e : Edition) (n m : ℕ) (t : List ℕ) → Bytes t → n ≤ length t → n ≡ m + 1 + check_len e → sealed e n t ≡ true
    → seal_misfit e m t ≡ None
seal-none edition.First n m t bs h q s =
    let r : n - 1 ≡ m = omega arith in
    first-is m t (omega arith)
    ∙ one_is m field.Finish m finish (get_or t m 0) (ap (λ (i : ℕ). get_or t i 0) (sym r) ∙ eqb-true (get_or t (n - 1) 0) finish s)
seal-none edition.Second n m t bs h q s =
    let c : ℕ = crc32_of (take m t) in
    let b : ℕ → ℕ = λ i. get_or t i 0 in
    let r : n - 1 ≡ m + 4 = omega arith in
    let u : n - 5 ≡ m = omega arith in
    let last : b (m + 4) ≡ finish = ap b (sym r) ∙ eqb-true (b (n - 1)) finish (and_left (eqb (b (n - 1)) finish) (checked (n - 5) t) s) in
    let sum : c ≡ le32 (b m) (b (m + 1)) (b (m + 2)) (b (m + 3))
    = eqb-true c _ (ap (λ (i : ℕ). checked i t) (sym u) ∙ and_right (eqb (b (n - 1)) finish) (checked (n - 5) t) s) in
    let part : (i : ℕ) → b i < 256 = λ i. byte_at t i bs in
    second_is m c t refl (omega arith)
    ∙ both (both (both (both
    (one_is m field.Crc m (c % 256) (b m) (byte_0 c (b m) (b (m + 1)) (b (m + 2)) (b (m + 3)) sum (part m) (part (m + 1)) (part (m + 2)) (part (m + 3))))
    (one_is (m + 1) field.Crc m (c / 256 % 256) (b (m + 1))
    (byte_1 c (b m) (b (m + 1)) (b (m + 2)) (b (m + 3)) sum (part m) (part (m + 1)) (part (m + 2)) (part (m + 3)))))
    (one_is (m + 2) field.Crc m (c / 65536 % 256) (b (m + 2))
    (byte_2 c (b m) (b (m + 1)) (b (m + 2)) (b (m + 3)) sum (part m) (part (m + 1)) (part (m + 2)) (part (m + 3)))))
    (one_is (m + 3) field.Crc m (c / 16777216) (b (m + 3))
    (byte_3 c (b m) (b (m + 1)) (b (m + 2)) (b (m + 3)) sum (part m) (part (m + 1)) (part (m + 2)) (part (m + 3)))))
    (one_is (m + 4) field.Finish (m + 4) finish (b (m + 4)) last)

-- ---- a frame of n bytes that begins as a frame does

only_no : (e : Edition) (next n k : ℕ) → (k ≡ 5 → ⊥) → (n ≡ settled_len e 0 → ⊥) → only_settled e next n k ≡ false
only_no e next n k h l =
    and_no_right (id_left next && (leb (settled_len e 0) n && leb n (settled_len e value_max))) (eqb k 5 || eqb n (settled_len e 0))
    (or_neither (eqb k 5) (eqb n (settled_len e 0)) (ne_eqb k 5 h) (ne_eqb n (settled_len e 0) l))

module _ (e : Edition) (next n : ℕ) (t : List ℕ) (p : n ≡ get_or t 0 0) (h : n ≤ length t) (bs : Bytes t) (two : 1 < length t) (y : get_or t 1 0 ≡ 0)
    (z : get_or t 3 0 ≡ 0) where
  whole_by : (k : ℕ) → k ≡ get_or t 2 0 → (k ≡ 0 → ⊥) → SomeLength e next n → laid_misfit n (layout_of e next n k) t ≡ None
      → read_of (read_frame e next 0 t) ≡ read.Whole (head_of (decode e k n t))
  whole_by k q x s m =
      let l = length-of e next n s in
      front_laid e next n t p (all_ff-at t 1 two (λ r. absurd (omega arith))) k q h l (not_kind e n t (λ r. x (q ∙ r)))
      ∙ laid-read e next n k t p q l h
      ∙ ap (laid_read (layout_of e next n k).tears n (decode e k n t) t) m

  change_by : (k : ℕ) → k ≡ get_or t 2 0 → 1 ≤ k → k ≤ last_kind (eqb n (delete_len e)) → (k ≡ 5 → ⊥) → is_change e n t ≡ true
      → read_of (read_frame e next 0 t) ≡ read.Whole (head_of (decode e k n t))
  unfolding is_change
  change_by k q lo hi five w =
      let least : put_len e 0 ≤ n = leb-true (put_len e 0) n (and_left _ _ w) in
      let w1 = and_right (leb (put_len e 0) n) _ w in
      let most : n ≤ put_len e value_max = leb-true n (put_len e value_max) (and_left _ _ w1) in
      let w2 = and_right (leb n (put_len e value_max)) _ w1 in
      let host : get_or t 4 0 ≤ host_max = leb-true (get_or t 4 0) host_max (and_left _ _ w2) in
      let w3 = and_right (leb (get_or t 4 0) host_max) _ w2 in
      let id : get_or t 6 0 ≡ 0 = eqb-true (get_or t 6 0) 0 (and_left _ _ w3) in
      let seal = and_right (eqb (get_or t 6 0) 0) _ w3 in
      let x : k ≡ 0 → ⊥ = λ r. omega arith in
      whole_by k q x (inl (inr (inr (least, most))))
      (ap (λ (l : Layout). laid_misfit n l t) (layout-change e next n k (only_no e next n k five (λ r. omega arith)) x least)
      ∙ change_is e n t p h bs least
      ∙ both (both (both (front_none 1 (last_kind (eqb n (delete_len e))) t y z (omega arith) (omega arith))
      (one-between 4 (slot field.Host 4 0 host_max) (get_or t 4 0) (omega arith) host))
      (one_is 6 field.Id 5 0 (get_or t 6 0) id)) (seal-none e n (n - 1 - check_len e) t bs h (omega arith) seal))

  end_by : (k : ℕ) → k ≡ get_or t 2 0 → 3 ≤ k → k ≤ 4 → is_end e n t ≡ true → read_of (read_frame e next 0 t) ≡ read.Whole (head_of (decode e k n t))
  unfolding is_end
  end_by k q lo hi w =
      let size : n ≡ end_len e = eqb-true n (end_len e) (and_left _ _ w) in
      let w1 = and_right (eqb n (end_len e)) _ w in
      let host : get_or t 4 0 ≤ host_max = leb-true (get_or t 4 0) host_max (and_left _ _ w1) in
      let seal = and_right (leb (get_or t 4 0) host_max) _ w1 in
      let x : k ≡ 0 → ⊥ = λ r. omega arith in
      whole_by k q x (inl (inr (inl size)))
      (ap (λ (l : Layout). laid_misfit n l t) (layout-end e next n k (only_no e next n k (λ r. omega arith) (λ r. omega arith)) x size)
      ∙ end_is e n t p h bs size
      ∙ both (both (front_none 3 4 t y z (omega arith) (omega arith))
      (one-between 4 (slot field.Host 4 0 host_max) (get_or t 4 0) (omega arith) host)) (seal-none e n 5 t bs h (omega arith) seal))

  settled_by : (k : ℕ) → k ≡ get_or t 2 0 → k ≡ 5 → is_settled e next n t ≡ true → read_of (read_frame e next 0 t) ≡ read.Whole (head_of (decode e k n t))
  unfolding is_settled
  settled_by k q five w =
      let least : settled_len e 0 ≤ n = leb-true (settled_len e 0) n (and_left _ _ w) in
      let w1 = and_right (leb (settled_len e 0) n) _ w in
      let most : n ≤ settled_len e value_max = leb-true n (settled_len e value_max) (and_left _ _ w1) in
      let w2 = and_right (leb n (settled_len e value_max)) _ w1 in
      let id : next ≤ get_or t 4 0 = leb-true next (get_or t 4 0) (and_left _ _ w2) in
      let w3 = and_right (leb next (get_or t 4 0)) _ w2 in
      let high : get_or t 5 0 ≡ 0 = eqb-true (get_or t 5 0) 0 (and_left _ _ w3) in
      let seal = and_right (eqb (get_or t 5 0) 0) _ w3 in
      let byte = byte_at t 4 bs in
      whole_by k q (λ r. omega arith) (some_length least most (omega arith))
      (ap (λ (l : Layout). laid_misfit n l t)
      (layout-settled e next n k (only_yes e next n k (omega arith) least most (or_left (eqb k 5) (eqb n (settled_len e 0)) (eq-eqb k 5 five))))
      ∙ settled_is e n t p h bs next least
      ∙ both (both (both (front_none 5 5 t y z (omega arith) (omega arith))
      (one-between 4 (slot field.Id 4 next 255) (get_or t 4 0) id (omega arith)))
      (one_is 5 field.Id 4 0 (get_or t 5 0) high)) (seal-none e n (n - 1 - check_len e) t bs h (omega arith) seal))
    where
      some_length : settled_len e 0 ≤ n → n ≤ settled_len e value_max → next ≤ id_max → SomeLength e next n
      some_length lo hi i =
          on_test (eqb n (settled_len e 0)) (λ r. inr (i, eqb-true n (settled_len e 0) r))
          (λ r. let o = eqb-false n (settled_len e 0) r in inl (inr (inr (omega (arith, o), omega arith))))

  kind_by : (k : ℕ) → k ≡ get_or t 2 0 → of_kind e next k n t ≡ true → read_of (read_frame e next 0 t) ≡ read.Whole (head_of (decode e k n t))
  kind_by zero q w = clash true refl (sym w)
  kind_by (suc zero) q w = change_by 1 q (omega arith) (last-kind (eqb n (delete_len e))) (λ r. omega arith) w
  kind_by (suc (suc zero)) q w =
      let d : eqb n (delete_len e) ≡ true = and_left _ _ w in
      change_by 2 q (omega arith) (rw d (omega arith)) (λ r. omega arith) (and_right (eqb n (delete_len e)) _ w)
  kind_by (suc (suc (suc zero))) q w = end_by 3 q (omega arith) (omega arith) w
  kind_by (suc (suc (suc (suc zero)))) q w = end_by 4 q (omega arith) (omega arith) w
  kind_by (suc (suc (suc (suc (suc zero))))) q w = settled_by 5 q refl w
  kind_by (suc (suc (suc (suc (suc (suc k)))))) q w = clash true refl (sym w)

pub whole-read : (e : Edition) (next : ℕ) (t : List ℕ) → Bytes t → is_whole e next t ≡ true
    → read_of (read_frame e next 0 t) ≡ read.Whole (head_of (decode e (get_or t 2 0) (get_or t 0 0) t))
unfolding is_whole
whole-read e next t bs w =
    let six : end_len edition.First ≤ length t = leb-true (end_len edition.First) (length t) (and_left _ _ w) in
    let w1 = and_right (leb (end_len edition.First) (length t)) _ w in
    let size : get_or t 0 0 ≤ length t = leb-true (get_or t 0 0) (length t) (and_left _ _ w1) in
    let w2 = and_right (leb (get_or t 0 0) (length t)) _ w1 in
    let y : get_or t 1 0 ≡ 0 = eqb-true (get_or t 1 0) 0 (and_left _ _ w2) in
    let w3 = and_right (eqb (get_or t 1 0) 0) _ w2 in
    let z : get_or t 3 0 ≡ 0 = eqb-true (get_or t 3 0) 0 (and_left _ _ w3) in
    kind_by e next (get_or t 0 0) t refl size bs (omega arith) y z (get_or t 2 0) refl (and_right (eqb (get_or t 3 0) 0) _ w3)
