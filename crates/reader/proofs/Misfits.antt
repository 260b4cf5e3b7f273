-- Where bytes stop fitting a layout, by tests of single bytes.
use mathlib.Core.Path.{◌≡◌, refl, sym, ap, ◌∙◌}
use mathlib.Core.List.{List, [], ◌∷◌, ◌++◌}
use mathlib.Core.Bool.{true, false}
use Prim.Native.Nat.{ℕ, zero, suc, ◌+◌, ◌-◌, ◌/◌, ◌%◌, ◌≤◌, ◌<◌}
use native.Mathlib.Omega.{arith}
use Rattle.std.specs.Prelude.{Option, Some, None}
use Rattle.std.specs.Option.{option_or}
use lib.Dec.{eqb}
use lib.ListN.{length, get_or, take, drop}
use lib.Seq.{drop-cons}
use native.Mathlib.Nat.{add-zero}
use Rattle.flash.specs.Bytes.{Bytes}
use Rattle.flash.proofs.Cases.{between-yes}
use Rattle.flash.proofs.Blank.{byte_at}
use Rattle.crc.specs.Crc.{crc32_of}
use Rattle.frame.specs.Frame.{host_max, finish, check_len, put_len, delete_len, end_len, settled_len, closed_len, reset_len}
use Rattle.frame.specs.Reader.{Slot, slot, fits, value_slots, Layout, front_slots, seal_slots, last_kind, change_layout, end_layout, settled_layout}
use Rattle.frame.specs.Reader.{closed_layout, reset_layout}
use Rattle.reader.specs.Misfits.{seal_misfit, laid_misfit, misfit_at, one_misfit, misfit_from, front_misfit}
use Rattle.frame.specs.declared.Edition.{Edition}
use Rattle.frame.specs.declared.Edition.TheVariants as edition
use Rattle.frame.specs.declared.Field.TheVariants as field
use Rattle.reader.specs.declared.fitting.Misfit.{Misfit}

-- ---- one byte

or_none : (x : Option Misfit) → option_or x None ≡ x
or_none None = refl
or_none (Some m) = refl

or_or : (x y z : Option Misfit) → option_or x (option_or y z) ≡ option_or (option_or x y) z
or_or None y z = refl
or_or (Some m) y z = refl

pub one-fits : (o : ℕ) (p : Slot) (b : ℕ) → fits p b ≡ true → one_misfit o p b ≡ None
unfolding one_misfit
one-fits o p b e = rw (e, one_misfit)

pub one_fails : (o : ℕ) (p : Slot) (b : ℕ) → fits p b ≡ false → one_misfit o p b ≡ misfit_at o p
unfolding one_misfit
one_fails o p b e = rw (e, one_misfit)

pub one-between : (o : ℕ) (p : Slot) (b : ℕ) → p.lo ≤ b → b ≤ p.hi → one_misfit o p b ≡ None
one-between o p b h k = one-fits o p b (between-yes p.lo b p.hi h k)

-- ---- byte after byte: x is the misfit before them

then : (x : Option Misfit) (o j : ℕ) (p : Slot) (ps : List Slot) (t : List ℕ) → j ≡ suc o → o < length t
    → option_or x (misfit_from o (p ∷ ps) (drop o t)) ≡ option_or (option_or x (one_misfit o p (get_or t o 0))) (misfit_from j ps (drop j t))
unfolding misfit_from
then x o j p ps t q h =
    let y : Option Misfit = one_misfit o p (get_or t o 0) in
    rw (drop-cons t o 0 h)
    (or_or x y (misfit_from (suc o) ps (drop (suc o) t)) ∙ ap (λ (i : ℕ). option_or (option_or x y) (misfit_from i ps (drop i t))) (sym q))

past : (o : ℕ) (p : Slot) (ps : List Slot) (t : List ℕ) → o < length t → p.lo ≤ get_or t o 0 → get_or t o 0 ≤ p.hi
    → misfit_from o (p ∷ ps) (drop o t) ≡ misfit_from (suc o) ps (drop (suc o) t)
past o p ps t h l k =
    let y : Option Misfit = misfit_from (suc o) ps (drop (suc o) t) in
    then None o (suc o) p ps t refl h ∙ ap (λ (x : Option Misfit). option_or x y) (one-between o p (get_or t o 0) l k)

-- any byte fits in a value
value-is : (o v m : ℕ) (ps : List Slot) (t : List ℕ) → Bytes t → m ≡ o + v → m ≤ length t
    → misfit_from o (value_slots o v ++ ps) (drop o t) ≡ misfit_from m ps (drop m t)
value-is o zero m ps t bs q h = let r : o ≡ m = omega arith in ap (λ (i : ℕ). misfit_from i ps (drop i t)) r
value-is o (suc v) m ps t bs q h =
    past o (slot field.Finish o 0 255) (value_slots (suc o) v ++ ps) t (omega arith) (omega arith) (omega (arith, byte_at t o bs))
    ∙ value-is (suc o) v m ps t bs (omega arith) h

front_is : (n : ℕ) (l : Layout) (ps : List Slot) (t : List ℕ) → n ≡ get_or t 0 0 → 4 ≤ length t
    → misfit_from 0 (front_slots n l ++ ps) t ≡ option_or (front_misfit l.from l.to t) (misfit_from 4 (l.body ++ ps) (drop 4 t))
front_is n l ps t e h =
    let length : Slot = slot field.Length 0 0 0 in
    let kind : Slot = slot field.Kind 2 l.from l.to in
    let high : Slot = slot field.Kind 2 0 0 in
    let rest : List Slot = l.body ++ ps in
    let x : Option Misfit = one_misfit 1 length (get_or t 1 0) in
    past 0 (slot field.Length 0 n n) (length ∷ kind ∷ high ∷ rest) t (omega arith) (omega arith) (omega arith)
    ∙ then None 1 2 length (kind ∷ high ∷ rest) t (omega arith) (omega arith)
    ∙ then x 2 3 kind (high ∷ rest) t (omega arith) (omega arith)
    ∙ then (option_or x (one_misfit 2 kind (get_or t 2 0))) 3 4 high rest t (omega arith) (omega arith)

-- ---- the seal

finish-is : (o m : ℕ) (t : List ℕ) → m ≡ o → o < length t
    → misfit_from o (slot field.Finish m finish finish ∷ []) (drop o t) ≡ one_misfit o (slot field.Finish m finish finish) (get_or t o 0)
unfolding misfit_from
finish-is o m t q h =
    then None o (suc o) (slot field.Finish m finish finish) [] t refl h ∙ or_none (one_misfit o (slot field.Finish m finish finish) (get_or t o 0))

pub first-is : (m : ℕ) (t : List ℕ) → m < length t
    → misfit_from m (seal_slots edition.First m (take m t)) (drop m t) ≡ one_misfit m (slot field.Finish m finish finish) (get_or t m 0)
first-is m t h =
    finish-is m (m + 0) t (omega arith) h ∙ ap (λ (x : ℕ). one_misfit m (slot field.Finish x finish finish) (get_or t m 0)) (add-zero m)

pub second_is : (m c : ℕ) (t : List ℕ) → c ≡ crc32_of (take m t) → m + 4 < length t
    → misfit_from m (seal_slots edition.Second m (take m t)) (drop m t)
    ≡ option_or (option_or (option_or (option_or (one_misfit m (slot field.Crc m (c % 256) (c % 256)) (get_or t m 0))
    (one_misfit (m + 1) (slot field.Crc m (c / 256 % 256) (c / 256 % 256)) (get_or t (m + 1) 0)))
    (one_misfit (m + 2) (slot field.Crc m (c / 65536 % 256) (c / 65536 % 256)) (get_or t (m + 2) 0)))
    (one_misfit (m + 3) (slot field.Crc m (c / 16777216) (c / 16777216)) (get_or t (m + 3) 0)))
    (one_misfit (m + 4) (slot field.Finish (m + 4) finish finish) (get_or t (m + 4) 0))
second_is m c t q h =
    let s : ℕ → Slot = λ x. slot field.Crc m x x in
    let f : List Slot = slot field.Finish (m + 4) finish finish ∷ [] in
    let a : Option Misfit = one_misfit m (s (c % 256)) (get_or t m 0) in
    let b : Option Misfit = option_or a (one_misfit (m + 1) (s (c / 256 % 256)) (get_or t (m + 1) 0)) in
    let d : Option Misfit = option_or b (one_misfit (m + 2) (s (c / 65536 % 256)) (get_or t (m + 2) 0)) in
    let g : Option Misfit = option_or d (one_misfit (m + 3) (s (c / 16777216)) (get_or t (m + 3) 0)) in
    rw (← q)
    (then None m (m + 1) (s (c % 256)) (s (c / 256 % 256) ∷ s (c / 65536 % 256) ∷ s (c / 16777216) ∷ f) t (omega arith) (omega arith)
    ∙ then a (m + 1) (m + 2) (s (c / 256 % 256)) (s (c / 65536 % 256) ∷ s (c / 16777216) ∷ f) t (omega arith) (omega arith)
    ∙ then b (m + 2) (m + 3) (s (c / 65536 % 256)) (s (c / 16777216) ∷ f) t (omega arith) (omega arith)
    ∙ then d (m + 3) (m + 4) (s (c / 16777216)) f t (omega arith) (omega arith)
    ∙ ap (option_or g) (finish-is (m + 4) (m + 4) t refl (omega arith)))

-- ---- the tests of each layout, up to its seal

length-value : (o n : ℕ) → length (value_slots o n) ≡ n
length-value o zero = refl
length-value o (suc n) = ap suc (length-value (suc o) n)

-- where the seal is
module _ (e : Edition) (n : ℕ) (t : List ℕ) (q : n ≡ get_or t 0 0) (hi : n ≤ length t) (bs : Bytes t) where
  pub change_is : put_len e 0 ≤ n
      → laid_misfit n (change_layout e n) t
      ≡ option_or (option_or (option_or (front_misfit 1 (last_kind (eqb n (delete_len e))) t) (one_misfit 4 (slot field.Host 4 0 host_max) (get_or t 4 0)))
      (one_misfit 6 (slot field.Id 5 0 0) (get_or t 6 0))) (seal_misfit e (n - 1 - check_len e) t)
  change_is lo =
      let l : Layout = change_layout e n in
      let v : List Slot = value_slots 7 (n - put_len e 0) in
      let m : ℕ = n - 1 - check_len e in
      let r : 4 + length l.body ≡ m = omega (arith, length-value 7 (n - put_len e 0)) in
      let ps : List Slot = seal_slots e m (take m t) in
      let host : Slot = slot field.Host 4 0 host_max in
      let high : Slot = slot field.Id 5 0 0 in
      let x : Option Misfit = front_misfit 1 (last_kind (eqb n (delete_len e))) t in
      let y : Option Misfit = option_or x (one_misfit 4 host (get_or t 4 0)) in
      ap (λ (x : ℕ). misfit_from 0 (front_slots n l ++ seal_slots e x (take x t)) t) r
      ∙ front_is n l ps t q (omega arith)
      ∙ then x 4 5 host (slot field.Id 5 0 255 ∷ high ∷ (v ++ ps)) t (omega arith) (omega arith)
      ∙ ap (option_or y) (past 5 (slot field.Id 5 0 255) (high ∷ (v ++ ps)) t (omega arith) (omega arith) (omega (arith, byte_at t 5 bs)))
      ∙ then y 6 7 high (v ++ ps) t (omega arith) (omega arith)
      ∙ ap (option_or (option_or y (one_misfit 6 high (get_or t 6 0)))) (value-is 7 (n - put_len e 0) m ps t bs (omega arith) (omega arith))

  pub end_is : n ≡ end_len e
      → laid_misfit n (end_layout e) t
      ≡ option_or (option_or (front_misfit 3 4 t) (one_misfit 4 (slot field.Host 4 0 host_max) (get_or t 4 0))) (seal_misfit e 5 t)
  end_is s =
      let ps : List Slot = seal_slots e 5 (take 5 t) in
      front_is n (end_layout e) ps t q (omega arith)
      ∙ then (front_misfit 3 4 t) 4 5 (slot field.Host 4 0 host_max) ps t (omega arith) (omega arith)

  pub settled_is : (next : ℕ) → settled_len e 0 ≤ n
      → laid_misfit n (settled_layout e next n) t
      ≡ option_or (option_or (option_or (front_misfit 5 5 t) (one_misfit 4 (slot field.Id 4 next 255) (get_or t 4 0)))
      (one_misfit 5 (slot field.Id 4 0 0) (get_or t 5 0))) (seal_misfit e (n - 1 - check_len e) t)
  settled_is next lo =
      let l : Layout = settled_layout e next n in
      let v : List Slot = value_slots 6 (n - settled_len e 0) in
      let m : ℕ = n - 1 - check_len e in
      let r : 4 + length l.body ≡ m = omega (arith, length-value 6 (n - settled_len e 0)) in
      let ps : List Slot = seal_slots e m (take m t) in
      let id : Slot = slot field.Id 4 next 255 in
      let high : Slot = slot field.Id 4 0 0 in
      let x : Option Misfit = front_misfit 5 5 t in
      let y : Option Misfit = option_or x (one_misfit 4 id (get_or t 4 0)) in
      ap (λ (x : ℕ). misfit_from 0 (front_slots n l ++ seal_slots e x (take x t)) t) r
      ∙ front_is n l ps t q (omega arith)
      ∙ then x 4 5 id (high ∷ (v ++ ps)) t (omega arith) (omega arith)
      ∙ then y 5 6 high (v ++ ps) t (omega arith) (omega arith)
      ∙ ap (option_or (option_or y (one_misfit 5 high (get_or t 5 0)))) (value-is 6 (n - settled_len e 0) m ps t bs (omega arith) (omega arith))

  pub closed_is : closed_len 0 ≤ n
      → laid_misfit n (closed_layout n) t
      ≡ option_or (front_misfit 0 0 t) (one_misfit (n - 1) (slot field.Finish (n - 1) finish finish) (get_or t (n - 1) 0))
  closed_is lo =
      let l : Layout = closed_layout n in
      let m : ℕ = n - 1 in
      let r : 4 + length l.body ≡ m = omega (arith, length-value 4 (n - closed_len 0)) in
      let ps : List Slot = seal_slots edition.First m (take m t) in
      ap (λ (x : ℕ). misfit_from 0 (front_slots n l ++ seal_slots edition.First x (take x t)) t) r
      ∙ front_is n l ps t q (omega arith)
      ∙ ap (option_or (front_misfit 0 0 t)) (value-is 4 (n - closed_len 0) m ps t bs (omega arith) (omega arith) ∙ first-is m t (omega arith))

  pub reset_is : n ≡ reset_len e → laid_misfit n (reset_layout e) t ≡ option_or (front_misfit 7 7 t) (seal_misfit e 4 t)
  reset_is s = front_is n (reset_layout e) (seal_slots e 4 (take 4 t)) t q (omega arith)
