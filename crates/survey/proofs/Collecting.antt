-- The lengths of the settled values by the heads at their places.
use mathlib.Core.Path.{◌≡◌, refl, ap, ap₂, subst, ◌∙◌}
use mathlib.Core.List.{List, [], ◌∷◌, map}
use mathlib.Core.Option.{Option, none, some}
use Prim.Native.Nat.{ℕ, zero, suc, ◌+◌, ◌≤◌}
use native.Mathlib.Omega.{arith}
use lib.Dec.{eqb}
use lib.ListN.{length, get_or}
use borrow.Author.Tests.{eq-eqb, ne_eqb, eqb-true, eqb-false}
use Rattle.flash.proofs.Cases.{on_test}
use Rattle.frame.specs.declared.Edition.{Edition}
use Rattle.frame.specs.declared.ObjectId.{ObjectId}
use Rattle.frame.specs.Frame.{id_max, id_of, Frame, total}
use Rattle.frame.specs.Code.{peek_at, value_len_of}
use Rattle.frame.proofs.Heads.{head_len_lem}
use Rattle.journal.specs.Replay.{Object, lookup, replay, settled_frame}
use Rattle.journal.specs.Index.{places_of}
use Rattle.survey.specs.Pass.{lengths_at, settled_total}
use Rattle.journal.proofs.Lookups.{lookup_yes, lookup_no}
use Rattle.journal.proofs.Replaying.{Rising, below_none, rising-from}
use Rattle.journal.proofs.Places.{ValueStands, Standing, no_place, place_law}
use Rattle.fetch.proofs.Fetching.{value_peeked}

-- what the place p of an id tells of its value
abbrev Held : Edition → List ℕ → ℕ → Option (List ℕ) → Type 0
Held ed b p none = p ≡ 0
Held ed b p (some v) = (p ≡ 0 → ⊥) × (value_len_of (peek_at ed b p) ≡ length v)

pub place-held : (ed : Edition) (b : List ℕ) (fs : List Frame) (i : ObjectId) → Standing ed b fs → i.0 ≤ id_max
    → Held ed b (get_or (places_of ed fs) i.0 0) (lookup i (replay fs).objects)
place-held ed b fs i j h = go (lookup i (replay fs).objects) refl
  where
    go : (o : Option (List ℕ)) → lookup i (replay fs).objects ≡ o → Held ed b (get_or (places_of ed fs) i.0 0) o
    go none q = no_place ed fs i h q
    go (some v) q =
        let p : ℕ = get_or (places_of ed fs) i.0 0 in
        let w : ValueStands ed b i p v = place_law ed b fs i v j h q in
        ((λ z. omega (arith, w.past, z)), value_peeked ed b i p (record { at = w.at; bytes = v }) w.found)

abbrev pub value_lens : List Object → List ℕ
value_lens os = map (λ o. length o.value) os

module _ (ed : Edition) (b places : List ℕ) where
  collect_no : (n i : ℕ) → Held ed b (get_or places i 0) none → lengths_at ed b places (suc n) i ≡ lengths_at ed b places n (suc i)
  unfolding lengths_at
  collect_no n i e = rw (eq-eqb (get_or places i 0) 0 e, lengths_at)

  collect_yes : (n i : ℕ) (v : List ℕ) → Held ed b (get_or places i 0) (some v)
      → lengths_at ed b places (suc n) i ≡ length v ∷ lengths_at ed b places n (suc i)
  unfolding lengths_at
  collect_yes n i v (z, e) = rw (ne_eqb (get_or places i 0) 0 z, lengths_at) (ap (λ (m : ℕ). m ∷ lengths_at ed b places n (suc i)) e)

  pub collect : (n i : ℕ) (os : List Object) → i + n ≡ 256 → Rising ed i os 256
      → ((j : ℕ) → i ≤ j → j ≤ 255 → Held ed b (get_or places j 0) (lookup (id_of j) os))
      → lengths_at ed b places n i ≡ value_lens os
  unfolding lengths_at lookup
  collect zero i [] q r k = refl
  collect zero i (o ∷ os) q ((a, c, d), r) k = absurd (omega arith)
  collect (suc n) i [] q r k =
      collect_no n i (k i (omega arith) (omega arith)) ∙ collect n (suc i) [] (omega arith) (omega arith) (λ j u w. k j (omega arith) w)
  collect (suc n) i (o ∷ os) q ((a, c, d), r) k =
      on_test (eqb i o.id.0)
      (λ t.
      let z : i ≡ o.id.0 = eqb-true i o.id.0 t in
      collect_yes n i o.value (subst (Held ed b (get_or places i 0)) (lookup_yes (id_of i) o os t) (k i (omega arith) (omega arith)))
      ∙ ap (λ (ns : List ℕ). length o.value ∷ ns)
      (collect n (suc i) os (omega arith) (rising-from ed (suc o.id.0) (suc i) os 256 (omega arith) r)
      (λ j u w. subst (Held ed b (get_or places j 0)) (lookup_no (id_of j) o os (ne_eqb j o.id.0 (omega arith))) (k j (omega arith) w))))
      (λ t.
      let z : i ≡ o.id.0 → ⊥ = eqb-false i o.id.0 t in
      let r' : Rising ed (suc i) (o ∷ os) 256 = ((omega arith, c, d), r) in
      collect_no n i (subst (Held ed b (get_or places i 0)) (below_none ed (id_of i) (suc i) (o ∷ os) 256 (omega arith) r') (k i (omega arith) (omega arith)))
      ∙ collect n (suc i) (o ∷ os) (omega arith) r' (λ j u w. k j (omega arith) w))

-- they make U
pub settled-total : (ed : Edition) (os : List Object) → settled_total ed (value_lens os) ≡ total ed (map settled_frame os)
unfolding total
settled-total ed [] = refl
settled-total ed (o ∷ os) = ap₂ (λ (m n : ℕ). m + n) (head_len_lem ed (settled_frame o)) (settled-total ed os)
