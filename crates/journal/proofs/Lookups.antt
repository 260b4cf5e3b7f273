-- What a lookup finds after a change to the objects.
use mathlib.Core.Path.{◌≡◌, refl, sym, ap, ◌∙◌}
use mathlib.Core.List.{List, [], ◌∷◌}
use mathlib.Core.Option.{none, some}
use mathlib.Core.Bool.{true, false}
use Prim.Native.Nat.{Ordering}
use Prim.Native.Nat.{compare}
use native.Mathlib.Omega.{arith}
use lib.Dec.{eqb}
use borrow.Author.Tests.{eq-eqb, ne_eqb, eqb-true}
use Rattle.flash.proofs.Cases.{on_test, on-order}
use Rattle.frame.specs.declared.ObjectId.{ObjectId}
use Rattle.journal.specs.Replay.{ObjectOf, object, insert, remove, lookup}

module _ {A : Type 0} where
  pub insert_lt : (i : ObjectId) (v : A) (o : ObjectOf A) (os : List (ObjectOf A)) → compare i.0 o.id.0 ≡ Ordering.lt
      → insert i v (o ∷ os) ≡ object i v ∷ o ∷ os
  unfolding insert
  insert_lt i v o os e = rw (e, insert)

  pub insert_eq : (i : ObjectId) (v : A) (o : ObjectOf A) (os : List (ObjectOf A)) → compare i.0 o.id.0 ≡ Ordering.eq
      → insert i v (o ∷ os) ≡ object i v ∷ os
  unfolding insert
  insert_eq i v o os e = rw (e, insert)

  pub insert_gt : (i : ObjectId) (v : A) (o : ObjectOf A) (os : List (ObjectOf A)) → compare i.0 o.id.0 ≡ Ordering.gt
      → insert i v (o ∷ os) ≡ o ∷ insert i v os
  unfolding insert
  insert_gt i v o os e = rw (e, insert)

  pub lookup_yes : (i : ObjectId) (o : ObjectOf A) (os : List (ObjectOf A)) → eqb i.0 o.id.0 ≡ true → lookup i (o ∷ os) ≡ some o.value
  unfolding lookup
  lookup_yes i o os e = rw (e, lookup)

  pub lookup_no : (i : ObjectId) (o : ObjectOf A) (os : List (ObjectOf A)) → eqb i.0 o.id.0 ≡ false → lookup i (o ∷ os) ≡ lookup i os
  unfolding lookup
  lookup_no i o os e = rw (e, lookup)

  pub lookup_insert : (i : ObjectId) (v : A) (os : List (ObjectOf A)) → lookup i (insert i v os) ≡ some v
  unfolding insert
  lookup_insert i v [] = lookup_yes i (object i v) [] (eq-eqb i.0 i.0 refl)
  lookup_insert i v (o ∷ os) =
      on-order i.0 o.id.0
      (λ e l. ap (lookup i) (insert_lt i v o os e) ∙ lookup_yes i (object i v) (o ∷ os) (eq-eqb i.0 i.0 refl))
      (λ e l. ap (lookup i) (insert_eq i v o os e) ∙ lookup_yes i (object i v) os (eq-eqb i.0 i.0 refl))
      (λ e l. ap (lookup i) (insert_gt i v o os e) ∙ lookup_no i o (insert i v os) (ne_eqb i.0 o.id.0 (omega arith)) ∙ lookup_insert i v os)

  pub lookup_insert_other : (i j : ObjectId) (v : A) (os : List (ObjectOf A)) → (i.0 ≡ j.0 → ⊥) → lookup i (insert j v os) ≡ lookup i os
  unfolding insert
  lookup_insert_other i j v [] n = lookup_no i (object j v) [] (ne_eqb i.0 j.0 n)
  lookup_insert_other i j v (o ∷ os) n =
      on-order j.0 o.id.0
      (λ e l. ap (lookup i) (insert_lt j v o os e) ∙ lookup_no i (object j v) (o ∷ os) (ne_eqb i.0 j.0 n))
      (λ e l. ap (lookup i) (insert_eq j v o os e) ∙ lookup_no i (object j v) os (ne_eqb i.0 j.0 n)
      ∙ sym (lookup_no i o os (ne_eqb i.0 o.id.0 (λ q. n (q ∙ sym l)))))
      (λ e l. ap (lookup i) (insert_gt j v o os e)
      ∙ on_test (eqb i.0 o.id.0)
      (λ t. lookup_yes i o (insert j v os) t ∙ sym (lookup_yes i o os t))
      (λ t. lookup_no i o (insert j v os) t ∙ lookup_insert_other i j v os n ∙ sym (lookup_no i o os t)))

  pub lookup_remove : (i : ObjectId) (os : List (ObjectOf A)) → lookup i (remove i os) ≡ none
  unfolding remove lookup
  lookup_remove i [] = refl
  lookup_remove i (o ∷ os) =
      on_test (eqb i.0 o.id.0) (λ t. rw (t, remove) (lookup_remove i os)) (λ t. rw (t, remove) (lookup_no i o (remove i os) t ∙ lookup_remove i os))

  pub lookup_remove_other : (i j : ObjectId) (os : List (ObjectOf A)) → (i.0 ≡ j.0 → ⊥) → lookup i (remove j os) ≡ lookup i os
  unfolding remove
  lookup_remove_other i j [] n = refl
  lookup_remove_other i j (o ∷ os) n =
      on_test (eqb j.0 o.id.0)
      (λ t. rw (t, remove) (lookup_remove_other i j os n
      ∙ sym (lookup_no i o os (ne_eqb i.0 o.id.0 (λ q. n (q ∙ sym (eqb-true j.0 o.id.0 t)))))))
      (λ t. rw (t, remove) (on_test (eqb i.0 o.id.0)
      (λ u. lookup_yes i o (remove j os) u ∙ sym (lookup_yes i o os u))
      (λ u. lookup_no i o (remove j os) u ∙ lookup_remove_other i j os n ∙ sym (lookup_no i o os u))))
