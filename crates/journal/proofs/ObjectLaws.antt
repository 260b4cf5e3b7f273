-- Objects by rising id: what a put, a delete and a list of changes leave under each id.
use mathlib.Core.Path.{◌≡◌, refl, sym, ap, ap₂, subst, ◌∙◌}
use mathlib.Core.List.{List, [], ◌∷◌, ◌++◌}
use mathlib.Core.Option.{Option, none, some}
use Prim.Native.Nat.{ℕ, suc, ◌≤◌, ◌<◌}
use native.Mathlib.Omega.{arith}
use lib.Dec.{eqb}
use borrow.Author.Tests.{eq-eqb, ne_eqb, eqb-true, eqb-false}
use Rattle.flash.proofs.Cases.{on_test, on-order}
use Rattle.frame.specs.declared.ObjectId.{ObjectId}
use Rattle.frame.specs.Frame.{id_of, Change, put, delete}
use Rattle.journal.specs.Replay.{Object, object, insert, remove, lookup, change1, change_all}
use Rattle.journal.specs.Laws.{RisesFrom, ObjectLaws, Spares, Applied, ChangesExact}
use Rattle.journal.proofs.Lookups.{insert_lt, insert_eq, insert_gt, lookup_yes, lookup_no, lookup_insert, lookup_insert_other}
use Rattle.journal.proofs.Lookups.{lookup_remove, lookup_remove_other}

-- ---- rising ids

rises_lower : (m n : ℕ) (os : List Object) → m ≤ n → RisesFrom n os → RisesFrom m os
rises_lower m n [] h r = tt
rises_lower m n (o ∷ os) h (a, r) = (omega arith, r)

rises-insert : (n : ℕ) (i : ObjectId) (v : List ℕ) (os : List Object) → n ≤ i.0 → RisesFrom n os → RisesFrom n (insert i v os)
unfolding insert
rises-insert n i v [] h r = (h, tt)
rises-insert n i v (o ∷ os) h (a, r) =
    on-order i.0 o.id.0
    (λ e l. rw (insert_lt i v o os e) (h, (l, r)))
    (λ e l. rw (insert_eq i v o os e) (h, subst (λ (k : ℕ). RisesFrom (suc k) os) (sym l) r))
    (λ e l. rw (insert_gt i v o os e) (a, rises-insert (suc o.id.0) i v os l r))

rises-remove : (n : ℕ) (i : ObjectId) (os : List Object) → RisesFrom n os → RisesFrom n (remove i os)
unfolding remove
rises-remove n i [] r = tt
rises-remove n i (o ∷ os) (a, r) =
    on_test (eqb i.0 o.id.0)
    (λ t. rw (t, remove) (rises_lower n (suc o.id.0) (remove i os) (omega arith) (rises-remove (suc o.id.0) i os r)))
    (λ t. rw (t, remove) (a, rises-remove (suc o.id.0) i os r))

-- no id below the first has an object
below : (i : ObjectId) (n : ℕ) (os : List Object) → i.0 < n → RisesFrom n os → lookup i os ≡ none
unfolding lookup
below i n [] l r = refl
below i n (o ∷ os) l (a, r) = lookup_no i o os (ne_eqb i.0 o.id.0 (omega arith)) ∙ below i (suc o.id.0) os (omega arith) r

-- ---- an id's object stands in the list

abbrev Stands : ObjectId → List ℕ → List Object → Type 0
Stands i v os = (xs : List Object) × (ys : List Object) × (os ≡ xs ++ (object i v ∷ ys))

some_is : (v w : List ℕ) → ◌≡◌ {A = Option (List ℕ)} (some v) (some w) → v ≡ w
some_is v w e = cc

none-not : {P : Type 0} (v : List ℕ) → ◌≡◌ {A = Option (List ℕ)} none (some v) → P
none-not v e = let z : ◌≡◌ {A = ℕ} 0 1 = cc in absurd (omega arith)

object-is : (i : ObjectId) (v : List ℕ) (o : Object) → i.0 ≡ o.id.0 → o.value ≡ v → o ≡ object i v
object-is i v o e q = ap₂ (λ (n : ℕ) (w : List ℕ). object (id_of n) w) (sym e) q

stands : (i : ObjectId) (v : List ℕ) (os : List Object) → lookup i os ≡ some v → Stands i v os
unfolding lookup
stands i v [] e = none-not v e
stands i v (o ∷ os) e =
    on_test (eqb i.0 o.id.0)
    (λ t.
    let q : o ≡ object i v = object-is i v o (eqb-true i.0 o.id.0 t) (some_is o.value v (sym (lookup_yes i o os t) ∙ e)) in
    ([], os, ap (λ (x : Object). x ∷ os) q))
    (λ t. let r = stands i v os (sym (lookup_no i o os t) ∙ e) in (o ∷ r.0, r.1, ap (λ (l : List Object). o ∷ l) r.2))

rises-past : (n : ℕ) (xs ys : List Object) (o : Object) → RisesFrom n (xs ++ (o ∷ ys)) → n ≤ o.id.0
rises-past n [] ys o (a, r) = a
rises-past n (x ∷ xs) ys o (a, r) = omega (arith, rises-past (suc x.id.0) xs ys o r)

stands-found : (n : ℕ) (i : ObjectId) (v : List ℕ) (xs ys : List Object) → RisesFrom n (xs ++ (object i v ∷ ys))
    → lookup i (xs ++ (object i v ∷ ys)) ≡ some v
stands-found n i v [] ys r = lookup_yes i (object i v) ys (eq-eqb i.0 i.0 refl)
stands-found n i v (x ∷ xs) ys (a, r) =
    lookup_no i x (xs ++ (object i v ∷ ys)) (ne_eqb i.0 x.id.0 (omega (arith, rises-past (suc x.id.0) xs ys (object i v) r)))
    ∙ stands-found (suc x.id.0) i v xs ys r

-- ---- lookups settle the list

module _ (o p : Object) (os ps : List Object) (n : ℕ) where
  -- an id that only the first list can have
  not_lower : o.id.0 < p.id.0 → RisesFrom n (p ∷ ps) → ((i : ObjectId) → lookup i (o ∷ os) ≡ lookup i (p ∷ ps)) → ⊥
  not_lower l (a, r) f =
      none-not o.value
      (sym (below o.id p.id.0 (p ∷ ps) l (omega arith, r)) ∙ sym (f o.id) ∙ lookup_yes o.id o os (eq-eqb o.id.0 o.id.0 refl))

  rest_same : o.id.0 ≡ p.id.0 → RisesFrom n (o ∷ os) → RisesFrom n (p ∷ ps) → ((i : ObjectId) → lookup i (o ∷ os) ≡ lookup i (p ∷ ps))
      → (i : ObjectId) → lookup i os ≡ lookup i ps
  rest_same e (a, r) (b, s) f i =
      on_test (eqb i.0 o.id.0)
      (λ t.
      let q : i.0 ≡ o.id.0 = eqb-true i.0 o.id.0 t in
      below i (suc o.id.0) os (omega arith) r ∙ sym (below i (suc p.id.0) ps (omega arith) s))
      (λ t.
      let q : i.0 ≡ o.id.0 → ⊥ = eqb-false i.0 o.id.0 t in
      sym (lookup_no i o os t) ∙ f i ∙ lookup_no i p ps (ne_eqb i.0 p.id.0 (λ z. q (z ∙ sym e))))

  heads_same : o.id.0 ≡ p.id.0 → ((i : ObjectId) → lookup i (o ∷ os) ≡ lookup i (p ∷ ps)) → o ≡ p
  heads_same e f =
      object-is p.id p.value o (sym e)
      (some_is o.value p.value (sym (lookup_yes o.id o os (eq-eqb o.id.0 o.id.0 refl)) ∙ f o.id
      ∙ lookup_yes o.id p ps (eq-eqb o.id.0 p.id.0 e)))

same_list : (n : ℕ) (os ps : List Object) → RisesFrom n os → RisesFrom n ps → ((i : ObjectId) → lookup i os ≡ lookup i ps) → os ≡ ps
unfolding lookup
same_list n [] [] r s f = refl
same_list n [] (p ∷ ps) r s f = none-not p.value (f p.id ∙ lookup_yes p.id p ps (eq-eqb p.id.0 p.id.0 refl))
same_list n (o ∷ os) [] r s f = none-not o.value (sym (f o.id) ∙ lookup_yes o.id o os (eq-eqb o.id.0 o.id.0 refl))
same_list n (o ∷ os) (p ∷ ps) (a, r) (b, s) f =
    on-order o.id.0 p.id.0
    (λ e l. absurd (not_lower o p os ps n l (b, s) f))
    (λ e l. ap₂ (λ (x : Object) (y : List Object). x ∷ y) (heads_same o p os ps n l f)
    (same_list (suc o.id.0) os ps r (subst (λ (k : ℕ). RisesFrom (suc k) ps) (sym l) s) (rest_same o p os ps n l (a, r) (b, s) f)))
    (λ e l. absurd (not_lower p o ps os n l (a, r) (λ i. sym (f i))))

pub object_laws : ObjectLaws
object_laws =
    record {
      found = λ i v os r. (
        stands i v os,
        λ z. subst (λ (l : List Object). lookup i l ≡ some v) (sym z.2)
            (stands-found 0 i v z.0 z.1 (subst (RisesFrom 0) z.2 r)),
      );
      put_same = λ i v os. lookup_insert i v os;
      put_other = λ i j v os n. lookup_insert_other i j v os n;
      put_rises = λ i v os r. rises-insert 0 i v os (omega arith) r;
      delete_same = λ i os. lookup_remove i os;
      delete_other = λ i j os n. lookup_remove_other i j os n;
      delete_rises = λ i os r. rises-remove 0 i os r;
      same = λ os ps r s f. same_list 0 os ps r s f;
    }

-- ---- a list of changes

rises-changes : (cs : List Change) (os : List Object) → RisesFrom 0 os → RisesFrom 0 (change_all cs os)
unfolding change_all
rises-changes [] os r = r
rises-changes (put i v ∷ cs) os r = rises-changes cs (insert i v os) (rises-insert 0 i v os (omega arith) r)
rises-changes (delete i ∷ cs) os r = rises-changes cs (remove i os) (rises-remove 0 i os r)

spared : (i : ObjectId) (cs : List Change) (os : List Object) → Spares i cs → lookup i (change_all cs os) ≡ lookup i os
unfolding change_all
spared i [] os n = refl
spared i (put j v ∷ cs) os (n, m) = spared i cs (insert j v os) m ∙ lookup_insert_other i j v os (λ e. n (sym e))
spared i (delete j ∷ cs) os (n, m) = spared i cs (remove j os) m ∙ lookup_remove_other i j os (λ e. n (sym e))

last_put : (xs ys : List Change) (i : ObjectId) (v : List ℕ) (os : List Object) → Spares i ys
    → lookup i (change_all (xs ++ (put i v ∷ ys)) os) ≡ some v
unfolding change_all
last_put [] ys i v os n = spared i ys (insert i v os) n ∙ lookup_insert i v os
last_put (c ∷ xs) ys i v os n = last_put xs ys i v (change1 c os) n

last_delete : (xs ys : List Change) (i : ObjectId) (os : List Object) → Spares i ys → lookup i (change_all (xs ++ (delete i ∷ ys)) os) ≡ none
unfolding change_all
last_delete [] ys i os n = spared i ys (remove i os) n ∙ lookup_remove i os
last_delete (c ∷ xs) ys i os n = last_delete xs ys i (change1 c os) n

pub applied : (cs : List Change) (os : List Object) → Applied cs os (change_all cs os)
applied cs os =
    record {
      last_put = λ xs ys i v e n. subst (λ (l : List Change). lookup i (change_all l os) ≡ some v) (sym e) (last_put xs ys i v os n);
      last_delete = λ xs ys i e n. subst (λ (l : List Change). lookup i (change_all l os) ≡ none) (sym e) (last_delete xs ys i os n);
      no_change = λ i n. spared i cs os n;
      rises = rises-changes cs os;
    }

pub changes-exact : ChangesExact
unfolding ChangesExact
changes-exact = applied
