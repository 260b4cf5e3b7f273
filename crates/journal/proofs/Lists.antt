-- The hosts' pending lists after a change, a commit or an abort.
use mathlib.Core.Path.{◌≡◌, refl, sym, ap, ◌∙◌}
use mathlib.Core.List.{List, [], ◌∷◌, ◌++◌}
use mathlib.Core.Bool.{true, false}
use lib.Dec.{eqb}
use borrow.Author.Tests.{eq-eqb, ne_eqb, eqb-true}
use Rattle.flash.proofs.Cases.{on_test, clash}
use Rattle.frame.specs.declared.Host.{Host}
use Rattle.frame.specs.Frame.{ChangeOf}
use Rattle.journal.specs.Replay.{EntryOf, entry, list_of, without, is_open_of}

module _ {A : Type 0} where
  pub list_own : (h : Host) (es : List (EntryOf A)) → list_of h (without h es) ≡ []
  unfolding list_of without
  list_own h [] = refl
  list_own h (e ∷ es) =
      on_test (eqb h.0 e.host.0) (λ t. rw (t, without) (list_own h es)) (λ t. rw (t, without) (rw (t, list_of) (list_own h es)))

  pub list_other : (g h : Host) (es : List (EntryOf A)) → (h.0 ≡ g.0 → ⊥) → list_of g (without h es) ≡ list_of g es
  unfolding list_of without
  list_other g h [] n = refl
  list_other g h (e ∷ es) n =
      on_test (eqb h.0 e.host.0)
      (λ t. rw (t, without) (list_other g h es n ∙ rw (ne_eqb g.0 e.host.0 (λ q. n (eqb-true h.0 e.host.0 t ∙ sym q)), list_of)))
      (λ t. rw (t, without) (on_test (eqb g.0 e.host.0)
      (λ u. rw (u, list_of) (ap (λ (x : List (ChangeOf A)). e.what ∷ x) (list_other g h es n)))
      (λ u. rw (u, list_of) (list_other g h es n))))

  pub list_snoc : (h : Host) (es : List (EntryOf A)) (c : ChangeOf A) → list_of h (es ++ (entry h c ∷ [])) ≡ list_of h es ++ (c ∷ [])
  unfolding list_of
  list_snoc h [] c = rw (eq-eqb h.0 h.0 refl, list_of)
  list_snoc h (e ∷ es) c =
      on_test (eqb h.0 e.host.0)
      (λ t. rw (t, list_of) (ap (λ (x : List (ChangeOf A)). e.what ∷ x) (list_snoc h es c)))
      (λ t. rw (t, list_of) (list_snoc h es c))

  pub list_snoc_other : (g h : Host) (es : List (EntryOf A)) (c : ChangeOf A) → (h.0 ≡ g.0 → ⊥) → list_of g (es ++ (entry h c ∷ [])) ≡ list_of g es
  unfolding list_of
  list_snoc_other g h [] c n = rw (ne_eqb g.0 h.0 (λ q. n (sym q)), list_of)
  list_snoc_other g h (e ∷ es) c n =
      on_test (eqb g.0 e.host.0)
      (λ t. rw (t, list_of) (ap (λ (x : List (ChangeOf A)). e.what ∷ x) (list_snoc_other g h es c n)))
      (λ t. rw (t, list_of) (list_snoc_other g h es c n))

  -- ---- something pending or nothing

  pub not_open : (h : Host) (es : List (EntryOf A)) → is_open_of h es ≡ false → list_of h es ≡ []
  unfolding is_open_of list_of
  not_open h [] e = refl
  not_open h (x ∷ es) e =
      on_test (eqb h.0 x.host.0)
      (λ t. let q : true ≡ false = rw (t, is_open_of) at e in clash true refl q)
      (λ t. let q : is_open_of h es ≡ false = rw (t, is_open_of) at e in rw (t, list_of) (not_open h es q))

  pub open_none : (h : Host) (es : List (EntryOf A)) → list_of h es ≡ [] → is_open_of h es ≡ false
  unfolding is_open_of list_of
  open_none h [] e = refl
  open_none h (x ∷ es) e =
      on_test (eqb h.0 x.host.0)
      (λ t. let q : x.what ∷ list_of h es ≡ [] = rw (t, list_of) at e in let z : true ≡ false = cc in clash true refl z)
      (λ t. let q : list_of h es ≡ [] = rw (t, list_of) at e in rw (t, is_open_of) (open_none h es q))

  pub without_none : (h : Host) (es : List (EntryOf A)) → is_open_of h es ≡ false → without h es ≡ es
  unfolding is_open_of without
  without_none h [] e = refl
  without_none h (x ∷ es) e =
      on_test (eqb h.0 x.host.0)
      (λ t. let q : true ≡ false = rw (t, is_open_of) at e in clash true refl q)
      (λ t. let q : is_open_of h es ≡ false = rw (t, is_open_of) at e in rw (t, without) (ap (λ (y : List (EntryOf A)). x ∷ y) (without_none h es q)))

  pub open_own : (h : Host) (es : List (EntryOf A)) → is_open_of h (without h es) ≡ false
  open_own h es = open_none h (without h es) (list_own h es)

  pub open_other : (g h : Host) (es : List (EntryOf A)) → (h.0 ≡ g.0 → ⊥) → is_open_of g (without h es) ≡ is_open_of g es
  unfolding is_open_of without
  open_other g h [] n = refl
  open_other g h (e ∷ es) n =
      on_test (eqb h.0 e.host.0)
      (λ t. rw (t, without) (open_other g h es n ∙ rw (ne_eqb g.0 e.host.0 (λ q. n (eqb-true h.0 e.host.0 t ∙ sym q)), is_open_of)))
      (λ t. rw (t, without) (on_test (eqb g.0 e.host.0) (λ u. rw (u, is_open_of)) (λ u. rw (u, is_open_of) (open_other g h es n))))

  pub open_snoc : (h : Host) (es : List (EntryOf A)) (c : ChangeOf A) → is_open_of h (es ++ (entry h c ∷ [])) ≡ true
  unfolding is_open_of
  open_snoc h [] c = rw (eq-eqb h.0 h.0 refl, is_open_of)
  open_snoc h (e ∷ es) c = on_test (eqb h.0 e.host.0) (λ t. rw (t, is_open_of)) (λ t. rw (t, is_open_of) (open_snoc h es c))

  pub open_snoc_other : (g h : Host) (es : List (EntryOf A)) (c : ChangeOf A) → (h.0 ≡ g.0 → ⊥) → is_open_of g (es ++ (entry h c ∷ [])) ≡ is_open_of g es
  unfolding is_open_of
  open_snoc_other g h [] c n = rw (ne_eqb g.0 h.0 (λ q. n (sym q)), is_open_of)
  open_snoc_other g h (e ∷ es) c n =
      on_test (eqb g.0 e.host.0) (λ t. rw (t, is_open_of)) (λ t. rw (t, is_open_of) (open_snoc_other g h es c n))
