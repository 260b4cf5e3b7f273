-- A function of the values goes through replay, and what holds of every value in the frames holds of every object.
use mathlib.Core.Path.{◌≡◌, refl, sym, ap, ap₂, subst, ◌∙◌}
use mathlib.Core.List.{List, [], ◌∷◌, ◌++◌, map}
use mathlib.Core.Option
use mathlib.Core.Option.{Option, some}
use Prim.Native.Nat.{ℕ, ◌+◌}
use native.Mathlib.Omega.{arith}
use lib.Dec.{eqb}
use borrow.Author.Tests.{eqb-true}
use Rattle.flash.proofs.Cases.{on_test, on-order}
use Rattle.frame.specs.declared.Edition.{Edition}
use Rattle.frame.specs.declared.Host.{Host}
use Rattle.frame.specs.declared.ObjectId.{ObjectId}
use Rattle.frame.specs.Frame.{id_of, ChangeOf, put, delete, FrameOf, Frame, change, commit, abort, settled, closed, reset, map_change, map_frame, frame_len, total}
use Rattle.frame.proofs.Heads.{map-twice, map-plain}
use Rattle.journal.specs.Replay.{ObjectOf, object, EntryOf, entry, StateOf, state, insert, remove, lookup, change1, change_all, list_of}
use Rattle.journal.specs.Replay.{without, next_state, replay_from, replay}
use Rattle.journal.specs.Index.{sited}
use Rattle.journal.specs.Laws.{Holder, put_by, settled_as, holding}
use Rattle.journal.proofs.Lookups.{insert_lt, insert_eq, insert_gt}

map_snoc : {A B : Type 0} (f : A → B) (l : List A) (a : A) → map f l ++ (f a ∷ []) ≡ map f (l ++ (a ∷ []))
map_snoc f [] a = refl
map_snoc {B} f (x ∷ l) a = ap (λ (r : List B). f x ∷ r) (map_snoc f l a)

module _ {A B : Type 0} (f : A → B) where
  abbrev pub map_object : ObjectOf A → ObjectOf B
  map_object o = object o.id (f o.value)

  abbrev pub map_entry : EntryOf A → EntryOf B
  map_entry e = entry e.host (map_change f e.what)

  abbrev pub map_state : StateOf A → StateOf B
  map_state s = state (map map_object s.objects) (map map_entry s.pending)

  map_insert : (i : ObjectId) (v : A) (os : List (ObjectOf A)) → insert i (f v) (map map_object os) ≡ map map_object (insert i v os)
  unfolding insert
  map_insert i v [] = refl
  map_insert i v (o ∷ os) =
      on-order i.0 o.id.0
      (λ e l. insert_lt i (f v) (map_object o) (map map_object os) e ∙ ap (map map_object) (sym (insert_lt i v o os e)))
      (λ e l. insert_eq i (f v) (map_object o) (map map_object os) e ∙ ap (map map_object) (sym (insert_eq i v o os e)))
      (λ e l. insert_gt i (f v) (map_object o) (map map_object os) e ∙ ap (λ (x : List (ObjectOf B)). map_object o ∷ x) (map_insert i v os)
      ∙ ap (map map_object) (sym (insert_gt i v o os e)))

  map_remove : (i : ObjectId) (os : List (ObjectOf A)) → remove i (map map_object os) ≡ map map_object (remove i os)
  unfolding remove
  map_remove i [] = refl
  map_remove i (o ∷ os) =
      on_test (eqb i.0 o.id.0)
      (λ t. rw (t, remove) (map_remove i os))
      (λ t. rw (t, remove) (ap (λ (x : List (ObjectOf B)). map_object o ∷ x) (map_remove i os)))

  pub map_lookup : (i : ObjectId) (os : List (ObjectOf A)) → lookup i (map map_object os) ≡ Option.map f (lookup i os)
  unfolding lookup
  map_lookup i [] = refl
  map_lookup i (o ∷ os) = on_test (eqb i.0 o.id.0) (λ t. rw (t, lookup)) (λ t. rw (t, lookup) (map_lookup i os))

  map-change : (c : ChangeOf A) (os : List (ObjectOf A)) → change1 (map_change f c) (map map_object os) ≡ map map_object (change1 c os)
  map-change (put i v) os = map_insert i v os
  map-change (delete i) os = map_remove i os

  map_changes : (cs : List (ChangeOf A)) (os : List (ObjectOf A)) → change_all (map (map_change f) cs) (map map_object os) ≡ map map_object (change_all cs os)
  unfolding change_all
  map_changes [] os = refl
  map_changes (c ∷ cs) os = ap (change_all (map (map_change f) cs)) (map-change c os) ∙ map_changes cs (change1 c os)

  map_list : (h : Host) (es : List (EntryOf A)) → list_of h (map map_entry es) ≡ map (map_change f) (list_of h es)
  unfolding list_of
  map_list h [] = refl
  map_list h (e ∷ es) =
      on_test (eqb h.0 e.host.0)
      (λ t. rw (t, list_of) (ap (λ (x : List (ChangeOf B)). map_change f e.what ∷ x) (map_list h es)))
      (λ t. rw (t, list_of) (map_list h es))

  map_without : (h : Host) (es : List (EntryOf A)) → without h (map map_entry es) ≡ map map_entry (without h es)
  unfolding without
  map_without h [] = refl
  map_without h (e ∷ es) =
      on_test (eqb h.0 e.host.0)
      (λ t. rw (t, without) (map_without h es))
      (λ t. rw (t, without) (ap (λ (x : List (EntryOf B)). map_entry e ∷ x) (map_without h es)))

  map_next : (s : StateOf A) (x : FrameOf A) → next_state (map_state s) (map_frame f x) ≡ map_state (next_state s x)
  map_next s (change h c) = ap (state (map map_object s.objects)) (map_snoc map_entry s.pending (entry h c))
  map_next s (commit h) =
      ap₂ state (ap (λ (x : List (ChangeOf B)). change_all x (map map_object s.objects)) (map_list h s.pending)
      ∙ map_changes (list_of h s.pending) s.objects)
      (map_without h s.pending)
  map_next s (abort h) = ap (state (map map_object s.objects)) (map_without h s.pending)
  map_next s (settled i v) = ap (λ (x : List (ObjectOf B)). state x (map map_entry s.pending)) (map_snoc map_object s.objects (object i v))
  map_next s (closed v) = refl
  map_next s reset = refl

  map_from : (s : StateOf A) (xs : List (FrameOf A)) → replay_from (map_state s) (map (map_frame f) xs) ≡ map_state (replay_from s xs)
  unfolding replay_from
  map_from s [] = refl
  map_from s (x ∷ xs) = ap (λ (y : StateOf B). replay_from y (map (map_frame f) xs)) (map_next s x) ∙ map_from (next_state s x) xs

  pub map_replay : (xs : List (FrameOf A)) → replay (map (map_frame f) xs) ≡ map_state (replay xs)
  map_replay xs = map_from (state [] []) xs

-- ---- what holds of every value with its id

module _ {A : Type 0} (P : ObjectId → A → Type 0) where
  abbrev pub AllObjects : List (ObjectOf A) → Type 0
  AllObjects [] = Unit {0}
  AllObjects (o ∷ os) = P o.id o.value × AllObjects os

  abbrev pub OfChange : ChangeOf A → Type 0
  OfChange (put i v) = P i v
  OfChange (delete i) = Unit {0}

  abbrev AllChanges : List (ChangeOf A) → Type 0
  AllChanges [] = Unit {0}
  AllChanges (c ∷ cs) = OfChange c × AllChanges cs

  abbrev pub AllEntries : List (EntryOf A) → Type 0
  AllEntries [] = Unit {0}
  AllEntries (e ∷ es) = OfChange e.what × AllEntries es

  abbrev pub OfFrame : FrameOf A → Type 0
  OfFrame (change h c) = OfChange c
  OfFrame (commit h) = Unit {0}
  OfFrame (abort h) = Unit {0}
  OfFrame (settled i v) = P i v
  OfFrame (closed v) = Unit {0}
  OfFrame reset = Unit {0}

  abbrev pub AllFrames : List (FrameOf A) → Type 0
  AllFrames [] = Unit {0}
  AllFrames (x ∷ xs) = OfFrame x × AllFrames xs

  abbrev pub OfState : StateOf A → Type 0
  OfState s = AllObjects s.objects × AllEntries s.pending

  all_insert : (i : ObjectId) (v : A) (os : List (ObjectOf A)) → P i v → AllObjects os → AllObjects (insert i v os)
  unfolding insert
  all_insert i v [] p a = (p, tt)
  all_insert i v (o ∷ os) p (q, a) =
      on-order i.0 o.id.0
      (λ e l. rw (insert_lt i v o os e) (p, (q, a)))
      (λ e l. rw (insert_eq i v o os e) (p, a))
      (λ e l. rw (insert_gt i v o os e) (q, all_insert i v os p a))

  all_remove : (i : ObjectId) (os : List (ObjectOf A)) → AllObjects os → AllObjects (remove i os)
  unfolding remove
  all_remove i [] a = tt
  all_remove i (o ∷ os) (q, a) = on_test (eqb i.0 o.id.0) (λ t. rw (t, remove) (all_remove i os a)) (λ t. rw (t, remove) (q, all_remove i os a))

  all_change : (c : ChangeOf A) (os : List (ObjectOf A)) → OfChange c → AllObjects os → AllObjects (change1 c os)
  all_change (put i v) os p a = all_insert i v os p a
  all_change (delete i) os p a = all_remove i os a

  all_changes : (cs : List (ChangeOf A)) (os : List (ObjectOf A)) → AllChanges cs → AllObjects os → AllObjects (change_all cs os)
  unfolding change_all
  all_changes [] os p a = a
  all_changes (c ∷ cs) os (p, ps) a = all_changes cs (change1 c os) ps (all_change c os p a)

  all_list : (h : Host) (es : List (EntryOf A)) → AllEntries es → AllChanges (list_of h es)
  unfolding list_of
  all_list h [] a = tt
  all_list h (e ∷ es) (p, a) = on_test (eqb h.0 e.host.0) (λ t. rw (t, list_of) (p, all_list h es a)) (λ t. rw (t, list_of) (all_list h es a))

  all_without : (h : Host) (es : List (EntryOf A)) → AllEntries es → AllEntries (without h es)
  unfolding without
  all_without h [] a = tt
  all_without h (e ∷ es) (p, a) = on_test (eqb h.0 e.host.0) (λ t. rw (t, without) (all_without h es a)) (λ t. rw (t, without) (p, all_without h es a))

  all_objects_snoc : (os : List (ObjectOf A)) (o : ObjectOf A) → P o.id o.value → AllObjects os → AllObjects (os ++ (o ∷ []))
  all_objects_snoc [] o p a = (p, tt)
  all_objects_snoc (x ∷ os) o p (q, a) = (q, all_objects_snoc os o p a)

  all_entries_snoc : (es : List (EntryOf A)) (e : EntryOf A) → OfChange e.what → AllEntries es → AllEntries (es ++ (e ∷ []))
  all_entries_snoc [] e p a = (p, tt)
  all_entries_snoc (x ∷ es) e p (q, a) = (q, all_entries_snoc es e p a)

  all_next : (s : StateOf A) (x : FrameOf A) → OfFrame x → OfState s → OfState (next_state s x)
  all_next s (change h c) p (a, e) = (a, all_entries_snoc s.pending (entry h c) p e)
  all_next s (commit h) p (a, e) = (all_changes (list_of h s.pending) s.objects (all_list h s.pending e) a, all_without h s.pending e)
  all_next s (abort h) p (a, e) = (a, all_without h s.pending e)
  all_next s (settled i v) p (a, e) = (all_objects_snoc s.objects (object i v) p a, e)
  all_next s (closed v) p k = k
  all_next s reset p (a, e) = (a, tt)

  all_from : (s : StateOf A) (xs : List (FrameOf A)) → AllFrames xs → OfState s → OfState (replay_from s xs)
  unfolding replay_from
  all_from s [] a k = k
  all_from s (x ∷ xs) (p, a) k = all_from (next_state s x) xs a (all_next s x p k)

  pub all_replay : (xs : List (FrameOf A)) → AllFrames xs → OfState (replay xs)
  all_replay xs a = all_from (state [] []) xs a (tt, tt)

  pub all_lookup : (i : ObjectId) (os : List (ObjectOf A)) (w : A) → AllObjects os → lookup i os ≡ some w → P i w
  unfolding lookup
  all_lookup i [] w a e = let z : ◌≡◌ {A = ℕ} 0 1 = cc in absurd (omega arith)
  all_lookup i (o ∷ os) w (p, a) e =
      on_test (eqb i.0 o.id.0)
      (λ t.
      let q : ◌≡◌ {A = Option A} (some o.value) (some w) = rw (t, lookup) at e in
      let r : o.value ≡ w = cc in
      let s : o.id ≡ i = sym (ap id_of (eqb-true i.0 o.id.0 t)) in
      subst (P i) r (subst (λ (j : ObjectId). P j o.value) s p))
      (λ t. let q : lookup i os ≡ some w = rw (t, lookup) at e in all_lookup i os w a q)

-- of one frame, by what holds its value: all other kinds hold none
pub by-holder : {A : Type 0} (H : Frame → Type 0) (P : Frame → ObjectId → A → Type 0) (val : List ℕ → A)
    → ((x : Holder) (i : ObjectId) (v : List ℕ) → H (holding x i v) → P (holding x i v) i (val v)) → (f : Frame) → H f → OfFrame (P f) (map_frame val f)
by-holder H P val y (change h (put i v)) k = y (put_by h) i v k
by-holder H P val y (change h (delete i)) k = tt
by-holder H P val y (commit h) k = tt
by-holder H P val y (abort h) k = tt
by-holder H P val y (settled i v) k = y settled_as i v k
by-holder H P val y (closed v) k = tt
by-holder H P val y reset k = tt

-- ---- frames whose values are made of their offset and bytes

unfoldable pub located : (ed : Edition) {A : Type 0} → (ℕ → List ℕ → A) → ℕ → List Frame → List (FrameOf A)
located ed val o [] = []
located ed val o (f ∷ fs) = map_frame (val o) f ∷ located ed val (o + frame_len ed f) fs

pub located-sited : (ed : Edition) (o : ℕ) (fs : List Frame) → sited ed o fs ≡ located ed (λ p v. p) o fs
unfolding sited located
located-sited ed o [] = refl
located-sited ed o (f ∷ fs) = ap (λ (x : List (FrameOf ℕ)). map_frame (λ v. o) f ∷ x) (located-sited ed (o + frame_len ed f) fs)

pub located-plain : (ed : Edition) (o : ℕ) (fs : List Frame) → fs ≡ located ed (λ p v. v) o fs
unfolding located
located-plain ed o [] = refl
located-plain ed o (f ∷ fs) = ap₂ (λ (x : Frame) (y : List Frame). x ∷ y) (sym (map-plain f)) (located-plain ed (o + frame_len ed f) fs)

pub located-map : (ed : Edition) {A B : Type 0} (g : A → B) (val : ℕ → List ℕ → A) (o : ℕ) (fs : List Frame)
    → located ed (λ p v. g (val p v)) o fs ≡ map (map_frame g) (located ed val o fs)
unfolding located
located-map ed g val o [] = refl
located-map ed {B} g val o (f ∷ fs) =
    ap₂ (λ (x : FrameOf B) (y : List (FrameOf B)). x ∷ y) (sym (map-twice g (val o) f)) (located-map ed g val (o + frame_len ed f) fs)

pub located_snoc : (ed : Edition) {A : Type 0} (val : ℕ → List ℕ → A) (o : ℕ) (fs : List Frame) (f : Frame)
    → located ed val o (fs ++ (f ∷ [])) ≡ located ed val o fs ++ (map_frame (val (o + total ed fs)) f ∷ [])
unfolding located total
located_snoc ed {A} val o [] f = let e : o ≡ o + 0 = omega arith in ap (λ (x : ℕ). map_frame (val x) f ∷ []) e
located_snoc ed {A} val o (g ∷ fs) f =
    let e : o + frame_len ed g + total ed fs ≡ o + (frame_len ed g + total ed fs) = omega arith in
    ap (λ (x : List (FrameOf A)). map_frame (val o) g ∷ x)
    (located_snoc ed val (o + frame_len ed g) fs f ∙ ap (λ (x : ℕ). located ed val (o + frame_len ed g) fs ++ (map_frame (val x) f ∷ [])) e)
