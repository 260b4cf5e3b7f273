-- The table of places built frame after frame: what each frame does to it; and that a transfer, which places what it copies, leaves the new block's.
use mathlib.Core.Path.{◌≡◌, refl, sym, ap, ◌∙◌}
use mathlib.Core.List.{List, [], ◌∷◌, ◌++◌}
use mathlib.Core.Option.{Option, none, some}
use mathlib.Core.Bool.{true, false, ◌&&◌}
use Prim.Native.Nat.{ℕ, ◌+◌, ◌<◌}
use native.Mathlib.Omega.{arith}
use lib.Dec.{eqb, leb}
use lib.ListN.{get_or, set, length-set}
use lib.Seq.{ext_get_or, get_or-set_same, get_or-set_other}
use borrow.Author.Tests.{eqb-true, eqb-false, eq-eqb, ne_eqb}
use Rattle.flash.proofs.Cases.{on_test}
use Rattle.frame.specs.declared.Edition.{Edition}
use Rattle.frame.specs.declared.Host.{Host}
use Rattle.frame.specs.declared.ObjectId.{ObjectId}
use Rattle.frame.specs.Frame.{id_of, host_of, ChangeOf, Change, put, delete, FrameOf, Frame, change, commit, abort, settled, closed, reset, map_change}
use Rattle.frame.specs.Frame.{map_frame, frame_len, total, MayStand, AllMayStand, next_of}
use Rattle.journal.specs.Block.{header_len}
use Rattle.journal.specs.Replay.{ObjectOf, object, EntryOf, StateOf, insert, remove, lookup, change1, change_all, list_of, next_state, replay}
use Rattle.journal.specs.Index.{sited, or_zero, places_from, places_of, since_host, place_change, place_if}
use Rattle.journal.proofs.Lookups.{lookup_yes, lookup_no, lookup_insert, lookup_insert_other, lookup_remove, lookup_remove_other}
use Rattle.journal.proofs.Replaying.{replay_snoc, above-none, sound-replay}
use Rattle.journal.proofs.Mapping.{located-sited, located_snoc}
use Rattle.journal.proofs.Places.{places-at, length_from, sited-none}
use Rattle.journal.proofs.Pending.{since_in, change_at, entries_of, pending_located}

-- ---- a commit, by one pass over the frames

-- what a frame at offset o does in a commit of host h, whose pending part starts at d
abbrev pub place_frame : Host → ℕ → ℕ → Frame → List ℕ → List ℕ
place_frame h d o (change g c) t = place_if (eqb h.0 g.0 && leb d o) (map_change (λ v. o) c) t
place_frame h d o (commit g) t = t
place_frame h d o (abort g) t = t
place_frame h d o (settled i v) t = t
place_frame h d o (closed v) t = t
place_frame h d o reset t = t

unfoldable pub commit_places : Edition → Host → ℕ → ℕ → List ℕ → List Frame → List ℕ
commit_places ed h d o t [] = t
commit_places ed h d o t (f ∷ fs) = commit_places ed h d (o + frame_len ed f) (place_frame h d o f t) fs

-- ---- one place changed

abbrev table : List (ObjectOf ℕ) → List ℕ
table os = places_from 256 0 os

table_at : (os : List (ObjectOf ℕ)) (j : ℕ) → j < 256 → get_or (table os) j 0 ≡ or_zero (lookup (id_of j) os)
table_at os j l = let e : 0 + j ≡ j = omega arith in places-at 256 0 j os l ∙ ap (λ (x : ℕ). or_zero (lookup (id_of x) os)) e

table-set : (os new : List (ObjectOf ℕ)) (i : ObjectId) (p : ℕ) → or_zero (lookup i new) ≡ p
    → ((j : ObjectId) → (j.0 ≡ i.0 → ⊥) → lookup j new ≡ lookup j os)
    → table new ≡ set (table os) i.0 p
table-set os new i p e k =
    ext_get_or 0 (table new) (set (table os) i.0 p) (length_from 256 0 new ∙ sym (length-set (table os) i.0 p ∙ length_from 256 0 os))
    (λ j l.
    let l' : j < 256 = omega (arith, length_from 256 0 new) in
    on_test (eqb j i.0)
    (λ t.
    let q : j ≡ i.0 = eqb-true j i.0 t in
    table_at new j l' ∙ ap (λ (x : ℕ). or_zero (lookup (id_of x) new)) q ∙ e
    ∙ sym (ap (λ (x : ℕ). get_or (set (table os) i.0 p) x 0) q ∙ get_or-set_same (table os) i.0 p 0 (omega (arith, length_from 256 0 os))))
    (λ t.
    let q : j ≡ i.0 → ⊥ = eqb-false j i.0 t in
    table_at new j l' ∙ ap or_zero (k (id_of j) q) ∙ sym (get_or-set_other (table os) i.0 j p 0 q ∙ table_at os j l')))

table-change : (c : ChangeOf ℕ) (os : List (ObjectOf ℕ)) → table (change1 c os) ≡ place_change c (table os)
table-change (put i p) os = table-set os (insert i p os) i p (ap or_zero (lookup_insert i p os)) (λ j n. lookup_insert_other j i p os n)
table-change (delete i) os = table-set os (remove i os) i 0 (ap or_zero (lookup_remove i os)) (λ j n. lookup_remove_other j i os n)

place_changes : List (ChangeOf ℕ) → List ℕ → List ℕ
place_changes [] t = t
place_changes (c ∷ cs) t = place_changes cs (place_change c t)

table-changes : (cs : List (ChangeOf ℕ)) (os : List (ObjectOf ℕ)) → table (change_all cs os) ≡ place_changes cs (table os)
unfolding change_all place_changes
table-changes [] os = refl
table-changes (c ∷ cs) os = table-changes cs (change1 c os) ∙ ap (place_changes cs) (table-change c os)

-- ---- a commit: one pass over the frames

abbrev offset_there : ℕ → List ℕ → ℕ
offset_there o v = o

commit-change : (h g : Host) (since : Host → ℕ) (o : ℕ) (c : Change) (es : List (EntryOf ℕ)) (t : List ℕ)
    → place_changes (list_of h (change_at offset_there since o (change g c) ++ es)) t ≡ place_changes (list_of h es) (place_frame h (since h) o (change g c) t)
unfolding list_of place_changes
commit-change h g since o c es t =
    on_test (eqb h.0 g.0)
    (λ u.
    let q : since g ≡ since h = ap (λ (n : ℕ). since (host_of n)) (sym (eqb-true h.0 g.0 u)) in
    on_test (leb (since h) o)
    (λ v. let w : leb (since g) o ≡ true = ap (λ (n : ℕ). leb n o) q ∙ v in rw (u, v, w, change_at) (rw (u, list_of)))
    (λ v. let w : leb (since g) o ≡ false = ap (λ (n : ℕ). leb n o) q ∙ v in rw (u, v, w, change_at)))
    (λ u. on_test (leb (since g) o) (λ w. rw (u, w, change_at) (rw (u, list_of))) (λ w. rw (u, w, change_at)))

commit-pass : (ed : Edition) (h : Host) (since : Host → ℕ) (o : ℕ) (t : List ℕ) (fs : List Frame)
    → place_changes (list_of h (entries_of ed offset_there since o fs)) t ≡ commit_places ed h (since h) o t fs
unfolding entries_of list_of place_changes commit_places
commit-pass ed h since o t [] = refl
commit-pass ed h since o t (change g c ∷ fs) =
    let n : ℕ = o + frame_len ed (change g c) in
    commit-change h g since o c (entries_of ed offset_there since n fs) t ∙ commit-pass ed h since n (place_frame h (since h) o (change g c) t) fs
commit-pass ed h since o t (commit g ∷ fs) = commit-pass ed h since (o + frame_len ed (commit g)) t fs
commit-pass ed h since o t (abort g ∷ fs) = commit-pass ed h since (o + frame_len ed (abort g)) t fs
commit-pass ed h since o t (settled i v ∷ fs) = commit-pass ed h since (o + frame_len ed (settled i v)) t fs
commit-pass ed h since o t (closed v ∷ fs) = commit-pass ed h since (o + frame_len ed (closed v)) t fs
commit-pass ed h since o t (reset ∷ fs) = commit-pass ed h since (o + frame_len ed reset) t fs

-- ---- the table after one frame more

sited_snoc : (ed : Edition) (fs : List Frame) (f : Frame) → replay (sited ed header_len (fs ++ (f ∷ []))) ≡ next_state (replay (sited ed header_len fs))
    (map_frame (λ v. header_len + total ed fs) f)
sited_snoc ed fs f =
    let o : ℕ = header_len + total ed fs in
    ap replay (located-sited ed header_len (fs ++ (f ∷ [])) ∙ located_snoc ed offset_there header_len fs f
    ∙ ap (λ (x : List (FrameOf ℕ)). x ++ (map_frame (λ v. o) f ∷ [])) (sym (located-sited ed header_len fs)))
    ∙ replay_snoc (sited ed header_len fs) (map_frame (λ v. o) f)

-- a frame that leaves the objects
pub places-stay : (ed : Edition) (fs : List Frame) (f : Frame) → ((s : StateOf ℕ) (o : ℕ) → (next_state s (map_frame (λ v. o) f)).objects ≡ s.objects)
    → places_of ed (fs ++ (f ∷ [])) ≡ places_of ed fs
places-stay ed fs f n =
    ap (λ (s : StateOf ℕ). table s.objects) (sited_snoc ed fs f) ∙ ap table (n (replay (sited ed header_len fs)) (header_len + total ed fs))

pub places-commit : (ed : Edition) (fs : List Frame) (h : Host)
    → places_of ed (fs ++ (commit h ∷ [])) ≡ commit_places ed h (since_host ed h fs) header_len (places_of ed fs) fs
places-commit ed fs h =
    let s : StateOf ℕ = replay (sited ed header_len fs) in
    ap (λ (x : StateOf ℕ). table x.objects) (sited_snoc ed fs (commit h)) ∙ table-changes (list_of h s.pending) s.objects
    ∙ ap (λ (x : List (EntryOf ℕ)). place_changes (list_of h x) (places_of ed fs))
    (ap (λ (x : List (FrameOf ℕ)). (replay x).pending) (located-sited ed header_len fs) ∙ pending_located ed offset_there fs)
    ∙ commit-pass ed h (since_in ed fs) header_len (places_of ed fs) fs

lookup_snoc : {A : Type 0} (j i : ObjectId) (v : A) (os : List (ObjectOf A)) → (j.0 ≡ i.0 → ⊥) → lookup j (os ++ (object i v ∷ [])) ≡ lookup j os
unfolding lookup
lookup_snoc j i v [] n = lookup_no j (object i v) [] (ne_eqb j.0 i.0 n)
lookup_snoc j i v (o ∷ os) n =
    on_test (eqb j.0 o.id.0)
    (λ t. lookup_yes j o (os ++ (object i v ∷ [])) t ∙ sym (lookup_yes j o os t))
    (λ t. lookup_no j o (os ++ (object i v ∷ [])) t ∙ lookup_snoc j i v os n ∙ sym (lookup_no j o os t))

lookup-last : {A : Type 0} (i : ObjectId) (v : A) (os : List (ObjectOf A)) → lookup i os ≡ none → lookup i (os ++ (object i v ∷ [])) ≡ some v
unfolding lookup
lookup-last i v [] n = lookup_yes i (object i v) [] (eq-eqb i.0 i.0 refl)
lookup-last {A} i v (o ∷ os) n =
    on_test (eqb i.0 o.id.0)
    (λ t. let z : ◌≡◌ {A = Option A} (some o.value) none = sym (lookup_yes i o os t) ∙ n in let y : ◌≡◌ {A = ℕ} 0 1 = cc in absurd (omega arith))
    (λ t. lookup_no i o (os ++ (object i v ∷ [])) t ∙ lookup-last i v os (sym (lookup_no i o os t) ∙ n))

pub places-settled : (ed : Edition) (fs : List Frame) (i : ObjectId) (v : List ℕ) → AllMayStand ed 0 fs → MayStand ed (next_of 0 fs) (settled i v)
    → places_of ed (fs ++ (settled i v ∷ [])) ≡ set (places_of ed fs) i.0 (header_len + total ed fs)
places-settled ed fs i v g (a, b, c) =
    let o : ℕ = header_len + total ed fs in
    let os : List (ObjectOf ℕ) = (replay (sited ed header_len fs)).objects in
    let n : lookup i os ≡ none = sited-none ed fs i (above-none ed i 0 (replay fs).objects (next_of 0 fs) a (sound-replay ed fs g).rising) in
    ap (λ (s : StateOf ℕ). table s.objects) (sited_snoc ed fs (settled i v))
    ∙ table-set os (os ++ (object i o ∷ [])) i o (ap or_zero (lookup-last i o os n)) (λ j d. lookup_snoc j i o os d)
