-- What is pending after a replay: the changes that stand past their host's last commit or abort, or a reset.
use mathlib.Core.Path.{◌≡◌, refl, sym, ap, ap₂, subst, fun_ext, ◌∙◌}
use mathlib.Core.List.{List, [], ◌∷◌, ◌++◌, append_assoc, append-nil}
use mathlib.Core.Bool.{Bool, true, false}
use Prim.Native.Nat.{ℕ, zero, suc, ◌+◌, ◌≤◌, ◌<◌}
use native.Mathlib.Omega.{arith}
use lib.Dec.{eqb, leb}
use lib.ListN.{get_or}
use borrow.Author.Tests.{eqb-true, eqb-false, eq-eqb, ne_eqb, le-leb, lt-leb}
use Rattle.flash.proofs.Cases.{on_test}
use Rattle.frame.specs.declared.Edition.{Edition}
use Rattle.frame.specs.declared.Host.{Host}
use Rattle.frame.specs.Frame.{host_of, host_max, Change, put, delete, Frame, change, commit, abort, settled, closed, reset, map_change, map_frame, frame_len, total}
use Rattle.frame.proofs.Encode.{total_snoc}
use Rattle.journal.specs.Block.{header_len}
use Rattle.journal.specs.Replay.{EntryOf, entry, StateOf, without, next_state, replay, replay_from}
use Rattle.journal.specs.Index.{is_end, pick, since_from, since_host, since_of}
use Rattle.journal.proofs.Replaying.{replay_snoc}
use Rattle.journal.proofs.Mapping.{located, located-plain, located_snoc}

-- ---- the offsets past each host's last commit or abort, or a reset

pub since_snoc : (ed : Edition) (h : Host) (o d : ℕ) (fs : List Frame) (f : Frame)
    → since_from ed h o d (fs ++ (f ∷ [])) ≡ pick (is_end h f) (o + total ed fs + frame_len ed f) (since_from ed h o d fs)
unfolding since_from total
since_snoc ed h o d [] f = let e : o + frame_len ed f ≡ o + 0 + frame_len ed f = omega arith in ap (λ (x : ℕ). pick (is_end h f) x d) e
since_snoc ed h o d (g ∷ fs) f =
    let e : o + frame_len ed g + total ed fs + frame_len ed f ≡ o + (frame_len ed g + total ed fs) + frame_len ed f = omega arith in
    since_snoc ed h (o + frame_len ed g) (pick (is_end h g) (o + frame_len ed g) d) fs f
    ∙ ap (λ (x : ℕ). pick (is_end h f) x (since_from ed h (o + frame_len ed g) (pick (is_end h g) (o + frame_len ed g) d) fs)) e

pick-most : (t : Bool) (a b n : ℕ) → a ≤ n → b ≤ n → pick t a b ≤ n
pick-most true a b n h k = h
pick-most false a b n h k = k

since-most : (ed : Edition) (h : Host) (o d : ℕ) (fs : List Frame) → d ≤ o → since_from ed h o d fs ≤ o + total ed fs
unfolding since_from total
since-most ed h o d [] l = omega arith
since-most ed h o d (f ∷ fs) l =
    let p : ℕ = o + frame_len ed f in
    omega (arith, since-most ed h p (pick (is_end h f) p d) fs (pick-most (is_end h f) p d p (omega arith) (omega arith)))

pub since-inside : (ed : Edition) (h : Host) (fs : List Frame) → since_host ed h fs ≤ header_len + total ed fs
since-inside ed h fs = since-most ed h header_len header_len fs (omega arith)

-- the offset by host
pub since_at : (ed : Edition) (fs : List Frame) (h : Host) → h.0 ≤ host_max → get_or (since_of ed fs) h.0 0 ≡ since_host ed h fs
since_at ed fs h l = go h.0 l
  where
    go : (n : ℕ) → n ≤ 3 → get_or (since_of ed fs) n 0 ≡ since_host ed (host_of n) fs
    go zero k = refl
    go (suc zero) k = refl
    go (suc (suc zero)) k = refl
    go (suc (suc (suc zero))) k = refl
    go (suc (suc (suc (suc n)))) k = absurd (omega arith)

abbrev pub since_in : (ed : Edition) → List Frame → Host → ℕ
since_in ed fs h = since_host ed h fs

-- ---- the changes past `since`

-- the change that a frame at an offset holds, if it stands at or past its host's `since`; its value as in `located`
abbrev pub change_at : {A : Type 0} → (ℕ → List ℕ → A) → (Host → ℕ) → ℕ → Frame → List (EntryOf A)
change_at val since o (change h c) = elim (leb (since h) o) [ true ↦ entry h (map_change (val o) c) ∷ [] | false ↦ [] ]
change_at val since o (commit h) = []
change_at val since o (abort h) = []
change_at val since o (settled i v) = []
change_at val since o (closed v) = []
change_at val since o reset = []

-- those of frames that start at offset o
unfoldable pub entries_of : (ed : Edition) {A : Type 0} → (ℕ → List ℕ → A) → (Host → ℕ) → ℕ → List Frame → List (EntryOf A)
entries_of ed val since o [] = []
entries_of ed val since o (f ∷ fs) = change_at val since o f ++ entries_of ed val since (o + frame_len ed f) fs

without-append : {A : Type 0} (h : Host) (es ds : List (EntryOf A)) → without h (es ++ ds) ≡ without h es ++ without h ds
unfolding without
without-append h [] ds = refl
without-append {A} h (e ∷ es) ds =
    on_test (eqb h.0 e.host.0)
    (λ t. rw (t, without) (without-append h es ds))
    (λ t. rw (t, without) (ap (λ (x : List (EntryOf A)). e ∷ x) (without-append h es ds)))

module _ (ed : Edition) {A : Type 0} (val : ℕ → List ℕ → A) where
  entries_snoc : (since : Host → ℕ) (o : ℕ) (fs : List Frame) (f : Frame)
      → entries_of ed val since o (fs ++ (f ∷ [])) ≡ entries_of ed val since o fs ++ change_at val since (o + total ed fs) f
  unfolding entries_of total
  entries_snoc since o [] f =
      let e : o ≡ o + 0 = omega arith in append-nil (change_at val since o f) ∙ ap (λ (x : ℕ). change_at val since x f) e
  entries_snoc since o (g ∷ fs) f =
      let e : o + frame_len ed g + total ed fs ≡ o + (frame_len ed g + total ed fs) = omega arith in
      ap (λ (x : List (EntryOf A)). change_at val since o g ++ x)
      (entries_snoc since (o + frame_len ed g) fs f ∙ ap (λ (x : ℕ). entries_of ed val since (o + frame_len ed g) fs ++ change_at val since x f) e)
      ∙ sym (append_assoc (change_at val since o g) (entries_of ed val since (o + frame_len ed g) fs) (change_at val since (o + (frame_len ed g + total ed fs)) f))

  pub change_yes : (since : Host → ℕ) (o : ℕ) (h : Host) (c : Change) → since h ≤ o → change_at val since o (change h c) ≡ entry h (map_change (val o) c) ∷ []
  change_yes since o h c l = rw (le-leb (since h) o l, change_at)

  pub change_no : (since : Host → ℕ) (o : ℕ) (h : Host) (c : Change) → o < since h → change_at val since o (change h c) ≡ []
  change_no since o h c l = rw (lt-leb (since h) o l, change_at)

  -- a host's `since` moved past the frames: its entries go, the others' stay
  module _ (h : Host) (old new : Host → ℕ) (same : (g : Host) → (h.0 ≡ g.0 → ⊥) → new g ≡ old g) where
    moved_change : (o : ℕ) (g : Host) (c : Change) → o < new h → change_at val new o (change g c) ≡ without h (change_at val old o (change g c))
    unfolding without
    moved_change o g c l =
        on_test (eqb h.0 g.0)
        (λ t.
        let e : h ≡ g = ap host_of (eqb-true h.0 g.0 t) in
        change_no new o g c (subst (λ (x : Host). o < new x) e l)
        ∙ on_test (leb (old g) o) (λ u. rw (u, change_at) (rw (t, without))) (λ u. rw (u, change_at)))
        (λ t.
        ap (λ (x : ℕ). change_at val (λ y. x) o (change g c)) (same g (eqb-false h.0 g.0 t))
        ∙ on_test (leb (old g) o) (λ u. rw (u, change_at) (rw (t, without))) (λ u. rw (u, change_at)))

    moved_frame : (o : ℕ) (f : Frame) → o < new h → change_at val new o f ≡ without h (change_at val old o f)
    unfolding without
    moved_frame o (change g c) l = moved_change o g c l
    moved_frame o (commit g) l = refl
    moved_frame o (abort g) l = refl
    moved_frame o (settled i v) l = refl
    moved_frame o (closed v) l = refl
    moved_frame o reset l = refl

    moved : (o : ℕ) (fs : List Frame) → o + total ed fs ≤ new h → entries_of ed val new o fs ≡ without h (entries_of ed val old o fs)
    unfolding entries_of total without
    moved o [] l = refl
    moved o (f ∷ fs) l =
        ap₂ (λ (x y : List (EntryOf A)). x ++ y) (moved_frame o f (omega arith)) (moved (o + frame_len ed f) fs (omega arith))
        ∙ sym (without-append h (change_at val old o f) (entries_of ed val old (o + frame_len ed f) fs))

  -- ---- one frame more

  abbrev Right : List Frame → Type 0
  Right fs = (replay (located ed val header_len fs)).pending ≡ entries_of ed val (since_in ed fs) header_len fs

  -- a frame that ends no list leaves `since`
  stays : (fs : List Frame) (f : Frame) → ((h : Host) → is_end h f ≡ false)
      → entries_of ed val (since_in ed (fs ++ (f ∷ []))) header_len (fs ++ (f ∷ [])) ≡ entries_of ed val (since_in ed fs) header_len fs ++ change_at val
      (since_in ed fs) (header_len + total ed fs) f
  stays fs f n =
      let e : since_in ed (fs ++ (f ∷ [])) ≡ since_in ed fs =
      fun_ext (λ h. since_snoc ed h header_len header_len fs f ∙ ap (λ (t : Bool). pick t (header_len + total ed fs + frame_len ed f) (since_host ed h fs)) (n h)) in
      ap (λ (m : Host → ℕ). entries_of ed val m header_len (fs ++ (f ∷ []))) e ∙ entries_snoc (since_in ed fs) header_len fs f

  -- a commit or an abort moves its host's `since` past all frames
  ended : (fs : List Frame) (f : Frame) (h : Host) → ((g : Host) → is_end g f ≡ eqb g.0 h.0) → ((m : Host → ℕ) (o : ℕ) → change_at val m o f ≡ [])
      → entries_of ed val (since_in ed (fs ++ (f ∷ []))) header_len (fs ++ (f ∷ [])) ≡ without h (entries_of ed val (since_in ed fs) header_len fs)
  ended fs f h n z =
      let m : Host → ℕ = since_in ed (fs ++ (f ∷ [])) in
      let own : m h ≡ header_len + total ed fs + frame_len ed f =
      since_snoc ed h header_len header_len fs f
      ∙ ap (λ (t : Bool). pick t (header_len + total ed fs + frame_len ed f) (since_host ed h fs)) (n h ∙ eq-eqb h.0 h.0 refl) in
      entries_snoc m header_len fs f ∙ ap (λ (x : List (EntryOf A)). entries_of ed val m header_len fs ++ x) (z m (header_len + total ed fs))
      ∙ append-nil (entries_of ed val m header_len fs)
      ∙ moved h (since_in ed fs) m
      (λ g d. since_snoc ed g header_len header_len fs f
      ∙ ap (λ (t : Bool). pick t (header_len + total ed fs + frame_len ed f) (since_host ed g fs)) (n g ∙ ne_eqb g.0 h.0 (λ q. d (sym q))))
      header_len fs (omega (arith, own))

  -- a reset moves every host's
  none_left : (m : Host → ℕ) (o : ℕ) (fs : List Frame) → ((h : Host) → o + total ed fs ≤ m h) → entries_of ed val m o fs ≡ []
  unfolding entries_of total
  none_left m o [] l = refl
  none_left m o (f ∷ fs) l =
      ap₂ (λ (x y : List (EntryOf A)). x ++ y) (below f (λ h. let q : o + (frame_len ed f + total ed fs) ≤ m h = l h in omega arith))
      (none_left m (o + frame_len ed f) fs (λ h. omega (arith, l h)))
    where
      below : (g : Frame) → ((h : Host) → o < m h) → change_at val m o g ≡ []
      below (change h c) k = change_no m o h c (k h)
      below (commit h) k = refl
      below (abort h) k = refl
      below (settled i v) k = refl
      below (closed v) k = refl
      below reset k = refl

  -- what is pending after one frame more
  after : (fs : List Frame) (f : Frame) → replay (located ed val header_len (fs ++ (f ∷ []))) ≡ next_state (replay (located ed val header_len fs))
      (map_frame (val (header_len + total ed fs)) f)
  after fs f = ap replay (located_snoc ed val header_len fs f) ∙ replay_snoc (located ed val header_len fs) (map_frame (val (header_len + total ed fs)) f)

  right_next : (fs : List Frame) (f : Frame) → Right fs → Right (fs ++ (f ∷ []))
  right_next fs (change h c) r =
      let o : ℕ = header_len + total ed fs in
      ap (λ (s : StateOf A). s.pending) (after fs (change h c)) ∙ ap (λ (x : List (EntryOf A)). x ++ (entry h (map_change (val o) c) ∷ [])) r
      ∙ ap (λ (x : List (EntryOf A)). entries_of ed val (since_in ed fs) header_len fs ++ x) (sym (change_yes (since_in ed fs) o h c (since-inside ed h fs)))
      ∙ sym (stays fs (change h c) (λ g. refl))
  right_next fs (commit h) r =
      ap (λ (s : StateOf A). s.pending) (after fs (commit h)) ∙ ap (without h) r ∙ sym (ended fs (commit h) h (λ g. refl) (λ m o. refl))
  right_next fs (abort h) r =
      ap (λ (s : StateOf A). s.pending) (after fs (abort h)) ∙ ap (without h) r ∙ sym (ended fs (abort h) h (λ g. refl) (λ m o. refl))
  right_next fs (settled i v) r =
      ap (λ (s : StateOf A). s.pending) (after fs (settled i v)) ∙ r ∙ sym (append-nil (entries_of ed val (since_in ed fs) header_len fs))
      ∙ sym (stays fs (settled i v) (λ g. refl))
  right_next fs (closed v) r =
      ap (λ (s : StateOf A). s.pending) (after fs (closed v)) ∙ r ∙ sym (append-nil (entries_of ed val (since_in ed fs) header_len fs))
      ∙ sym (stays fs (closed v) (λ g. refl))
  right_next fs reset r =
      ap (λ (s : StateOf A). s.pending) (after fs reset)
      ∙ sym (none_left (since_in ed (fs ++ (reset ∷ []))) header_len (fs ++ (reset ∷ []))
      (λ h. omega (arith, since_snoc ed h header_len header_len fs reset, total_snoc ed fs reset)))

  right_all : (fs gs : List Frame) → Right fs → Right (fs ++ gs)
  right_all fs [] r = subst Right (sym (append-nil fs)) r
  right_all fs (g ∷ gs) r = subst Right (append_assoc fs (g ∷ []) gs) (right_all (fs ++ (g ∷ [])) gs (right_next fs g r))

  -- pending is what stands past `since`
  pub pending_located : (fs : List Frame) → (replay (located ed val header_len fs)).pending ≡ entries_of ed val (since_in ed fs) header_len fs
  unfolding replay_from entries_of located
  pending_located fs = right_all [] fs refl

abbrev pub bytes_there : ℕ → List ℕ → List ℕ
bytes_there o v = v

pub pending-since : (ed : Edition) (fs : List Frame) → (replay fs).pending ≡ entries_of ed bytes_there (since_in ed fs) header_len fs
pending-since ed fs = ap (λ (x : List Frame). (replay x).pending) (located-plain ed header_len fs) ∙ pending_located ed bytes_there fs

pub change-plain : (c : Change) → map_change (λ v. v) c ≡ c
change-plain (put i v) = refl
change-plain (delete i) = refl
