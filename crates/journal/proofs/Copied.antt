-- A transfer that places each frame it copies ends with the places of the block that it makes, document 02, K8.
use mathlib.Core.Path.{◌≡◌, refl, sym, ap, subst, ◌∙◌}
use mathlib.Core.List.{List, [], ◌∷◌, ◌++◌, append_assoc, append-nil, map}
use mathlib.Core.Option.{none}
use mathlib.Core.Bool.{Bool, true, false, ◌&&◌}
use Prim.Native.Nat.{ℕ, ◌+◌, ◌≤◌, ◌<◌}
use native.Mathlib.Omega.{arith}
use lib.Dec.{eqb, leb}
use lib.ListN.{length, get_or, set, length-set}
use lib.Seq.{ext_get_or, get_or-set_same, get_or-set_other}
use borrow.Author.Tests.{eqb-true, eqb-false, le-leb}
use Rattle.flash.proofs.Cases.{on_test}
use Rattle.frame.specs.declared.Edition.{Edition}
use Rattle.frame.specs.declared.Host.{Host}
use Rattle.frame.specs.Frame.{id_of, Frame, change, commit, abort, settled, closed, reset, map_change, frame_len, total, MayStand, AllMayStand, next_after, next_of}
use Rattle.frame.proofs.Encode.{total_snoc}
use Rattle.journal.specs.Block.{header_len}
use Rattle.journal.specs.Replay.{Object, Entry, lookup, replay_from, replay, settled_frame, pending_frame, frames_of, settled_only}
use Rattle.journal.specs.Index.{places_of, since_from, since_host, place_if, place_copied, place_all, commits}
use Rattle.journal.proofs.Lookups.{lookup_no}
use Rattle.journal.proofs.Places.{no_place, length-places}
use Rattle.journal.proofs.Tables.{place_frame, commit_places, places-stay, places-commit, places-settled}

-- ---- frames one after the other

place-append : (ed : Edition) (ends : Host → Bool) (o : ℕ) (fs gs : List Frame) (t : List ℕ)
    → place_all ed ends o (fs ++ gs) t ≡ place_all ed ends (o + total ed fs) gs (place_all ed ends o fs t)
unfolding place_all total
place-append ed ends o [] gs t = let e : o ≡ o + 0 = omega arith in ap (λ (n : ℕ). place_all ed ends n gs t) e
place-append ed ends o (f ∷ fs) gs t =
    let e : o + frame_len ed f + total ed fs ≡ o + (frame_len ed f + total ed fs) = omega arith in
    let u : List ℕ = place_copied ends o f t in
    place-append ed ends (o + frame_len ed f) fs gs u ∙ ap (λ (n : ℕ). place_all ed ends n gs (place_all ed ends (o + frame_len ed f) fs u)) e

-- it is one and the same by whom a frame is committed
pub place_same : (ed : Edition) (ends ends' : Host → Bool) (o : ℕ) (fs : List Frame) (t : List ℕ) → ((h : Host) → ends h ≡ ends' h)
    → place_all ed ends o fs t ≡ place_all ed ends' o fs t
unfolding place_all
place_same ed ends ends' o [] t n = refl
place_same ed ends ends' o (f ∷ fs) t n =
    ap (place_all ed ends (o + frame_len ed f) fs) (one f) ∙ place_same ed ends ends' (o + frame_len ed f) fs (place_copied ends' o f t) n
  where
    one : (g : Frame) → place_copied ends o g t ≡ place_copied ends' o g t
    one (change h c) = ap (λ (b : Bool). place_if b (map_change (λ v. o) c) t) (n h)
    one (commit h) = refl
    one (abort h) = refl
    one (settled i v) = refl
    one (closed v) = refl
    one reset = refl

-- ---- settled frames: each id that is copied has its new place, whatever its old one was

same_after : (ed : Edition) (ends : Host → Bool) (o : ℕ) (os : List Object) (t u : List ℕ) → length t ≡ 256 → length u ≡ 256
    → ((j : ℕ) → j < 256 → lookup (id_of j) os ≡ none → get_or t j 0 ≡ get_or u j 0)
    → place_all ed ends o (map settled_frame os) t ≡ place_all ed ends o (map settled_frame os) u
unfolding place_all lookup
same_after ed ends o [] t u lt lu h = ext_get_or 0 t u (lt ∙ sym lu) (λ j l. h j (omega arith) refl)
same_after ed ends o (x ∷ os) t u lt lu h =
    let i : ℕ = x.id.0 in
    same_after ed ends (o + frame_len ed (settled_frame x)) os (set t i o) (set u i o) (length-set t i o ∙ lt) (length-set u i o ∙ lu)
    (λ j l n.
    on_test (eqb j i)
    (λ e.
    let q : j ≡ i = eqb-true j i e in
    ap (λ (k : ℕ). get_or (set t i o) k 0) q ∙ get_or-set_same t i o 0 (omega arith)
    ∙ sym (ap (λ (k : ℕ). get_or (set u i o) k 0) q ∙ get_or-set_same u i o 0 (omega arith)))
    (λ e.
    let q : j ≡ i → ⊥ = eqb-false j i e in
    get_or-set_other t i j o 0 q ∙ h j l (lookup_no (id_of j) x os e ∙ n) ∙ sym (get_or-set_other u i j o 0 q)))

stands-front : (ed : Edition) (n : ℕ) (xs ys : List Frame) → AllMayStand ed n (xs ++ ys) → AllMayStand ed n xs
stands-front ed n [] ys g = tt
stands-front ed n (x ∷ xs) ys (g, gs) = (g, stands-front ed (next_after x) xs ys gs)

stands-next : (ed : Edition) (n : ℕ) (xs ys : List Frame) (f : Frame) → AllMayStand ed n (xs ++ (f ∷ ys)) → MayStand ed (next_of n xs) f
stands-next ed n [] ys f (g, gs) = g
stands-next ed n (x ∷ xs) ys f (g, gs) = stands-next ed (next_after x) xs ys f gs

settled-after : (ed : Edition) (ends : Host → Bool) (xs : List Frame) (os : List Object) → AllMayStand ed 0 (xs ++ map settled_frame os)
    → place_all ed ends (header_len + total ed xs) (map settled_frame os) (places_of ed xs) ≡ places_of ed (xs ++ map settled_frame os)
unfolding place_all
settled-after ed ends xs [] g = ap (places_of ed) (sym (append-nil xs))
settled-after ed ends xs (x ∷ os) g =
    let f : Frame = settled_frame x in
    let ys : List Frame = map settled_frame os in
    let l : header_len + total ed xs + frame_len ed f ≡ header_len + total ed (xs ++ (f ∷ [])) = omega (arith, total_snoc ed xs f) in
    let e : (xs ++ (f ∷ [])) ++ ys ≡ xs ++ (f ∷ ys) = append_assoc xs (f ∷ []) ys in
    ap (λ (t : List ℕ). place_all ed ends (header_len + total ed xs + frame_len ed f) ys t)
    (sym (places-settled ed xs x.id x.value (stands-front ed 0 xs (f ∷ ys) g) (stands-next ed 0 xs ys f g)))
    ∙ ap (λ (n : ℕ). place_all ed ends n ys (places_of ed (xs ++ (f ∷ [])))) l
    ∙ settled-after ed ends (xs ++ (f ∷ [])) os (subst (AllMayStand ed 0) (sym e) g) ∙ ap (places_of ed) e

no_frames : (ed : Edition) → header_len + total ed [] ≡ header_len
unfolding total
no_frames ed = refl

objects-copied : (was ed : Edition) (ends : Host → Bool) (fs : List Frame) → AllMayStand ed 0 (map settled_frame (replay fs).objects)
    → place_all ed ends header_len (map settled_frame (replay fs).objects) (places_of was fs) ≡ places_of ed (map settled_frame (replay fs).objects)
unfolding lookup replay_from
objects-copied was ed ends fs g =
    let os : List Object = (replay fs).objects in
    same_after ed ends header_len os (places_of was fs) (places_of ed []) (length-places was fs) (length-places ed [])
    (λ j l n. no_place was fs (id_of j) (omega arith) n ∙ sym (no_place ed [] (id_of j) (omega arith) refl))
    ∙ ap (λ (n : ℕ). place_all ed ends n (map settled_frame os) (places_of ed [])) (sym (no_frames ed)) ∙ settled-after ed ends [] os g

-- a transfer of the settled objects alone, to an edition
pub copied-settled : (was ed : Edition) (ends : Host → Bool) (fs : List Frame) → AllMayStand ed 0 (frames_of (settled_only (replay fs)))
    → place_all ed ends header_len (frames_of (settled_only (replay fs))) (places_of was fs) ≡ places_of ed (frames_of (settled_only (replay fs)))
copied-settled was ed ends fs g =
    let gs : List Frame = map settled_frame (replay fs).objects in
    let e : gs ++ [] ≡ gs = append-nil gs in
    ap (λ (l : List Frame). place_all ed ends header_len l (places_of was fs)) e
    ∙ objects-copied was ed ends fs (subst (AllMayStand ed 0) e g) ∙ ap (places_of ed) (sym e)

-- ---- pending frames

none_end : (ed : Edition) (ends : Host → Bool) (o : ℕ) (es : List Entry) (t : List ℕ) → ((h : Host) → ends h ≡ false)
    → place_all ed ends o (map pending_frame es) t ≡ t
unfolding place_all
none_end ed ends o [] t n = refl
none_end ed ends o (e ∷ es) t n =
    let p : ℕ = o + frame_len ed (pending_frame e) in
    ap (λ (b : Bool). place_all ed ends p (map pending_frame es) (place_if b (map_change (λ v. o) e.what) t)) (n e.host)
    ∙ none_end ed ends p es t n

and_true : (a b : Bool) → b ≡ true → (a && b) ≡ a
and_true true b e = e
and_true false b e = refl

commit-end : (ed : Edition) (h : Host) (d o : ℕ) (es : List Entry) (t : List ℕ) → d ≤ o
    → place_all ed (commits (commit h)) o (map pending_frame es) t ≡ commit_places ed h d o t (map pending_frame es)
unfolding place_all commit_places
commit-end ed h d o [] t l = refl
commit-end ed h d o (e ∷ es) t l =
    let p : ℕ = o + frame_len ed (pending_frame e) in
    ap (λ (b : Bool). place_all ed (commits (commit h)) p (map pending_frame es) (place_if b (map_change (λ v. o) e.what) t))
    (sym (and_true (eqb h.0 e.host.0) (leb d o) (le-leb d o l)))
    ∙ commit-end ed h d p es (place_frame h d o (pending_frame e) t) (omega arith)

-- the commit's own pass skips the settled frames
commit_skips : (ed : Edition) (h : Host) (d o : ℕ) (os : List Object) (gs : List Frame) (t : List ℕ)
    → commit_places ed h d o t (map settled_frame os ++ gs) ≡ commit_places ed h d (o + total ed (map settled_frame os)) t gs
unfolding commit_places total
commit_skips ed h d o [] gs t = let e : o ≡ o + 0 = omega arith in ap (λ (n : ℕ). commit_places ed h d n t gs) e
commit_skips ed h d o (x ∷ os) gs t =
    let n : ℕ = frame_len ed (settled_frame x) in
    let e : o + n + total ed (map settled_frame os) ≡ o + (n + total ed (map settled_frame os)) = omega arith in
    commit_skips ed h d (o + n) os gs t ∙ ap (λ (m : ℕ). commit_places ed h d m t gs) e

-- no frame of a state ends a host's list
since-pending : (ed : Edition) (h : Host) (o d : ℕ) (es : List Entry) → since_from ed h o d (map pending_frame es) ≡ d
unfolding since_from
since-pending ed h o d [] = refl
since-pending ed h o d (e ∷ es) = since-pending ed h (o + frame_len ed (pending_frame e)) d es

since_none : (ed : Edition) (h : Host) (o d : ℕ) (os : List Object) (es : List Entry)
    → since_from ed h o d (map settled_frame os ++ map pending_frame es) ≡ d
unfolding since_from
since_none ed h o d [] es = since-pending ed h o d es
since_none ed h o d (x ∷ os) es = since_none ed h (o + frame_len ed (settled_frame x)) d os es

pending-stay : (ed : Edition) (xs : List Frame) (es : List Entry) → places_of ed (xs ++ map pending_frame es) ≡ places_of ed xs
pending-stay ed xs [] = ap (places_of ed) (append-nil xs)
pending-stay ed xs (e ∷ es) =
    let f : Frame = pending_frame e in
    ap (places_of ed) (sym (append_assoc xs (f ∷ []) (map pending_frame es))) ∙ pending-stay ed (xs ++ (f ∷ [])) es ∙ places-stay ed xs f (λ s o. refl)

module _ (ed : Edition) (fs : List Frame) (g : AllMayStand ed 0 (frames_of (replay fs))) where
  abbrev os : List Object
  os = (replay fs).objects

  abbrev es : List Entry
  es = (replay fs).pending

  abbrev gs : List Frame
  gs = frames_of (replay fs)

  -- where the pending frames start
  abbrev mid : ℕ
  mid = header_len + total ed (map settled_frame os)

  settled_first : (ends : Host → Bool) → place_all ed ends header_len gs (places_of ed fs) ≡ place_all ed ends mid (map pending_frame es) (places_of ed gs)
  settled_first ends =
      place-append ed ends header_len (map settled_frame os) (map pending_frame es) (places_of ed fs)
      ∙ ap (place_all ed ends mid (map pending_frame es))
      (objects-copied ed ed ends fs (stands-front ed 0 (map settled_frame os) (map pending_frame es) g) ∙ sym (pending-stay ed (map settled_frame os) es))

  quiet : (f : Frame) → ((h : Host) → commits f h ≡ false) → places_of ed (gs ++ (f ∷ [])) ≡ places_of ed gs
      → place_all ed (commits f) header_len gs (places_of ed fs) ≡ places_of ed (gs ++ (f ∷ []))
  quiet f n e = settled_first (commits f) ∙ none_end ed (commits f) mid es (places_of ed gs) n ∙ sym e

  committed : (h : Host) → place_all ed (commits (commit h)) header_len gs (places_of ed fs) ≡ places_of ed (gs ++ (commit h ∷ []))
  committed h =
      let d : ℕ = since_host ed h gs in
      let low : d ≡ header_len = since_none ed h header_len header_len os es in
      settled_first (commits (commit h)) ∙ commit-end ed h d mid es (places_of ed gs) (omega arith)
      ∙ sym (commit_skips ed h d header_len os (map pending_frame es) (places_of ed gs)) ∙ sym (places-commit ed gs h)

  -- a transfer before a frame is appended
  pub copied_all : (f : Frame) → MayStand ed 256 f → place_all ed (commits f) header_len gs (places_of ed fs) ≡ places_of ed (gs ++ (f ∷ []))
  copied_all (change h c) m = quiet (change h c) (λ k. refl) (places-stay ed gs (change h c) (λ s o. refl))
  copied_all (commit h) m = committed h
  copied_all (abort h) m = quiet (abort h) (λ k. refl) (places-stay ed gs (abort h) (λ s o. refl))
  copied_all (settled i v) (a, b, c) = absurd (omega arith)
  copied_all (closed v) m = quiet (closed v) (λ k. refl) (places-stay ed gs (closed v) (λ s o. refl))
  copied_all reset m = quiet reset (λ k. refl) (places-stay ed gs reset (λ s o. refl))
