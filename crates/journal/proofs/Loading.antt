-- What a transfer copies, frame after frame: the settled objects by rising id, then the pending changes in journal order.
use mathlib.Core.Path.{◌≡◌, refl, sym, ap, ap₂, subst, ◌∙◌}
use mathlib.Core.List.{List, [], ◌∷◌, ◌++◌, map}
use mathlib.Core.Option.{Option, none, some}
use mathlib.Core.Bool.{Bool, true, false}
use Prim.Native.Nat.{ℕ, zero, suc, ◌+◌, ◌-◌, ◌≤◌}
use native.Mathlib.Omega.{arith}
use lib.Dec.{eqb, leb}
use lib.ListN.{length, get_or, take, drop, length-take, drop_of_length-le}
use lib.Seq.{take-append-add, take_at, drop_at, drop-drop, get_or-set_other}
use borrow.Author.Tests.{ne_eqb, eqb-true, eqb-false, leb-true, leb-false}
use Rattle.flash.proofs.Cases.{on_test}
use Rattle.frame.specs.declared.Edition.{Edition}
use Rattle.frame.specs.declared.Host.{Host}
use Rattle.frame.specs.Frame.{host_max, id_of, Change, put, delete, Frame, change, commit, abort, settled, closed, reset, encode, encode_all, frame_len, total}
use Rattle.frame.specs.Frame.{MayStand, AllMayStand, next_after, next_of}
use Rattle.frame.specs.Reader.{Read, blank, whole, torn, wrong, read_frame}
use Rattle.frame.proofs.Encode.{length-encode, length-all, stands-zero}
use Rattle.frame.proofs.Exact.{read_back}
use Rattle.journal.specs.Block.{header_len}
use Rattle.journal.specs.Replay.{Object, Entry, entry, lookup, replay, settled_frame, pending_frame, frames_of, settled_only}
use Rattle.journal.specs.Index.{places_of, since_of, Value, value_at, Load, load, next_settled, is_pending, next_pending, or_else, next_load_of, place_copied}
use Rattle.journal.proofs.Lookups.{lookup_yes, lookup_no}
use Rattle.journal.proofs.Replaying.{Rising, below_none, rising-from, rising-to, Sound, sound-replay}
use Rattle.journal.proofs.Places.{Standing, bytes_of, place-value}
use Rattle.journal.proofs.Pending.{entries_of, change_at, bytes_there, change-plain, since_in, change_yes, change_no, pending-since, since_at}

-- from a cursor on exactly these frames are left to copy
abbrev pub Yields : (ed : Edition) → List ℕ → ℕ → List ℕ → List ℕ → ℕ → ℕ → List Frame → Type 0
Yields ed b end places since i s [] = next_load_of ed b end places since i s ≡ none
Yields ed b end places since i s (f ∷ fs) =
    (i' : ℕ) × (s' : ℕ) × (next_load_of ed b end places since i s ≡ some (load f i' s')) × (i' ≤ 256) × (s' ≤ end) × Yields ed b end places since i' s' fs

-- ---- which places are read from a cursor on

-- two tables with the same places from id i on
abbrev pub SameFrom : ℕ → List ℕ → List ℕ → Type 0
SameFrom i ps qs = (j : ℕ) → i ≤ j → j ≤ 255 → get_or ps j 0 ≡ get_or qs j 0

settled_same : (ed : Edition) (b ps qs : List ℕ) (source n i : ℕ) → i + n ≤ 256 → SameFrom i ps qs
    → next_settled ed b ps source n i ≡ next_settled ed b qs source n i
unfolding next_settled
settled_same ed b ps qs source zero i l h = refl
settled_same ed b ps qs source (suc n) i l h =
    ap₂ (λ (p : ℕ) (o : Option Load). elim (value_at ed b (id_of i) p) [ some x ↦ some (load (settled (id_of i) x.bytes) (suc i) source) | none ↦ o ])
    (h i (omega arith) (omega arith)) (settled_same ed b ps qs source n (suc i) (omega arith) (λ j k m. h j (omega arith) m))

pub load_same : (ed : Edition) (b : List ℕ) (end : ℕ) (ps qs since : List ℕ) (i source : ℕ) → SameFrom i ps qs
    → next_load_of ed b end ps since i source ≡ next_load_of ed b end qs since i source
unfolding next_load_of next_settled
load_same ed b end ps qs since i source h =
    let rest : Option Load = next_pending ed since source 0 (drop source (take end b)) in
    on_test (leb i 256)
    (λ t. ap (λ (o : Option Load). or_else o rest) (settled_same ed b ps qs source (256 - i) i (omega (arith, leb-true i 256 t)) h))
    (λ t.
    let z : 256 - i ≡ 0 = omega (arith, leb-false i 256 t) in
    ap (λ (n : ℕ). or_else (next_settled ed b ps source n i) rest) z ∙ sym (ap (λ (n : ℕ). or_else (next_settled ed b qs source n i) rest) z))

-- a settled frame that is next is of an id from the cursor on, and the cursor then stands past it
record NextIs (i : ℕ) (u : Load) : Type 0 where
  id : ℕ
  value : List ℕ
  frame : u.frame ≡ settled (id_of id) value
  from : i ≤ id
  then : u.id ≡ suc id

next-settled : (ed : Edition) (b ps : List ℕ) (source n i : ℕ) (u : Load) → next_settled ed b ps source n i ≡ some u → NextIs i u
unfolding next_settled
next-settled ed b ps source zero i u e = let z : ◌≡◌ {A = ℕ} 0 1 = cc in absurd (omega arith)
next-settled ed b ps source (suc n) i u e = go (value_at ed b (id_of i) (get_or ps i 0)) e (next-settled ed b ps source n (suc i) u)
  where
    go : (o : Option Value)
        → elim o [ some x ↦ some (load (settled (id_of i) x.bytes) (suc i) source) | none ↦ next_settled ed b ps source n (suc i) ] ≡ some u
        → (next_settled ed b ps source n (suc i) ≡ some u → NextIs (suc i) u) → NextIs i u
    go (some x) q again =
        let w : load (settled (id_of i) x.bytes) (suc i) source ≡ u = cc in
        subst (NextIs i) w (record { id = i; value = x.bytes; frame = refl; from = omega arith; then = refl })
    go none q again =
        let y : NextIs (suc i) u = again q in
        record { id = y.id; value = y.value; frame = y.frame; from = omega (arith, y.from); then = y.then }

next-pending : (ed : Edition) (since : List ℕ) (at k : ℕ) (l : List ℕ) (u : Load) → next_pending ed since at k l ≡ some u → u.id ≡ 256
unfolding next_pending
next-pending ed since at k [] u e = let z : ◌≡◌ {A = ℕ} 0 1 = cc in absurd (omega arith)
next-pending ed since at (suc k) (b ∷ t) u e = next-pending ed since (suc at) k t u e
next-pending ed since at zero (b ∷ t) u e = go (read_frame ed 0 at (b ∷ t)) e (λ k. next-pending ed since (suc at) k t u)
  where
    found : (f : Frame) (x : Bool) → elim x [
      | true ↦ some (load f 256 (at + frame_len ed f))
      | false ↦ next_pending ed since (suc at) (frame_len ed f - 1) t
    ] ≡ some u → ((k : ℕ) → next_pending ed since (suc at) k t ≡ some u → u.id ≡ 256) → u.id ≡ 256
    found f true q again = let w : load f 256 (at + frame_len ed f) ≡ u = cc in ap (λ (v : Load). v.id) (sym w)
    found f false q again = again (frame_len ed f - 1) q

    go : (r : Read) → elim r [
      | blank ↦ none
      | whole f ↦ elim (is_pending since at f) [
        | true ↦ some (load f 256 (at + frame_len ed f))
        | false ↦ next_pending ed since (suc at) (frame_len ed f - 1) t
      ]
      | torn n ↦ none
      | wrong e ↦ none
    ] ≡ some u → ((k : ℕ) → next_pending ed since (suc at) k t ≡ some u → u.id ≡ 256) → u.id ≡ 256
    go blank q again = let z : ◌≡◌ {A = ℕ} 0 1 = cc in absurd (omega arith)
    go (whole f) q again = found f (is_pending since at f) q again
    go (torn n) q again = let z : ◌≡◌ {A = ℕ} 0 1 = cc in absurd (omega arith)
    go (wrong x) q again = let z : ◌≡◌ {A = ℕ} 0 1 = cc in absurd (omega arith)

-- where the next frame is placed once it is copied, no place from the cursor on changes
pub load_past : (ed : Edition) (b : List ℕ) (end : ℕ) (ps since : List ℕ) (i source : ℕ) (u : Load) (ends : Host → Bool) (o : ℕ) (qs : List ℕ)
    → next_load_of ed b end ps since i source ≡ some u → SameFrom i qs ps → SameFrom u.id (place_copied ends o u.frame qs) ps
unfolding next_load_of
load_past ed b end ps since i source u ends o qs e h = go (next_settled ed b ps source (256 - i) i) refl e
  where
    go : (x : Option Load) → next_settled ed b ps source (256 - i) i ≡ x
        → or_else x (next_pending ed since source 0 (drop source (take end b))) ≡ some u → SameFrom u.id (place_copied ends o u.frame qs) ps
    go none s q j l m = let w : u.id ≡ 256 = next-pending ed since source 0 (drop source (take end b)) u q in absurd (omega arith)
    go (some v) s q j l m =
        let w : v ≡ u = cc in
        let y : NextIs i u = subst (NextIs i) w (next-settled ed b ps source (256 - i) i v s) in
        ap (λ (f : Frame). get_or (place_copied ends o f qs) j 0) y.frame
        ∙ get_or-set_other qs y.id j o 0 (λ d. omega (arith, y.then)) ∙ h j (omega (arith, y.from, y.then)) m

-- ---- the next pending frame

pending-skip : (ed : Edition) (since : List ℕ) (o : ℕ) (p q : List ℕ) → next_pending ed since o (length p) (p ++ q) ≡ next_pending ed since (o + length p) 0 q
unfolding next_pending
pending-skip ed since o [] q = let e : o ≡ o + 0 = omega arith in ap (λ (x : ℕ). next_pending ed since x 0 q) e
pending-skip ed since o (b ∷ p) q =
    let e : suc o + length p ≡ o + suc (length p) = omega arith in pending-skip ed since (suc o) p q ∙ ap (λ (x : ℕ). next_pending ed since x 0 q) e

pending-yes : (ed : Edition) (since : List ℕ) (o n : ℕ) (f : Frame) (rest : List ℕ) → MayStand ed n f → is_pending since o f ≡ true
    → next_pending ed since o 0 (encode ed f ++ rest) ≡ some (load f 256 (o + frame_len ed f))
unfolding next_pending
pending-yes ed since o n f rest g t = rw (read_back ed 0 o f rest (stands-zero ed n f g), t, next_pending)

pending-no : (ed : Edition) (since : List ℕ) (o n : ℕ) (f : Frame) (rest : List ℕ) → MayStand ed n f → is_pending since o f ≡ false
    → next_pending ed since o 0 (encode ed f ++ rest) ≡ next_pending ed since (o + frame_len ed f) 0 rest
unfolding next_pending
pending-no ed since o n f rest g t =
    let p : List ℕ = drop 1 (encode ed f) in
    let e : frame_len ed f - 1 ≡ length p = omega (arith, length-encode ed f) in
    let u : suc o + length p ≡ o + frame_len ed f = omega (arith, length-encode ed f) in
    let first : next_pending ed since o 0 (encode ed f ++ rest) ≡ next_pending ed since (suc o) (frame_len ed f - 1) (p ++ rest) =
    rw (read_back ed 0 o f rest (stands-zero ed n f g), t, next_pending) in
    first ∙ ap (λ (x : ℕ). next_pending ed since (suc o) x (p ++ rest)) e ∙ pending-skip ed since (suc o) p rest
    ∙ ap (λ (x : ℕ). next_pending ed since x 0 rest) u

no_value : (x : Option Value) → bytes_of x ≡ none → x ≡ none
no_value none e = refl
no_value (some x) e = let z : ◌≡◌ {A = ℕ} 0 1 = cc in absurd (omega arith)

a-value : (x : Option Value) (v : List ℕ) → bytes_of x ≡ some v → (y : Value) × (x ≡ some y) × (y.bytes ≡ v)
a-value none v e = let z : ◌≡◌ {A = ℕ} 0 1 = cc in absurd (omega arith)
a-value (some x) v e = (x, refl, cc)

module _ (ed : Edition) (b : List ℕ) (end : ℕ) (places since : List ℕ) where
  -- only the next frame counts
  yields_same : (i s j t : ℕ) (fs : List Frame) → next_load_of ed b end places since i s ≡ next_load_of ed b end places since j t → Yields ed b end places since j t fs
      → Yields ed b end places since i s fs
  yields_same i s j t [] e y = e ∙ y
  yields_same i s j t (f ∷ fs) e (i', s', n, h, k, y) = (i', s', e ∙ n, h, k, y)

  load_pending : (s : ℕ) → next_load_of ed b end places since 256 s ≡ next_pending ed since s 0 (drop s (take end b))
  unfolding next_load_of next_settled
  load_pending s = refl

  pub yields_none : Yields ed b end places since 256 end []
  unfolding next_pending
  yields_none = load_pending end ∙ ap (next_pending ed since end 0) (drop_of_length-le (take end b) {i = end} (simp length-take (omega arith)))

  -- ---- the pending part

  pass : (o n : ℕ) (f : Frame) (rest : List ℕ) (xs : List Frame) → MayStand ed n f → is_pending since o f ≡ false → drop o (take end b) ≡ encode ed f ++ rest
      → drop (o + frame_len ed f) (take end b) ≡ rest → Yields ed b end places since 256 (o + frame_len ed f) xs → Yields ed b end places since 256 o xs
  pass o n f rest xs g t e e' y =
      yields_same 256 o 256 (o + frame_len ed f) xs
      (load_pending o ∙ ap (next_pending ed since o 0) e ∙ pending-no ed since o n f rest g t
      ∙ sym (load_pending (o + frame_len ed f) ∙ ap (next_pending ed since (o + frame_len ed f) 0) e')) y

  module _ (m : Host → ℕ) (ms : (h : Host) → h.0 ≤ host_max → get_or since h.0 0 ≡ m h) where
    of_host : (n : ℕ) (h : Host) (c : Change) → MayStand ed n (change h c) → h.0 ≤ host_max
    of_host n h (put i v) (a, b, c) = a
    of_host n h (delete i) (a, b) = a

    one_frame : (o n : ℕ) (f : Frame) (rest : List ℕ) (es : List Entry) → MayStand ed n f → drop o (take end b) ≡ encode ed f ++ rest
        → drop (o + frame_len ed f) (take end b) ≡ rest → o + frame_len ed f ≤ end → Yields ed b end places since 256 (o + frame_len ed f) (map pending_frame es)
        → Yields ed b end places since 256 o (map pending_frame (change_at bytes_there m o f ++ es))
    one_frame o n (change h c) rest es g e e' k y =
        let f : Frame = change h c in
        let there : get_or since h.0 0 ≡ m h = ms h (of_host n h c g) in
        on_test (leb (m h) o)
        (λ t. subst (λ (x : List Entry). Yields ed b end places since 256 o (map pending_frame (x ++ es)))
        (sym (change_yes ed bytes_there m o h c (leb-true (m h) o t) ∙ ap (λ (x : Change). entry h x ∷ []) (change-plain c))) (
          256,
          o + frame_len ed f,
          load_pending o ∙ ap (next_pending ed since o 0) e
              ∙ pending-yes ed since o n f rest g (ap (λ (x : ℕ). leb x o) there ∙ t),
          omega arith,
          k,
          y,
        ))
        (λ t. subst (λ (x : List Entry). Yields ed b end places since 256 o (map pending_frame (x ++ es)))
        (sym (change_no ed bytes_there m o h c (leb-false (m h) o t)))
        (pass o n f rest (map pending_frame es) g (ap (λ (x : ℕ). leb x o) there ∙ t) e e' y))
    one_frame o n (commit h) rest es g e e' k y = pass o n (commit h) rest (map pending_frame es) g refl e e' y
    one_frame o n (abort h) rest es g e e' k y = pass o n (abort h) rest (map pending_frame es) g refl e e' y
    one_frame o n (settled i v) rest es g e e' k y = pass o n (settled i v) rest (map pending_frame es) g refl e e' y
    one_frame o n (closed v) rest es g e e' k y = pass o n (closed v) rest (map pending_frame es) g refl e e' y
    one_frame o n reset rest es g e e' k y = pass o n reset rest (map pending_frame es) g refl e e' y

    yields_pending : (o n : ℕ) (fs : List Frame) → AllMayStand ed n fs → drop o (take end b) ≡ encode_all ed fs → o + total ed fs ≡ end
        → Yields ed b end places since 256 o (map pending_frame (entries_of ed bytes_there m o fs))
    unfolding encode_all total entries_of next_pending
    yields_pending o n [] g e q = load_pending o ∙ ap (next_pending ed since o 0) e
    yields_pending o n (f ∷ fs) (g, gs) e q =
        let e' : drop (o + frame_len ed f) (take end b) ≡ encode_all ed fs =
        sym (drop-drop (frame_len ed f) o (take end b)) ∙ ap (drop (frame_len ed f)) e
        ∙ drop_at (encode ed f) (encode_all ed fs) (frame_len ed f) (length-encode ed f) in
        one_frame o n f (encode_all ed fs) (entries_of ed bytes_there m (o + frame_len ed f) fs) g e e' (omega arith)
        (yields_pending (o + frame_len ed f) (next_after f) fs gs e' (omega arith))

  -- ---- the settled part

  load_yes : (i n s : ℕ) (x : Value) → i + suc n ≡ 256 → value_at ed b (id_of i) (get_or places i 0) ≡ some x
      → next_load_of ed b end places since i s ≡ some (load (settled (id_of i) x.bytes) (suc i) s)
  unfolding next_load_of next_settled
  load_yes i n s x q e =
      let u : 256 - i ≡ suc n = omega arith in
      let v : next_settled ed b places s (suc n) i ≡ some (load (settled (id_of i) x.bytes) (suc i) s) = rw (e, next_settled) in
      ap (λ (k : ℕ). or_else (next_settled ed b places s k i) (next_pending ed since s 0 (drop s (take end b)))) u
      ∙ ap (λ (l : Option Load). or_else l (next_pending ed since s 0 (drop s (take end b)))) v

  load_no : (i n s : ℕ) → i + suc n ≡ 256 → value_at ed b (id_of i) (get_or places i 0) ≡ none
      → next_load_of ed b end places since i s ≡ next_load_of ed b end places since (suc i) s
  unfolding next_load_of next_settled
  load_no i n s q e =
      let u : 256 - i ≡ suc n = omega arith in
      let w : n ≡ 256 - suc i = omega arith in
      let v : next_settled ed b places s (suc n) i ≡ next_settled ed b places s n (suc i) = rw (e, next_settled) in
      ap (λ (k : ℕ). or_else (next_settled ed b places s k i) (next_pending ed since s 0 (drop s (take end b)))) u
      ∙ ap (λ (l : Option Load). or_else l (next_pending ed since s 0 (drop s (take end b)))) v
      ∙ ap (λ (k : ℕ). or_else (next_settled ed b places s k (suc i)) (next_pending ed since s 0 (drop s (take end b)))) w

  -- the places from id i on hold just these objects
  abbrev Hold : ℕ → List Object → Type 0
  Hold i os = (j : ℕ) → i ≤ j → j ≤ 255 → bytes_of (value_at ed b (id_of j) (get_or places j 0)) ≡ lookup (id_of j) os

  skip : (i n s : ℕ) (os : List Object) (xs : List Frame) → i + suc n ≡ 256 → Hold i os → lookup (id_of i) os ≡ none
      → Yields ed b end places since (suc i) s xs → Yields ed b end places since i s xs
  skip i n s os xs q k z y =
      yields_same i s (suc i) s xs (load_no i n s q (no_value (value_at ed b (id_of i) (get_or places i 0)) (k i (omega arith) (omega arith) ∙ z))) y

  yields_objects : (n i s : ℕ) (os : List Object) (xs : List Frame) → i + n ≡ 256 → s ≤ end → Rising ed i os 256 → Hold i os
      → Yields ed b end places since 256 s xs → Yields ed b end places since i s (map settled_frame os ++ xs)
  unfolding lookup
  yields_objects zero i s [] xs q l r k y = let e : 256 ≡ i = omega arith in subst (λ (x : ℕ). Yields ed b end places since x s xs) e y
  yields_objects zero i s (o ∷ os) xs q l ((a, c, d), r) k y = absurd (omega arith)
  yields_objects (suc n) i s [] xs q l r k y =
      skip i n s [] xs q k refl (yields_objects n (suc i) s [] xs (omega arith) l (omega arith) (λ j u w. k j (omega arith) w) y)
  yields_objects (suc n) i s (o ∷ os) xs q l ((a, c, d), r) k y =
      on_test (eqb i o.id.0)
      (λ t.
      let z : i ≡ o.id.0 = eqb-true i o.id.0 t in
      let x : (v : Value) × (value_at ed b (id_of i) (get_or places i 0) ≡ some v) × (v.bytes ≡ o.value) =
      a-value (value_at ed b (id_of i) (get_or places i 0)) o.value (k i (omega arith) (omega arith) ∙ lookup_yes (id_of i) o os t) in (
        suc i,
        s,
        load_yes i n s x.0 q x.1 ∙ ap₂ (λ (j : ℕ) (v : List ℕ). some (load (settled (id_of j) v) (suc i) s)) z x.2,
        omega arith,
        l,
        yields_objects n (suc i) s os xs (omega arith) l (rising-from ed (suc o.id.0) (suc i) os 256 (omega arith) r)
            (λ j u w. k j (omega arith) w ∙ lookup_no (id_of j) o os (ne_eqb j o.id.0 (omega arith))) y,
      ))
      (λ t.
      let z : i ≡ o.id.0 → ⊥ = eqb-false i o.id.0 t in
      let r' : Rising ed (suc i) (o ∷ os) 256 = ((omega arith, c, d), r) in
      skip i n s (o ∷ os) (map settled_frame (o ∷ os) ++ xs) q k (below_none ed (id_of i) (suc i) (o ∷ os) 256 (omega arith) r')
      (yields_objects n (suc i) s (o ∷ os) xs (omega arith) l r' (λ j u w. k j (omega arith) w) y))

-- ---- the transfers

objects_rise : (ed : Edition) (fs : List Frame) → AllMayStand ed 0 fs → Rising ed 0 (replay fs).objects 256
objects_rise ed fs g =
    let k : Sound ed (next_of 0 fs) (replay fs) = sound-replay ed fs g in
    rising-to ed 0 (replay fs).objects (next_of 0 fs) 256 k.low k.rising

standing-bytes : (ed : Edition) (b : List ℕ) (fs : List Frame) → Standing ed b fs → drop header_len (take (header_len + total ed fs) b) ≡ encode_all ed fs
standing-bytes ed b fs j =
    let hd : List ℕ = j.head in
    let q : header_len + total ed fs ≡ length hd + total ed fs = omega (arith, j.long) in
    ap₂ (λ (n : ℕ) (x : List ℕ). drop header_len (take n x)) q j.split
    ∙ ap (drop header_len) (take-append-add hd (encode_all ed fs ++ j.rest) (total ed fs)
    ∙ ap (λ (x : List ℕ). hd ++ x) (take_at (encode_all ed fs) j.rest (total ed fs) (length-all ed fs)))
    ∙ drop_at hd (encode_all ed fs) header_len j.long

-- a transfer that keeps what is pending
pub yields_all : (ed : Edition) (b : List ℕ) (fs : List Frame) → Standing ed b fs
    → Yields ed b (header_len + total ed fs) (places_of ed fs) (since_of ed fs) 0 header_len (frames_of (replay fs))
yields_all ed b fs j =
    let end : ℕ = header_len + total ed fs in
    yields_objects ed b end (places_of ed fs) (since_of ed fs) 256 0 header_len (replay fs).objects (map pending_frame (replay fs).pending)
    (omega arith) (omega arith) (objects_rise ed fs j.stand) (λ i u w. place-value ed b fs (id_of i) j w)
    (subst (λ (x : List Entry). Yields ed b end (places_of ed fs) (since_of ed fs) 256 header_len (map pending_frame x)) (sym (pending-since ed fs))
    (yields_pending ed b end (places_of ed fs) (since_of ed fs) (since_in ed fs) (since_at ed fs) header_len 0 fs j.stand (standing-bytes ed b fs j) refl))

-- a mount's, which drops it
pub yields_settled : (ed : Edition) (b : List ℕ) (fs : List Frame) (since : List ℕ) → Standing ed b fs
    → Yields ed b (header_len + total ed fs) (places_of ed fs) since 0 (header_len + total ed fs) (frames_of (settled_only (replay fs)))
yields_settled ed b fs since j =
    let end : ℕ = header_len + total ed fs in
    yields_objects ed b end (places_of ed fs) since 256 0 end (replay fs).objects [] (omega arith) (omega arith) (objects_rise ed fs j.stand)
    (λ i u w. place-value ed b fs (id_of i) j w) (yields_none ed b end (places_of ed fs) since)
