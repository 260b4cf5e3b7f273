-- A read's stretch is where its value was put: the frame that replay took it from.
use mathlib.Core.Path.{◌≡◌, refl, sym, ap, ap₂, subst, ◌∙◌}
use mathlib.Core.List.{List, [], ◌∷◌, ◌++◌, append_assoc}
use mathlib.Core.Option.{Option, none, some, map}
use mathlib.Core.Bool.{Bool, cond, true, false}
use Prim.Native.Nat.{ℕ, ◌+◌, ◌≤◌, ◌<◌}
use native.Mathlib.Omega.{arith}
use lib.Dec.{eqb}
use lib.ListN.{length, get_or, drop, length-append}
use lib.Seq.{drop_at, ext_get_or}
use borrow.Author.Tests.{eq-eqb, ne_eqb, eqb-true}
use Rattle.flash.proofs.Cases.{on_test}
use Rattle.frame.specs.declared.Edition.{Edition}
use Rattle.frame.specs.declared.ObjectId.{ObjectId}
use Rattle.frame.specs.Frame.{id_of, Frame, map_frame, encode, encode_all, frame_len, total, MayStand, AllMayStand, next_after}
use Rattle.frame.specs.Frame.{put, delete, change, commit, abort, settled, closed, reset}
use Rattle.frame.specs.Reader.{whole, read_frame, Read, blank, torn, wrong}
use Rattle.frame.proofs.Encode.{length-all, total_snoc, encode-append, stands-zero}
use Rattle.frame.proofs.Exact.{read_back}
use Rattle.journal.specs.Block.{header_len, Journal, header, valid_data}
use Rattle.frame.proofs.Heads.{map-plain}
use Rattle.journal.specs.Replay.{lookup, replay}
use Rattle.journal.specs.Index.{or_zero, places_of, value_at, Value, only_if, frame_value, value_read}
use Rattle.journal.specs.Sentences.{ValidBlock}
use Rattle.journal.specs.Laws.{Holder, put_by, settled_as, holding, front, objects_after, TakenFrom, PlaceIs, PlacesAre, PlaceExact}
use Rattle.journal.proofs.Mapping.{by-holder, located, OfFrame, AllFrames, all_replay, all_lookup}
use Rattle.journal.proofs.Places.{Spot, spot, spots, spots-lookup, sited-lookup, bytes-lookup, place_at, no_place, value-zero, length-places}

-- ---- the frame at a place

record Split (ed : Edition) (fs : List Frame) (i : ObjectId) (p : ℕ) (v : List ℕ) : Type 0 where
  before : List Frame
  holder : Holder
  after : List Frame
  stands : fs ≡ before ++ (holding holder i v ∷ after)
  place : p ≡ header_len + total ed before

abbrev SplitAt : (ed : Edition) → List Frame → ObjectId → Spot → Type 0
SplitAt ed fs i x = Split ed fs i x.place x.bytes

split_one : (ed : Edition) (fs xs ys : List Frame) (f : Frame) (o : ℕ) → fs ≡ xs ++ (f ∷ ys) → o ≡ header_len + total ed xs
    → OfFrame (SplitAt ed fs) (map_frame (spot o) f)
split_one ed fs xs ys f o e q =
    by-holder (λ g. fs ≡ xs ++ (g ∷ ys)) (λ g. SplitAt ed fs) (spot o)
    (λ x i v k. record { before = xs; holder = x; after = ys; stands = k; place = q }) f e

split-all : (ed : Edition) (fs xs ys : List Frame) (o : ℕ) → fs ≡ xs ++ ys → o ≡ header_len + total ed xs
    → AllFrames (SplitAt ed fs) (spots ed o ys)
unfolding located
split-all ed fs xs [] o e q = tt
split-all ed fs xs (f ∷ ys) o e q = (
  split_one ed fs xs ys f o e q,
  split-all ed fs (xs ++ (f ∷ [])) ys (o + frame_len ed f) (e ∙ sym (append_assoc xs (f ∷ []) ys)) (omega (arith, total_snoc ed xs f)),
)

no_frames : (ed : Edition) → header_len ≡ header_len + total ed []
unfolding total
no_frames ed = refl

-- ---- another value in that frame

abbrev swap : ℕ → List ℕ → ℕ → List ℕ → List ℕ
swap q w p v = cond (eqb p q) w v

swap-other : (q : ℕ) (w : List ℕ) (o : ℕ) (f : Frame) → (o ≡ q → ⊥) → map_frame (swap q w o) f ≡ f
swap-other q w o f n = ap (λ (b : Bool). map_frame (λ (v : List ℕ). cond b w v) f) (ne_eqb o q n) ∙ map-plain f

swap-later : (ed : Edition) (q : ℕ) (w : List ℕ) (o : ℕ) (fs : List Frame) → q < o → located ed (swap q w) o fs ≡ fs
unfolding located
swap-later ed q w o [] l = refl
swap-later ed q w o (f ∷ fs) l =
    ap₂ (λ (x : Frame) (xs : List Frame). x ∷ xs) (swap-other q w o f (λ e. omega arith)) (swap-later ed q w (o + frame_len ed f) fs (omega arith))

swap-own : (q : ℕ) (w : List ℕ) (k : Holder) (i : ObjectId) (v : List ℕ) → map_frame (swap q w q) (holding k i v) ≡ holding k i w
swap-own q w (put_by h) i v = rw (eq-eqb q q refl) refl
swap-own q w settled_as i v = rw (eq-eqb q q refl) refl

swapped : (ed : Edition) (q : ℕ) (w : List ℕ) (o : ℕ) (xs : List Frame) (k : Holder) (i : ObjectId) (v : List ℕ) (ys : List Frame) → q ≡ o + total ed xs
    → located ed (swap q w) o (xs ++ (holding k i v ∷ ys)) ≡ xs ++ (holding k i w ∷ ys)
unfolding located total
swapped ed q w o [] k i v ys e =
    let z : o ≡ q = omega arith in
    ap₂ (λ (x : Frame) (l : List Frame). x ∷ l)
    (subst (λ (p : ℕ). map_frame (swap q w p) (holding k i v) ≡ holding k i w) (sym z) (swap-own q w k i v))
    (swap-later ed q w (o + frame_len ed (holding k i v)) ys (omega arith))
swapped ed q w o (f ∷ xs) k i v ys e =
    ap₂ (λ (x : Frame) (l : List Frame). x ∷ l) (swap-other q w o f (λ z. omega arith)) (swapped ed q w (o + frame_len ed f) xs k i v ys (omega arith))

-- ---- the value in the block's bytes

stands-there : (ed : Edition) (n : ℕ) (xs ys : List Frame) (f : Frame) → AllMayStand ed n (xs ++ (f ∷ ys)) → MayStand ed 0 f
stands-there ed n [] ys f (g, gs) = stands-zero ed n f g
stands-there ed n (x ∷ xs) ys f (g, gs) = stands-there ed (next_after x) xs ys f gs

-- a frame that holds a value of the id is found at its place, and nothing else is
pub value_there : (ed : Edition) (b : List ℕ) (k : Holder) (i : ObjectId) (v : List ℕ) (p : ℕ) → (p ≡ 0 → ⊥)
    → read_frame ed 0 p (drop p b) ≡ whole (holding k i v) → value_at ed b i p ≡ some (record { at = p + front k; bytes = v })
unfolding value_at
value_there ed b (put_by h) i v p l e = rw (ne_eqb p 0 l, e, eq-eqb i.0 i.0 refl, value_at) refl
value_there ed b settled_as i v p l e = rw (ne_eqb p 0 l, e, eq-eqb i.0 i.0 refl, value_at) refl

pub record FrameThere (ed : Edition) (b : List ℕ) (i : ObjectId) (p : ℕ) (x : Value) : Type 0 where
  pub holder : Holder
  pub value : List ℕ
  pub read : read_frame ed 0 p (drop p b) ≡ whole (holding holder i value)
  pub is : x ≡ record { at = p + front holder; bytes = value }

only-own : (b : Bool) (y x : Value) → only_if b y ≡ some x → (b ≡ true) × (y ≡ x)
only-own true y x e = (refl, cc)
only-own false y x e = let z : ◌≡◌ {A = ℕ} 0 1 = cc in absurd (omega arith)

pub value_inv : (ed : Edition) (b : List ℕ) (i : ObjectId) (p : ℕ) (x : Value) → value_at ed b i p ≡ some x → FrameThere ed b i p x
unfolding value_at
value_inv ed b i p x e =
    on_test (eqb p 0)
    (λ t. let z : none ≡ some x = rw (t, value_at) at e in let y : ◌≡◌ {A = ℕ} 0 1 = cc in absurd (omega arith))
    (λ t. let z : value_read i p (read_frame ed 0 p (drop p b)) ≡ some x = rw (t, value_at) at e in go (read_frame ed 0 p (drop p b)) refl z)
  where
    own : (f : Frame) → read_frame ed 0 p (drop p b) ≡ whole f → frame_value i p f ≡ some x → FrameThere ed b i p x
    own (change h (put j v)) r q =
        let w = only-own (eqb i.0 j.0) (record { at = p + 7; bytes = v }) x q in
        let s : j ≡ i = ap id_of (sym (eqb-true i.0 j.0 w.0)) in
        record { holder = put_by h; value = v; read = r ∙ ap (λ (k : ObjectId). whole (change h (put k v))) s; is = sym w.1 }
    own (change h (delete j)) r q = let y : ◌≡◌ {A = ℕ} 0 1 = cc in absurd (omega arith)
    own (commit h) r q = let y : ◌≡◌ {A = ℕ} 0 1 = cc in absurd (omega arith)
    own (abort h) r q = let y : ◌≡◌ {A = ℕ} 0 1 = cc in absurd (omega arith)
    own (settled j v) r q =
        let w = only-own (eqb i.0 j.0) (record { at = p + 6; bytes = v }) x q in
        let s : j ≡ i = ap id_of (sym (eqb-true i.0 j.0 w.0)) in
        record { holder = settled_as; value = v; read = r ∙ ap (λ (k : ObjectId). whole (settled k v)) s; is = sym w.1 }
    own (closed v) r q = let y : ◌≡◌ {A = ℕ} 0 1 = cc in absurd (omega arith)
    own reset r q = let y : ◌≡◌ {A = ℕ} 0 1 = cc in absurd (omega arith)

    go : (r : Read) → read_frame ed 0 p (drop p b) ≡ r → value_read i p r ≡ some x → FrameThere ed b i p x
    go blank r q = let y : ◌≡◌ {A = ℕ} 0 1 = cc in absurd (omega arith)
    go (whole f) r q = own f r q
    go (torn n) r q = let y : ◌≡◌ {A = ℕ} 0 1 = cc in absurd (omega arith)
    go (wrong w) r q = let y : ◌≡◌ {A = ℕ} 0 1 = cc in absurd (omega arith)

-- ---- what replay of the spots finds

module _ (ed : Edition) (fs : List Frame) (i : ObjectId) (v : List ℕ) (s : lookup i (objects_after fs) ≡ some v) where
  no_spot : {P : Type 0} → lookup i (replay (spots ed header_len fs)).objects ≡ none → P
  no_spot q =
      let z : none ≡ some v = sym (bytes-lookup ed fs i ∙ ap (map (λ (u : Spot). u.bytes)) q) ∙ s in
      let d : ◌≡◌ {A = ℕ} 0 1 = cc in
      absurd (omega arith)

  bytes_are : (x : Spot) → lookup i (replay (spots ed header_len fs)).objects ≡ some x → x.bytes ≡ v
  bytes_are x q = let z : some x.bytes ≡ some v = sym (bytes-lookup ed fs i ∙ ap (map (λ (u : Spot). u.bytes)) q) ∙ s in cc

apart : (h p f n r : List ℕ) → h ++ ((p ++ (f ++ n)) ++ r) ≡ (h ++ p) ++ (f ++ (n ++ r))
apart h p f n r = simp append_assoc

-- the frame that replay took an id's value from, and its place in the table
module _ (ed : Edition) (fs : List Frame) (i : ObjectId) (v : List ℕ) (h : i.0 ≤ 255) (s : lookup i (objects_after fs) ≡ some v) (x : Spot)
    (q : lookup i (replay (spots ed header_len fs)).objects ≡ some x) where
  place_is : get_or (places_of ed fs) i.0 0 ≡ x.place
  place_is = place_at ed fs i h ∙ ap or_zero (sited-lookup ed fs i ∙ ap (map (λ (u : Spot). u.place)) q)

  split : Split ed fs i x.place v
  split =
      let a : AllFrames (SplitAt ed fs) (spots ed header_len fs) = split-all ed fs [] fs header_len refl (no_frames ed) in
      subst (Split ed fs i x.place) (bytes_are ed fs i v s x q)
      (all_lookup (SplitAt ed fs) i (replay (spots ed header_len fs)).objects x (all_replay (SplitAt ed fs) (spots ed header_len fs) a).0 q)

  taken : (z : Split ed fs i x.place v) (w : List ℕ) → lookup i (objects_after (z.before ++ (holding z.holder i w ∷ z.after))) ≡ some w
  taken z w =
      let g : Spot → List ℕ = λ u. swap x.place w u.place u.bytes in
      let e : located ed (swap x.place w) header_len fs ≡ z.before ++ (holding z.holder i w ∷ z.after) =
      ap (located ed (swap x.place w) header_len) z.stands ∙ swapped ed x.place w header_len z.before z.holder i v z.after z.place in
      ap (λ (l : List Frame). lookup i (replay l).objects) (sym e) ∙ spots-lookup ed g fs i ∙ ap (map g) q
      ∙ ap (λ (d : Bool). some (cond d w x.bytes)) (eq-eqb x.place x.place refl)

  from_frame : (z : Split ed fs i x.place v) → TakenFrom ed fs i v (x.place + front z.holder)
  from_frame z =
      record {
        before = z.before;
        holder = z.holder;
        after = z.after;
        stands = z.stands;
        taken = taken z;
        at_is = omega (arith, z.place, length-all ed z.before);
      }

  placed : PlaceIs ed fs i v (get_or (places_of ed fs) i.0 0)
  unfolding from_frame
  placed =
      record {
        at = x.place + front split.holder;
        from = from_frame split;
        starts = ap (λ (p : ℕ). p + front split.holder) place_is;
      }

module _ (b : List ℕ) (j : Journal) (i : ObjectId) (v : List ℕ) (y : ValidBlock b j) (h : i.0 ≤ 255) (s : lookup i (objects_after j.frames) ≡ some v) where
  abbrev fs : List Frame
  fs = j.frames

  abbrev Found : Type 0
  Found = (at : ℕ) × (value_at j.edition b i (get_or (places_of j.edition fs) i.0 0) ≡ some (record { at = at; bytes = v }))
      × TakenFrom j.edition fs i v at

  module _ (x : Spot) (q : lookup i (replay (spots j.edition header_len fs)).objects ≡ some x) where
    read : (z : Split j.edition fs i x.place v) → read_frame j.edition 0 x.place (drop x.place b) ≡ whole (holding z.holder i v)
    unfolding encode_all
    read z =
        let f : Frame = holding z.holder i v in
        let pre : List ℕ = header j.edition j.time valid_data ++ encode_all j.edition z.before in
        let post : List ℕ = encode_all j.edition z.after ++ y.rest in
        let e : encode_all j.edition fs ≡ encode_all j.edition z.before ++ (encode j.edition f ++ encode_all j.edition z.after) =
        ap (encode_all j.edition) z.stands ∙ encode-append j.edition z.before (f ∷ z.after) in
        let e' : b ≡ pre ++ (encode j.edition f ++ post) =
        y.bytes ∙ ap (λ (l : List ℕ). header j.edition j.time valid_data ++ (l ++ y.rest)) e
        ∙ apart (header j.edition j.time valid_data) (encode_all j.edition z.before) (encode j.edition f)
        (encode_all j.edition z.after) y.rest in
        let l : length pre ≡ x.place =
        length-append (header j.edition j.time valid_data) (encode_all j.edition z.before)
        ∙ omega (arith, z.place, length-all j.edition z.before) in
        ap (λ (d : List ℕ). read_frame j.edition 0 x.place (drop x.place d)) e'
        ∙ ap (read_frame j.edition 0 x.place) (drop_at pre (encode j.edition f ++ post) x.place l)
        ∙ read_back j.edition 0 x.place f post
        (stands-there j.edition 0 z.before z.after f (subst (AllMayStand j.edition 0) z.stands y.frames))

    found : Split j.edition fs i x.place v → Found
    found z = (
      x.place + front z.holder,
      ap (value_at j.edition b i) (place_is j.edition fs i v h s x q)
          ∙ value_there j.edition b z.holder i v x.place (λ e. omega (arith, z.place)) (read z),
      from_frame j.edition fs i v h s x q z,
    )

  found_some : Found
  found_some = go (lookup i (replay (spots j.edition header_len fs)).objects) refl
    where
      go : (o : Option Spot) → lookup i (replay (spots j.edition header_len fs)).objects ≡ o → Found
      go none q = no_spot j.edition fs i v s q
      go (some x) q = found x q (split j.edition fs i v h s x q)

-- ---- the words settle the place

same-frame : (ed : Edition) (xs ys : List Frame) (f g : Frame) (us ws : List Frame) → total ed xs ≡ total ed ys → xs ++ (f ∷ us) ≡ ys ++ (g ∷ ws) → f ≡ g
unfolding total
same-frame ed [] [] f g us ws n e = cc
same-frame ed [] (y ∷ ys) f g us ws n e = absurd (omega arith)
same-frame ed (x ∷ xs) [] f g us ws n e = absurd (omega arith)
same-frame ed (x ∷ xs) (y ∷ ys) f g us ws n e =
    let h : x ≡ y = cc in
    let t : xs ++ (f ∷ us) ≡ ys ++ (g ∷ ws) = cc in
    let l : frame_len ed x ≡ frame_len ed y = ap (frame_len ed) h in
    same-frame ed xs ys f g us ws (omega arith) t

same-front : (k j : Holder) (i : ObjectId) (v : List ℕ) → holding k i v ≡ holding j i v → front k ≡ front j
same-front (put_by h) (put_by g) i v e = refl
same-front (put_by h) settled_as i v e = let z : ◌≡◌ {A = ℕ} 0 1 = cc in absurd (omega arith)
same-front settled_as (put_by g) i v e = let z : ◌≡◌ {A = ℕ} 0 1 = cc in absurd (omega arith)
same-front settled_as settled_as i v e = refl

module _ (ed : Edition) (fs : List Frame) (i : ObjectId) (v : List ℕ) where
  has : (at : ℕ) → TakenFrom ed fs i v at → lookup i (objects_after fs) ≡ some v
  has at z = ap (λ (l : List Frame). lookup i (objects_after l)) z.stands ∙ z.taken v

  -- a longer value in the frame is found, so the frame is the one that replay took the value from
  at_frame : (at : ℕ) (z : TakenFrom ed fs i v at) (x : Spot) → lookup i (replay (spots ed header_len fs)).objects ≡ some x
      → x.place ≡ header_len + total ed z.before
  at_frame at z x q =
      let p : ℕ = header_len + total ed z.before in
      let w : List ℕ = 0 ∷ v in
      let g : Spot → List ℕ = λ u. swap p w u.place u.bytes in
      let e : located ed (swap p w) header_len fs ≡ z.before ++ (holding z.holder i w ∷ z.after) =
      ap (located ed (swap p w) header_len) z.stands ∙ swapped ed p w header_len z.before z.holder i v z.after refl in
      let a : some (g x) ≡ some w =
      sym (ap (map g) q) ∙ sym (spots-lookup ed g fs i) ∙ ap (λ (l : List Frame). lookup i (replay l).objects) e ∙ z.taken w in
      let b : g x ≡ w = cc in
      on_test (eqb x.place p) (λ t. eqb-true x.place p t)
      (λ t.
      let c : x.bytes ≡ w = sym (ap (λ (d : Bool). cond d w x.bytes) t) ∙ b in
      let l : length v ≡ length w = ap length (sym (bytes_are ed fs i v (has at z) x q) ∙ c) in
      absurd (omega arith))

  -- both stand after as many bytes, in the same frame
  same_frames : (at at' : ℕ) (z : TakenFrom ed fs i v at) (z' : TakenFrom ed fs i v at')
      → (total ed z.before ≡ total ed z'.before) × (front z.holder ≡ front z'.holder)
  same_frames at at' z z' = go (lookup i (replay (spots ed header_len fs)).objects) refl
    where
      go : (o : Option Spot) → lookup i (replay (spots ed header_len fs)).objects ≡ o
          → (total ed z.before ≡ total ed z'.before) × (front z.holder ≡ front z'.holder)
      go none q = no_spot ed fs i v (has at z) q
      go (some x) q =
          let n : total ed z.before ≡ total ed z'.before = omega (arith, at_frame at z x q, at_frame at' z' x q) in (
            n,
            same-front z.holder z'.holder i v
                (same-frame ed z.before z'.before (holding z.holder i v) (holding z'.holder i v) z.after z'.after n
                (sym z.stands ∙ z'.stands)),
          )

  same_holder : (at at' : ℕ) (z : TakenFrom ed fs i v at) (z' : TakenFrom ed fs i v at') → front z.holder ≡ front z'.holder
  same_holder at at' z z' = (same_frames at at' z z').1

  once : (at at' : ℕ) → TakenFrom ed fs i v at → TakenFrom ed fs i v at' → at ≡ at'
  once at at' z z' =
      let w = same_frames at at' z z' in
      omega (arith, w.0, w.1, z.at_is, z'.at_is, length-all ed z.before, length-all ed z'.before)

-- ---- the table

places_are : (ed : Edition) (fs : List Frame) → PlacesAre ed (places_of ed fs) fs
places_are ed fs =
    record {
      all = length-places ed fs;
      there = λ i v h s. go i v h s (lookup i (replay (spots ed header_len fs)).objects) refl;
      absent = λ i h n. no_place ed fs i h n;
    }
  where
    go : (i : ObjectId) (v : List ℕ) → i.0 ≤ 255 → lookup i (objects_after fs) ≡ some v → (o : Option Spot)
        → lookup i (replay (spots ed header_len fs)).objects ≡ o → PlaceIs ed fs i v (get_or (places_of ed fs) i.0 0)
    go i v h s none q = no_spot ed fs i v s q
    go i v h s (some x) q = placed ed fs i v h s x q

places_only : (ed : Edition) (ps : List ℕ) (fs : List Frame) → PlacesAre ed ps fs → ps ≡ places_of ed fs
places_only ed ps fs y =
    ext_get_or 0 ps (places_of ed fs) (y.all ∙ sym (length-places ed fs)) (λ j l. go j (omega (arith, y.all)) (lookup (id_of j) (objects_after fs)) refl)
  where
    -- of two frames that replay took the value from, both start at one place
    same_start : (i : ObjectId) (v : List ℕ) (p q : ℕ) → PlaceIs ed fs i v p → PlaceIs ed fs i v q → p ≡ q
    same_start i v p q z w =
        let n : z.at ≡ w.at = once ed fs i v z.at w.at z.from w.from in
        let f : front z.from.holder ≡ front w.from.holder = same_holder ed fs i v z.at w.at z.from w.from in
        omega (arith, z.starts, w.starts)

    go : (j : ℕ) → j ≤ 255 → (o : Option (List ℕ)) → lookup (id_of j) (objects_after fs) ≡ o → get_or ps j 0 ≡ get_or (places_of ed fs) j 0
    go j l none q = y.absent (id_of j) l q ∙ sym (no_place ed fs (id_of j) l q)
    go j l (some v) q = same_start (id_of j) v (get_or ps j 0) (get_or (places_of ed fs) j 0) (y.there (id_of j) v l q) ((places_are ed fs).there (id_of j) v l q)

pub place-exact : PlaceExact
place-exact =
    record {
      found = found_some;
      absent = λ ed b fs i h n. ap (value_at ed b i) (no_place ed fs i h n) ∙ value-zero ed b i;
      places_are = places_are;
      places_only = places_only;
      once = once;
    }
