-- Where the objects' values stand: the places that replay of the sited frames finds hold them.
use mathlib.Core.Path.{◌≡◌, refl, sym, ap, subst, ◌∙◌}
use mathlib.Core.List.{List, [], ◌∷◌, ◌++◌, append_assoc}
use mathlib.Core.Option.{Option, none, some, map}
use Prim.Native.Nat.{ℕ, zero, suc, ◌+◌, ◌≤◌, ◌<◌}
use native.Mathlib.Omega.{arith}
use lib.Dec.{eqb}
use lib.ListN.{length, get_or, take, drop, length-append}
use lib.Seq.{drop-append-add, take_at, drop_at}
use borrow.Author.Tests.{eq-eqb, ne_eqb}
use Rattle.frame.specs.declared.Edition.{Edition}
use Rattle.frame.specs.declared.ObjectId.{ObjectId}
use Rattle.frame.specs.Frame.{id_max, id_of, put, FrameOf, Frame, change, settled, map_frame, encode, encode_all}
use Rattle.frame.specs.Frame.{check, seal_of, finish, front, frame_len, MayStand, AllMayStand, next_after}
use Rattle.frame.specs.Reader.{whole, read_frame}
use Rattle.frame.proofs.Encode.{length-encode, stands-zero}
use Rattle.frame.proofs.Exact.{read_back}
use Rattle.journal.specs.Block.{header_len}
use Rattle.journal.specs.Replay.{ObjectOf, StateOf, lookup, replay}
use Rattle.journal.specs.Laws.{Holder, put_by, settled_as, holding}
use Rattle.journal.specs.Index.{sited, or_zero, places_from, places_of, Value, only_if, frame_value, value_at}
use Rattle.journal.proofs.Mapping.{located, located-sited, located-plain, located-map, map_lookup, map_replay, OfFrame, AllFrames}
use Rattle.journal.proofs.Mapping.{by-holder, all_replay, all_lookup}

-- a value and the offset of its frame
pub record Spot : Type 0 where
  pub place : ℕ
  pub bytes : List ℕ

abbrev pub spot : ℕ → List ℕ → Spot
spot o v = record { place = o; bytes = v }

abbrev pub spots : (ed : Edition) → ℕ → List Frame → List (FrameOf Spot)
spots ed o fs = located ed spot o fs

-- ---- a value in the bytes of a block

-- the frame at offset p of block b holds value v of id i
pub record ValueStands (ed : Edition) (b : List ℕ) (i : ObjectId) (p : ℕ) (v : List ℕ) : Type 0 where
  pub at : ℕ
  pub found : value_at ed b i p ≡ some (record { at = at; bytes = v })
  pub same : take (length v) (drop at b) ≡ v
  pub fits : at + length v ≤ length b
  pub past : header_len ≤ p
  pub inside : p < length b

at-found : (ed : Edition) (b : List ℕ) (i : ObjectId) (p : ℕ) (f : Frame) → header_len ≤ p → read_frame ed 0 p (drop p b) ≡ whole f
    → value_at ed b i p ≡ frame_value i p f
unfolding value_at
at-found ed b i p f h e = rw (ne_eqb p 0 (omega arith), e, value_at)

own : {A : Type 0} (i : ObjectId) (x : A) → only_if (eqb i.0 i.0) x ≡ some x
own i x = rw (eq-eqb i.0 i.0 refl, only_if)

slice : (pre front v back : List ℕ) (o n : ℕ) → length pre ≡ o → length front ≡ n → take (length v) (drop (o + n) (pre ++ (front ++ (v ++ back)))) ≡ v
slice pre front v back o n l k =
    let q : o + n ≡ length pre + (length front + 0) = omega arith in
    ap (λ (m : ℕ). take (length v) (drop m (pre ++ (front ++ (v ++ back))))) q
    ∙ ap (take (length v)) (drop-append-add pre (front ++ (v ++ back)) (length front + 0) ∙ drop-append-add front (v ++ back) 0)
    ∙ take_at v back (length v) refl

slice_in : (pre front v back : List ℕ) (o n : ℕ) → length pre ≡ o → length front ≡ n → o + n + length v ≤ length (pre ++ (front ++ (v ++ back)))
slice_in pre front v back o n l k = simp length-append (omega arith)

-- a frame whose value v stands n bytes in
value-placed : (ed : Edition) (pre front v back rest : List ℕ) (i : ObjectId) (o n m : ℕ) (f : Frame) → length pre ≡ o → length front ≡ n → header_len ≤ o
    → MayStand ed m f → encode ed f ++ rest ≡ front ++ (v ++ back) → 1 ≤ n → frame_value i o f ≡ some (record { at = o + n; bytes = v })
    → ValueStands ed (pre ++ (encode ed f ++ rest)) i o v
value-placed ed pre front v back rest i o n m f l k h g e s q =
    let b : List ℕ = pre ++ (encode ed f ++ rest) in
    let e' : b ≡ pre ++ (front ++ (v ++ back)) = ap (λ (x : List ℕ). pre ++ x) e in
    let t : o + n + length v ≤ length b = subst (λ (x : List ℕ). o + n + length v ≤ length x) (sym e') (slice_in pre front v back o n l k) in
    record {
      at = o + n;
      found = at-found ed b i o f h (ap (read_frame ed 0 o) (drop_at pre (encode ed f ++ rest) o l) ∙ read_back ed 0 o f rest (stands-zero ed m f g)) ∙ q;
      same = subst (λ (x : List ℕ). take (length v) (drop (o + n) x) ≡ v) (sym e') (slice pre front v back o n l k);
      fits = t;
      past = h;
      inside = omega arith;
    }

abbrev SpotStands : (ed : Edition) → List ℕ → ObjectId → Spot → Type 0
SpotStands ed b i x = ValueStands ed b i x.place x.bytes

-- what follows a frame's front
abbrev seal : Edition → Frame → List ℕ
seal ed f = check (seal_of ed f) (front ed f) ++ (finish ∷ [])

spot-stands : (ed : Edition) (pre rest : List ℕ) (o m : ℕ) → length pre ≡ o → header_len ≤ o → (x : Holder) (i : ObjectId) (v : List ℕ)
    → MayStand ed m (holding x i v) → SpotStands ed (pre ++ (encode ed (holding x i v) ++ rest)) i (spot o v)
spot-stands ed pre rest o m l k (put_by h) i v g =
    let f : Frame = change h (put i v) in
    value-placed ed pre (take 7 (encode ed f)) v (seal ed f ++ rest) rest i o 7 m f l refl k g (simp append_assoc) (omega arith) (own i _)
spot-stands ed pre rest o m l k settled_as i v g =
    let f : Frame = settled i v in
    value-placed ed pre (take 6 (encode ed f)) v (seal ed f ++ rest) rest i o 6 m f l refl k g (simp append_assoc) (omega arith) (own i _)

spots_hold : (ed : Edition) (b pre : List ℕ) (o m : ℕ) (fs : List Frame) (rest : List ℕ) → length pre ≡ o → header_len ≤ o → AllMayStand ed m fs
    → b ≡ pre ++ (encode_all ed fs ++ rest)
    → AllFrames (SpotStands ed b) (spots ed o fs)
unfolding located encode_all
spots_hold ed b pre o m [] rest l k g e = tt
spots_hold ed b pre o m (f ∷ fs) rest l k (g, gs) e =
    let e' : b ≡ pre ++ (encode ed f ++ (encode_all ed fs ++ rest)) = e ∙ ap (λ (x : List ℕ). pre ++ x) (append_assoc (encode ed f) (encode_all ed fs) rest) in (
      subst (λ (x : List ℕ). OfFrame (SpotStands ed x) (map_frame (spot o) f)) (sym e')
          (by-holder (MayStand ed m) (λ y. SpotStands ed (pre ++ (encode ed y ++ (encode_all ed fs ++ rest)))) (spot o)
          (spot-stands ed pre (encode_all ed fs ++ rest) o m l k) f g),
      spots_hold ed b (pre ++ encode ed f) (o + frame_len ed f) (next_after f) fs rest (length-append pre (encode ed f) ∙ omega (arith, length-encode ed f))
          (omega arith) gs (e' ∙ sym (append_assoc pre (encode ed f) (encode_all ed fs ++ rest))),
    )

-- ---- the table of places

pub places-at : (n k m : ℕ) (os : List (ObjectOf ℕ)) → m < n → get_or (places_from n k os) m 0 ≡ or_zero (lookup (id_of (k + m)) os)
unfolding places_from
places-at zero k m os h = absurd (omega arith)
places-at (suc n) k zero os h = let e : k + 0 ≡ k = omega arith in ap (λ (x : ℕ). or_zero (lookup (id_of x) os)) (sym e)
places-at (suc n) k (suc m) os h =
    let e : suc k + m ≡ k + suc m = omega arith in places-at n (suc k) m os (omega arith) ∙ ap (λ (x : ℕ). or_zero (lookup (id_of x) os)) e

pub length_from : (n k : ℕ) (os : List (ObjectOf ℕ)) → length (places_from n k os) ≡ n
unfolding places_from
length_from zero k os = refl
length_from (suc n) k os = ap suc (length_from n (suc k) os)

pub length-places : (ed : Edition) (fs : List Frame) → length (places_of ed fs) ≡ 256
length-places ed fs = length_from 256 0 (replay (sited ed header_len fs)).objects

-- what replay finds of an id, with something made of place and bytes for the value
pub spots-lookup : (ed : Edition) {B : Type 0} (g : Spot → B) (fs : List Frame) (i : ObjectId)
    → lookup i (replay (located ed (λ p v. g (spot p v)) header_len fs)).objects ≡ map g (lookup i (replay (spots ed header_len fs)).objects)
spots-lookup ed {B} g fs i =
    ap (λ (x : List (FrameOf B)). lookup i (replay x).objects) (located-map ed g spot header_len fs)
    ∙ ap (λ (x : StateOf B). lookup i x.objects) (map_replay g (spots ed header_len fs)) ∙ map_lookup g i (replay (spots ed header_len fs)).objects

pub sited-lookup : (ed : Edition) (fs : List Frame) (i : ObjectId)
    → lookup i (replay (sited ed header_len fs)).objects ≡ map (λ (x : Spot). x.place) (lookup i (replay (spots ed header_len fs)).objects)
sited-lookup ed fs i =
    ap (λ (x : List (FrameOf ℕ)). lookup i (replay x).objects) (located-sited ed header_len fs) ∙ spots-lookup ed (λ (x : Spot). x.place) fs i

pub bytes-lookup : (ed : Edition) (fs : List Frame) (i : ObjectId)
    → lookup i (replay fs).objects ≡ map (λ (x : Spot). x.bytes) (lookup i (replay (spots ed header_len fs)).objects)
bytes-lookup ed fs i =
    ap (λ (x : List Frame). lookup i (replay x).objects) (located-plain ed header_len fs) ∙ spots-lookup ed (λ (x : Spot). x.bytes) fs i

pub sited-none : (ed : Edition) (fs : List Frame) (i : ObjectId) → lookup i (replay fs).objects ≡ none
    → lookup i (replay (sited ed header_len fs)).objects ≡ none
sited-none ed fs i n = sited-lookup ed fs i ∙ go (lookup i (replay (spots ed header_len fs)).objects) (sym (bytes-lookup ed fs i) ∙ n)
  where
    go : (x : Option Spot) → map (λ (y : Spot). y.bytes) x ≡ none → map (λ (y : Spot). y.place) x ≡ none
    go none q = refl
    go (some y) q = let z : ◌≡◌ {A = ℕ} 0 1 = cc in absurd (omega arith)

-- the place of an id
pub place_at : (ed : Edition) (fs : List Frame) (i : ObjectId) → i.0 ≤ id_max
    → get_or (places_of ed fs) i.0 0 ≡ or_zero (lookup i (replay (sited ed header_len fs)).objects)
place_at ed fs i h =
    let z : 0 + i.0 ≡ i.0 = omega arith in
    let os : List (ObjectOf ℕ) = (replay (sited ed header_len fs)).objects in
    places-at 256 0 i.0 os (omega arith) ∙ ap (λ (x : ℕ). or_zero (lookup (id_of x) os)) z

pub no_place : (ed : Edition) (fs : List Frame) (i : ObjectId) → i.0 ≤ id_max → lookup i (replay fs).objects ≡ none → get_or (places_of ed fs) i.0 0 ≡ 0
no_place ed fs i h n = place_at ed fs i h ∙ ap or_zero (sited-none ed fs i n)

pub value-zero : (ed : Edition) (b : List ℕ) (i : ObjectId) → value_at ed b i 0 ≡ none
unfolding value_at
value-zero ed b i = refl

-- a block whose journal starts with these frames
pub record Standing (ed : Edition) (b : List ℕ) (fs : List Frame) : Type 0 where
  pub head : List ℕ
  pub rest : List ℕ
  pub split : b ≡ head ++ (encode_all ed fs ++ rest)
  pub long : length head ≡ header_len
  pub stand : AllMayStand ed 0 fs

pub place_law : (ed : Edition) (b : List ℕ) (fs : List Frame) (i : ObjectId) (v : List ℕ) → Standing ed b fs → i.0 ≤ id_max
    → lookup i (replay fs).objects ≡ some v → ValueStands ed b i (get_or (places_of ed fs) i.0 0) v
place_law ed b fs i v j h s =
    subst (λ (p : ℕ). ValueStands ed b i p v) (sym (place_at ed fs i h ∙ ap or_zero (sited-lookup ed fs i)))
    (go (lookup i (replay (spots ed header_len fs)).objects) refl)
  where
    go : (x : Option Spot) → lookup i (replay (spots ed header_len fs)).objects ≡ x → ValueStands ed b i (or_zero (map (λ (y : Spot). y.place) x)) v
    go none q =
        let z : ◌≡◌ {A = Option (List ℕ)} none (some v) = sym (bytes-lookup ed fs i ∙ ap (map (λ (y : Spot). y.bytes)) q) ∙ s in
        let y : ◌≡◌ {A = ℕ} 0 1 = cc in
        absurd (omega arith)
    go (some x) q =
        let z : ◌≡◌ {A = Option (List ℕ)} (some x.bytes) (some v) = sym (bytes-lookup ed fs i ∙ ap (map (λ (y : Spot). y.bytes)) q) ∙ s in
        let y : x.bytes ≡ v = cc in
        let a : AllFrames (SpotStands ed b) (spots ed header_len fs) =
        spots_hold ed b j.head header_len 0 fs j.rest j.long (omega arith) j.stand j.split in
        subst (ValueStands ed b i x.place) y (all_lookup (SpotStands ed b) i (replay (spots ed header_len fs)).objects x
        (all_replay (SpotStands ed b) (spots ed header_len fs) a).0 q)

abbrev pub bytes_of : Option Value → Option (List ℕ)
bytes_of none = none
bytes_of (some x) = some x.bytes

-- what stands at an id's place is the object that replay finds
pub place-value : (ed : Edition) (b : List ℕ) (fs : List Frame) (i : ObjectId) → Standing ed b fs → i.0 ≤ id_max
    → bytes_of (value_at ed b i (get_or (places_of ed fs) i.0 0)) ≡ lookup i (replay fs).objects
place-value ed b fs i j h = go (lookup i (replay fs).objects) refl
  where
    go : (x : Option (List ℕ)) → lookup i (replay fs).objects ≡ x → bytes_of (value_at ed b i (get_or (places_of ed fs) i.0 0)) ≡ lookup i (replay fs).objects
    go none q = ap (λ (p : ℕ). bytes_of (value_at ed b i p)) (no_place ed fs i h q) ∙ ap bytes_of (value-zero ed b i) ∙ sym q
    go (some v) q = ap bytes_of (place_law ed b fs i v j h q).found ∙ sym q
