-- What the answer of a search is good for: the frame that a transfer copies, the bytes of its value being the block's own.
use mathlib.Core.Path.{◌≡◌, refl, sym, ap, subst, ◌∙◌}
use mathlib.Core.List.{List, [], ◌∷◌}
use mathlib.Core.Option.{Option, none, some}
use mathlib.Core.Bool.{true}
use Prim.Native.Nat.{ℕ, zero, suc, ◌+◌, ◌-◌, ◌≤◌}
use native.Mathlib.Omega.{arith}
use lib.ListN.{length, get_or, take, drop, length-take}
use lib.Seq.{drop-drop, take-length}
use Rattle.flash.proofs.Cases.{on_test}
use Rattle.frame.specs.declared.Edition.{Edition}
use Rattle.frame.specs.Frame.{id_of, value_max, Frame, settled, frame_len}
use Rattle.frame.specs.Reader.{Read, blank, whole, torn, wrong, read_frame}
use Rattle.frame.specs.Code.{head_of, frame_of, value_len_of, value_start}
use Rattle.frame.proofs.Heads.{frame-of-head}
use Rattle.std.specs.declared.option.Option as answer
use Rattle.std.specs.Prelude.{Some, None}
use Rattle.fetch.specs.declared.Fetch.{Fetch}
use Rattle.journal.specs.Index.{Value, value_at, Load, load, next_settled, is_pending, next_pending, or_else, next_load_of}
use Rattle.fetch.specs.Fetch.{or_start, fetched_of, Fetches}
use Rattle.fetch.proofs.FrameReads.{part_same, value_there, value_inside}
use Rattle.fetch.proofs.Fetching.{InBlock, in_block, pending_blank, pending_torn, pending_wrong, pending-yes, value-pending, pending_open}

-- ---- a settled frame

module _ (ed : Edition) (b places : List ℕ) where
  abbrev GoodSettled : Option Load → Type 0
  GoodSettled o = Fetches b (fetched_of ed b places o) o

  settled_there : (i source : ℕ) (x : Value) → value_at ed b (id_of i) (get_or places i 0) ≡ some x
      → GoodSettled (some (load (settled (id_of i) x.bytes) (suc i) source))
  unfolding fetched_of
  settled_there i source x e =
      let y : InBlock b x = in_block ed b (id_of i) (get_or places i 0) x e in
      let q : or_start (value_at ed b (id_of i) (get_or places i 0)) ≡ x.at = ap or_start e in (
        ap (λ (v : List ℕ). some (load (settled (id_of i) v) (suc i) source)) (ap (λ (o : ℕ). take (length x.bytes) (drop o b)) q ∙ y.same),
        (omega (arith, q, y.inside), y.small),
      )

  settled_good : (source n i : ℕ) → GoodSettled (next_settled ed b places source n i)
  unfolding next_settled fetched_of
  settled_good source zero i = (refl, tt)
  settled_good source (suc n) i = go (settled_good source n (suc i)) (value_at ed b (id_of i) (get_or places i 0)) refl
    where
      go : GoodSettled (next_settled ed b places source n (suc i)) → (o : Option Value) → value_at ed b (id_of i) (get_or places i 0) ≡ o
          → GoodSettled (next_settled ed b places source (suc n) i)
      go y none e =
          let q : next_settled ed b places source n (suc i) ≡ next_settled ed b places source (suc n) i = rw (e, next_settled) in
          subst GoodSettled q y
      go y (some x) e =
          let q : some (load (settled (id_of i) x.bytes) (suc i) source) ≡ next_settled ed b places source (suc n) i = rw (e, next_settled) in
          subst GoodSettled q (settled_there i source x e)

-- ---- a pending frame, of the bytes l

module _ (ed : Edition) (b places since l : List ℕ) where
  abbrev GoodPending : Option Load → Type 0
  GoodPending o = Fetches l (fetched_of ed b places o) o

  nothing_good : GoodPending none
  unfolding fetched_of
  nothing_good = (refl, tt)

  pending_there : (at : ℕ) (f : Frame) → read_frame ed 0 at (drop at l) ≡ whole f → is_pending since at f ≡ true
      → GoodPending (some (load f 256 (at + frame_len ed f)))
  unfolding fetched_of
  pending_there at f r t =
      let q : read_frame ed 0 at (drop at (take (length l) l)) ≡ whole f = ap (λ (x : List ℕ). read_frame ed 0 at (drop at x)) (take-length l) ∙ r in
      let v = value-pending ed b places since at f t in
      let w : (at + value_start (head_of f) + value_len_of (head_of f) ≤ length l) × (value_len_of (head_of f) ≤ value_max) =
      value_inside ed 0 at at (length l) l f q (pending_open since at f t) in (
        ap (λ (g : Frame). some (load g 256 (at + frame_len ed f)))
            (ap (λ (o : ℕ). frame_of (head_of f) (take (value_len_of (head_of f)) (drop o l))) v
            ∙ ap (frame_of (head_of f)) (value_there ed 0 at at (length l) l f q) ∙ frame-of-head f),
        (omega (arith, v, w.0), w.1),
      )

  pending_good : (at k : ℕ) (t : List ℕ) → drop at l ≡ t → GoodPending (next_pending ed since at k t)
  unfolding next_pending
  pending_good at k [] e = nothing_good
  pending_good at k (x ∷ t) e =
      let o : suc at ≡ at + 1 = omega arith in
      let q : drop (suc at) l ≡ t = ap (λ (n : ℕ). drop n l) o ∙ sym (drop-drop 1 at l) ∙ ap (drop 1) e in
      go (λ m. pending_good (suc at) m t q) k
    where
      read_as : (r : Read) → read_frame ed 0 at (x ∷ t) ≡ r → ((m : ℕ) → GoodPending (next_pending ed since (suc at) m t))
          → GoodPending (next_pending ed since at 0 (x ∷ t))
      read_as blank s y = subst GoodPending (sym (pending_blank ed since at (x ∷ t) s)) nothing_good
      read_as (whole f) s y =
          on_test (is_pending since at f)
          (λ u. subst GoodPending (sym (pending-yes ed since at (x ∷ t) f s u)) (pending_there at f (ap (read_frame ed 0 at) e ∙ s) u))
          (λ u.
          let p : next_pending ed since (suc at) (frame_len ed f - 1) t ≡ next_pending ed since at 0 (x ∷ t) = rw (s, u, next_pending) in
          subst GoodPending p (y (frame_len ed f - 1)))
      read_as (torn n) s y = subst GoodPending (sym (pending_torn ed since at (x ∷ t) n s)) nothing_good
      read_as (wrong w) s y = subst GoodPending (sym (pending_wrong ed since at (x ∷ t) w s)) nothing_good

      go : ((m : ℕ) → GoodPending (next_pending ed since (suc at) m t)) → (k : ℕ) → GoodPending (next_pending ed since at k (x ∷ t))
      go y zero = read_as (read_frame ed 0 at (x ∷ t)) refl y
      go y (suc k) = y k

-- ---- what is fetched from a part of a block is fetched from the block

part_good : (b : List ℕ) (e : ℕ) (r : answer.Option Fetch) (o : Option Load) → Fetches (take e b) r o → Fetches b r o
part_good b e None o h = h
part_good b e (Some f) o (h, k) =
    let n : f.value + value_len_of f.head ≤ length (take e b) = k.0 in
    (rw (part_same f.value (value_len_of f.head) e b (omega (arith, n, length-take e b))) at h, (omega (arith, n, length-take e b), k.1))

-- ---- the settled frames first, then the pending ones

pub fetches : (ed : Edition) (b : List ℕ) (end : ℕ) (places since : List ℕ) (id source : ℕ) (r : answer.Option Fetch)
    → r ≡ fetched_of ed b places (next_load_of ed b end places since id source) → Fetches b r (next_load_of ed b end places since id source)
unfolding next_load_of
fetches ed b end places since id source r e =
    subst (λ (x : answer.Option Fetch). Fetches b x (next_load_of ed b end places since id source)) (sym e) (go (next_settled ed b places source (256 - id) id) refl)
  where
    second : Option Load
    second = next_pending ed since source 0 (drop source (take end b))

    go : (o : Option Load) → next_settled ed b places source (256 - id) id ≡ o → Fetches b (fetched_of ed b places (or_else o second)) (or_else o second)
    go (some u) q = subst (λ (o : Option Load). Fetches b (fetched_of ed b places o) o) q (settled_good ed b places source (256 - id) id)
    go none q = part_good b end (fetched_of ed b places second) second (pending_good ed b places since (take end b) source 0 (drop source (take end b)) refl)
