-- The laws of places and loads, by the heads that the code reads.
use mathlib.Core.Path.{◌≡◌, refl, sym, ap, ap₂, subst, ◌∙◌}
use mathlib.Core.List.{List}
use mathlib.Core.Option.{none, some}
use mathlib.Core.Bool.{true, false}
use Prim.Native.Nat.{ℕ, ◌+◌}
use native.Mathlib.Omega.{arith}
use lib.ListN.{length, get_or, drop}
use lib.Seq.{drop-drop}
use Rattle.frame.specs.declared.Edition.{Edition}
use Rattle.frame.specs.declared.ObjectId.{ObjectId}
use Rattle.frame.specs.declared.Head.{Head}
use Rattle.frame.specs.declared.Head.TheVariants as head
use Rattle.frame.specs.declared.FrameRead.TheVariants as read
use Rattle.frame.specs.Frame.{id_of, Frame, settled, frame_len}
use Rattle.frame.specs.Reader.{Read, blank, whole, torn, wrong, read_frame}
use Rattle.frame.specs.Code.{head_of, read_of, head_len, value_start}
use Rattle.frame.proofs.Heads.{head_len_lem}
use Rattle.std.specs.Prelude.{Some, None}
use Rattle.fetch.specs.declared.Fetch.{Fetch}
use Rattle.journal.specs.Index.{Value, value_at, load, is_pending, next_pending}
use Rattle.fetch.specs.Fetch.{found_of, or_start, fetched_of}
use Rattle.fetch.specs.Fetch.{value_head, pending_head}
use Rattle.fetch.proofs.FrameReads.{whole_is}
use Rattle.fetch.proofs.Fetching.{value-head, value_reads, pending-head, pending_blank}
use Rattle.fetch.proofs.Fetching.{pending_torn, value-pending}
use Rattle.fetch.proofs.Fetching.{pending_wrong, pending-yes, pending-no}

-- ---- a value at a place

module _ (ed : Edition) (b : List ℕ) (i : ObjectId) (p : ℕ) (l : p ≡ 0 → ⊥) where
  pub value_whole : (h : Head) → read_of (read_frame ed 0 p (drop p b)) ≡ read.Whole h → value_head i p h ≡ found_of (value_at ed b i p)
  value_whole h e =
      let w : (f : Frame) × (read_frame ed 0 p (drop p b) ≡ whole f) × (head_of f ≡ h) = whole_is (read_frame ed 0 p (drop p b)) h e in
      ap (value_head i p) (sym w.2) ∙ value-head i p w.0 ∙ ap found_of (sym (value_reads ed b i p l (whole w.0) w.1))

  pub value_other : ((h : Head) → read_of (read_frame ed 0 p (drop p b)) ≡ read.Whole h → ⊥) → None ≡ found_of (value_at ed b i p)
  value_other n = go (read_frame ed 0 p (drop p b)) refl
    where
      go : (r : Read) → read_frame ed 0 p (drop p b) ≡ r → None ≡ found_of (value_at ed b i p)
      go blank q = ap found_of (sym (value_reads ed b i p l blank q))
      go (whole f) q = absurd (n (head_of f) (ap read_of q))
      go (torn m) q = ap found_of (sym (value_reads ed b i p l (torn m) q))
      go (wrong x) q = ap found_of (sym (value_reads ed b i p l (wrong x) q))

-- ---- a frame to copy

abbrev fetch : Head → ℕ → ℕ → ℕ → Fetch
fetch h v i s = record { head = h; value = v; id = i; source = s }

pub fetch-settled : (ed : Edition) (b places : List ℕ) (i v n s : ℕ) (x : Value) → value_at ed b (id_of i) (get_or places i 0) ≡ some x
    → x.at ≡ v → length x.bytes ≡ n
    → Some (fetch (head.Settled (id_of i) n) v (i + 1) s) ≡ fetched_of ed b places (some (load (settled (id_of i) x.bytes) (i + 1) s))
unfolding fetched_of
fetch-settled ed b places i v n s x e q r =
    ap₂ (λ (m o : ℕ). Some (fetch (head.Settled (id_of i) m) o (i + 1) s)) (sym r) (sym (ap or_start e ∙ q))

module _ (ed : Edition) (since : List ℕ) (at : ℕ) (l : List ℕ) where
  abbrev here : List ℕ
  here = drop at l

  pub no_other : ((h : Head) → read_of (read_frame ed 0 at here) ≡ read.Whole h → ⊥) → next_pending ed since at 0 here ≡ none
  no_other n = go (read_frame ed 0 at here) refl
    where
      go : (r : Read) → read_frame ed 0 at here ≡ r → next_pending ed since at 0 here ≡ none
      go blank q = pending_blank ed since at here q
      go (whole f) q = absurd (n (head_of f) (ap read_of q))
      go (torn m) q = pending_torn ed since at here m q
      go (wrong x) q = pending_wrong ed since at here x q

  module _ (h : Head) (e : read_of (read_frame ed 0 at here) ≡ read.Whole h) where
    read_as : (f : Frame) × (read_frame ed 0 at here ≡ whole f) × (head_of f ≡ h)
    read_as = whole_is (read_frame ed 0 at here) h e

    pub skip_pending : pending_head since at h ≡ false → next_pending ed since at 0 here ≡ next_pending ed since (at + head_len ed h) 0 (drop (at + head_len ed h) l)
    skip_pending t =
        let f : Frame = read_as.0 in
        let n : frame_len ed f ≡ head_len ed h = sym (head_len_lem ed f) ∙ ap (head_len ed) read_as.2 in
        pending-no ed since at here f read_as.1 (sym (pending-head since at f) ∙ ap (pending_head since at) read_as.2 ∙ t)
        ∙ ap (λ (x : List ℕ). next_pending ed since (at + frame_len ed f) 0 x) (drop-drop (frame_len ed f) at l)
        ∙ ap (λ (m : ℕ). next_pending ed since (at + m) 0 (drop (at + m) l)) n

    pub fetch_pending : pending_head since at h ≡ true → (b places : List ℕ)
        → Some (fetch h (at + value_start h) 256 (at + head_len ed h)) ≡ fetched_of ed b places (next_pending ed since at 0 here)
    unfolding fetched_of
    fetch_pending t b places =
        let f : Frame = read_as.0 in
        let p : is_pending since at f ≡ true = sym (pending-head since at f) ∙ ap (pending_head since at) read_as.2 ∙ t in
        let n : at + head_len ed (head_of f) ≡ at + frame_len ed f = omega (arith, head_len_lem ed f) in
        subst (λ (k : Head). Some (fetch k (at + value_start k) 256 (at + head_len ed k)) ≡ fetched_of ed b places (next_pending ed since at 0 here))
        read_as.2
        (ap₂ (λ (v m : ℕ). Some (fetch (head_of f) v 256 m)) (sym (value-pending ed b places since at f p)) n
        ∙ ap (fetched_of ed b places) (sym (pending-yes ed since at here f read_as.1 p)))
