-- The next frame that a transfer copies, found step by step; and the settled frames that the places tell of.
use mathlib.Core.Path.{◌≡◌, refl, sym, ap, ap₂, ◌∙◌}
use mathlib.Core.List.{List, [], ◌∷◌}
use mathlib.Core.Option.{Option, none, some}
use mathlib.Core.Bool.{Bool, true, false}
use Prim.Native.Nat.{ℕ, zero, suc, ◌+◌, ◌-◌, ◌≤◌, ◌<◌}
use native.Mathlib.Omega.{arith}
use lib.Dec.{eqb}
use lib.ListN.{length, get_or, take, drop}
use lib.Seq.{take-length}
use borrow.Author.Tests.{ne_eqb}
use Rattle.flash.proofs.Cases.{on_test}
use Rattle.frame.specs.declared.Edition.{Edition}
use Rattle.frame.specs.declared.ObjectId.{ObjectId}
use Rattle.frame.specs.declared.Fault.{Fault}
use Rattle.frame.specs.Frame.{id_of, value_max, put, delete, Frame, change, commit, abort, settled, closed, reset, frame_len}
use Rattle.frame.specs.Reader.{Read, blank, whole, torn, wrong, read_frame}
use Rattle.frame.specs.Code.{head_of, peek_at, value_of, value_len_of, value_start}
use Rattle.frame.proofs.Encode.{NotClosed}
use Rattle.frame.proofs.Heads.{value_len, peek_whole}
use Rattle.frame.proofs.Exact.{read-blank}
use Rattle.std.specs.Prelude.{Some, None, MatchOption}
use Rattle.std.specs.declared.option.Option as answer
use Rattle.fetch.specs.declared.Found.{Found}
use Rattle.fetch.specs.declared.Fetch.{Fetch}
use Rattle.journal.specs.Index.{Value, only_if, frame_value, value_read, value_at, Load, load, next_settled, is_pending, next_pending, or_else, next_load_of}
use Rattle.fetch.specs.Fetch.{found_of, value_from, fetched_of}
use Rattle.fetch.specs.Fetch.{value_head, pending_head}
use Rattle.fetch.proofs.FrameReads.{value_there, value_inside}

-- ---- by heads

pub value-head : (i : ObjectId) (p : ℕ) (f : Frame) → value_head i p (head_of f) ≡ found_of (frame_value i p f)
unfolding value_head
value-head i p (change h (put j v)) = on_test (eqb i.0 j.0) (λ t. rw t) (λ t. rw t)
value-head i p (change h (delete j)) = refl
value-head i p (commit h) = refl
value-head i p (abort h) = refl
value-head i p (settled j v) = on_test (eqb i.0 j.0) (λ t. rw t) (λ t. rw t)
value-head i p (closed v) = refl
value-head i p reset = refl

pub pending-head : (since : List ℕ) (at : ℕ) (f : Frame) → pending_head since at (head_of f) ≡ is_pending since at f
unfolding pending_head
pending-head since at (change h (put i v)) = refl
pending-head since at (change h (delete i)) = refl
pending-head since at (commit h) = refl
pending-head since at (abort h) = refl
pending-head since at (settled i v) = refl
pending-head since at (closed v) = refl
pending-head since at reset = refl

-- ---- a value at a place

module _ (ed : Edition) (b : List ℕ) (i : ObjectId) (p : ℕ) (l : p ≡ 0 → ⊥) where
  pub value_reads : (r : Read) → read_frame ed 0 p (drop p b) ≡ r → value_at ed b i p ≡ value_read i p r
  unfolding value_at
  value_reads r e = rw (ne_eqb p 0 l, e, value_at)

only-some : {A : Type 0} (t : Bool) (x y : A) → only_if t x ≡ some y → x ≡ y
only-some true x y e = cc
only-some false x y e = let z : ◌≡◌ {A = ℕ} 0 1 = cc in absurd (omega arith)

value-of : (i : ObjectId) (p : ℕ) (f : Frame) (x : Value) → frame_value i p f ≡ some x
    → (x.at ≡ p + value_start (head_of f)) × (x.bytes ≡ value_of f) × NotClosed f
value-of i p (change h (put j v)) x e =
    let q : record { at = p + 7; bytes = v } ≡ x = only-some (eqb i.0 j.0) _ x e in
    (sym (ap (λ (y : Value). y.at) q), sym (ap (λ (y : Value). y.bytes) q), tt)
value-of i p (change h (delete j)) x e = let z : ◌≡◌ {A = ℕ} 0 1 = cc in absurd (omega arith)
value-of i p (commit h) x e = let z : ◌≡◌ {A = ℕ} 0 1 = cc in absurd (omega arith)
value-of i p (abort h) x e = let z : ◌≡◌ {A = ℕ} 0 1 = cc in absurd (omega arith)
value-of i p (settled j v) x e =
    let q : record { at = p + 6; bytes = v } ≡ x = only-some (eqb i.0 j.0) _ x e in
    (sym (ap (λ (y : Value). y.at) q), sym (ap (λ (y : Value). y.bytes) q), tt)
value-of i p (closed v) x e = let z : ◌≡◌ {A = ℕ} 0 1 = cc in absurd (omega arith)
value-of i p reset x e = let z : ◌≡◌ {A = ℕ} 0 1 = cc in absurd (omega arith)

-- the value that a place holds are bytes of the block
pub record InBlock (b : List ℕ) (x : Value) : Type 0 where
  pub same : take (length x.bytes) (drop x.at b) ≡ x.bytes
  pub inside : x.at + length x.bytes ≤ length b
  pub small : length x.bytes ≤ value_max

frame_in_block : (ed : Edition) (b : List ℕ) (i : ObjectId) (p : ℕ) (f : Frame) (x : Value) → read_frame ed 0 p (drop p b) ≡ whole f → frame_value i p f ≡ some x
    → InBlock b x
frame_in_block ed b i p f x r e =
    let q : read_frame ed 0 p (drop p (take (length b) b)) ≡ whole f = ap (λ (l : List ℕ). read_frame ed 0 p (drop p l)) (take-length b) ∙ r in
    let v : (x.at ≡ p + value_start (head_of f)) × (x.bytes ≡ value_of f) × NotClosed f = value-of i p f x e in
    let n : length x.bytes ≡ value_len_of (head_of f) = ap length v.1 ∙ sym (value_len f) in
    let w : (p + value_start (head_of f) + value_len_of (head_of f) ≤ length b) × (value_len_of (head_of f) ≤ value_max) =
    value_inside ed 0 p p (length b) b f q v.2 in
    record {
      same = ap₂ (λ (m o : ℕ). take m (drop o b)) n v.0 ∙ value_there ed 0 p p (length b) b f q ∙ sym v.1;
      inside = omega (arith, w.0, v.0, n);
      small = omega (arith, w.1, n);
    }

-- such a value stands in a whole frame
ValueIn : Edition → List ℕ → ObjectId → ℕ → Value → Type 0
ValueIn ed b i p x = (f : Frame) × (read_frame ed 0 p (drop p b) ≡ whole f) × (frame_value i p f ≡ some x)

value_frame : (ed : Edition) (b : List ℕ) (i : ObjectId) (p : ℕ) (x : Value) → value_at ed b i p ≡ some x → ValueIn ed b i p x
unfolding value_at ValueIn
value_frame ed b i p x e =
    on_test (eqb p 0)
    (λ t. let q : none ≡ some x = rw (t, value_at) at e in let z : ◌≡◌ {A = ℕ} 0 1 = cc in absurd (omega arith))
    (λ t. go (read_frame ed 0 p (drop p b)) refl (rw (t, value_at) at e))
  where
    go : (r : Read) → read_frame ed 0 p (drop p b) ≡ r → value_read i p (read_frame ed 0 p (drop p b)) ≡ some x → ValueIn ed b i p x
    go blank q s = let z : none ≡ some x = rw q at s in let y : ◌≡◌ {A = ℕ} 0 1 = cc in absurd (omega arith)
    go (whole f) q s = (f, q, rw q at s)
    go (torn n) q s = let z : none ≡ some x = rw q at s in let y : ◌≡◌ {A = ℕ} 0 1 = cc in absurd (omega arith)
    go (wrong w) q s = let z : none ≡ some x = rw q at s in let y : ◌≡◌ {A = ℕ} 0 1 = cc in absurd (omega arith)

pub in_block : (ed : Edition) (b : List ℕ) (i : ObjectId) (p : ℕ) (x : Value) → value_at ed b i p ≡ some x → InBlock b x
unfolding ValueIn
in_block ed b i p x e = let w : ValueIn ed b i p x = value_frame ed b i p x e in frame_in_block ed b i p w.0 x w.1 w.2

-- the head there tells its length
pub value_peeked : (ed : Edition) (b : List ℕ) (i : ObjectId) (p : ℕ) (x : Value) → value_at ed b i p ≡ some x → value_len_of (peek_at ed b p) ≡ length x.bytes
unfolding ValueIn
value_peeked ed b i p x e =
    let w : ValueIn ed b i p x = value_frame ed b i p x e in
    ap value_len_of (peek_whole ed 0 p b w.0 w.1) ∙ value_len w.0 ∙ sym (ap length (value-of i p w.0 x w.2).1)

-- what the code found
pub found_none : (o : Option Value) → found_of o ≡ None → o ≡ none
found_none none e = refl
found_none (some x) e = cc

pub found_at : (o : Option Value) (y : Found) → found_of o ≡ Some y → (x : Value) × (o ≡ some x) × (x.at ≡ y.at) × (length x.bytes ≡ y.size)
found_at none y e = cc
found_at (some x) y e = (x, refl, cc, cc)

-- ---- the next settled frame

module _ (ed : Edition) (b places : List ℕ) (source i : ℕ) where
  pub settled_end : 256 ≤ i → next_settled ed b places source (256 - i) i ≡ none
  unfolding next_settled
  settled_end l = let e : 256 - i ≡ 0 = omega arith in rw e

  module _ (l : i < 256) where
    fuel : 256 - i ≡ suc (256 - (i + 1))
    fuel = omega arith

    one_more : i + 1 ≡ suc i
    one_more = omega arith

    pub settled_no : value_at ed b (id_of i) (get_or places i 0) ≡ none
        → next_settled ed b places source (256 - i) i ≡ next_settled ed b places source (256 - (i + 1)) (i + 1)
    unfolding next_settled
    settled_no e =
        ap (λ (n : ℕ). next_settled ed b places source n i) fuel ∙ rw (e, next_settled) (ap (next_settled ed b places source (256 - (i + 1))) (sym one_more))

    pub settled_yes : (x : Value) → value_at ed b (id_of i) (get_or places i 0) ≡ some x
        → next_settled ed b places source (256 - i) i ≡ some (load (settled (id_of i) x.bytes) (i + 1) source)
    unfolding next_settled
    settled_yes x e =
        ap (λ (n : ℕ). next_settled ed b places source n i) fuel
        ∙ rw (e, next_settled) (ap (λ (n : ℕ). some (load (settled (id_of i) x.bytes) n source)) (sym one_more))

-- ---- the next pending frame

pending-skip : (ed : Edition) (since : List ℕ) (at k : ℕ) (l : List ℕ) → next_pending ed since at k l ≡ next_pending ed since (at + k) 0 (drop k l)
unfolding next_pending
pending-skip ed since at zero l = let e : at ≡ at + 0 = omega arith in ap (λ (n : ℕ). next_pending ed since n 0 l) e
pending-skip ed since at (suc k) [] = refl
pending-skip ed since at (suc k) (x ∷ l) =
    let e : suc at + k ≡ at + suc k = omega arith in pending-skip ed since (suc at) k l ∙ ap (λ (n : ℕ). next_pending ed since n 0 (drop k l)) e

module _ (ed : Edition) (since : List ℕ) (at : ℕ) (l : List ℕ) where
  pub pending_blank : read_frame ed 0 at l ≡ blank → next_pending ed since at 0 l ≡ none
  unfolding next_pending
  pending_blank e = go l e
    where
      go : (l : List ℕ) → read_frame ed 0 at l ≡ blank → next_pending ed since at 0 l ≡ none
      go [] e = refl
      go (x ∷ t) e = rw (e, next_pending)

  pub pending_torn : (n : ℕ) → read_frame ed 0 at l ≡ torn n → next_pending ed since at 0 l ≡ none
  unfolding next_pending
  pending_torn n e = go l e
    where
      go : (l : List ℕ) → read_frame ed 0 at l ≡ torn n → next_pending ed since at 0 l ≡ none
      go [] e = refl
      go (x ∷ t) e = rw (e, next_pending)

  pub pending_wrong : (w : Fault) → read_frame ed 0 at l ≡ wrong w → next_pending ed since at 0 l ≡ none
  unfolding next_pending
  pending_wrong w e = go l e
    where
      go : (l : List ℕ) → read_frame ed 0 at l ≡ wrong w → next_pending ed since at 0 l ≡ none
      go [] e = refl
      go (x ∷ t) e = rw (e, next_pending)

no-frame : (ed : Edition) (at : ℕ) (f : Frame) → read_frame ed 0 at [] ≡ whole f → ⊥
no-frame ed at f e = let q : blank ≡ whole f = sym (read-blank ed 0 at 0) ∙ e in let z : ◌≡◌ {A = ℕ} 0 1 = cc in omega arith

pub pending-yes : (ed : Edition) (since : List ℕ) (at : ℕ) (l : List ℕ) (f : Frame) → read_frame ed 0 at l ≡ whole f → is_pending since at f ≡ true
    → next_pending ed since at 0 l ≡ some (load f 256 (at + frame_len ed f))
unfolding next_pending
pending-yes ed since at [] f e t = absurd (no-frame ed at f e)
pending-yes ed since at (x ∷ l) f e t = rw (e, t, next_pending)

pub pending-no : (ed : Edition) (since : List ℕ) (at : ℕ) (l : List ℕ) (f : Frame) → read_frame ed 0 at l ≡ whole f → is_pending since at f ≡ false
    → next_pending ed since at 0 l ≡ next_pending ed since (at + frame_len ed f) 0 (drop (frame_len ed f) l)
unfolding next_pending
pending-no ed since at [] f e t = absurd (no-frame ed at f e)
pending-no ed since at (x ∷ l) f e t =
    let p : suc at + (frame_len ed f - 1) ≡ at + frame_len ed f = omega arith in
    let q : frame_len ed f ≡ suc (frame_len ed f - 1) = omega arith in
    let first : next_pending ed since at 0 (x ∷ l) ≡ next_pending ed since (suc at) (frame_len ed f - 1) l = rw (e, t, next_pending) in
    first ∙ pending-skip ed since (suc at) (frame_len ed f - 1) l ∙ ap (λ (n : ℕ). next_pending ed since n 0 (drop (frame_len ed f - 1) l)) p
    ∙ ap (λ (n : ℕ). next_pending ed since (at + frame_len ed f) 0 (drop n (x ∷ l))) (sym q)

-- a pending frame's value stands in the frame itself
pub value-pending : (ed : Edition) (b places since : List ℕ) (at : ℕ) (f : Frame) → is_pending since at f ≡ true
    → value_from ed b places (at + frame_len ed f) f ≡ at + value_start (head_of f)
value-pending ed b places since at (change h (put i v)) t = omega arith
value-pending ed b places since at (change h (delete i)) t = omega arith
value-pending ed b places since at (commit h) t = omega arith
value-pending ed b places since at (abort h) t = omega arith
value-pending ed b places since at (settled i v) t = let z : ◌≡◌ {A = ℕ} 0 1 = cc in absurd (omega arith)
value-pending ed b places since at (closed v) t = omega arith
value-pending ed b places since at reset t = omega arith

-- and it is no closed frame
pub pending_open : (since : List ℕ) (at : ℕ) (f : Frame) → is_pending since at f ≡ true → NotClosed f
pending_open since at (change h c) t = tt
pending_open since at (commit h) t = tt
pending_open since at (abort h) t = tt
pending_open since at (settled i v) t = tt
pending_open since at (closed v) t = let z : ◌≡◌ {A = ℕ} 0 1 = cc in absurd (omega arith)
pending_open since at reset t = tt

-- ---- the settled frames first, then the pending ones

module _ (ed : Edition) (b : List ℕ) (end : ℕ) (places since : List ℕ) (id source : ℕ) where
  abbrev first : Option Load
  first = next_settled ed b places source (256 - id) id

  abbrev all : Option Load
  all = next_load_of ed b end places since id source

  abbrev second : Option Load
  second = next_pending ed since source 0 (drop source (take end b))

  -- the answer that the code takes of both
  pub load_either : (o r : answer.Option Fetch) (S : Type 0) → o ≡ fetched_of ed b places first → MatchOption o S (λ x. r ≡ Some x)
      → (S → r ≡ fetched_of ed b places second) → r ≡ fetched_of ed b places all
  unfolding next_load_of fetched_of
  load_either None r S e m k = go first e
    where
      go : (l : Option Load) → None ≡ fetched_of ed b places l → r ≡ fetched_of ed b places (or_else l second)
      go none q = k m
      go (some u) q = cc
  load_either (Some x) r S e m k = go first e
    where
      go : (l : Option Load) → Some x ≡ fetched_of ed b places l → r ≡ fetched_of ed b places (or_else l second)
      go none q = cc
      go (some u) q = m ∙ q
