-- What a mount decides: which refusal, or which store it takes.
use mathlib.Core.Path.{◌≡◌, refl, sym, ap, subst, subst₂, ◌∙◌}
use mathlib.Core.List.{List, [], ◌∷◌}
use mathlib.Core.Bool.{Bool, true, false, ◌&&◌, false≢true}
use Prim.Native.Nat.{ℕ, ◌<◌}
use native.Mathlib.Omega.{arith}
use lib.Dec.{eqb}
use borrow.Author.Tests.{eqb-true, eqb-false}
use Rattle.flash.specs.Bytes.{Bytes}
use Rattle.flash.specs.Flash.{block, size_of}
use Rattle.flash.proofs.Cases.{on_test, and_left, and_right, and_both, clash}
use Rattle.flash.proofs.Image.{bytes-block}
use Rattle.frame.specs.declared.Fault.{Fault}
use Rattle.journal.specs.Replay.{Object}
use Rattle.journal.specs.Block.{Journal, BlockState, blank, in_progress, valid, foreign, block_state, last_time}
use Rattle.journal.proofs.States.{Contents, contents-valid, valid_inv}
use Rattle.journal.proofs.Raising.{harmless_older}
use Rattle.wire.specs.declared.Refusal.{Refusal}
use Rattle.wire.specs.declared.Refusal.TheVariants as refusal
use Rattle.board.specs.Record.{Out, unmounted, refuse}
use Rattle.board.specs.Step.{begin}
use Rattle.board.specs.Mount.{all_found, is_foreign, Store, stores, equal_times, newest, wipe_list, moves, upkeep, transfers, replay_of, time_of}
use Rattle.board.specs.Mount.{mount_job, mount_at, mount_on, none_valid, tied_times}
use Rattle.board.specs.Claim.{WornOut, Track}
use Rattle.board.specs.CutFormat.{Beside}
use Rattle.board.specs.Demand2.{Accepted}
use Rattle.board.proofs.Upkeep.{due_moves}
use Rattle.board.proofs.Images.{Sized, size-of}
use Rattle.board.proofs.Invariant.{Quiet, Others, Lessers, Safe, no_valid, some_valid}
use Rattle.board.proofs.Found.{Among, Rising, same_number, newest-among, Pair, untied-one, newest-strict, unequal_untied}
use Rattle.board.proofs.Found.{LowestPair, lowest-pair, found_from, found_all, store, Holds, among_holds, holds_among}
use Rattle.board.proofs.Found.{stores_rise, stores_none, Strangest, no_foreign, first_foreign, strangest}
use Rattle.board.proofs.Order.{beside-of}
use Rattle.board.proofs.Outcomes.{mount_none, mount_equal, mount-at, mount_worn, mount-begins}
use Rattle.board.proofs.Current.{Keeps, block-long, blank-quiet}
use Rattle.board.proofs.Erasing.{NoStore, same-valid, same-time}

-- ---- the decision

-- two valid blocks of one time
pub record SameTimes (N : ℕ) (s : ℕ) (img : List ℕ) (j k : ℕ) : Type 0 where
  pub journal : Journal
  pub journal' : Journal
  pub same : journal.time ≡ journal'.time
  pub there : j < N
  pub there' : k < N
  pub apart : j ≡ k → ⊥
  pub is-valid : block_state (block s j img) ≡ valid journal
  pub is_valid' : block_state (block s k img) ≡ valid journal'

-- the store that a mount takes
pub record Taken (N : ℕ) (s : ℕ) (img : List ℕ) (x : Store) : Type 0 where
  pub there : x.number < N
  pub is-valid : block_state (block s x.number img) ≡ valid x.journal
  pub others : Others N (λ j. Beside (time_of x) (block_state (block s j img))) x.number
  pub untied : (j k : ℕ) → SameTimes N s img j k → ⊥
  pub decides : mount_on N img ≡ mount_at N img (all_found N img) x

pub data Decided (N : ℕ) (s : ℕ) (img : List ℕ) : Type 0 where
  foreign_block : (j : ℕ) → j < N → (e : Fault) → block_state (block s j img) ≡ foreign e
      → ((k : ℕ) (w : Journal) → k < N → block_state (block s k img) ≡ valid w → ⊥)
      → ((k : ℕ) → k < j → Quiet (block_state (block s k img)))
      → mount_on N img ≡ refuse (refusal.Foreign j e) img unmounted [] → Decided N s img
  equal-times : (j k : ℕ) → SameTimes N s img j k → ((i m : ℕ) → i < j → SameTimes N s img i m → ⊥)
      → mount_on N img ≡ refuse (tied_times j) img unmounted [] → Decided N s img
  none-valid : NoStore N s img → mount_on N img ≡ refuse refusal.NoStore img unmounted [] → Decided N s img
  at_store : (x : Store) → Taken N s img x → Decided N s img

quiet_of : (a : BlockState) → ((w : Journal) → a ≡ valid w → ⊥) → is_foreign a ≡ false → Quiet a
quiet_of blank f e = tt
quiet_of in_progress f e = tt
quiet_of (valid w) f e = f w refl
quiet_of (foreign w) f e = absurd (false≢true (sym e))

module _ {N : ℕ} {s : ℕ} {img : List ℕ} (z : Sized N s img) where
  abbrev State : ℕ → BlockState
  State k = block_state (block s k img)

  all_is : all_found N img ≡ found_from State 0 N
  all_is = found_all N img (size-of z)

  -- no block is valid
  no_store : stores (all_found N img) ≡ [] → Decided N s img
  no_store e = go (strangest State 0 N)
    where
      none : (k : ℕ) (w : Journal) → k < N → State k ≡ valid w → ⊥
      none k w h v = stores_none State 0 N (sym (ap stores all_is) ∙ e) k w (omega arith) (omega arith) v

      quiet : (k : ℕ) → k < N → is_foreign (State k) ≡ false → Quiet (State k)
      quiet k h f = quiet_of (State k) (λ w v. none k w h v) f

      refuses : {w : Refusal} → none_valid (found_from State 0 N) ≡ w → mount_on N img ≡ refuse w img unmounted []
      refuses q = mount_none N img z.ok e ∙ ap (λ (w : Refusal). refuse w img unmounted []) (ap none_valid all_is ∙ q)

      go : Strangest State 0 N → Decided N s img
      go (no_foreign f q) = none-valid (λ j h. quiet j h (f j (omega arith) (omega arith))) (refuses q)
      go (first_foreign j w l h v f q) =
          foreign_block j (omega arith) w v none (λ k b. quiet k (omega arith) (f k (omega arith) b)) (refuses q)

  -- some are
  module _ (y : Store) (ys : List Store) (e : stores (all_found N img) ≡ y ∷ ys) where
    here : stores (found_from State 0 N) ≡ y ∷ ys
    here = sym (ap stores all_is) ∙ e

    holds : (x : Store) → Among x (y ∷ ys) → Holds State 0 N x
    holds x i = among_holds State 0 N x (subst (Among x) (sym here) i)

    among : (j : ℕ) (w : Journal) → j < N → State j ≡ valid w → Among (store j w) (y ∷ ys)
    among j w h v = subst (Among (store j w)) here (holds_among State 0 N j w (omega arith) (omega arith) v)

    tied_blocks : equal_times (y ∷ ys) ≡ true → Decided N s img
    tied_blocks q =
        let w : LowestPair (y ∷ ys) = lowest-pair (y ∷ ys) (subst Rising here (stores_rise State 0 N)) q in
        let p : Pair w.time (y ∷ ys) = w.pair in
        let a : Holds State 0 N p.low = holds p.low p.low_in in
        let b : Holds State 0 N p.high = holds p.high p.high_in in
        equal-times p.low.number p.high.number
        (record {
          journal = p.low.journal;
          journal' = p.high.journal;
          same = p.low_time ∙ sym p.high_time;
          there = omega (arith, a.below);
          there' = omega (arith, b.below);
          apart = λ d. omega (arith, p.rises);
          is-valid = a.is-valid;
          is_valid' = b.is-valid;
        })
        (λ i m l x. omega (
          arith,
          w.is_low,
          w.lowest (store i x.journal) (store m x.journal') (among i x.journal x.there x.is-valid)
              (among m x.journal' x.there' x.is_valid') x.apart x.same,
        ))
        (mount_equal N img z.ok y ys e q ∙ ap (λ (k : ℕ). refuse (tied_times k) img unmounted []) w.is_low)

    newest_taken : equal_times (y ∷ ys) ≡ false → Taken N s img (newest y ys)
    newest_taken q =
        let x : Store = newest y ys in
        let h : Holds State 0 N x = holds x (newest-among y ys) in
        record {
          there = omega (arith, h.below);
          is-valid = h.is-valid;
          others = λ j l n. beside-of (State j)
              (λ w v. newest-strict y ys (unequal_untied (time_of x) (y ∷ ys) q) (store j w) (among j w l v) n);
          untied = λ j k p.
              let t : ℕ = p.journal.time in
              p.apart (same_number (untied-one t (y ∷ ys) (unequal_untied t (y ∷ ys) q) (store j p.journal) (store k p.journal')
              (among j p.journal p.there p.is-valid) (among k p.journal' p.there' p.is_valid') refl (sym p.same)));
          decides = mount-at N img z.ok y ys e q;
        }

  pub mount_decides : Decided N s img
  mount_decides = go (stores (all_found N img)) refl
    where
      go : (xs : List Store) → stores (all_found N img) ≡ xs → Decided N s img
      go [] e = no_store e
      go (y ∷ ys) e = on_test (equal_times (y ∷ ys)) (tied_blocks y ys e) (λ q. at_store (newest y ys) (newest_taken y ys e q))

-- of the store that is taken: it is newer than every other valid block
module _ {N : ℕ} {s : ℕ} {img : List ℕ} {x : Store} (z : Sized N s img) (y : Taken N s img x) where
  at_size : (k : ℕ) (a : BlockState) → block_state (block (size_of N img) k img) ≡ a → block_state (block s k img) ≡ a
  at_size k a e = subst (λ (n : ℕ). block_state (block n k img) ≡ a) (size-of z) e

  pub taken_newest : (k : ℕ) (w : Journal) → k < N → (k ≡ x.number → ⊥) → block_state (block (size_of N img) k img) ≡ valid w
      → w.time < time_of x
  taken_newest k w h n e = subst (Beside (time_of x)) (at_size k (valid w) e) (y.others k h n)

-- ---- the outcome

-- a transfer is not due at the last time
abbrev pub InTime : ℕ → Store → Type 0
InTime s x = upkeep s x ≡ moves → x.journal.time < last_time

pub data Outcome (N : ℕ) (img : List ℕ) (x : Store) : Type 0 where
  worn_out : WornOut N img → mount_on N img ≡ refuse refusal.Worn img unmounted [] → Outcome N img x
  begins : InTime (size_of N img) x → mount_on N img ≡ begin img [] (mount_job N img x (wipe_list x.number (all_found N img)) (upkeep (size_of N img) x))
      → Outcome N img x

abbrev pub StoreThere : ℕ → List ℕ → Store → Type 0
StoreThere s img x = Contents (block s x.number img) x.journal

pub mount-outcome : {N : ℕ} {s : ℕ} {img : List ℕ} (x : Store) → Sized N s img → Taken N s img x → StoreThere s img x → Outcome N img x
mount-outcome {N} {s} {img} x z k y =
    let n : Bool = transfers (upkeep (size_of N img) x) in
    let e : Bool = eqb (time_of x) last_time in
    on_test (n && e)
    (λ t. worn_out
    (record {
      number = x.number;
      journal = x.journal;
      there = k.there;
      is-valid = ap (λ (m : ℕ). block_state (block m x.number img)) (size-of z) ∙ k.is-valid;
      last-time = eqb-true (time_of x) last_time (and_right n e t);
      due = due_moves (size_of N img) x.journal (and_left n e t);
    })
    (k.decides ∙ mount_worn N img (all_found N img) x t))
    (λ t. begins
    (λ d. on_test e (λ a. clash (n && e) (and_both n e (ap transfers d) a) t) (λ a. omega (arith, eqb-false (time_of x) last_time a, y.layout.time_hi)))
    (k.decides ∙ mount-begins N img (all_found N img) x t))

-- ---- on any image

pub taken-holds : {N : ℕ} {s : ℕ} {img : List ℕ} (x : Store) → Sized N s img → Bytes img → Taken N s img x → StoreThere s img x
taken-holds {N} {s} {img} x z y k =
    valid_inv (block s x.number img) x.journal (bytes-block s x.number img y)
    (omega (arith, block-long x.number z k.there, z.low)) k.is-valid

-- what an accepted mount begins
pub record Begins (N : ℕ) (s : ℕ) (img : List ℕ) : Type 0 where
  pub store : Store
  pub taken : Taken N s img store
  pub holds : StoreThere s img store
  pub in_time : InTime (size_of N img) store
  pub begins : mount_on N img
      ≡ begin img [] (mount_job N img store (wipe_list store.number (all_found N img)) (upkeep (size_of N img) store))

answer : {o p : Out} → o ≡ p → o.answer ≡ p.answer
answer e = ap (λ (x : Out). x.answer) e

pub mount-accepted : {N : ℕ} {s : ℕ} {img : List ℕ} → Sized N s img → Bytes img → Accepted (mount_on N img).answer → Begins N s img
mount-accepted {N} {s} {img} z y f = go (mount_decides z)
  where
    refused : {n : Refusal} → mount_on N img ≡ refuse n img unmounted [] → Begins N s img
    refused r = absurd (subst Accepted (answer r) f)

    at : (x : Store) → Taken N s img x → Outcome N img x → Begins N s img
    at x k (worn_out w r) = refused r
    at x k (begins t r) = record { store = x; taken = k; holds = taken-holds x z y k; in_time = t; begins = r }

    go : Decided N s img → Begins N s img
    go (foreign_block j h e p o b r) = refused r
    go (equal-times j k p o r) = refused r
    go (none-valid n r) = refused r
    go (at_store x k) = at x k (mount-outcome x z k (taken-holds x z y k))

-- ---- on a safe image

-- no two valid blocks have one time: beside the current one, which is newer, at most one is valid
safe-untied : {N : ℕ} {s : ℕ} {img : List ℕ} {os : List Object} {u : Track} → Safe N s img os u → (i j : ℕ) → SameTimes N s img i j → ⊥
safe-untied (no_valid e n) i j p = subst Quiet p.is-valid (n i p.there)
safe-untied {N} {s} {img} (some_valid k h v q) i j p =
    on_test (eqb i k)
    (λ e. let f : i ≡ k = eqb-true i k e in
    omega (arith, p.same, at_time i p.is-valid f, (older j p.there' p.is_valid' (λ g. p.apart (f ∙ sym g))).1))
    (λ e.
    let o = older i p.there p.is-valid (eqb-false i k e) in
    on_test (eqb j k)
    (λ g. omega (arith, p.same, o.1, at_time j p.is_valid' (eqb-true j k g)))
    (λ g. p.apart (o.0 ∙ sym (older j p.there' p.is_valid' (eqb-false j k g)).0)))
  where
    at_time : {w : Journal} (m : ℕ) → block_state (block s m img) ≡ valid w → m ≡ k → w.time ≡ v.journal.time
    at_time m a e = same-time (sym a ∙ ap (λ (n : ℕ). block_state (block s n img)) e ∙ contents-valid v.contents)

    older : {w : Journal} (m : ℕ) → m < N → block_state (block s m img) ≡ valid w → (m ≡ k → ⊥) → (m ≡ q.one) × (w.time < v.journal.time)
    older m l a n = (
      on_test (eqb m q.one) (eqb-true m q.one)
          (λ e. absurd (subst Quiet a (blank-quiet s (block s m img) (q.blanks m l n (eqb-false m q.one e))))),
      harmless_older (block s m img) (q.older m l n) a,
    )

pub data MountSafe (N : ℕ) (s : ℕ) (img : List ℕ) (os : List Object) (u : Track) : Type 0 where
  nothing_there : u.unfinished ≡ true → mount_on N img ≡ refuse refusal.NoStore img unmounted [] → MountSafe N s img os u
  store_there : (x : Store) → Taken N s img x → StoreThere s img x → Keeps u.tight s x.journal.edition (replay_of x.journal) os
      → Lessers N s img (time_of x) x.number
      → MountSafe N s img os u

pub mount-safe : {N : ℕ} {s : ℕ} {img : List ℕ} {os : List Object} {u : Track} → Sized N s img → Safe N s img os u → MountSafe N s img os u
mount-safe {N} {s} {img} {os} {u} z (no_valid e n) = go (mount_decides z)
  where
    go : Decided N s img → MountSafe N s img os u
    go (foreign_block j h f p o b r) = absurd (subst Quiet p (n j h))
    go (equal-times j k p o r) = absurd (subst Quiet p.is-valid (n j p.there))
    go (none-valid _ r) = nothing_there e r
    go (at_store x k) = absurd (subst Quiet k.is-valid (n x.number k.there))
mount-safe {N} {s} {img} {os} {u} z (some_valid k h v q) = go (mount_decides z)
  where
    here : block_state (block s k img) ≡ valid v.journal
    here = contents-valid v.contents

    -- the store that is taken is the one that is there
    at : (x : Store) → Taken N s img x → x.number ≡ k → MountSafe N s img os u
    at x y e =
        let m : v.journal ≡ x.journal =
        same-valid (sym here ∙ ap (λ (i : ℕ). block_state (block s i img)) (sym e) ∙ y.is-valid) in
        store_there x y
        (subst (λ (i : ℕ). Contents (block s i img) x.journal) (sym e)
        (subst (Contents (block s k img)) m v.contents))
        (subst (λ (w : Journal). Keeps u.tight s w.edition (replay_of w) os) m (record { room = v.room; same = v.same }))
        (subst₂ (λ (w : Journal) (i : ℕ). Lessers N s img w.time i) m (sym e) q)

    other : (x : Store) → Taken N s img x → (x.number ≡ k → ⊥) → MountSafe N s img os u
    other x y n =
        absurd (omega (
          arith,
          harmless_older (block s x.number img) (q.older x.number y.there n) y.is-valid,
          subst (Beside (time_of x)) here (y.others k h (λ e. n (sym e))),
        ))

    go : Decided N s img → MountSafe N s img os u
    go (foreign_block j l f p o b r) = absurd (o k v.journal h here)
    go (equal-times i j p o r) = absurd (safe-untied {u = u} (some_valid k h v q) i j p)
    go (none-valid n r) = absurd (subst Quiet here (n k h))
    go (at_store x y) = on_test (eqb x.number k) (λ e. at x y (eqb-true x.number k e)) (λ e. other x y (eqb-false x.number k e))
