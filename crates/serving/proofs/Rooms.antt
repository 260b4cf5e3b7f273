-- A survey's numbers say what the definitions say of the room in a block.
use mathlib.Core.Path.{◌≡◌, refl, sym, ap, ap₂, ◌∙◌}
use mathlib.Core.List.{List, [], ◌∷◌, ◌++◌}
use mathlib.Core.Bool.{Bool, true, false, ◌||◌}
use Prim.Native.Nat.{ℕ, ◌+◌, ◌*◌, ◌≤◌}
use lib.Dec.{eqb, ltb}
use native.Mathlib.Omega.{arith}
use lib.ListN.{length, get_or}
use Rattle.std.specs.List.{filter}
use borrow.Author.Tests.{eqb-true, eqb-false}
use Rattle.flash.proofs.Cases.{on_test}
use Rattle.frame.specs.declared.Edition.{Edition}
use Rattle.frame.specs.declared.Edition.TheVariants as edition
use Rattle.frame.specs.declared.Host.{Host}
use Rattle.frame.specs.Frame.{host_of, host_max, Change, change, frame_len, end_len}
use Rattle.board.specs.Mount.{replay_of, claimed_of}
use Rattle.journal.specs.Replay.{Entry, entry, is_open_of}
use Rattle.journal.specs.Block.{Journal, valid}
use Rattle.journal.specs.Room.{used, open_hosts, one, spare, no_room_of, host_full, pending_for, per_host}
use Rattle.survey.specs.Survey.{survey_of}
use Rattle.journal.proofs.PerHost.{per_at, per_list, bytes-own, open_bytes, open_count, claimed-bytes}
use Rattle.journal.proofs.Room.{used-second}
use Rattle.journal.proofs.Lists.{open_snoc, open_snoc_other}
use Rattle.journal.proofs.States.{Contents}
use Rattle.serving.specs.Calls.{open_in, open_with, claimed_in, second_in, no_room_in, bytes_with}

-- the four hosts' pending bytes
abbrev bytes_in : Edition → List Entry → List ℕ
bytes_in ed es = per_host (λ h. pending_for ed h es)

-- ---- how many pass a test, one by one

counted-one : {A : Type 0} (f : A → Bool) (x : A) (xs : List A) → length (filter f (x ∷ xs)) ≡ one (f x) + length (filter f xs)
counted-one f x xs = on_test (f x) (λ t. rw t (omega arith)) (λ t. rw t (omega arith))

pub counted-four : {A : Type 0} (f : A → Bool) (a b c d : A) → length (filter f (a ∷ b ∷ c ∷ d ∷ [])) ≡ one (f a) + one (f b) + one (f c) + one (f d)
counted-four f a b c d =
    omega (arith, counted-one f a (b ∷ c ∷ d ∷ []), counted-one f b (c ∷ d ∷ []), counted-one f c (d ∷ []), counted-one f d [])

one_most : (b : Bool) → one b ≤ 1
one_most true = omega arith
one_most false = omega arith

pub four_most : (a b c d : Bool) → one a + one b + one c + one d ≤ 4
four_most a b c d = omega (arith, one_most a, one_most b, one_most c, one_most d)

-- the four numbers of a list
pub open_listed : (p : List ℕ) → length p ≡ 4 → length (filter (ltb 0) p) ≡ open_in p
unfolding open_in
open_listed p m =
    ap (λ (q : List ℕ). length (filter (ltb 0) q)) (per_list p (λ h. get_or p h.0 0) m (λ h l. refl))
    ∙ counted-four (ltb 0) (get_or p 0 0) (get_or p 1 0) (get_or p 2 0) (get_or p 3 0)

-- ---- all hosts

pub open_hosts_lem : (ed : Edition) (es : List Entry) → open_hosts es ≡ open_in (bytes_in ed es)
unfolding open_in
open_hosts_lem ed es = open_count ed es

open_more : (ed : Edition) (h g : Host) (es : List Entry) (c : Change)
    → is_open_of g (es ++ (entry h c ∷ [])) ≡ (eqb h.0 g.0 || ltb 0 (pending_for ed g es))
open_more ed h g es c =
    on_test (eqb h.0 g.0)
    (λ t. ap (λ (n : ℕ). is_open_of (host_of n) (es ++ (entry h c ∷ []))) (sym (eqb-true h.0 g.0 t)) ∙ open_snoc h es c ∙ rw t)
    (λ t. open_snoc_other g h es c (eqb-false h.0 g.0 t) ∙ open_bytes ed g es ∙ rw t)

pub open_with_lem : (ed : Edition) (h : Host) (es : List Entry) (c : Change) → open_hosts (es ++ (entry h c ∷ [])) ≡ open_with h (bytes_in ed es)
unfolding open_with
open_with_lem ed h es c =
    cc (open_more ed h (host_of 0) es c, open_more ed h (host_of 1) es c, open_more ed h (host_of 2) es c, open_more ed h (host_of 3) es c)

-- ---- a valid block

module _ {b : List ℕ} {w : Journal} (x : Contents b w) where
  abbrev ed : Edition
  ed = w.edition

  pub claimed_is : claimed_of w ≡ claimed_in (survey_of (valid w))
  unfolding survey_of
  claimed_is = claimed-bytes ed w.frames x.layout.stands

  pub open_is : open_hosts (replay_of w).pending ≡ open_in (survey_of (valid w)).pending
  unfolding survey_of
  open_is = open_hosts_lem ed (replay_of w).pending

  pub no_room_is : (size : ℕ) (h : Host) (d : Change)
      → no_room_of ed size (replay_of w) h d ≡ no_room_in size (survey_of (valid w)) h (frame_len ed (change h d)) (spare ed d)
  unfolding no_room_of no_room_in survey_of
  no_room_is size h d =
      ap₂ (λ (n o : ℕ). ltb size (n + frame_len ed (change h d) + end_len ed * o + spare ed d)) claimed_is (open_with_lem ed h (replay_of w).pending d)

  pub full_is : (size : ℕ) (h : Host) (d : Change) → h.0 ≤ host_max
      → host_full ed size (replay_of w) h d ≡ ltb size (2 * bytes_with (survey_of (valid w)) h (frame_len ed (change h d)))
  unfolding host_full survey_of
  full_is size h d l =
      ap (λ (n : ℕ). ltb size (2 * n))
      (bytes-own ed h (replay_of w).pending d
      ∙ ap (λ (n : ℕ). n + frame_len ed (change h d)) (sym (per_at (λ g. pending_for ed g (replay_of w).pending) h l)))

  -- U in the second edition
  pub second_is : used edition.Second (replay_of w) ≡ second_in ed (survey_of (valid w))
  unfolding survey_of
  second_is = go ed refl
    where
      go : (e : Edition) → ed ≡ e → used edition.Second (replay_of w) ≡ second_in e (survey_of (valid w))
      go edition.First q = used-second (replay_of w) ∙ ap (λ (e : Edition). used e (replay_of w) + 4 * length (replay_of w).objects) (sym q)
      go edition.Second q = ap (λ (e : Edition). used e (replay_of w)) (sym q)
