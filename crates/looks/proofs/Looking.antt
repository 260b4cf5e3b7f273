-- One look at the blocks, the last first: what it keeps is what the definitions say of them.
use mathlib.Core.Path.{◌≡◌, refl, sym, ap, ap₂, subst, ◌∙◌}
use mathlib.Core.List.{List, [], ◌∷◌}
use mathlib.Core.Bool.{Bool, false, ◌||◌, cond}
use Prim.Native.Nat.{ℕ, zero, suc, ◌+◌, ◌-◌, ◌<◌}
use native.Mathlib.Omega.{arith}
use native.Mathlib.Numerals.{add-one}
use lib.Dec.{eqb, ltb, leb}
use lib.ListN.{length, get_or, take, drop, set, replicate, length-set, length-drop}
use lib.Seq.{get_or-set_same, get_or-set_other}
use borrow.Author.Tests.{eqb-true, eqb-false, eq-eqb, ne_eqb, lt-ltb, le-ltb, le-leb, lt-leb, ltb-true, ltb-false}
use Rattle.flash.specs.Flash.{max_blocks, numbers_from}
use Rattle.flash.proofs.Cases.{on_test}
use Rattle.journal.specs.Block.{Journal, BlockState, blank, in_progress, valid, foreign, time_in, torn_len}
use Rattle.survey.specs.Survey.{kind_in, survey_of, places_in}
use Rattle.wire.specs.declared.Refusal.{Refusal}
use Rattle.board.specs.Mount.{Found, is_blank, Store, store_in, stores, same_time, newest, tied, wipe_list, end_of, replay_of, time_of}
use Rattle.board.specs.Mount.{or_foreign, none_valid}
use Rattle.looks.specs.declared.looks.Newest.{Newest}
use Rattle.std.specs.Prelude.{Option, Some}
use Rattle.std.specs.List.{list_any}
use Rattle.std.proofs.lemmas.List.{take_all, drop-set}
use Rattle.looks.specs.declared.looks.Seen.{Seen}
use Rattle.looks.specs.Surveys.{is_blank_kind, or_foreign_kind, pends_in}
use Rattle.looks.specs.Seen.{others_in, some_of, kept_of, newest_in, tie_in, store_places, places_for, none_seen_of, has_time, no_older, takes_over, newer, tying, seeing}
use Rattle.looks.specs.Seen.{same_above}

-- ---- the newest, with one more in front

-- b is the newest of y and m, a that of x and m
newer-of : (x y m a b : Store) → a ≡ cond (ltb (time_of x) (time_of m)) m x → b ≡ cond (ltb (time_of y) (time_of m)) m y
    → cond (ltb (time_of x) (time_of y)) b a ≡ cond (ltb (time_of x) (time_of b)) b x
newer-of x y m a b p q =
    rw (p, q) (on_test (ltb (time_of y) (time_of m))
    (λ t. on_test (ltb (time_of x) (time_of y))
    (λ u. rw (t, u, lt-ltb (time_of x) (time_of m) (omega (arith, ltb-true (time_of y) (time_of m) t, ltb-true (time_of x) (time_of y) u))))
    (λ u. rw (t, u)))
    (λ t. on_test (ltb (time_of x) (time_of y))
    (λ u. rw (t, u))
    (λ u. rw (t, u, le-ltb (time_of x) (time_of m) (omega (arith, ltb-false (time_of y) (time_of m) t, ltb-false (time_of x) (time_of y) u))))))

newest-cons : (x y : Store) (ys : List Store) → newest x (y ∷ ys) ≡ cond (ltb (time_of x) (time_of (newest y ys))) (newest y ys) x
newest-cons x y [] = refl
newest-cons x y (z ∷ zs) =
    newer-of x y (newest z zs) (newest x (z ∷ zs)) (newest y (z ∷ zs)) (newest-cons x z zs) (newest-cons y z zs)

newest-more : (x : Store) (xs : List Store)
    → cond (no_older (newest_in xs) (time_of x)) (Some (kept_of x (same_time (time_of x) xs))) (newest_in xs) ≡ newest_in (x ∷ xs)
newest-more x [] = rw (eq-eqb (time_of x) (time_of x) refl)
newest-more x (y ∷ ys) = go (newest y ys) (newest x (y ∷ ys)) (newest-cons x y ys)
  where
    go : (w v : Store) → v ≡ cond (ltb (time_of x) (time_of w)) w x
        → cond (leb (time_of w) (time_of x)) (Some (kept_of x (same_time (time_of x) (y ∷ ys)))) (Some (kept_of w (tied (time_of w) (y ∷ ys))))
        ≡ Some (kept_of v (tied (time_of v) (x ∷ y ∷ ys)))
    go w v e =
        let zs : List Store = y ∷ ys in
        let old : Bool → Option Newest = λ b. cond b (Some (kept_of x (same_time (time_of x) zs))) (Some (kept_of w (tied (time_of w) zs))) in
        let Is : Store → Type 0 = λ u. old (leb (time_of w) (time_of x)) ≡ Some (kept_of u (tied (time_of u) (x ∷ zs))) in
        let all : (u : Store) → Bool → Option Newest = λ u b. Some (kept_of u (cond b (same_time (time_of u) zs) (tied (time_of u) zs))) in
        on_test (ltb (time_of x) (time_of w))
        (λ t. let l = ltb-true (time_of x) (time_of w) t in
        let n : v ≡ w = e ∙ ap (λ (b : Bool). cond b w x) t in
        subst Is (sym n)
        (ap old (lt-leb (time_of w) (time_of x) l) ∙ ap (all w) (sym (ne_eqb (time_of w) (time_of x) (λ q. omega arith)))))
        (λ t. let n : v ≡ x = e ∙ ap (λ (b : Bool). cond b w x) t in
        subst Is (sym n)
        (ap old (le-leb (time_of w) (time_of x) (ltb-false (time_of x) (time_of w) t)) ∙ ap (all x) (sym (eq-eqb (time_of x) (time_of x) refl))))

-- the same by what was kept so far
newer-is : (x : Store) (xs : List Store) {w : Option Newest} {m same : Bool} → w ≡ newest_in xs → m ≡ some_of (replay_of x.journal).pending
    → same ≡ same_time (time_of x) xs
    → cond (no_older w (time_of x))
    (Some (record {
      number = x.number;
      time = time_of x;
      end = end_of x.journal;
      torn = torn_len x.journal.tail;
      pends = m;
      shared = same;
      edition = x.journal.edition;
    }))
    w ≡ newest_in (x ∷ xs)
newer-is x xs e f g = rw (e, f, g) (newest-more x xs)

places-more : (p : List ℕ) (x : Store) (xs : List Store)
    → cond (no_older (newest_in xs) (time_of x)) (store_places x) (places_for p xs) ≡ places_for p (x ∷ xs)
places-more p x [] = refl
places-more p x (y ∷ ys) = go (newest y ys) (newest x (y ∷ ys)) (newest-cons x y ys)
  where
    go : (w v : Store) → v ≡ cond (ltb (time_of x) (time_of w)) w x
        → cond (leb (time_of w) (time_of x)) (store_places x) (store_places w) ≡ store_places v
    go w v e =
        rw e (on_test (ltb (time_of x) (time_of w))
        (λ t. rw (t, lt-leb (time_of w) (time_of x) (ltb-true (time_of x) (time_of w) t)))
        (λ t. rw (t, le-leb (time_of w) (time_of x) (ltb-false (time_of x) (time_of w) t))))

places_is : (p : List ℕ) (x : Store) (xs : List Store) {w : Option Newest} {q : List ℕ} → w ≡ newest_in xs → q ≡ places_for p xs
    → cond (no_older w (time_of x)) (store_places x) q ≡ places_for p (x ∷ xs)
places_is p x xs e f = rw (e, f) (places-more p x xs)

tie-more : (x : Store) (xs : List Store) (q : Option ℕ) (same : Bool) → q ≡ tie_in xs → same ≡ same_time (time_of x) xs
    → tying q x.number same ≡ tie_in (x ∷ xs)
unfolding tying
tie-more x xs q same e f = rw (e, f) (on_test (same_time (time_of x) xs) (λ t. rw t) (λ t. rw t))

-- ---- the arrays

no-time : (t m k : ℕ) → 0 < t → has_time t (drop k (replicate m 0)) ≡ false
no-time t zero zero h = refl
no-time t zero (suc k) h = refl
no-time t (suc m) zero h = rw (ne_eqb t 0 (λ e. omega arith)) (no-time t m zero h)
no-time t (suc m) (suc k) h = no-time t m k h

eqb_comm : (x t : ℕ) → eqb x t ≡ eqb t x
eqb_comm x t =
    on_test (eqb x t)
    (λ e. e ∙ sym (eq-eqb t x (sym (eqb-true x t e))))
    (λ e. e ∙ sym (ne_eqb t x (λ q. eqb-false x t e (sym q))))

-- as a slice searches
pub time-any : (t : ℕ) (l : List ℕ) → list_any (λ x. eqb x t) l ≡ has_time t l
time-any t [] = refl
time-any t (x ∷ l) = ap₂ (λ (a b : Bool). a || b) (eqb_comm x t) (time-any t l)

-- past place i of a record's times
pub time-above : (t i : ℕ) (l : List ℕ) → length l ≡ 16 → i < 16
    → list_any (λ x. eqb x t) (take (16 - (i + 1)) (drop (i + 1) l)) ≡ has_time t (drop (suc i) l)
time-above t i l e h =
    rw (take_all (16 - (i + 1)) (drop (i + 1) l) (omega (arith, length-drop (i + 1) l)), add-one) (time-any t (drop (suc i) l))

-- a store below the blocks listed
others-above : (c j : ℕ) (b : Bool) (skips : List Bool) (k n : ℕ) → j < k
    → others_in c (set skips j b) (numbers_from k n) ≡ others_in c skips (numbers_from k n)
unfolding numbers_from
others-above c j b skips k zero h = refl
others-above c j b skips k (suc n) h =
    let e : get_or (set skips j b) k false ≡ get_or skips k false = get_or-set_other skips j k b false (λ q. omega arith) in
    rw (e, others-above c j b skips (suc k) n (omega arith))

kind-blank : (a : BlockState) → is_blank_kind (kind_in a) ≡ is_blank a
kind-blank blank = refl
kind-blank in_progress = refl
kind-blank (valid w) = refl
kind-blank (foreign e) = refl

why-more : (k : ℕ) (a : BlockState) {w n : Refusal} → w ≡ n → or_foreign_kind k (kind_in a) w ≡ or_foreign k a n
why-more k blank e = e
why-more k in_progress e = e
why-more k (valid w) e = e
why-more k (foreign f) e = refl

-- ---- the blocks from k on, n of them

-- what the bytes of a block say of a valid one: a survey tells whether something is pending, and its time isn't 0
pub record Told (w : Journal) : Type 0 where
  pub pends : some_of (replay_of w).pending ≡ pends_in (survey_of (valid w))
  pub some : 0 < w.time

abbrev pub Tells : BlockState → Type 0
Tells blank = Unit {0}
Tells in_progress = Unit {0}
Tells (valid w) = Told w
Tells (foreign e) = Unit {0}

pub record Seeing (k n : ℕ) (xs : List Found) (p : List ℕ) (z : Seen) (q : List ℕ) : Type 0 where
  pub why : z.why ≡ none_valid xs
  pub newest : z.newest ≡ newest_in (stores xs)
  pub tie : z.tie ≡ tie_in (stores xs)
  pub others : (c : ℕ) → others_in c z.blanks (numbers_from k n) ≡ wipe_list c xs
  pub places : q ≡ places_for p (stores xs)
  pub times : (t : ℕ) → 0 < t → has_time t (drop k z.times) ≡ same_time t (stores xs)
  pub times_long : length z.times ≡ max_blocks
  pub blanks_long : length z.blanks ≡ max_blocks

pub none_seen : (k : ℕ) (p : List ℕ) → Seeing k 0 [] p none_seen_of p
unfolding numbers_from
none_seen k p =
    record {
      why = refl;
      newest = refl;
      tie = refl;
      others = λ c. refl;
      places = refl;
      times = λ t h. no-time t max_blocks k h;
      times_long = refl;
      blanks_long = refl;
    }

module _ {k n : ℕ} {xs : List Found} {p : List ℕ} {z : Seen} {q : List ℕ} (h : k < max_blocks) (x : Seeing (suc k) n xs p z q) where
  times_next : (t u : ℕ) → 0 < t → has_time t (drop k (set z.times k u)) ≡ (eqb t u || same_time t (stores xs))
  times_next t u l = rw (drop-set z.times k u (omega (arith, x.times_long)), add-one, x.times t l)

  others_next : (a : BlockState) (c : ℕ)
      → others_in c (set z.blanks k (is_blank_kind (kind_in a))) (numbers_from k (suc n)) ≡ wipe_list c (record { number = k; state = a } ∷ xs)
  unfolding numbers_from
  others_next a c =
      let e : get_or (set z.blanks k (is_blank_kind (kind_in a))) k false ≡ is_blank a =
      get_or-set_same z.blanks k (is_blank_kind (kind_in a)) false (omega (arith, x.blanks_long)) ∙ kind-blank a in
      rw (e, others-above c k (is_blank_kind (kind_in a)) z.blanks (suc k) n (omega arith), x.others c)

  -- a block, by what it adds to the valid ones
  seen_by : (a : BlockState)
      → newer z.newest k (survey_of a) (same_above k (survey_of a) z.times) ≡ newest_in (store_in k a (stores xs))
      → tying z.tie k (same_above k (survey_of a) z.times) ≡ tie_in (store_in k a (stores xs))
      → cond (takes_over z.newest (survey_of a)) (places_in a) q ≡ places_for p (store_in k a (stores xs))
      → ((t : ℕ) → 0 < t → (eqb t (time_in a) || same_time t (stores xs)) ≡ same_time t (store_in k a (stores xs)))
      → Seeing k (suc n) (record { number = k; state = a } ∷ xs) p (seeing k (survey_of a) z) (cond (takes_over z.newest (survey_of a)) (places_in a) q)
  unfolding seeing survey_of
  seen_by a e f g i =
      record {
        why = why-more k a x.why;
        newest = e;
        tie = f;
        others = others_next a;
        places = g;
        times = λ t l. times_next t (time_in a) l ∙ i t l;
        times_long = length-set z.times k (time_in a) ∙ x.times_long;
        blanks_long = length-set z.blanks k (is_blank_kind (kind_in a)) ∙ x.blanks_long;
      }

  untimed : (t : ℕ) → 0 < t → (eqb t 0 || same_time t (stores xs)) ≡ same_time t (stores xs)
  untimed t l = rw (ne_eqb t 0 (λ e. omega arith))

  pub seen_next : (a : BlockState) → Tells a
      → Seeing k (suc n) (record { number = k; state = a } ∷ xs) p (seeing k (survey_of a) z) (cond (takes_over z.newest (survey_of a)) (places_in a) q)
  unfolding survey_of newer tying
  seen_next blank d = seen_by blank x.newest x.tie x.places untimed
  seen_next in_progress d = seen_by in_progress x.newest x.tie x.places untimed
  seen_next (foreign e) d = seen_by (foreign e) x.newest x.tie x.places untimed
  seen_next (valid w) d =
      let s : Store = record { number = k; journal = w } in
      seen_by (valid w) (newer-is s (stores xs) x.newest (sym d.pends) (x.times w.time d.some))
      (tie-more s (stores xs) z.tie (has_time w.time (drop (suc k) z.times)) x.tie (x.times w.time d.some))
      (places_is p s (stores xs) x.newest x.places) (λ u l. refl)
