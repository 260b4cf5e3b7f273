-- What mount and format give back, put together from what their parts give.
use mathlib.Core.Path.{◌≡◌, refl, sym, ap, ◌∙◌}
use mathlib.Core.List.{List, [], ◌∷◌, append-nil}
use mathlib.Core.Bool.{Bool, true, false, ◌&&◌, cond}
use Prim.Native.Nat.{ℕ, ◌-◌, ◌<◌}
use native.Mathlib.Omega.{arith}
use lib.Dec.{eqb, ltb}
use lib.ListN.{length}
use borrow.Author.Tests.{lt-ltb, le-ltb}
use Rattle.std.specs.Prelude.{Option, Some, None, Result, Ok, Err}
use Rattle.flash.specs.Bytes.{Bytes}
use Rattle.flash.specs.Flash.{block_numbers, block, size_of}
use Rattle.flash.proofs.Cases.{on_test}
use Rattle.frame.specs.Frame.{edition_number}
use Rattle.journal.specs.Block.{last_time}
use Rattle.wire.specs.declared.Answer.{Answer}
use Rattle.wire.specs.declared.Answer.TheVariants.{Done, More, Refused}
use Rattle.wire.specs.declared.Refusal.{Refusal}
use Rattle.wire.specs.declared.Refusal.TheVariants as refusal
use Rattle.board.specs.declared.Stage.{Stage}
use Rattle.board.specs.declared.Stage.TheVariants as stage
use Rattle.board.specs.declared.Phase.TheVariants.{Busy}
use Rattle.board.specs.declared.Job.{Job}
use Rattle.board.specs.declared.Cursor.{Cursor}
use Rattle.board.specs.declared.Rest.{Rest}
use Rattle.board.specs.Record.{allowed, no_places, zero_each, no_closes, no_frame, buffer, unmounted, rest, starting, busy_with, Out, refuse}
use Rattle.board.specs.Step.{first, begin}
use Rattle.board.specs.Mount.{next_block, new_time, Found, all_found, Store, stores, equal_times, newest, tied, wipe_list, Upkeep, rests, mends, moves, upkeep, transfers, none_valid, lowest_tied}
use Rattle.board.specs.Mount.{time_of, block_in, end_of, closes_for, close_array, appends_for, tied_times, mount_at, mount_stores, mount_on, numbers_but, order_for, format_order, format_on}
use Rattle.board.proofs.Found.{Among, newest-among, among_holds}
use Rattle.board.proofs.Outcomes.{mount-stores, format-begins}
use Rattle.job.specs.declared.records.Numbers.{Numbers}
use Rattle.job.specs.declared.records.Stepped.{Stepped}
use Rattle.job.specs.Code.{assemble, going, over, leaves, leaves_if, go_append, go_close, go_open, go_wipe, begins}
use Rattle.job.proofs.Entering.{wipe_leaves}
use Rattle.looks.specs.declared.looks.Newest.{Newest}
use Rattle.looks.specs.declared.looks.Seen.{Seen}
use Rattle.store.specs.declared.mends.Mend.{Mend}
use Rattle.store.specs.declared.mends.Mend.TheVariants.{Transfer, Append}
use Rattle.store.specs.Calls.{ends, places_after, Gives, or_refused, refused}
use Rattle.store.specs.Mends.{Closes, mend_in, reset_in}
use Rattle.looks.specs.Surveys.{next_time}
use Rattle.looks.specs.Seen.{Erases, erases_of, others_in, kept_of, newest_in, tie_in, store_places, places_for, Sees}
use Rattle.store.specs.Mounts.{mount_plan, mount_in, mount_taken, unless_tied, mount_kept, mount_seen, Comes, last_erased, order_by}
use Rattle.looks.proofs.Looked.{state_at, Held, NewestHeld, newest_held}
use Rattle.store.proofs.Ordering.{but-none}
use Rattle.store.proofs.Mending.{end_for, mend_for, stands_is, laid-is, mend_is}

-- a refusal, which leaves no places and no frame
pub refusal_given : {img p f : List ℕ} {s : Stepped} {o : Out} (why : Refusal) → o ≡ refuse why img unmounted [] → s ≡ refused why
    → p ≡ no_places → f ≡ no_frame → Gives p f s o
refusal_given why e d n m = rw (e, d, n, m) (record { answers = refl; gives = refl; ended = refl })

-- what a call came to, by the places of the block that is taken and the frame to append, which is the job's reset
record Came (p f : List ℕ) (s : Stepped) (o : Out) : Type 0 where
  answers : s.answer ≡ o.answer
  gives : leaves s (places_after s.answer p) no_frame f ≡ o.board
  ended : s.ended ≡ ends s.answer
  lays : reset_in s.next.job ≡ cond s.ended no_frame f

came_if : (p f : List ℕ) (t : Bool) (r u : Result Stepped Refusal) {o x : Out} → Came p f (or_refused r) o → Came p f (or_refused u) x
    → Came p f (or_refused (cond t r u)) (cond t o x)
came_if p f true r u a b = a
came_if p f false r u a b = b

came_tied : (p f : List ℕ) (t : Bool) (k : ℕ) (r : Result Stepped Refusal) {o x : Out} → Came p f (refused (tied_times k)) o
    → Came p f (or_refused r) x → Came p f (or_refused (unless_tied (cond t (Some k) None) r)) (cond t o x)
came_tied p f true k r a b = a
came_tied p f false k r a b = b

refusing : (img p f : List ℕ) (why : Refusal) → Came p f (refused why) (refuse why img unmounted [])
refusing img p f why = record { answers = refl; gives = refl; ended = refl; lays = refl }

-- a job that begins is in a stage, or over at once
when_if : (P : Stepped → Type 0) (t : Bool) {s u : Stepped} → P s → P u → P (cond t s u)
when_if P true a b = a
when_if P false a b = b

when_begun : (P : Stepped → Type 0) (n : Numbers) → ((g : Stage) → P (going g (first n.cursor) n)) → P (over n.rest) → P (go_wipe n)
unfolding go_wipe go_open go_close go_append
when_begun P n g o =
    when_if P (ltb 0 n.job.wipes) (g stage.Wipe) (when_if P n.job.moves (g stage.Open) (when_if P (ltb 0 n.job.closes) (g stage.Close)
    (when_if P (ltb 0 n.job.size) (g stage.Append) o)))

beginning : (img p : List ℕ) {f : List ℕ} (z : Rest) (j : Job) (c : Cursor) → reset_in j ≡ f → Came p f (begins z j c) (begin img [] (busy_with z p j c f))
beginning img p {f} z j c e =
    let n : Numbers = record { phase = Busy stage.Wipe; rest = z; job = j; cursor = c } in
    let l = wipe_leaves p no_frame f n in
    record {
      answers = l.answers;
      gives =
          ap (λ (q : List ℕ). leaves (go_wipe n) q no_frame f) (when_begun (λ (s : Stepped). places_after s.answer p ≡ p) n (λ g. refl) refl) ∙ l.gives;
      ended = when_begun (λ (s : Stepped). s.ended ≡ ends s.answer) n (λ g. refl) refl;
      lays = when_begun (λ (s : Stepped). reset_in s.next.job ≡ cond s.ended no_frame f) n (λ g. e) refl;
    }

came_gives : (q f : List ℕ) (s : Stepped) (o : Out) → Came q f s o → Gives (places_after s.answer q) (reset_in s.next.job) s o
came_gives q f s o x =
    record { answers = x.answers; gives = rw x.lays (by s.ended x.gives); ended = x.ended ∙ ap ends x.answers }
  where
    by : (t : Bool) → leaves_if t s.next (places_after s.answer q) no_frame f ≡ o.board
        → assemble s.next (places_after s.answer q) no_frame (cond t no_frame f) ≡ o.board
    by true e = e
    by false e = e

bare-gives : (s : Stepped) (o : Out) → Came no_places no_frame s o → Gives no_places no_frame s o
bare-gives s o x =
    record {
      answers = x.answers;
      gives = by s.ended (sym (ap (λ (q : List ℕ). leaves s q no_frame no_frame) (none s.answer)) ∙ x.gives);
      ended = x.ended ∙ ap ends x.answers;
    }
  where
    none : (a : Answer) → places_after a no_places ≡ no_places
    none Done = refl
    none More = refl
    none (Refused n) = refl

    by : (t : Bool) → leaves_if t s.next no_places no_frame no_frame ≡ o.board → assemble s.next no_places no_frame no_frame ≡ o.board
    by true e = e
    by false e = e

-- ---- mount

abbrev plan_for : ℕ → Erases → Upkeep → List ℕ → Store → Job
plan_for N es u b x =
    record {
      wipe = es.items;
      wipes = es.count;
      moves = transfers u;
      drops = true;
      target = next_block N x.number;
      time = new_time (transfers u) (time_of x);
      since = zero_each;
      size = length (appends_for u x.journal);
      edition = edition_number x.journal.edition;
      closes = length (closes_for u b x.journal);
      close = close_array (closes_for u b x.journal);
    }

-- by the kind of upkeep
mount-by : (N l : ℕ) (es : Erases) (u : Upkeep) (b : List ℕ) (x : Store) (same : Bool)
    → mount_in N l (kept_of x same) es (mend_for u b x.journal)
    ≡ cond (transfers u && eqb (time_of x) last_time) (Err refusal.Worn)
    (Ok (begins (rest N l x.number (end_for u x.journal) (edition_number x.journal.edition)) (plan_for N es u b x) (starting 0 (end_of x.journal))))
unfolding mount_in
mount-by N l es rests b x same = refl
mount-by N l es mends b x same = refl
mount-by N l es moves b x same = refl

module _ (N : ℕ) (img p : List ℕ) where
  -- the frame to append to the newest of some blocks
  abbrev frame_for : List Store → List ℕ
  frame_for [] = no_frame
  frame_for (y ∷ ys) = let x : Store = newest y ys in buffer (appends_for (upkeep (size_of N img) x) x.journal)

  mount-with : (xs : List Found) (y : Store) (ys : List Store) → Held N img (newest y ys)
      → Came (store_places (newest y ys)) (frame_for (y ∷ ys)) (or_refused (mount_taken N img (kept_of (newest y ys) (tied (time_of (newest y ys)) (y ∷ ys))) (wipe_list (newest y ys).number xs)))
      (mount_at N img xs (newest y ys))
  unfolding mount_at
  mount-with xs y ys h =
      let x : Store = newest y ys in
      let u : Upkeep = upkeep (size_of N img) x in
      rw (mend_is x h.holds (tied (time_of x) (y ∷ ys)), h.long, mount-by N (length img - 1) (erases_of (wipe_list x.number xs)) u (block_in N img x) x (tied (time_of x) (y ∷ ys)))
      (came_if _ _ (transfers u && eqb (time_of x) last_time) _ _ (refusing img _ _ refusal.Worn)
      (rw (stands_is u N (length img - 1) x.number (edition_number x.journal.edition) x.journal)
      (beginning img (store_places x) _ _ _ (laid-is u x.journal))))

  mounts_stores : (xs : List Found) (ys : List Store) (others : ℕ → List ℕ) → NewestHeld N img ys → ((c : ℕ) → others c ≡ wipe_list c xs)
      → Came (places_for p ys) (frame_for ys) (or_refused (mount_kept N img (newest_in ys) (tie_in ys) (none_valid xs) others)) (mount_stores N img xs ys)
  mounts_stores xs [] others h e = refusing img p _ (none_valid xs)
  mounts_stores xs (y ∷ ys) others h e =
      rw (e (newest y ys).number) (came_tied _ _ (equal_times (y ∷ ys)) (lowest_tied (y ∷ ys)) _ (refusing img _ _ (tied_times (lowest_tied (y ∷ ys)))) (mount-with xs y ys h))

  pub mount_is : {z : Seen} {q : List ℕ} → allowed N (length img) ≡ true → Bytes img → Sees N img p z q → Comes q (mount_seen N img z) (mount_on N img)
  unfolding mount_seen
  mount_is {z} {q} a b x =
      came_gives q (frame_for (stores (all_found N img))) (or_refused (mount_seen N img z)) (mount_on N img) (rw (mount-stores N img a, x.places) by)
    where
      ys : List Store
      ys = stores (all_found N img)

      by : Came (places_for p ys) (frame_for ys) (or_refused (mount_seen N img z)) (mount_stores N img (all_found N img) ys)
      by =
          let f : ℕ → List ℕ = λ c. others_in c z.blanks (block_numbers N) in
          let e : mount_seen N img z ≡ mount_kept N img (newest_in ys) (tie_in ys) (none_valid (all_found N img)) f =
          ap (λ (w : Option Newest). mount_kept N img w z.tie z.why f) x.newest
          ∙ ap (λ (t : Option ℕ). mount_kept N img (newest_in ys) t z.why f) x.tie
          ∙ ap (λ (n : Refusal). mount_kept N img (newest_in ys) (tie_in ys) n f) x.why in
          rw e (mounts_stores (all_found N img) ys f (newest_held N img a b) x.others)

-- the same by what its parts gave: where none is valid, where two have one time, and where a block is taken
module _ (N : ℕ) (img : List ℕ) (z : Seen) where
  pub none_is : z.newest ≡ None → Err z.why ≡ mount_seen N img z
  unfolding mount_seen
  none_is e = rw e

  pub tie_is : {w : Newest} (k : ℕ) → z.newest ≡ Some w → z.tie ≡ Some k → Err (tied_times k) ≡ mount_seen N img z
  unfolding mount_seen
  tie_is k e t = rw (e, t)

  pub taken_is : {w : Newest} {es : Erases} {m : Mend} {b : List ℕ} → z.newest ≡ Some w → z.tie ≡ None
      → es ≡ erases_of (others_in w.number z.blanks (block_numbers N)) → m ≡ mend_in b w → b ≡ block (size_of N img) w.number img
      → mount_in N (length img - 1) w es m ≡ mount_seen N img z
  unfolding mount_seen
  taken_is v t e f g = rw (v, t, e, f, g)

worn_of : (b : Bool) (n : ℕ) (s : Stepped) (e : Refusal) → cond b (Err refusal.Worn) (Ok n) ≡ Err e → Err e ≡ cond b (Err refusal.Worn) (Ok s)
worn_of true n s e h = cc
worn_of false n s e h = absurd (cc)

begun_of : (b : Bool) (n t : ℕ) (f : ℕ → Stepped) → cond b (Err refusal.Worn) (Ok n) ≡ Ok t → Ok (f t) ≡ cond b (Err refusal.Worn) (Ok (f n))
begun_of true n t f h = absurd (cc)
begun_of false n t f h = let e : n ≡ t = cc in ap (λ (k : ℕ). Ok (f k)) (sym e)

-- a block is made, unless there is no later time; or the one that is taken is mended
module _ (N l : ℕ) (w : Newest) (es : Erases) where
  abbrev begun : ℕ → Stepped
  begun t =
      begins (rest N l w.number w.end (edition_number w.edition)) (record (mount_plan N w es Transfer) { time = t }) (starting 0 w.end)

  pub mount_worn : (e : Refusal) → next_time true w.time ≡ Err e → Err e ≡ mount_in N l w es Transfer
  unfolding mount_in
  mount_worn e h = worn_of (eqb w.time last_time) (new_time true w.time) (begun (new_time true w.time)) e h

  pub mount_begun : (t : ℕ) → next_time true w.time ≡ Ok t → Ok (begun t) ≡ mount_in N l w es Transfer
  unfolding mount_in
  mount_begun t h = begun_of (eqb w.time last_time) (new_time true w.time) t begun h

  pub mount_mended : (e : ℕ) (c : Closes) (n : ℕ)
      → Ok (begins (rest N l w.number e (edition_number w.edition)) (mount_plan N w es (Append e c n)) (starting 0 w.end)) ≡ mount_in N l w es (Append e c n)
  unfolding mount_in
  mount_mended e c n = refl

-- ---- format

order-none : (N : ℕ) → order_by N N ≡ block_numbers N
order-none N = rw (le-ltb N N (omega arith)) (append-nil (numbers_but N (block_numbers N)) ∙ but-none N 0 N (omega arith))

order-stores : (N : ℕ) (ys : List Store) → ((x : Store) → Among x ys → x.number < N) → order_for N ys ≡ order_by N (last_erased N (newest_in ys))
order-stores N [] h = sym (order-none N)
order-stores N (y ∷ ys) h =
    on_test (tied (time_of (newest y ys)) (y ∷ ys))
    (λ t. rw t (sym (order-none N)))
    (λ t. rw (t, lt-ltb (newest y ys).number N (h (newest y ys) (newest-among y ys))))

pub order_is : {N : ℕ} {img p : List ℕ} {z : Seen} {q : List ℕ} → Sees N img p z q → format_order N img ≡ order_by N (last_erased N z.newest)
unfolding format_order
order_is {N} {img} {p} {z} x =
    order-stores N (stores (all_found N img)) (λ s i. omega (arith, (among_holds (state_at N img) 0 N s i).below))
    ∙ sym (ap (λ (w : Option Newest). order_by N (last_erased N w)) x.newest)

abbrev format_from : ℕ → List ℕ → Erases → Stepped
format_from N img es =
    begins (rest N (length img - 1) (next_block N 0) 16 1)
    (record {
      wipe = es.items;
      wipes = es.count;
      moves = true;
      drops = false;
      target = 0;
      time = 1;
      since = zero_each;
      size = 0;
      edition = 1;
      closes = 0;
      close = no_closes;
    })
    (starting 256 16)

pub format-is : (N : ℕ) (img : List ℕ) (es : Erases) → allowed N (length img) ≡ true → es ≡ erases_of (format_order N img)
    → Gives no_places no_frame (format_from N img es) (format_on N img)
unfolding no_frame
format-is N img es a e = rw (format-begins N img a, e) (bare-gives _ _ (beginning img no_places _ _ _ refl))
